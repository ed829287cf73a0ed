-- Worked examples of the texts of samples.
use Rattle.std.specs.Prelude.{◌≡◌, length, refl, codes}
use Rattle.std.specs.Fmt.{digits}
use Rattle.tl_gen.specs.Samples.{ball_number, domain_text, problem_text}

pub the_first_ball : ball_number 1 ≡ codes "0001"
unfolding digits
the_first_ball = refl

pub the_last_ball : ball_number 100 ≡ codes "0100"
unfolding digits
the_last_ball = refl

pub one_ball : problem_text 1 ≡
    codes "(problem sample\n (init (room rooma) (room roomb) (at-robby rooma) (free left) (free right)\n  (at b0001 rooma)\n  )\n (goal\n  (at b0001 roomb)\n  ))\n"
unfolding problem_text digits
one_ball = refl

-- the domain has so many bytes, whatever the number of balls
pub bytes_of_the_domain : length domain_text ≡ 921
unfolding domain_text
bytes_of_the_domain = refl

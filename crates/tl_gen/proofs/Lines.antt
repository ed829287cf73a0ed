-- Texts of lines, and numbers in four digits.
use Rattle.std.proofs.Common.{◌≡◌, ℕ, zero, suc, ◌*◌, ◌+◌, ◌-◌, add-one, ◌<◌, ◌≤◌, ◌^◌, List, [], ◌∷◌, ◌++◌, length, replicate, false, refl}
use Rattle.std.proofs.Common.{sym, ap, append_assoc, length-append, arith}
use Rattle.std.proofs.lemmas.List.{append-nil}
use Rattle.std.proofs.lemmas.Fmt.{length-decimal-le}
use Rattle.std.specs.Prelude.{codes}
use Rattle.std.specs.Fmt.{char_count, decimal, format_spec, padded_integral}
use Rattle.tl_gen.specs.Samples.{text_of_lines, ball_number, ball_line, ball_lines, problem_text}

-- what `{:04}` writes
pub four_digits : (ds : List ℕ) → padded_integral (format_spec 32 0 4 4 (2 ^ 64 - 1)) false [] ds ≡ replicate (4 - length ds) 48 ++ ds
unfolding padded_integral char_count
four_digits ds =
    let e : 4 - length ds - 0 - 0 ≡ 4 - length ds = omega arith in
    rw (append-nil ds) (ap (λ (k : ℕ). replicate k 48 ++ ds) e)

pub lines_append : (xs ys : List (List ℕ)) → text_of_lines (xs ++ ys) ≡ text_of_lines xs ++ text_of_lines ys
lines_append [] ys = refl
lines_append (x ∷ xs) ys = rw (lines_append xs ys) (sym (append_assoc x (codes "\n" ++ text_of_lines xs) (text_of_lines ys)))

-- one more ball
pub one_more_ball : (text room : List ℕ) (n : ℕ) → ((text ++ text_of_lines (ball_lines room n)) ++ ball_line room (n + 1)) ++ codes "\n" ≡
    text ++ text_of_lines (ball_lines room (n + 1))
one_more_ball text room n = rw (add-one, lines_append (ball_lines room n) (ball_line room (suc n) ∷ [])) (simp append_assoc)

length_zeros : (n : ℕ) → length {A = ℕ} (replicate n 48) ≡ n
length_zeros zero = refl
length_zeros (suc n) = ap suc (length_zeros n)

short_number : (n : ℕ) → n < 2 ^ 32 → length (ball_number n) ≤ 10
short_number n h =
    let few = length-decimal-le 10 n (omega arith) (omega arith) (omega arith) in
    rw (length-append (replicate (4 - length (decimal n)) 48) (decimal n), length_zeros (4 - length (decimal n))) (omega arith)

-- one line of a ball, with its end
short_line : (room : List ℕ) (n : ℕ) → length room ≤ 5 → n < 2 ^ 32 → length (text_of_lines (ball_line room n ∷ [])) ≤ 25
short_line room n h k =
    let number = short_number n k in
    rw (
      length-append (ball_line room n) (codes "\n"),
      length-append (ball_number n) (codes " " ++ (room ++ codes ")")),
      length-append room (codes ")"),
    ) (omega (arith, number, h))

short_balls : (room : List ℕ) (n : ℕ) → length room ≤ 5 → n < 2 ^ 32 → length (text_of_lines (ball_lines room n)) ≤ 25 * n
short_balls room zero h k = omega arith
short_balls room (suc n) h k =
    let before = short_balls room n h (omega (arith, k)) in
    let line = short_line room (suc n) h k in
    rw (lines_append (ball_lines room n) (ball_line room (suc n) ∷ []))
    (rw (length-append (text_of_lines (ball_lines room n)) (text_of_lines (ball_line room (suc n) ∷ []))) (omega (arith, before, line)))

-- the text of the problem part after part, as it is written
pub problem_parts : (n : ℕ) →
    (((((codes "(problem sample\n" ++ codes " (init (room rooma) (room roomb) (at-robby rooma) (free left) (free right)\n") ++
    text_of_lines (ball_lines (codes "rooma") n)) ++ codes "  )\n") ++ codes " (goal\n") ++ text_of_lines (ball_lines (codes "roomb") n)) ++
    codes "  ))\n" ≡ problem_text n
unfolding problem_text
problem_parts n = rw (lines_append (ball_lines (codes "rooma") n) _, lines_append (ball_lines (codes "roomb") n) _) (simp append_assoc)

length_parts : (a b c d e f g : List ℕ) → length ((((((a ++ b) ++ c) ++ d) ++ e) ++ f) ++ g) ≡
    length a + length b + length c + length d + length e + length f + length g
length_parts a b c d e f g = simp length-append

pub short_problem : (n : ℕ) → n ≤ 100 → length (problem_text n) ≤ 4194304
short_problem n h =
    let head = codes "(problem sample\n" in
    let init = codes " (init (room rooma) (room roomb) (at-robby rooma) (free left) (free right)\n" in
    let rooma = text_of_lines (ball_lines (codes "rooma") n) in
    let roomb = text_of_lines (ball_lines (codes "roomb") n) in
    let long = length_parts head init rooma (codes "  )\n") (codes " (goal\n") roomb (codes "  ))\n") in
    let first = short_balls (codes "rooma") n (omega arith) (omega (arith, h)) in
    let second = short_balls (codes "roomb") n (omega arith) (omega (arith, h)) in
    rw (← problem_parts n, long) (omega (arith, first, second, h))

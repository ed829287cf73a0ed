-- The two texts of a sample: a robot with two grippers moves balls from one room to another.
use Rattle.std.specs.Prelude.{ℕ, zero, suc, ◌-◌, List, [], ◌∷◌, ◌++◌, length, replicate, codes}
use Rattle.std.specs.Fmt.{decimal}

-- a text of these lines, each with its end
abbrev pub text_of_lines : List (List ℕ) → List ℕ
text_of_lines [] = []
text_of_lines (line ∷ lines) = line ++ (codes "\n" ++ text_of_lines lines)

-- the lines of the domain: balls are picked and dropped in the room where the robot is, and the
-- control keeps a ball in its goal room, drops balls there alone, and leaves no room where a ball
-- has to go and a gripper is free
abbrev pub domain_lines : List (List ℕ)
domain_lines =
    codes "(domain gripper" ∷
    codes " (predicate room 1)" ∷
    codes " (predicate at-robby 1)" ∷
    codes " (predicate at 2)" ∷
    codes " (predicate free 1)" ∷
    codes " (predicate carry 2)" ∷
    codes " (operator (pick ?b ?r ?g)" ∷
    codes "  (bounds (at ?b ?r) (at-robby ?r) (free ?g))" ∷
    codes "  (effects (del (at ?b ?r)) (del (free ?g)) (add (carry ?b ?g))))" ∷
    codes " (operator (drop ?b ?r ?g)" ∷
    codes "  (bounds (carry ?b ?g) (at-robby ?r))" ∷
    codes "  (effects (del (carry ?b ?g)) (add (free ?g)) (add (at ?b ?r))))" ∷
    codes " (operator (move ?from ?to)" ∷
    codes "  (bounds (at-robby ?from) (room ?to))" ∷
    codes "  (pre (not (= ?from ?to)))" ∷
    codes "  (effects (del (at-robby ?from)) (add (at-robby ?to))))" ∷
    codes " (control (always (and" ∷
    codes "  (forall (?b ?r) (goal (at ?b ?r))" ∷
    codes "   (implies (at ?b ?r) (next (at ?b ?r))))" ∷
    codes "  (forall (?b ?g) (carry ?b ?g)" ∷
    codes "   (exists (?r) (at-robby ?r)" ∷
    codes "    (or (goal (at ?b ?r)) (next (carry ?b ?g)))))" ∷
    codes "  (forall (?r) (at-robby ?r)" ∷
    codes "   (implies" ∷
    codes "    (and (exists (?g) (free ?g) true)" ∷
    codes "     (exists (?b) (at ?b ?r) (not (goal (at ?b ?r)))))" ∷
    codes "    (next (at-robby ?r))))))))" ∷
    []

-- the text of the domain
unfoldable pub domain_text : List ℕ
domain_text = text_of_lines domain_lines

-- the number of a ball in four digits, with zeros before it
abbrev pub ball_number : ℕ → List ℕ
ball_number n = replicate (4 - length (decimal n)) 48 ++ decimal n

-- the line that says that the ball of this number is in the room
abbrev pub ball_line : List ℕ → ℕ → List ℕ
ball_line room n = codes "  (at b" ++ (ball_number n ++ (codes " " ++ (room ++ codes ")")))

-- a line for each of the first n balls, which are counted from 1
abbrev pub ball_lines : List ℕ → ℕ → List (List ℕ)
ball_lines room zero = []
ball_lines room (suc n) = ball_lines room n ++ ball_line room (suc n) ∷ []

-- the lines of the problem of n balls: all are in one room, and have to be in the other
abbrev pub problem_lines : ℕ → List (List ℕ)
problem_lines n =
    codes "(problem sample" ∷
    codes " (init (room rooma) (room roomb) (at-robby rooma) (free left) (free right)" ∷
    (ball_lines (codes "rooma") n ++
    (codes "  )" ∷
    codes " (goal" ∷
    (ball_lines (codes "roomb") n ++
    (codes "  ))" ∷
    []))))

-- the text of the problem of n balls
unfoldable pub problem_text : ℕ → List ℕ
problem_text n = text_of_lines (problem_lines n)

-- Runs whose worlds come again from some position on.
use Rattle.std.specs.Prelude.{◌∷◌, ◌++◌, ◌+◌, ℕ, List, take, drop, slice_index_or}
use Rattle.tl_check.specs.Ahead.{Course}
use Rattle.tl_terms.specs.Problem.{PlainProblem}
use Rattle.tl_terms.specs.Run.{Run, Situations, situations_of}
use Rattle.tl_terms.specs.World.{World}

-- the worlds of a run, each once
abbrev pub worlds_of : Run → List World
worlds_of r = r.stem ++ (r.first ∷ r.rest)

-- how it goes on after them
abbrev pub course_of : PlainProblem → Run → Course
course_of p r = record { problem = p; again = r.first ∷ r.rest }

-- the first n of the worlds are the stem, and the others the loop (Sistla and Clarke 1985); there
-- are more than n of them
abbrev pub lasso_run : PlainProblem → ℕ → List World → Run
lasso_run p n ws = record { stem = take n ws; first = slice_index_or ws n p.first; rest = drop (n + 1) ws }

-- the situation at each position of that run
abbrev pub situations_round : PlainProblem → ℕ → List World → Situations
situations_round p n ws = situations_of p (lasso_run p n ws)

-- how the worlds go on that come again from position n on
abbrev pub course_from : PlainProblem → ℕ → List World → Course
course_from p n ws = record { problem = p; again = drop n ws }

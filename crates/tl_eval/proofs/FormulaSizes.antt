-- How many nodes formulas have, and the weight by which evaluations end: entering a body lowers the rank.
use Rattle.std.proofs.Common.{◌≡◌, ◌≤◌, ◌<◌, ◌+◌, ◌*◌, ℕ, suc, sum_by, arith}
use Rattle.std.proofs.Math.Nat.{mul-le-mul_right}
use Rattle.tl_eval.specs.Reading.{rank}
use Rattle.tl_syntax.specs.Trees.{FormulaTree, FormulaTrees, verum, falsum, atom, defined, compare, goal_fact, goal_place, goal_not}
use Rattle.tl_syntax.specs.Trees.{negation, conjunction, disjunction, for_all, for_some, next, always, eventually, until, within, during}
use Rattle.tl_syntax.specs.Trees.{no_formula, more_formulas}
use Rattle.tl_terms.specs.Problem.{PlainProblem}

unfoldable mutual
  pub formula_nodes : FormulaTree → ℕ
  formula_nodes verum = 1
  formula_nodes falsum = 1
  formula_nodes (atom p ts) = 1
  formula_nodes (defined p ts) = 3
  formula_nodes (compare c x y) = 1
  formula_nodes (goal_fact p xs) = 1
  formula_nodes (goal_place f xs x) = 1
  formula_nodes (goal_not p xs) = 1
  formula_nodes (negation f) = 1 + formula_nodes f
  formula_nodes (conjunction fs) = 1 + formulas_nodes fs
  formula_nodes (disjunction fs) = 1 + formulas_nodes fs
  formula_nodes (for_all ss b f) = 3 + formula_nodes f
  formula_nodes (for_some ss b f) = 3 + formula_nodes f
  formula_nodes (next f) = 1
  formula_nodes (always f) = 1
  formula_nodes (eventually f) = 1
  formula_nodes (until f g) = 1
  formula_nodes (within n f) = 1
  formula_nodes (during n f) = 1

  pub formulas_nodes : FormulaTrees → ℕ
  formulas_nodes no_formula = 0
  formulas_nodes (more_formulas f fs) = 1 + (formula_nodes f + formulas_nodes fs)

-- more than all bodies have together
unfoldable pub past_bodies : PlainProblem → ℕ
past_bodies p = suc (sum_by (λ d. formula_nodes d.body) p.definitions)

-- what is left of this formula, and of all bodies that can be open below it
unfoldable pub weight : PlainProblem → ℕ → ℕ → ℕ → ℕ
weight p n k m = m + rank p n k * past_bodies p

pub lighter : (p : PlainProblem) (n k l m : ℕ) → l < m → weight p n k l < weight p n k m
unfolding weight
lighter p n k l m h = omega arith

-- a body is lighter than whatever enters it
pub body-lighter : (p : PlainProblem) (n k i j l : ℕ) → suc (rank p i j) ≤ rank p n k → l < past_bodies p → weight p i j l < weight p n k 0
unfolding weight
body-lighter p n k i j l h m =
    let q : suc (rank p i j) * past_bodies p ≤ rank p n k * past_bodies p = mul-le-mul_right (past_bodies p) h in
    let r : suc (rank p i j) * past_bodies p ≡ rank p i j * past_bodies p + past_bodies p = omega arith in
    omega arith

-- a definition at a level of no higher rank is lighter than an atom of it
pub level-lighter : (p : PlainProblem) (n k i l : ℕ) → rank p i l ≤ rank p n k → weight p i l 0 < weight p n k 1
unfolding weight
level-lighter p n k i l h =
    let q : rank p i l * past_bodies p ≤ rank p n k * past_bodies p = mul-le-mul_right (past_bodies p) h in
    omega arith

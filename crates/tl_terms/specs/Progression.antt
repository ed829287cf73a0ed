-- Progression of a formula through a world (Bacchus and Kabanza 2000).
use Rattle.std.specs.Prelude.{zero, suc, List, [], ◌∷◌, map, Bool, true, false}
use Rattle.tl_syntax.specs.Trees.{FormulaTree, FormulaTrees, verum, falsum, atom, defined, compare, goal_fact, goal_place, goal_not}
use Rattle.tl_syntax.specs.Trees.{negation, conjunction, disjunction, for_all, for_some, next, always, eventually, until, within, during}
use Rattle.tl_syntax.specs.Trees.{no_formula, more_formulas}
use Rattle.tl_terms.specs.Situation.{Situation}
use Rattle.tl_syntax.specs.Assignment.{Assignment, bind}
use Rattle.tl_terms.specs.Bounds.{tuples}
use Rattle.tl_terms.specs.Truth.{state_true}
use Rattle.tl_syntax.specs.Substitution.{substituted}
use Rattle.tl_terms.specs.Simplification.{simplified_and, simplified_or, simplified_not}

-- the constant of a truth value
abbrev pub constant : Bool → FormulaTree
constant true = verum
constant false = falsum

-- what has to hold from the next position on, for the formula to hold in this situation and on
unfoldable mutual
  pub progressed : Situation → Assignment → FormulaTree → FormulaTree
  progressed s e verum = verum
  progressed s e falsum = falsum
  progressed s e (atom p ts) = constant (state_true s e (atom p ts))
  progressed s e (defined p ts) = constant (state_true s e (defined p ts))
  progressed s e (compare c x y) = constant (state_true s e (compare c x y))
  progressed s e (goal_fact p xs) = constant (state_true s e (goal_fact p xs))
  progressed s e (goal_place f xs x) = constant (state_true s e (goal_place f xs x))
  progressed s e (goal_not p xs) = constant (state_true s e (goal_not p xs))
  progressed s e (negation f) = simplified_not (progressed s e f)
  progressed s e (conjunction fs) = simplified_and (progressed_all s e fs)
  progressed s e (disjunction fs) = simplified_or (progressed_all s e fs)
  progressed s e (for_all ss b f) = simplified_and (map (λ t. progressed s (bind ss t e) f) (tuples s e ss b))
  progressed s e (for_some ss b f) = simplified_or (map (λ t. progressed s (bind ss t e) f) (tuples s e ss b))
  progressed s e (next f) = substituted e f
  progressed s e (always f) = simplified_and (progressed s e f ∷ substituted e (always f) ∷ [])
  progressed s e (eventually f) = simplified_or (progressed s e f ∷ substituted e (eventually f) ∷ [])
  progressed s e (until f g) = simplified_or (progressed s e g ∷ simplified_and (progressed s e f ∷ substituted e (until f g) ∷ []) ∷ [])
  progressed s e (within zero f) = progressed s e f
  progressed s e (within (suc n) f) = simplified_or (progressed s e f ∷ substituted e (within n f) ∷ [])
  progressed s e (during zero f) = progressed s e f
  progressed s e (during (suc n) f) = simplified_and (progressed s e f ∷ substituted e (during n f) ∷ [])

  pub progressed_all : Situation → Assignment → FormulaTrees → List FormulaTree
  progressed_all s e no_formula = []
  progressed_all s e (more_formulas f fs) = progressed s e f ∷ progressed_all s e fs

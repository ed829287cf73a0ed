-- Truth where one world is repeated for ever.
use Rattle.std.specs.Prelude.{Bool, true, false, not, ◌&&◌, ◌||◌}
use Rattle.std.specs.List.{list_any, list_all}
use Rattle.tl_syntax.specs.Trees.{FormulaTree, FormulaTrees, verum, falsum, atom, defined, compare, goal_fact, goal_place, goal_not}
use Rattle.tl_syntax.specs.Trees.{negation, conjunction, disjunction, for_all, for_some, next, always, eventually, until, within, during}
use Rattle.tl_syntax.specs.Trees.{no_formula, more_formulas}
use Rattle.tl_terms.specs.Situation.{Situation}
use Rattle.tl_syntax.specs.Assignment.{Assignment, bind}
use Rattle.tl_terms.specs.Bounds.{tuples}
use Rattle.tl_terms.specs.Truth.{state_true}

-- each temporal word of one formula means that formula, and `until` means its second part (the
-- idling check, Bacchus and Kabanza 2000)
unfoldable mutual
  pub idle_true : Situation → Assignment → FormulaTree → Bool
  idle_true s e verum = true
  idle_true s e falsum = false
  idle_true s e (atom p ts) = state_true s e (atom p ts)
  idle_true s e (defined p ts) = state_true s e (defined p ts)
  idle_true s e (compare c x y) = state_true s e (compare c x y)
  idle_true s e (goal_fact p xs) = state_true s e (goal_fact p xs)
  idle_true s e (goal_place k xs x) = state_true s e (goal_place k xs x)
  idle_true s e (goal_not p xs) = state_true s e (goal_not p xs)
  idle_true s e (negation f) = not (idle_true s e f)
  idle_true s e (conjunction fs) = idle_all s e fs
  idle_true s e (disjunction fs) = idle_one s e fs
  idle_true s e (for_all ss b f) = list_all (λ t. idle_true s (bind ss t e) f) (tuples s e ss b)
  idle_true s e (for_some ss b f) = list_any (λ t. idle_true s (bind ss t e) f) (tuples s e ss b)
  idle_true s e (next f) = idle_true s e f
  idle_true s e (always f) = idle_true s e f
  idle_true s e (eventually f) = idle_true s e f
  idle_true s e (until f g) = idle_true s e g
  idle_true s e (within n f) = idle_true s e f
  idle_true s e (during n f) = idle_true s e f

  pub idle_all : Situation → Assignment → FormulaTrees → Bool
  idle_all s e no_formula = true
  idle_all s e (more_formulas f fs) = idle_true s e f && idle_all s e fs

  pub idle_one : Situation → Assignment → FormulaTrees → Bool
  idle_one s e no_formula = false
  idle_one s e (more_formulas f fs) = idle_true s e f || idle_one s e fs

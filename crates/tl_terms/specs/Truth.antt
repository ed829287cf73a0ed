-- The truth of state formulas in a world.
use Rattle.std.specs.Prelude.{ℕ, List, Bool, true, false, not, ◌&&◌, ◌||◌, Option, Some, None, ℤ, int_lt, int_le}
use Rattle.std.specs.List.{list_any, list_all}
use Rattle.tl_syntax.specs.declared.value.Value.{Value}
use Rattle.tl_syntax.specs.declared.value.Value.TheVariants.{Int}
use Rattle.tl_syntax.specs.declared.value.Cmp.{Cmp}
use Rattle.tl_syntax.specs.declared.value.Cmp.TheVariants as cmp
use Rattle.tl_syntax.specs.Trees.{FormulaTree, FormulaTrees, verum, falsum, atom, defined, compare, goal_fact, goal_place, goal_not}
use Rattle.tl_syntax.specs.Trees.{negation, conjunction, disjunction, for_all, for_some, next, always, eventually, until, within, during}
use Rattle.tl_syntax.specs.Trees.{no_formula, more_formulas}
use Rattle.tl_terms.specs.Situation.{Situation, DefinitionTruths}
use Rattle.tl_syntax.specs.Assignment.{Assignment, bind}
use Rattle.tl_terms.specs.Terms.{term_value, term_values, place_value}
use Rattle.tl_terms.specs.Bounds.{arg_value, arg_values, fact_in, same_value, tuples}

-- the arguments are defined, and the definition holds of them
abbrev pub defined_true : DefinitionTruths → ℕ → Option (List Value) → Bool
defined_true d p None = false
defined_true d p (Some vs) = d p vs

-- the two integers stand in this order
abbrev pub in_order : Cmp → ℤ → ℤ → Bool
in_order cmp.Eq a b = false
in_order cmp.Less a b = int_lt a b
in_order cmp.AtMost a b = int_le a b
in_order cmp.More a b = int_lt b a
in_order cmp.AtLeast a b = int_le b a

-- both are integers and stand in this order
abbrev pub both_integers : Cmp → Option Value → Option Value → Bool
both_integers c (Some (Int a)) (Some (Int b)) = in_order c a b
both_integers c _ _ = false

-- the comparison is true of the two sides
abbrev pub compared : Cmp → Option Value → Option Value → Bool
compared cmp.Eq a b = same_value a b
compared c a b = both_integers c a b

-- the truth of a state formula under the closed-world assumption; no temporal word stands in one
unfoldable mutual
  pub state_true : Situation → Assignment → FormulaTree → Bool
  state_true s e verum = true
  state_true s e falsum = false
  state_true s e (atom p ts) = fact_in s.world p (term_values s.world e ts)
  state_true s e (defined p ts) = defined_true s.table p (term_values s.world e ts)
  state_true s e (compare c x y) = compared c (term_value s.world e x) (term_value s.world e y)
  state_true s e (goal_fact p xs) = fact_in s.goal p (arg_values e xs)
  state_true s e (goal_place f xs x) = same_value (place_value s.goal f (arg_values e xs)) (arg_value e x)
  state_true s e (goal_not p xs) = fact_in s.avoid p (arg_values e xs)
  state_true s e (negation f) = not (state_true s e f)
  state_true s e (conjunction fs) = all_true s e fs
  state_true s e (disjunction fs) = one_true s e fs
  state_true s e (for_all ss b f) = list_all (λ t. state_true s (bind ss t e) f) (tuples s e ss b)
  state_true s e (for_some ss b f) = list_any (λ t. state_true s (bind ss t e) f) (tuples s e ss b)
  state_true s e (next f) = false
  state_true s e (always f) = false
  state_true s e (eventually f) = false
  state_true s e (until f g) = false
  state_true s e (within k f) = false
  state_true s e (during k f) = false

  pub all_true : Situation → Assignment → FormulaTrees → Bool
  all_true s e no_formula = true
  all_true s e (more_formulas f fs) = state_true s e f && all_true s e fs

  pub one_true : Situation → Assignment → FormulaTrees → Bool
  one_true s e no_formula = false
  one_true s e (more_formulas f fs) = state_true s e f || one_true s e fs

-- The operations that are looked at, from left to right until the truth is decided.
use Rattle.std.specs.Prelude.{ℕ, zero, suc, List, [], ◌∷◌, ◌++◌, map, flat_map, length, take, slice_get, Bool, true, false, cond, not, ◌&&◌}
use Rattle.std.specs.Prelude.{◌==◌, Option, Some, None, is_some}
use Rattle.std.specs.List.{list_all}
use Rattle.tl_syntax.specs.declared.value.Value.{Value}
use Rattle.tl_syntax.specs.declared.value.Value.TheVariants.{Int}
use Rattle.tl_syntax.specs.declared.value.Op.{Op}
use Rattle.tl_syntax.specs.declared.value.Cmp.{Cmp}
use Rattle.tl_syntax.specs.declared.value.Cmp.TheVariants as cmp
use Rattle.tl_syntax.specs.declared.action.Action.{Action}
use Rattle.tl_syntax.specs.Trees.{TermTree, TermTrees, variable, value, place, arith, no_term, more_terms, FormulaTree, FormulaTrees, verum}
use Rattle.tl_syntax.specs.Trees.{falsum, atom, defined, compare, goal_fact, goal_place, goal_not, negation, conjunction, disjunction}
use Rattle.tl_syntax.specs.Trees.{for_all, for_some, next, always, eventually, until, within, during, no_formula, more_formulas}
use Rattle.tl_syntax.specs.Effects.{EffectTree, EffectTrees, add, del, assign, when, each, no_effect, more_effects}
use Rattle.tl_terms.specs.Problem.{PlainDefinition, PlainOperator, PlainProblem}
use Rattle.tl_terms.specs.World.{World}
use Rattle.tl_terms.specs.Situation.{Situation}
use Rattle.tl_syntax.specs.Assignment.{Assignment, no_values, bind}
use Rattle.tl_terms.specs.Terms.{term_value, term_values}
use Rattle.tl_terms.specs.Bounds.{bound_true, tuples}
use Rattle.tl_terms.specs.Truth.{state_true}
use Rattle.tl_terms.specs.Definitions.{Tests, true_at_level, with_tests_of, situation_under, situation_of}
use Rattle.tl_terms.specs.Operations.{Operation}

-- whether it is defined and an integer
abbrev pub is_defined_integer : Option Value → Bool
is_defined_integer (Some (Int z)) = true
is_defined_integer _ = false

-- the operation, where both operands are integers
abbrev pub operation_on : ℕ → Op → Option Value → Option Value → List Operation
operation_on at op (Some (Int a)) (Some (Int b)) = (record { at = at; op = op; left = a; right = b }) ∷ []
operation_on at op _ _ = []

-- the first operations, and the others too where the test is true
abbrev pub followed_if : Bool → List Operation → List Operation → List Operation
followed_if goes_on first others = first ++ cond goes_on others []

-- looked at in a term, and in a list of terms; an undefined argument and an operand that is no
-- integer decide
unfoldable mutual
  pub looked_in_term : World → Assignment → TermTree → List Operation
  looked_in_term w e (variable s) = []
  looked_in_term w e (value v) = []
  looked_in_term w e (place f ts) = looked_in_terms w e ts
  looked_in_term w e (arith op s t at) = followed_if (is_defined_integer (term_value w e s)) (looked_in_term w e s)
      (looked_in_term w e t ++ operation_on at op (term_value w e s) (term_value w e t))

  pub looked_in_terms : World → Assignment → TermTrees → List Operation
  looked_in_terms w e no_term = []
  looked_in_terms w e (more_terms t ts) = followed_if (is_some (term_value w e t)) (looked_in_term w e t) (looked_in_terms w e ts)

-- what the body of each definition looks at for values, by the number of the definition
abbrev pub LookedTable : Type 0
LookedTable = ℕ → List Value → List Operation

-- looked at in the body of a definition, where all arguments are defined
abbrev pub looked_in_body : LookedTable → ℕ → Option (List Value) → List Operation
looked_in_body d n None = []
looked_in_body d n (Some vs) = d n vs

-- whether the first side of a comparison leaves it open
abbrev pub leaves_open : Cmp → Option Value → Bool
leaves_open cmp.Eq side = is_some side
leaves_open c side = is_defined_integer side

-- looked at for the tuples in their order, as long as the test is true
abbrev pub looked_in_turn : (List Value → List Operation) → (List Value → Bool) → List (List Value) → List Operation
looked_in_turn looked goes_on [] = []
looked_in_turn looked goes_on (t ∷ ts) = followed_if (goes_on t) (looked t) (looked_in_turn looked goes_on ts)

-- looked at in a state formula; no temporal word stands in one
unfoldable mutual
  pub looked_in_state : LookedTable → Situation → Assignment → FormulaTree → List Operation
  looked_in_state d s e verum = []
  looked_in_state d s e falsum = []
  looked_in_state d s e (atom p ts) = looked_in_terms s.world e ts
  looked_in_state d s e (defined n ts) = looked_in_terms s.world e ts ++ looked_in_body d n (term_values s.world e ts)
  looked_in_state d s e (compare c x y) = followed_if (leaves_open c (term_value s.world e x)) (looked_in_term s.world e x)
      (looked_in_term s.world e y)
  looked_in_state d s e (goal_fact p xs) = []
  looked_in_state d s e (goal_place f xs x) = []
  looked_in_state d s e (goal_not p xs) = []
  looked_in_state d s e (negation f) = looked_in_state d s e f
  looked_in_state d s e (conjunction fs) = looked_in_and d s e fs
  looked_in_state d s e (disjunction fs) = looked_in_or d s e fs
  looked_in_state d s e (for_all ss b f) = looked_in_turn (λ t. looked_in_state d s (bind ss t e) f) (λ t. state_true s (bind ss t e) f)
      (tuples s e ss b)
  looked_in_state d s e (for_some ss b f) = looked_in_turn (λ t. looked_in_state d s (bind ss t e) f)
      (λ t. not (state_true s (bind ss t e) f)) (tuples s e ss b)
  looked_in_state d s e (next f) = []
  looked_in_state d s e (always f) = []
  looked_in_state d s e (eventually f) = []
  looked_in_state d s e (until f g) = []
  looked_in_state d s e (within n f) = []
  looked_in_state d s e (during n f) = []

  pub looked_in_and : LookedTable → Situation → Assignment → FormulaTrees → List Operation
  looked_in_and d s e no_formula = []
  looked_in_and d s e (more_formulas f fs) = followed_if (state_true s e f) (looked_in_state d s e f) (looked_in_and d s e fs)

  pub looked_in_or : LookedTable → Situation → Assignment → FormulaTrees → List Operation
  looked_in_or d s e no_formula = []
  looked_in_or d s e (more_formulas f fs) = followed_if (not (state_true s e f)) (looked_in_state d s e f) (looked_in_or d s e fs)

-- what each definition looks at for values, by their positions
abbrev pub Looks : Type 0
Looks = List (List Value → List Operation)

-- what there is to look at, where there is a definition
abbrev pub looks_asked : Option (List Value → List Operation) → List Value → List Operation
looks_asked (Some looked) vs = looked vs
looks_asked None vs = []

-- the looks by the numbers of their definitions
abbrev pub looked_table : Looks → LookedTable
looked_table ls n vs = looks_asked (slice_get ls n) vs

-- looked at in the body of the definition after the earlier ones, at a level; where the levels are
-- used up, nothing
unfoldable pub looked_at_level : PlainProblem → World → Tests → Looks → PlainDefinition → ℕ → List Value → List Operation
looked_at_level p w ts ls d zero vs = []
looked_at_level p w ts ls d (suc k) vs = looked_in_state (looked_table (ls ++ looked_at_level p w ts ls d k ∷ []))
    (situation_under p w (ts ++ true_at_level p w ts d k ∷ [])) (bind d.params vs no_values) d.body

-- the looks of further definitions, each over those before it
unfoldable pub looks_over : PlainProblem → World → Tests → Looks → List PlainDefinition → Looks
looks_over p w ts ls [] = ls
looks_over p w ts ls (d ∷ ds) = looks_over p w (with_tests_of p w ts d) (ls ++ looked_at_level p w ts ls d d.levels ∷ []) ds

-- the looks of all definitions in a world of the problem
unfoldable pub looks_of : PlainProblem → World → LookedTable
looks_of p w = looked_table (looks_over p w [] [] p.definitions)

-- looked at in all basic formulas, those below a `next` where n says so, and for all tuples that
-- make their bounds true in one of the situations bs
unfoldable mutual
  pub looked_in_basics : Bool → LookedTable → List Situation → Situation → Assignment → FormulaTree → List Operation
  looked_in_basics n d bs s e verum = []
  looked_in_basics n d bs s e falsum = []
  looked_in_basics n d bs s e (atom p ts) = looked_in_state d s e (atom p ts)
  looked_in_basics n d bs s e (defined p ts) = looked_in_state d s e (defined p ts)
  looked_in_basics n d bs s e (compare c x y) = looked_in_state d s e (compare c x y)
  looked_in_basics n d bs s e (goal_fact p xs) = []
  looked_in_basics n d bs s e (goal_place f xs x) = []
  looked_in_basics n d bs s e (goal_not p xs) = []
  looked_in_basics n d bs s e (negation f) = looked_in_basics n d bs s e f
  looked_in_basics n d bs s e (conjunction fs) = looked_in_parts n d bs s e fs
  looked_in_basics n d bs s e (disjunction fs) = looked_in_parts n d bs s e fs
  looked_in_basics n d bs s e (for_all ss b f) = flat_map (λ t. looked_in_basics n d bs s (bind ss t e) f)
      (flat_map (λ q. tuples q e ss b) bs)
  looked_in_basics n d bs s e (for_some ss b f) = flat_map (λ t. looked_in_basics n d bs s (bind ss t e) f)
      (flat_map (λ q. tuples q e ss b) bs)
  looked_in_basics n d bs s e (next f) = cond n (looked_in_basics n d bs s e f) []
  looked_in_basics n d bs s e (always f) = looked_in_basics n d bs s e f
  looked_in_basics n d bs s e (eventually f) = looked_in_basics n d bs s e f
  looked_in_basics n d bs s e (until f g) = looked_in_basics n d bs s e f ++ looked_in_basics n d bs s e g
  looked_in_basics n d bs s e (within m f) = looked_in_basics n d bs s e f
  looked_in_basics n d bs s e (during m f) = looked_in_basics n d bs s e f

  pub looked_in_parts : Bool → LookedTable → List Situation → Situation → Assignment → FormulaTrees → List Operation
  looked_in_parts n d bs s e no_formula = []
  looked_in_parts n d bs s e (more_formulas f fs) = looked_in_basics n d bs s e f ++ looked_in_parts n d bs s e fs

-- looked at by progressing the formula in a world: no basic formula below a `next`
unfoldable pub looked_by_progressing : PlainProblem → World → FormulaTree → List Operation
looked_by_progressing p w f = looked_in_basics false (looks_of p w) (situation_of p w ∷ []) (situation_of p w) no_values f

-- looked at by the idling check of the formula in a world: all basic formulas
unfoldable pub looked_by_idling : PlainProblem → World → FormulaTree → List Operation
looked_by_idling p w f = looked_in_basics true (looks_of p w) (situation_of p w ∷ []) (situation_of p w) no_values f

-- looked at by the formula in a world at the end of these worlds, whose bounds may be true in any
-- of them
abbrev pub looked_after : PlainProblem → List World → Option World → FormulaTree → List Operation
looked_after p ws None f = []
looked_after p ws (Some w) f = looked_in_basics true (looks_of p w) (map (situation_of p) ws) (situation_of p w) no_values f

-- looked at by the formula along the states, in state k
unfoldable pub looked_along : PlainProblem → List World → ℕ → FormulaTree → List Operation
looked_along p ws k f = looked_after p (take (suc k) ws) (slice_get ws k) f

-- looked at in each of the terms
unfoldable pub looked_in_each : World → Assignment → TermTrees → List Operation
looked_in_each w e no_term = []
looked_in_each w e (more_terms t ts) = looked_in_term w e t ++ looked_in_each w e ts

-- looked at in conditions, arguments and values of effects, those inside a `when` only where its
-- condition is true
unfoldable mutual
  pub looked_in_effect : LookedTable → Situation → Assignment → EffectTree → List Operation
  looked_in_effect d s e (add p ts) = looked_in_each s.world e ts
  looked_in_effect d s e (del p ts) = looked_in_each s.world e ts
  looked_in_effect d s e (assign f ts t) = looked_in_each s.world e ts ++ looked_in_term s.world e t
  looked_in_effect d s e (when f es) = followed_if (state_true s e f) (looked_in_state d s e f) (looked_in_effects d s e es)
  looked_in_effect d s e (each vs b es) = flat_map (λ t. looked_in_effects d s (bind vs t e) es) (tuples s e vs b)

  pub looked_in_effects : LookedTable → Situation → Assignment → EffectTrees → List Operation
  looked_in_effects d s e no_effect = []
  looked_in_effects d s e (more_effects x xs) = looked_in_effect d s e x ++ looked_in_effects d s e xs

-- looked at by the operator with these arguments: nothing where a bound is false, else the
-- precondition, and where that is true the effects
unfoldable pub looked_by_operator : PlainProblem → World → PlainOperator → List Value → List Operation
looked_by_operator p w o vs =
    let s = situation_of p w in
    let e = bind o.params vs no_values in
    cond ((length vs == length o.params) && list_all (bound_true s e) o.bounds)
    (followed_if (state_true s e o.pre) (looked_in_state (looks_of p w) s e o.pre) (looked_in_effects (looks_of p w) s e o.effects)) []

-- looked at by the operator, where it exists
abbrev pub looked_by_operator_if : PlainProblem → World → List Value → Option PlainOperator → List Operation
looked_by_operator_if p w vs None = []
looked_by_operator_if p w vs (Some o) = looked_by_operator p w o vs

-- looked at by an action in a world
unfoldable pub looked_by_action : PlainProblem → World → Action → List Operation
looked_by_action p w a = looked_by_operator_if p w a.args (slice_get p.operators a.op)

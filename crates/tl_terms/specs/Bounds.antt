-- The truth of bounds, and the tuples of quantified variables.
use Rattle.std.specs.Prelude.{ℕ, zero, suc, List, [], ◌∷◌, map, flat_map, filter, length, Bool, false, Option, Some, None}
use Rattle.std.specs.Ordering.{is_eq}
use Rattle.tl_syntax.specs.declared.value.Value.{Value}
use Rattle.tl_syntax.specs.declared.variable.Var.{Var}
use Rattle.tl_syntax.specs.declared.variable.Arg.{Arg}
use Rattle.tl_syntax.specs.declared.variable.Arg.TheVariants as arg
use Rattle.tl_syntax.specs.declared.bound.Bound.{Bound}
use Rattle.tl_syntax.specs.declared.bound.Bound.TheVariants as bound
use Rattle.tl_syntax.specs.Keys.{value_cmp}
use Rattle.tl_terms.specs.World.{World, has_fact, values_of}
use Rattle.tl_terms.specs.Situation.{Situation}
use Rattle.tl_syntax.specs.Assignment.{Assignment, bind}
use Rattle.tl_terms.specs.Terms.{prepend, place_value}

-- the value of an argument, where it has one
abbrev pub arg_value : Assignment → Arg → Option Value
arg_value e (arg.Var s) = e s.slot
arg_value e (arg.Val v) = Some v

-- the values of arguments, where all have one
abbrev pub arg_values : Assignment → List Arg → Option (List Value)
arg_values e [] = Some []
arg_values e (x ∷ xs) = prepend (arg_value e x) (arg_values e xs)

-- the arguments are defined, and the fact is in the world
abbrev pub fact_in : World → ℕ → Option (List Value) → Bool
fact_in w p None = false
fact_in w p (Some vs) = has_fact w (p, vs)

-- both are defined and the same value
abbrev pub same_value : Option Value → Option Value → Bool
same_value (Some a) (Some b) = is_eq (value_cmp a b)
same_value _ _ = false

-- the bound is true: of the world, or, under `goal`, of the goal list
unfoldable pub bound_true : Situation → Assignment → Bound → Bool
bound_true s e (bound.Fact p xs) = fact_in s.world p (arg_values e xs)
bound_true s e (bound.Place f xs x) = same_value (place_value s.world f (arg_values e xs)) (arg_value e x)
bound_true s e (bound.GoalFact p xs) = fact_in s.goal p (arg_values e xs)
bound_true s e (bound.GoalPlace f xs x) = same_value (place_value s.goal f (arg_values e xs)) (arg_value e x)
bound_true s e (bound.GoalNot p xs) = fact_in s.avoid p (arg_values e xs)

-- all lists of n of the values, in lexicographic order
unfoldable pub tuples_of : List Value → ℕ → List (List Value)
tuples_of vs zero = [] ∷ []
tuples_of vs (suc n) = flat_map (λ v. map (λ t. v ∷ t) (tuples_of vs n)) vs

-- the tuples that make the bound true, in their order (Bacchus and Kabanza 2000, bounded
-- quantification)
unfoldable pub tuples : Situation → Assignment → List Var → Bound → List (List Value)
tuples s e ss b = filter (λ t. bound_true s (bind ss t e) b) (tuples_of (values_of (s.world ∷ s.goal ∷ s.avoid ∷ [])) (length ss))

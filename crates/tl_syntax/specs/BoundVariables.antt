-- How the variables of a quantifier stand in its bound.
use Rattle.std.specs.Prelude.{◌≡◌, ◌==◌, List, [], ◌∷◌, Bool, false, IsTrue}
use Rattle.std.specs.List.{list_any}
use Rattle.tl_syntax.specs.Lists.{Each}
use Rattle.tl_syntax.specs.declared.variable.Var.{Var}
use Rattle.tl_syntax.specs.declared.variable.Arg.{Arg}
use Rattle.tl_syntax.specs.declared.variable.Arg.TheVariants as arg
use Rattle.tl_syntax.specs.declared.bound.Bound.{Bound}
use Rattle.tl_syntax.specs.declared.bound.Bound.TheVariants as bound

-- the arguments of a bound, and the value of its place
abbrev pub args_of : Bound → List Arg
args_of (bound.Fact p xs) = xs
args_of (bound.Place f xs x) = x ∷ xs
args_of (bound.GoalFact p xs) = xs
args_of (bound.GoalPlace f xs x) = x ∷ xs
args_of (bound.GoalNot p xs) = xs

-- the argument is the variable
abbrev pub is_that_variable : Var → Arg → Bool
is_that_variable s (arg.Var u) = u.slot == s.slot
is_that_variable s (arg.Val v) = false

-- the variable stands in the bound
abbrev pub stands_in : Var → Bound → Bool
stands_in s b = list_any (is_that_variable s) (args_of b)

-- each variable stands in the bound
abbrev pub OccurIn : List Var → Bound → Type 0
OccurIn ss b = Each (λ s. IsTrue (stands_in s b)) ss

-- no two variables have one slot
abbrev pub DifferInSlot : List Var → Type 0
DifferInSlot [] = Unit {0}
DifferInSlot (s ∷ ss) = Each (λ u. u.slot ≡ s.slot → ⊥) ss × DifferInSlot ss

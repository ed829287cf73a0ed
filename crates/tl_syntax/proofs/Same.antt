-- Trees are equal or differ, and which of the two is decided.
use Rattle.std.specs.Prelude.{◌≡◌, ℕ, zero, suc, ℤ, List, Option, Some, None, ◌⊎◌, refl}
use mathlib.Core.Path.{ap, sym, ◌∙◌}
use mathlib.Core.Logic.{inl, inr}
use mathlib.Core.HLevel.{×_discrete}
use mathlib.Core.Sum as sums
use native.Mathlib.Decide.{ℕ_discrete}
use mathlib.Core.List.{List-discrete}
use lib.IntN.{ℤ_discrete}
use Rattle.tl_syntax.specs.declared.value.Value.{Value}
use Rattle.tl_syntax.specs.declared.value.Value.TheVariants.{Int, Sym}
use Rattle.tl_syntax.specs.declared.variable.Var.{Var}
use Rattle.tl_syntax.specs.declared.variable.Arg.{Arg}
use Rattle.tl_syntax.specs.declared.variable.Arg.TheVariants as arg
use Rattle.tl_syntax.specs.declared.value.Op.{Op}
use Rattle.tl_syntax.specs.declared.value.Op.TheVariants.{Plus, Minus, Times}
use Rattle.tl_syntax.specs.declared.value.Cmp.{Cmp}
use Rattle.tl_syntax.specs.declared.value.Cmp.TheVariants as cmp
use Rattle.tl_syntax.specs.declared.bound.Bound.{Bound}
use Rattle.tl_syntax.specs.declared.bound.Bound.TheVariants as bound
use Rattle.tl_syntax.specs.Trees.{TermTree, TermTrees, FormulaTree, TermTree-discrete, TermTrees-discrete, FormulaTree-discrete}

-- what a type that can be told apart gives back can be told apart
told_by : {A B : Type 0} (to : A → B) (from : B → A) → ((x : A) → from (to x) ≡ x) → Discrete B → Discrete A
told_by to from back d x y = (elim (d (to x) (to y)) [ yes e ↦ yes (sym (back x) ∙ (ap from e ∙ back y)) | no n ↦ no (λ e. n (ap to e)) ])

-- options of what can be told apart
pub option_discrete : {A : Type 0} → Discrete A → Discrete (Option A)
option_discrete d None None = yes refl
option_discrete d None (Some y) = no (λ e. let b : ⊥ = cc in b)
option_discrete d (Some x) None = no (λ e. let b : ⊥ = cc in b)
option_discrete d (Some x) (Some y) = (elim (d x y) [ yes p ↦ yes (ap (λ z. Some z) p) | no n ↦ no (λ e. n (let q : x ≡ y = cc in q)) ])

-- variables, with their names
var_discrete : Discrete Var
var_discrete = told_by (λ v. (v.slot, v.name)) (λ p. record { slot = p.0; name = p.1 }) (λ v. refl) (×_discrete ℕ_discrete ℕ_discrete)

-- a value as one of two plain things
value_to : Value → ℤ ⊎ ℕ
value_to (Int z) = inl z
value_to (Sym n) = inr n

-- and back
value_from : ℤ ⊎ ℕ → Value
value_from (inl z) = Int z
value_from (inr n) = Sym n

-- which changes nothing
value_back : (v : Value) → value_from (value_to v) ≡ v
unfolding value_to value_from
value_back (Int z) = refl
value_back (Sym n) = refl

-- values
pub value_discrete : Discrete Value
value_discrete = told_by value_to value_from value_back (sums.discrete ℤ_discrete ℕ_discrete)

-- an argument as one of two plain things
arg_to : Arg → Var ⊎ Value
arg_to (arg.Var v) = inl v
arg_to (arg.Val v) = inr v

-- and back
arg_from : Var ⊎ Value → Arg
arg_from (inl v) = arg.Var v
arg_from (inr v) = arg.Val v

-- which changes nothing
arg_back : (v : Arg) → arg_from (arg_to v) ≡ v
unfolding arg_to arg_from
arg_back (arg.Var v) = refl
arg_back (arg.Val v) = refl

-- arguments
arg_discrete : Discrete Arg
arg_discrete = told_by arg_to arg_from arg_back (sums.discrete var_discrete value_discrete)

-- an operation as a number
op_to : Op → ℕ
op_to Plus = 0
op_to Minus = 1
op_to Times = 2

-- and back
op_from : ℕ → Op
op_from zero = Plus
op_from (suc zero) = Minus
op_from (suc (suc n)) = Times

-- which changes nothing
op_back : (o : Op) → op_from (op_to o) ≡ o
unfolding op_to op_from
op_back Plus = refl
op_back Minus = refl
op_back Times = refl

-- operations
op_discrete : Discrete Op
op_discrete = told_by op_to op_from op_back ℕ_discrete

-- a comparison as a number
cmp_to : Cmp → ℕ
cmp_to cmp.Eq = 0
cmp_to cmp.Less = 1
cmp_to cmp.AtMost = 2
cmp_to cmp.More = 3
cmp_to cmp.AtLeast = 4

-- and back
cmp_from : ℕ → Cmp
cmp_from zero = cmp.Eq
cmp_from (suc zero) = cmp.Less
cmp_from (suc (suc zero)) = cmp.AtMost
cmp_from (suc (suc (suc zero))) = cmp.More
cmp_from (suc (suc (suc (suc n)))) = cmp.AtLeast

-- which changes nothing
cmp_back : (c : Cmp) → cmp_from (cmp_to c) ≡ c
unfolding cmp_to cmp_from
cmp_back cmp.Eq = refl
cmp_back cmp.Less = refl
cmp_back cmp.AtMost = refl
cmp_back cmp.More = refl
cmp_back cmp.AtLeast = refl

-- comparisons
cmp_discrete : Discrete Cmp
cmp_discrete = told_by cmp_to cmp_from cmp_back ℕ_discrete

-- a predicate with arguments
abbrev OfFact : Type 0
OfFact = ℕ × List Arg

-- a function with arguments, and an argument for its value
abbrev OfPlace : Type 0
OfPlace = (ℕ × List Arg) × Arg

-- a bound as one of five plain things
bound_to : Bound → ((OfFact ⊎ OfPlace) ⊎ (OfFact ⊎ OfPlace)) ⊎ OfFact
bound_to (bound.Fact p xs) = inl (inl (inl (p, xs)))
bound_to (bound.Place f xs x) = inl (inl (inr ((f, xs), x)))
bound_to (bound.GoalFact p xs) = inl (inr (inl (p, xs)))
bound_to (bound.GoalPlace f xs x) = inl (inr (inr ((f, xs), x)))
bound_to (bound.GoalNot p xs) = inr (p, xs)

-- and back
bound_from : ((OfFact ⊎ OfPlace) ⊎ (OfFact ⊎ OfPlace)) ⊎ OfFact → Bound
bound_from (inl (inl (inl k))) = bound.Fact k.0 k.1
bound_from (inl (inl (inr k))) = bound.Place k.0.0 k.0.1 k.1
bound_from (inl (inr (inl k))) = bound.GoalFact k.0 k.1
bound_from (inl (inr (inr k))) = bound.GoalPlace k.0.0 k.0.1 k.1
bound_from (inr k) = bound.GoalNot k.0 k.1

-- which changes nothing
bound_back : (b : Bound) → bound_from (bound_to b) ≡ b
unfolding bound_to bound_from
bound_back (bound.Fact p xs) = refl
bound_back (bound.Place f xs x) = refl
bound_back (bound.GoalFact p xs) = refl
bound_back (bound.GoalPlace f xs x) = refl
bound_back (bound.GoalNot p xs) = refl

-- lists of arguments
args_discrete : Discrete (List Arg)
args_discrete = List-discrete arg_discrete

-- predicates with arguments
of_fact_discrete : Discrete OfFact
of_fact_discrete = ×_discrete ℕ_discrete args_discrete

-- functions with arguments and values
of_place_discrete : Discrete OfPlace
of_place_discrete = ×_discrete of_fact_discrete arg_discrete

-- bounds
bound_discrete : Discrete Bound
bound_discrete = told_by bound_to bound_from bound_back (sums.discrete
    (sums.discrete (sums.discrete of_fact_discrete of_place_discrete) (sums.discrete of_fact_discrete of_place_discrete)) of_fact_discrete)

-- terms
pub term_discrete : Discrete TermTree
term_discrete = TermTree-discrete var_discrete value_discrete ℕ_discrete op_discrete

-- lists of terms
pub terms_discrete : Discrete TermTrees
terms_discrete = TermTrees-discrete var_discrete value_discrete ℕ_discrete op_discrete

-- formulas, with the offsets of their operations
pub formula_discrete : Discrete FormulaTree
formula_discrete = FormulaTree-discrete ℕ_discrete terms_discrete cmp_discrete term_discrete args_discrete arg_discrete
    (List-discrete var_discrete) bound_discrete

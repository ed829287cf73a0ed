-- Which trees name only numbers of a table of names.
use Rattle.std.specs.Prelude.{ℕ, ◌<◌}
use Rattle.tl_syntax.specs.declared.value.Value.{Value}
use Rattle.tl_syntax.specs.declared.value.Value.TheVariants.{Int, Sym}
use Rattle.tl_syntax.specs.declared.variable.Var.{Var}
use Rattle.tl_syntax.specs.declared.variable.Arg.{Arg}
use Rattle.tl_syntax.specs.declared.variable.Arg.TheVariants as arg
use Rattle.tl_syntax.specs.declared.bound.Bound.{Bound}
use Rattle.tl_syntax.specs.declared.fact.Fact.{Fact}
use Rattle.tl_syntax.specs.declared.place_value.PlaceValue.{PlaceValue}
use Rattle.tl_syntax.specs.BoundVariables.{args_of}
use Rattle.tl_syntax.specs.Effects.{EffectTree, EffectTrees, add, del, assign, when, each, no_effect, more_effects}
use Rattle.tl_syntax.specs.Lists.{Each}
use Rattle.tl_syntax.specs.Trees.{TermTree, TermTrees, variable, value, place, arith, no_term, more_terms, FormulaTree, FormulaTrees, verum}
use Rattle.tl_syntax.specs.Trees.{falsum, atom, defined, compare, goal_fact, goal_place, goal_not, negation, conjunction, disjunction}
use Rattle.tl_syntax.specs.Trees.{for_all, for_some, next, always, eventually, until, within, during, no_formula, more_formulas}

-- an integer, or a symbol whose number is below n
abbrev pub ValueIsNamed : ℕ → Value → Type 0
ValueIsNamed n (Int z) = Unit {0}
ValueIsNamed n (Sym k) = k < n

-- the number of the variable's name is below n
abbrev pub VariableIsNamed : ℕ → Var → Type 0
VariableIsNamed n s = s.name < n

-- an argument of named things
abbrev pub ArgIsNamed : ℕ → Arg → Type 0
ArgIsNamed n (arg.Var s) = VariableIsNamed n s
ArgIsNamed n (arg.Val v) = ValueIsNamed n v

-- a bound of named things
abbrev pub BoundIsNamed : ℕ → Bound → Type 0
BoundIsNamed n b = Each (ArgIsNamed n) (args_of b)

-- a fact of named values
abbrev pub FactIsNamed : ℕ → Fact → Type 0
FactIsNamed n f = Each (ValueIsNamed n) f.args

-- a place of named values, with a named value
abbrev pub PlaceIsNamed : ℕ → PlaceValue → Type 0
PlaceIsNamed n x = Each (ValueIsNamed n) x.args × ValueIsNamed n x.value

-- a term of named things, and a list of terms
unfoldable mutual
  pub TermIsNamed : ℕ → TermTree → Type 0
  TermIsNamed n (variable s) = VariableIsNamed n s
  TermIsNamed n (value v) = ValueIsNamed n v
  TermIsNamed n (place f ts) = TermsAreNamed n ts
  TermIsNamed n (arith op s t at) = TermIsNamed n s × TermIsNamed n t

  pub TermsAreNamed : ℕ → TermTrees → Type 0
  TermsAreNamed n no_term = Unit {0}
  TermsAreNamed n (more_terms t ts) = TermIsNamed n t × TermsAreNamed n ts

-- a formula of named values and variables, and a list of formulas
unfoldable mutual
  pub IsNamed : ℕ → FormulaTree → Type 0
  IsNamed n verum = Unit {0}
  IsNamed n falsum = Unit {0}
  IsNamed n (atom p ts) = TermsAreNamed n ts
  IsNamed n (defined p ts) = TermsAreNamed n ts
  IsNamed n (compare c s t) = TermIsNamed n s × TermIsNamed n t
  IsNamed n (goal_fact p xs) = Each (ArgIsNamed n) xs
  IsNamed n (goal_place f xs x) = Each (ArgIsNamed n) xs × ArgIsNamed n x
  IsNamed n (goal_not p xs) = Each (ArgIsNamed n) xs
  IsNamed n (negation f) = IsNamed n f
  IsNamed n (conjunction fs) = AreNamed n fs
  IsNamed n (disjunction fs) = AreNamed n fs
  IsNamed n (for_all ss b f) = Each (VariableIsNamed n) ss × BoundIsNamed n b × IsNamed n f
  IsNamed n (for_some ss b f) = Each (VariableIsNamed n) ss × BoundIsNamed n b × IsNamed n f
  IsNamed n (next f) = IsNamed n f
  IsNamed n (always f) = IsNamed n f
  IsNamed n (eventually f) = IsNamed n f
  IsNamed n (until f g) = IsNamed n f × IsNamed n g
  IsNamed n (within k f) = IsNamed n f
  IsNamed n (during k f) = IsNamed n f

  pub AreNamed : ℕ → FormulaTrees → Type 0
  AreNamed n no_formula = Unit {0}
  AreNamed n (more_formulas f fs) = IsNamed n f × AreNamed n fs

-- an effect of named things, and a list of effects
unfoldable mutual
  pub EffectIsNamed : ℕ → EffectTree → Type 0
  EffectIsNamed n (add p ts) = TermsAreNamed n ts
  EffectIsNamed n (del p ts) = TermsAreNamed n ts
  EffectIsNamed n (assign f ts t) = TermsAreNamed n ts × TermIsNamed n t
  EffectIsNamed n (when f es) = IsNamed n f × EffectsAreNamed n es
  EffectIsNamed n (each ss b es) = Each (VariableIsNamed n) ss × BoundIsNamed n b × EffectsAreNamed n es

  pub EffectsAreNamed : ℕ → EffectTrees → Type 0
  EffectsAreNamed n no_effect = Unit {0}
  EffectsAreNamed n (more_effects e es) = EffectIsNamed n e × EffectsAreNamed n es

-- Which trees fit a domain.
use Rattle.std.specs.Prelude.{◌≡◌, ◌<◌, ℕ, zero, suc, List, ◌++◌, length, false}
use Rattle.tl_syntax.specs.declared.variable.Var.{Var}
use Rattle.tl_syntax.specs.declared.variable.Arg.{Arg}
use Rattle.tl_syntax.specs.declared.variable.Arg.TheVariants as arg
use Rattle.tl_syntax.specs.declared.bound.Bound.{Bound}
use Rattle.tl_syntax.specs.declared.bound.Bound.TheVariants as bound
use Rattle.tl_syntax.specs.BoundVariables.{OccurIn, DifferInSlot}
use Rattle.tl_syntax.specs.Effects.{EffectTree, EffectTrees, add, del, assign, when, each, no_effect, more_effects}
use Rattle.tl_syntax.specs.FreeVariables.{is_slot_in, slots_of}
use Rattle.tl_syntax.specs.Lists.{Each}
use Rattle.tl_syntax.specs.Signature.{Signature, Takes}
use Rattle.tl_syntax.specs.Trees.{TermTree, TermTrees, variable, value, place, arith, no_term, more_terms, FormulaTree, FormulaTrees, verum}
use Rattle.tl_syntax.specs.Trees.{falsum, atom, defined, compare, goal_fact, goal_place, goal_not, negation, conjunction, disjunction}
use Rattle.tl_syntax.specs.Trees.{for_all, for_some, next, always, eventually, until, within, during, no_formula, more_formulas}

-- a variable's slot is one of the 32 of a frame
abbrev pub ArgFits : Arg → Type 0
ArgFits (arg.Var s) = s.slot < 32
ArgFits (arg.Val v) = Unit {0}

-- the predicate, or the function, takes as many arguments as there are, and each argument fits
abbrev pub ArgsFit : List ℕ → ℕ → List Arg → Type 0
ArgsFit arities p xs = Takes arities p (length xs) × Each ArgFits xs

-- the bound's predicate or function takes its arguments
abbrev pub BoundFits : Signature → Bound → Type 0
BoundFits g (bound.Fact p xs) = ArgsFit g.predicates p xs
BoundFits g (bound.Place f xs x) = ArgsFit g.functions f xs × ArgFits x
BoundFits g (bound.GoalFact p xs) = ArgsFit g.predicates p xs
BoundFits g (bound.GoalPlace f xs x) = ArgsFit g.functions f xs × ArgFits x
BoundFits g (bound.GoalNot p xs) = ArgsFit g.predicates p xs

-- quantified variables: their slots are of a frame, differ from each other and from those around,
-- and each stands in the bound, which fits
pub record VariablesFit (g : Signature) (around : List ℕ) (ss : List Var) (b : Bound) : Type 0 where
  pub frame : Each (λ s. s.slot < 32) ss
  pub fresh : Each (λ s. is_slot_in around s.slot ≡ false) ss
  pub differ : DifferInSlot ss
  pub occur : OccurIn ss b
  pub bound : BoundFits g b

-- the number of terms
unfoldable pub term_count : TermTrees → ℕ
term_count no_term = zero
term_count (more_terms t ts) = suc (term_count ts)

-- each function in a term, and in a list of terms, takes its arguments, and each slot is of a frame
unfoldable mutual
  pub TermFits : Signature → TermTree → Type 0
  TermFits g (variable s) = s.slot < 32
  TermFits g (value v) = Unit {0}
  TermFits g (place f ts) = Takes g.functions f (term_count ts) × TermsFit g ts
  TermFits g (arith op s t at) = TermFits g s × TermFits g t

  pub TermsFit : Signature → TermTrees → Type 0
  TermsFit g no_term = Unit {0}
  TermsFit g (more_terms t ts) = TermFits g t × TermsFit g ts

-- a formula fits, below quantifiers of the slots around it: each predicate, function and definition
-- in it is there and takes its arguments, and its quantified variables fit
unfoldable mutual
  pub Fits : Signature → List ℕ → FormulaTree → Type 0
  Fits g around verum = Unit {0}
  Fits g around falsum = Unit {0}
  Fits g around (atom p ts) = Takes g.predicates p (term_count ts) × TermsFit g ts
  Fits g around (defined p ts) = Takes g.definitions p (term_count ts) × TermsFit g ts
  Fits g around (compare c s t) = TermFits g s × TermFits g t
  Fits g around (goal_fact p xs) = ArgsFit g.predicates p xs
  Fits g around (goal_place f xs x) = ArgsFit g.functions f xs × ArgFits x
  Fits g around (goal_not p xs) = ArgsFit g.predicates p xs
  Fits g around (negation f) = Fits g around f
  Fits g around (conjunction fs) = AllFit g around fs
  Fits g around (disjunction fs) = AllFit g around fs
  Fits g around (for_all ss b f) = VariablesFit g around ss b × Fits g (slots_of ss ++ around) f
  Fits g around (for_some ss b f) = VariablesFit g around ss b × Fits g (slots_of ss ++ around) f
  Fits g around (next f) = Fits g around f
  Fits g around (always f) = Fits g around f
  Fits g around (eventually f) = Fits g around f
  Fits g around (until f h) = Fits g around f × Fits g around h
  Fits g around (within n f) = Fits g around f
  Fits g around (during n f) = Fits g around f

  pub AllFit : Signature → List ℕ → FormulaTrees → Type 0
  AllFit g around no_formula = Unit {0}
  AllFit g around (more_formulas f fs) = Fits g around f × AllFit g around fs

-- an effect fits, and a list of effects, in the same way
unfoldable mutual
  pub EffectFits : Signature → List ℕ → EffectTree → Type 0
  EffectFits g around (add p ts) = Takes g.predicates p (term_count ts) × TermsFit g ts
  EffectFits g around (del p ts) = Takes g.predicates p (term_count ts) × TermsFit g ts
  EffectFits g around (assign f ts t) = Takes g.functions f (term_count ts) × TermsFit g ts × TermFits g t
  EffectFits g around (when f es) = Fits g around f × EffectsFit g around es
  EffectFits g around (each ss b es) = VariablesFit g around ss b × EffectsFit g (slots_of ss ++ around) es

  pub EffectsFit : Signature → List ℕ → EffectTrees → Type 0
  EffectsFit g around no_effect = Unit {0}
  EffectsFit g around (more_effects e es) = EffectFits g around e × EffectsFit g around es

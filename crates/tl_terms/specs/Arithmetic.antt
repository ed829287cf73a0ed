-- Terms, formulas and problems in which no arithmetic term stands.
use Rattle.tl_syntax.specs.Effects.{EffectTree, EffectTrees, add, del, assign, when, each, no_effect, more_effects}
use Rattle.tl_syntax.specs.Lists.{Each}
use Rattle.tl_syntax.specs.Trees.{TermTree, TermTrees, variable, value, place, arith, no_term, more_terms, FormulaTree, FormulaTrees, verum}
use Rattle.tl_syntax.specs.Trees.{falsum, atom, defined, compare, goal_fact, goal_place, goal_not, negation, conjunction, disjunction}
use Rattle.tl_syntax.specs.Trees.{for_all, for_some, next, always, eventually, until, within, during, no_formula, more_formulas}
use Rattle.tl_terms.specs.Problem.{PlainProblem}

-- no arithmetic term stands in the term, or in a list of terms
abbrev mutual
  pub TermHasNoArithmetic : TermTree → Type 0
  TermHasNoArithmetic (variable s) = Unit {0}
  TermHasNoArithmetic (value v) = Unit {0}
  TermHasNoArithmetic (place f ts) = TermsHaveNoArithmetic ts
  TermHasNoArithmetic (arith op s t at) = ⊥

  pub TermsHaveNoArithmetic : TermTrees → Type 0
  TermsHaveNoArithmetic no_term = Unit {0}
  TermsHaveNoArithmetic (more_terms t ts) = TermHasNoArithmetic t × TermsHaveNoArithmetic ts

-- no arithmetic term stands in the formula, or in a list of formulas
abbrev mutual
  pub HasNoArithmetic : FormulaTree → Type 0
  HasNoArithmetic verum = Unit {0}
  HasNoArithmetic falsum = Unit {0}
  HasNoArithmetic (atom p ts) = TermsHaveNoArithmetic ts
  HasNoArithmetic (defined p ts) = TermsHaveNoArithmetic ts
  HasNoArithmetic (compare c x y) = TermHasNoArithmetic x × TermHasNoArithmetic y
  HasNoArithmetic (goal_fact p xs) = Unit {0}
  HasNoArithmetic (goal_place f xs x) = Unit {0}
  HasNoArithmetic (goal_not p xs) = Unit {0}
  HasNoArithmetic (negation f) = HasNoArithmetic f
  HasNoArithmetic (conjunction fs) = HaveNoArithmetic fs
  HasNoArithmetic (disjunction fs) = HaveNoArithmetic fs
  HasNoArithmetic (for_all ss b f) = HasNoArithmetic f
  HasNoArithmetic (for_some ss b f) = HasNoArithmetic f
  HasNoArithmetic (next f) = HasNoArithmetic f
  HasNoArithmetic (always f) = HasNoArithmetic f
  HasNoArithmetic (eventually f) = HasNoArithmetic f
  HasNoArithmetic (until f g) = HasNoArithmetic f × HasNoArithmetic g
  HasNoArithmetic (within n f) = HasNoArithmetic f
  HasNoArithmetic (during n f) = HasNoArithmetic f

  pub HaveNoArithmetic : FormulaTrees → Type 0
  HaveNoArithmetic no_formula = Unit {0}
  HaveNoArithmetic (more_formulas f fs) = HasNoArithmetic f × HaveNoArithmetic fs

-- no arithmetic term stands in the effect, or in a list of effects
abbrev mutual
  pub EffectHasNoArithmetic : EffectTree → Type 0
  EffectHasNoArithmetic (add p ts) = TermsHaveNoArithmetic ts
  EffectHasNoArithmetic (del p ts) = TermsHaveNoArithmetic ts
  EffectHasNoArithmetic (assign f ts t) = TermsHaveNoArithmetic ts × TermHasNoArithmetic t
  EffectHasNoArithmetic (when f es) = HasNoArithmetic f × EffectsHaveNoArithmetic es
  EffectHasNoArithmetic (each ss b es) = EffectsHaveNoArithmetic es

  pub EffectsHaveNoArithmetic : EffectTrees → Type 0
  EffectsHaveNoArithmetic no_effect = Unit {0}
  EffectsHaveNoArithmetic (more_effects x xs) = EffectHasNoArithmetic x × EffectsHaveNoArithmetic xs

-- no arithmetic term stands in a definition, in an operator or in the control formula
pub record ProblemHasNoArithmetic (p : PlainProblem) : Type 0 where
  pub definitions : Each (λ d. HasNoArithmetic d.body) p.definitions
  pub operators : Each (λ o. HasNoArithmetic o.pre × EffectsHaveNoArithmetic o.effects) p.operators
  pub control : HasNoArithmetic p.control

-- Formulas that are read in one state.
use Rattle.tl_syntax.specs.Effects.{EffectTree, EffectTrees, add, del, assign, when, each, no_effect, more_effects}
use Rattle.tl_syntax.specs.Trees.{FormulaTree, FormulaTrees, verum, falsum, atom, defined, compare, goal_fact, goal_place, goal_not}
use Rattle.tl_syntax.specs.Trees.{negation, conjunction, disjunction, for_all, for_some, next, always, eventually, until, within, during}
use Rattle.tl_syntax.specs.Trees.{no_formula, more_formulas}

-- no temporal word stands in the formula
abbrev mutual
  pub IsState : FormulaTree → Type 0
  IsState verum = Unit {0}
  IsState falsum = Unit {0}
  IsState (atom p ts) = Unit {0}
  IsState (defined p ts) = Unit {0}
  IsState (compare c x y) = Unit {0}
  IsState (goal_fact p xs) = Unit {0}
  IsState (goal_place f xs x) = Unit {0}
  IsState (goal_not p xs) = Unit {0}
  IsState (negation f) = IsState f
  IsState (conjunction fs) = AreState fs
  IsState (disjunction fs) = AreState fs
  IsState (for_all ss b f) = IsState f
  IsState (for_some ss b f) = IsState f
  IsState (next f) = ⊥
  IsState (always f) = ⊥
  IsState (eventually f) = ⊥
  IsState (until f g) = ⊥
  IsState (within n f) = ⊥
  IsState (during n f) = ⊥

  pub AreState : FormulaTrees → Type 0
  AreState no_formula = Unit {0}
  AreState (more_formulas f fs) = IsState f × AreState fs

-- no temporal word stands in the conditions of an effect, or of a list of effects
abbrev mutual
  pub EffectIsState : EffectTree → Type 0
  EffectIsState (add p ts) = Unit {0}
  EffectIsState (del p ts) = Unit {0}
  EffectIsState (assign f ts t) = Unit {0}
  EffectIsState (when f es) = IsState f × EffectsAreState es
  EffectIsState (each ss b es) = EffectsAreState es

  pub EffectsAreState : EffectTrees → Type 0
  EffectsAreState no_effect = Unit {0}
  EffectsAreState (more_effects e es) = EffectIsState e × EffectsAreState es

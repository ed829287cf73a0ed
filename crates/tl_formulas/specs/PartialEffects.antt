-- The effects that forms mean, where they mean one.
use Rattle.std.specs.Prelude.{ℕ, List, Option, Some, None, if◌then◌else◌}
use Rattle.tl_sexpr.specs.Tree.{FormTree, FormTrees, symbol, integer, list, no_form, more_forms}
use Rattle.tl_syntax.specs.Trees.{TermTree, TermTrees}
use Rattle.tl_syntax.specs.Effects.{EffectTree, EffectTrees, add, del, assign, when, each, no_effect, more_effects}
use Rattle.tl_rules.specs.Both.{option_both}
use Rattle.tl_rules.specs.Parts.{count}
use Rattle.tl_formulas.specs.declared.roles.FormulaRole.TheVariants as role
use Rattle.tl_formulas.specs.declared.signature.NameSignature.{NameSignature}
use Rattle.tl_formulas.specs.declared.words.EffectWord.{EffectWord}
use Rattle.tl_formulas.specs.declared.words.EffectWord.TheVariants as effect
use Rattle.tl_formulas.specs.MeaningOfFormulas.{variables_meant}
use Rattle.tl_formulas.specs.PartialBounds.{bound_meaning}
use Rattle.tl_formulas.specs.PartialFormulas.{are_bound_by, formula_meaning}
use Rattle.tl_formulas.specs.PartialTerms.{place_for, term_meaning, terms_meaning}
use Rattle.tl_formulas.specs.Signatures.{Table, Scope}
use Rattle.tl_formulas.specs.Variables.{with_variables, is_crowded}
use Rattle.tl_formulas.specs.Words.{effect_word}

-- what a name of a table makes with the terms after it
abbrev pub target_meaning : {A : Type 0} → (ℕ → TermTrees → A) → List (List ℕ) → Table → Table → Scope → FormTree → Option A
target_meaning make names table functions scope (list (more_forms (symbol text _) rest) at) =
    option_both make (place_for table text (count rest)) (terms_meaning names functions scope rest)
target_meaning make names table functions scope _ = None

unfoldable mutual
  -- an effect
  pub effect_meaning : List (List ℕ) → NameSignature → Scope → FormTree → Option EffectTree
  effect_meaning names g scope (symbol text at) = None
  effect_meaning names g scope (integer z at) = None
  effect_meaning names g scope (list no_form at) = None
  effect_meaning names g scope (list (more_forms (symbol text _) rest) at) = effect_list_meaning names g scope (effect_word text) rest
  effect_meaning names g scope (list (more_forms (integer z _) rest) at) = None
  effect_meaning names g scope (list (more_forms (list fs _) rest) at) = None

  -- an effect by its first word and the elements after it
  pub effect_list_meaning : List (List ℕ) → NameSignature → Scope → EffectWord → FormTrees → Option EffectTree
  effect_list_meaning names g scope effect.Add (more_forms fact no_form) = target_meaning add names g.predicates g.functions scope fact
  effect_list_meaning names g scope effect.Add _ = None
  effect_list_meaning names g scope effect.Del (more_forms fact no_form) = target_meaning del names g.predicates g.functions scope fact
  effect_list_meaning names g scope effect.Del _ = None
  effect_list_meaning names g scope effect.Set (more_forms place (more_forms value no_form)) =
      option_both (λ (k : TermTree → EffectTree) t. k t) (target_meaning
      (λ i ts t. assign i ts t) names g.functions g.functions scope place)
      (term_meaning names g.functions scope value)
  effect_list_meaning names g scope effect.Set _ = None
  effect_list_meaning names g scope effect.When no_form = None
  effect_list_meaning names g scope effect.When (more_forms condition effects) =
      option_both when (formula_meaning role.State names g scope condition) (effects_meaning names g scope effects)
  effect_list_meaning names g scope effect.Each no_form = None
  effect_list_meaning names g scope effect.Each (more_forms vs no_form) = None
  effect_list_meaning names g scope effect.Each (more_forms vs (more_forms b effects)) =
      if is_crowded scope vs then None
      else (if are_bound_by scope b vs
      then option_both (each (variables_meant names scope vs)) (bound_meaning names g (with_variables scope vs) b)
      (effects_meaning names g (with_variables scope vs) effects) else None)
  effect_list_meaning names g scope effect.Other fs = None

  -- effects
  pub effects_meaning : List (List ℕ) → NameSignature → Scope → FormTrees → Option EffectTrees
  effects_meaning names g scope no_form = Some no_effect
  effects_meaning names g scope (more_forms f fs) =
      option_both more_effects (effect_meaning names g scope f) (effects_meaning names g scope fs)

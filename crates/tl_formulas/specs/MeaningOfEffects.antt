-- The effects that forms stand for. Where a form breaks a rule, what is said of it here does not
-- matter.
use Rattle.std.specs.Prelude.{ℕ, List}
use Rattle.tl_sexpr.specs.Tree.{FormTree, FormTrees, symbol, integer, list, no_form, more_forms}
use Rattle.tl_syntax.specs.Trees.{TermTrees, verum}
use Rattle.tl_syntax.specs.Effects.{EffectTree, EffectTrees, add, del, assign, when, each, no_effect, more_effects}
use Rattle.tl_formulas.specs.declared.words.EffectWord.{EffectWord}
use Rattle.tl_formulas.specs.declared.words.EffectWord.TheVariants as effect
use Rattle.tl_formulas.specs.declared.signature.NameSignature.{NameSignature}
use Rattle.tl_formulas.specs.Words.{effect_word}
use Rattle.tl_rules.specs.Parts.{rest_of}
use Rattle.tl_formulas.specs.Signatures.{Table, Scope}
use Rattle.tl_formulas.specs.Variables.{with_variables}
use Rattle.tl_formulas.specs.MeaningOfTerms.{terms_meant, first_term}
use Rattle.tl_formulas.specs.MeaningOfBounds.{call_place, bound_meant}
use Rattle.tl_formulas.specs.MeaningOfFormulas.{formula_meant, variables_meant}

-- the place in a table of the name with which a list begins, and the terms after it
abbrev pub target_meant : List (List ℕ) → Table → Table → Scope → FormTree → ℕ × TermTrees
target_meant names table functions scope f = (call_place table f, terms_meant names functions scope (rest_of f))

-- an effect that stands for nothing
abbrev pub no_change : EffectTree
no_change = when verum no_effect

unfoldable mutual
  -- an effect
  pub effect_meant : List (List ℕ) → NameSignature → Scope → FormTree → EffectTree
  effect_meant names g scope (symbol text at) = no_change
  effect_meant names g scope (integer z at) = no_change
  effect_meant names g scope (list no_form at) = no_change
  effect_meant names g scope (list (more_forms (symbol text _) rest) at) = effect_list_meant names g scope (effect_word text) rest
  effect_meant names g scope (list (more_forms (integer z _) rest) at) = no_change
  effect_meant names g scope (list (more_forms (list fs _) rest) at) = no_change

  -- an effect by its first word and the elements after it
  pub effect_list_meant : List (List ℕ) → NameSignature → Scope → EffectWord → FormTrees → EffectTree
  effect_list_meant names g scope w no_form = no_change
  effect_list_meant names g scope effect.Add (more_forms fact rest) =
      add (call_place g.predicates fact) (terms_meant names g.functions scope (rest_of fact))
  effect_list_meant names g scope effect.Del (more_forms fact rest) =
      del (call_place g.predicates fact) (terms_meant names g.functions scope (rest_of fact))
  effect_list_meant names g scope effect.Set (more_forms place terms) =
      assign (call_place g.functions place) (terms_meant names g.functions scope (rest_of place))
      (first_term (terms_meant names g.functions scope terms))
  effect_list_meant names g scope effect.When (more_forms condition effects) =
      when (formula_meant names g scope condition) (effects_meant names g scope effects)
  effect_list_meant names g scope effect.Each (more_forms vs no_form) = no_change
  effect_list_meant names g scope effect.Each (more_forms vs (more_forms b effects)) =
      each (variables_meant names scope vs) (bound_meant names g (with_variables scope vs) b)
      (effects_meant names g (with_variables scope vs) effects)
  effect_list_meant names g scope effect.Other (more_forms f fs) = no_change

  -- effects
  pub effects_meant : List (List ℕ) → NameSignature → Scope → FormTrees → EffectTrees
  effects_meant names g scope no_form = no_effect
  effects_meant names g scope (more_forms f fs) = more_effects (effect_meant names g scope f) (effects_meant names g scope fs)

-- Effects mean something exactly where they break no rule.
use Rattle.std.proofs.Common.{◌≡◌, ℕ, List, [], ◌++◌, refl, sym, ◌∙◌}
use Rattle.std.specs.Prelude.{Bool, true, false, not, Option, None, if◌then◌else◌, unwrap_or}
use Rattle.tl_sexpr.specs.Tree.{FormTree, FormTrees, symbol, integer, list, no_form, more_forms}
use Rattle.tl_syntax.specs.Trees.{TermTree, TermTrees}
use Rattle.tl_syntax.specs.Effects.{EffectTree, add, del, assign, when, each, more_effects}
use Rattle.tl_rules.specs.declared.rule.Rule.TheVariants.{Shape, Limit}
use Rattle.tl_rules.specs.Both.{option_both}
use Rattle.tl_rules.specs.Parts.{count, is_variable_list}
use Rattle.tl_rules.specs.Rules.{Break, breaks_if}
use Rattle.tl_rules.specs.Unbroken.{where_unbroken}
use Rattle.tl_rules.proofs.Unbroken.{both-unbroken, end-unbroken}
use Rattle.tl_formulas.specs.declared.roles.FormulaRole.TheVariants as role
use Rattle.tl_formulas.specs.declared.signature.NameSignature.{NameSignature}
use Rattle.tl_formulas.specs.declared.words.EffectWord.{EffectWord}
use Rattle.tl_formulas.specs.declared.words.EffectWord.TheVariants as effect
use Rattle.tl_formulas.specs.Bounds.{bound_breaks}
use Rattle.tl_formulas.specs.Effects.{effect_list_breaks, effect_breaks, effect_parts_breaks, effects_breaks}
use Rattle.tl_formulas.specs.Formulas.{formula_breaks}
use Rattle.tl_formulas.specs.MeaningOfEffects.{effect_meant, effect_list_meant, effects_meant}
use Rattle.tl_formulas.specs.MeaningOfFormulas.{variables_meant}
use Rattle.tl_formulas.specs.MeaningOfTerms.{term_meant, terms_meant}
use Rattle.tl_formulas.specs.PartialEffects.{target_meaning, effect_meaning, effect_list_meaning, effects_meaning}
use Rattle.tl_formulas.specs.Signatures.{Table, Scope, place_of, call_breaks}
use Rattle.tl_formulas.specs.Terms.{term_breaks, terms_breaks}
use Rattle.tl_formulas.specs.Variables.{with_variables, is_crowded}
use Rattle.tl_formulas.specs.Words.{effect_word}
use Rattle.tl_formulas.proofs.MeanBounds.{bound-mean}
use Rattle.tl_formulas.proofs.MeanFormulas.{binding-mean, formula-mean}
use Rattle.tl_formulas.proofs.MeanTerms.{place-mean, term-mean, terms-mean}

target-mean : {A : Type 0} (make : ℕ → TermTrees → A) (names : List (List ℕ)) (table functions : Table) (scope : Scope) (text : List ℕ)
    (rest : FormTrees) (start at : ℕ) → target_meaning make names table functions scope (list (more_forms (symbol text start) rest) at) ≡
    where_unbroken (call_breaks table text (count rest) at ++ terms_breaks functions scope rest)
    (make (unwrap_or (place_of table text) 0) (terms_meant names functions scope rest))
target-mean make names table functions scope text rest start at =
    (λ i. option_both make (place-mean table text (count rest) at i) (terms-mean names functions scope rest i))
    ∙ both-unbroken make (call_breaks table text (count rest) at) (terms_breaks functions scope rest) _ _

-- with room for the variables of a list
room-mean : (l c : Bool) (at : ℕ) (xs : List Break) (m : Option EffectTree) (e : EffectTree) → m ≡
    where_unbroken (breaks_if (not l) Shape at ++ xs) e → (if c then None else m) ≡
    where_unbroken ((breaks_if (not l) Shape at ++ breaks_if c Limit at) ++ xs) e
room-mean true true at xs m e h = refl
room-mean true false at xs m e h = h
room-mean false true at xs m e h = refl
room-mean false false at xs m e h = h

mutual
  unfolding effect_meaning effect_breaks effect_meant term_breaks term_meant

  pub effect-mean : (names : List (List ℕ)) (g : NameSignature) (scope : Scope) (f : FormTree) → effect_meaning names g scope f ≡
      where_unbroken (effect_breaks g scope f) (effect_meant names g scope f)
  effect-mean names g scope (symbol text at) = refl
  effect-mean names g scope (integer z at) = refl
  effect-mean names g scope (list no_form at) = refl
  effect-mean names g scope (list (more_forms (symbol text _) rest) at) = change-mean names g scope (effect_word text) rest at
  effect-mean names g scope (list (more_forms (integer z _) rest) at) = refl
  effect-mean names g scope (list (more_forms (list fs _) rest) at) = refl

  change-mean : (names : List (List ℕ)) (g : NameSignature) (scope : Scope) (w : EffectWord) (rest : FormTrees) (at : ℕ) →
      effect_list_meaning names g scope w rest ≡ where_unbroken (effect_list_breaks scope w rest at ++ effect_parts_breaks g scope w rest)
      (effect_list_meant names g scope w rest)
  change-mean names g scope effect.Add no_form at = refl
  change-mean names g scope effect.Add (more_forms (symbol text _) no_form) at = refl
  change-mean names g scope effect.Add (more_forms (integer z _) no_form) at = refl
  change-mean names g scope effect.Add (more_forms (list no_form _) no_form) at = refl
  change-mean names g scope effect.Add (more_forms (list (more_forms (symbol text s) xs) a) no_form) at =
      target-mean add names g.predicates g.functions scope text xs s a
  change-mean names g scope effect.Add (more_forms (list (more_forms (integer z _) xs) a) no_form) at = refl
  change-mean names g scope effect.Add (more_forms (list (more_forms (list fs _) xs) a) no_form) at = refl
  change-mean names g scope effect.Add (more_forms f (more_forms h fs)) at = refl
  change-mean names g scope effect.Del no_form at = refl
  change-mean names g scope effect.Del (more_forms (symbol text _) no_form) at = refl
  change-mean names g scope effect.Del (more_forms (integer z _) no_form) at = refl
  change-mean names g scope effect.Del (more_forms (list no_form _) no_form) at = refl
  change-mean names g scope effect.Del (more_forms (list (more_forms (symbol text s) xs) a) no_form) at =
      target-mean del names g.predicates g.functions scope text xs s a
  change-mean names g scope effect.Del (more_forms (list (more_forms (integer z _) xs) a) no_form) at = refl
  change-mean names g scope effect.Del (more_forms (list (more_forms (list fs _) xs) a) no_form) at = refl
  change-mean names g scope effect.Del (more_forms f (more_forms h fs)) at = refl
  change-mean names g scope effect.Set no_form at = refl
  change-mean names g scope effect.Set (more_forms f no_form) at = refl
  change-mean names g scope effect.Set (more_forms (symbol text _) (more_forms v no_form)) at = refl
  change-mean names g scope effect.Set (more_forms (integer z _) (more_forms v no_form)) at = refl
  change-mean names g scope effect.Set (more_forms (list no_form _) (more_forms v no_form)) at = refl
  change-mean names g scope effect.Set (more_forms (list (more_forms (symbol text s) xs) a) (more_forms v no_form)) at =
      let place = call_breaks g.functions text (count xs) a ++ terms_breaks g.functions scope xs in
      let value = term-mean names g.functions scope v ∙ sym (end-unbroken (term_breaks g.functions scope v) _) in
      (λ i. option_both (λ (k : TermTree → EffectTree) t. k t) (target-mean
      (λ j ts t. assign j ts t) names g.functions g.functions scope text xs s a i) (value i))
      ∙ both-unbroken (λ (k : TermTree → EffectTree) t. k t) place (term_breaks g.functions scope v ++ []) _ _
  change-mean names g scope effect.Set (more_forms (list (more_forms (integer z _) xs) a) (more_forms v no_form)) at = refl
  change-mean names g scope effect.Set (more_forms (list (more_forms (list fs _) xs) a) (more_forms v no_form)) at = refl
  change-mean names g scope effect.Set (more_forms f (more_forms h (more_forms i fs))) at = refl
  change-mean names g scope effect.When no_form at = refl
  change-mean names g scope effect.When (more_forms c fs) at =
      (λ i. option_both when (formula-mean role.State names g scope c i) (effects-mean names g scope fs i))
      ∙ both-unbroken when (formula_breaks role.State g scope c) (effects_breaks g scope fs) _ _
  change-mean names g scope effect.Each no_form at = refl
  change-mean names g scope effect.Each (more_forms vs no_form) at = refl
  change-mean names g scope effect.Each (more_forms vs (more_forms b fs)) at =
      let inner = with_variables scope vs in
      let make = each (variables_meant names scope vs) in
      room-mean (is_variable_list vs) (is_crowded scope vs) at _ _ _
      (binding-mean scope vs b at (bound_breaks g inner b ++ effects_breaks g inner fs) _ _
      ((λ i. option_both make (bound-mean names g inner b i) (effects-mean names g inner fs i))
      ∙ both-unbroken make (bound_breaks g inner b) (effects_breaks g inner fs) _ _))
  change-mean names g scope effect.Other no_form at = refl
  change-mean names g scope effect.Other (more_forms f fs) at = refl

  pub effects-mean : (names : List (List ℕ)) (g : NameSignature) (scope : Scope) (fs : FormTrees) → effects_meaning names g scope fs ≡
      where_unbroken (effects_breaks g scope fs) (effects_meant names g scope fs)
  effects-mean names g scope no_form = refl
  effects-mean names g scope (more_forms f fs) =
      (λ i. option_both more_effects (effect-mean names g scope f i) (effects-mean names g scope fs i))
      ∙ both-unbroken more_effects (effect_breaks g scope f) (effects_breaks g scope fs) _ _

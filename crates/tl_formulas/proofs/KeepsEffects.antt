-- An effect that breaks nothing fits what is declared, has the slots of its scope free, is named, and has no temporal word in its
-- conditions.
use Rattle.std.proofs.Common.{◌≡◌, ◌<◌, ◌≤◌, ℕ, List, [], ◌++◌, true, false, length, refl, sym, subst}
use Rattle.std.specs.Prelude.{not, unwrap_or}
use Rattle.tl_sexpr.specs.Tree.{FormTree, FormTrees, symbol, integer, list, no_form, more_forms}
use Rattle.tl_syntax.specs.declared.bound.Bound.{Bound}
use Rattle.tl_syntax.specs.declared.variable.Var.{Var}
use Rattle.tl_syntax.specs.Effects.{EffectTree, EffectTrees, add, del, assign, when, each, no_effect, more_effects}
use Rattle.tl_syntax.specs.Fits.{EffectFits, EffectsFit, term_count}
use Rattle.tl_syntax.specs.FreeVariables.{slots_of, free_slots, effect_slots, effects_slots, terms_slots, term_slots}
use Rattle.tl_syntax.specs.Lists.{Each}
use Rattle.tl_syntax.specs.Named.{EffectIsNamed, EffectsAreNamed}
use Rattle.tl_syntax.specs.Signature as domain
use Rattle.tl_syntax.specs.Signature.{Takes}
use Rattle.tl_syntax.specs.StateFormulas.{IsState, EffectIsState, EffectsAreState}
use Rattle.tl_syntax.specs.Trees.{TermTrees, FormulaTree, verum}
use Rattle.tl_rules.specs.declared.rule.Rule.TheVariants.{Shape, Limit}
use Rattle.tl_rules.specs.Named.{HasNames, HaveNames}
use Rattle.tl_rules.specs.Parts.{count, is_call, elements_of, rest_of}
use Rattle.tl_rules.specs.Rules.{breaks_if}
use Rattle.tl_formulas.specs.declared.signature.NameSignature.{NameSignature}
use Rattle.tl_formulas.specs.declared.roles.FormulaRole.TheVariants as role
use Rattle.tl_formulas.specs.declared.words.EffectWord.{EffectWord}
use Rattle.tl_formulas.specs.declared.words.EffectWord.TheVariants as effect
use Rattle.tl_formulas.specs.Words.{effect_word}
use Rattle.tl_formulas.specs.Signatures.{Table, Scope, place_of, call_breaks}
use Rattle.tl_formulas.specs.Terms.{terms_breaks}
use Rattle.tl_formulas.specs.Bounds.{bound_breaks}
use Rattle.tl_formulas.specs.Variables.{variables_breaks, with_variables}
use Rattle.tl_formulas.specs.Formulas.{formula_breaks}
use Rattle.tl_formulas.specs.Effects.{has_effect_shape, is_crowded_by_effect, effect_list_breaks, target_breaks, effect_breaks}
use Rattle.tl_formulas.specs.Effects.{effect_parts_breaks, effects_breaks}
use Rattle.tl_formulas.specs.MeaningOfTerms.{first_term, terms_meant}
use Rattle.tl_formulas.specs.MeaningOfBounds.{call_place, bound_meant}
use Rattle.tl_formulas.specs.MeaningOfFormulas.{variables_meant}
use Rattle.tl_formulas.specs.MeaningOfEffects.{no_change, effect_meant, effect_list_meant, effects_meant}
use Rattle.tl_formulas.proofs.KeepsLists.{none-parts, test-fails, test-passes, Each-both}
use Rattle.tl_formulas.proofs.KeepsCalls.{arities, seen, called-takes}
use Rattle.tl_formulas.proofs.KeepsTerms.{TermsKeep, first-keeps, terms-count, terms-keep}
use Rattle.tl_formulas.proofs.KeepsFormulas.{FormulaKeeps, IsPlace, constant-keeps, QuantifierKeeps, quantifier-keeps, quantified-below}
use Rattle.tl_formulas.proofs.KeepsFormulas.{list-variables, formula-keeps}
use Rattle.tl_formulas.proofs.KeepsState.{formula-state}

-- an effect, and effects, below variables of some slots
pub record EffectKeeps (g : domain.Signature) (n : ℕ) (around : List ℕ) (k : ℕ) (e : EffectTree) : Type 0 where
  pub fits : EffectFits g around e
  pub below : Each (λ q. q < k) (effect_slots e)
  pub named : EffectIsNamed n e
  pub state : EffectIsState e

pub record EffectsKeep (g : domain.Signature) (n : ℕ) (around : List ℕ) (k : ℕ) (es : EffectTrees) : Type 0 where
  pub fits : EffectsFit g around es
  pub below : Each (λ q. q < k) (effects_slots es)
  pub named : EffectsAreNamed n es
  pub state : EffectsAreState es

pub nothing-keeps : (g : domain.Signature) (n : ℕ) (around : List ℕ) (k : ℕ) → EffectsKeep g n around k no_effect
unfolding EffectFits effect_slots EffectIsNamed
nothing-keeps g n around k = record { fits = tt; below = tt; named = tt; state = tt }

when-keeps : (g : domain.Signature) (n : ℕ) (around : List ℕ) (k : ℕ) (f : FormulaTree) (es : EffectTrees) → FormulaKeeps g n around k f →
    IsState f → EffectsKeep g n around k es → EffectKeeps g n around k (when f es)
unfolding EffectFits effect_slots EffectIsNamed
when-keeps g n around k f es h state later = record {
  fits = (h.fits, later.fits);
  below =
      Each-both (λ q. q < k) (free_slots f) (effects_slots es) h.below later.below;
  named = (h.named, later.named);
  state =
      (state, later.state);
}

change-keeps : (g : domain.Signature) (n : ℕ) (around : List ℕ) (k : ℕ) → EffectKeeps g n around k no_change
change-keeps g n around k = when-keeps g n around k verum no_effect (constant-keeps g n around k) tt (nothing-keeps g n around k)

each-keeps : (g : domain.Signature) (n : ℕ) (around : List ℕ) (k higher : ℕ) (vs : List Var) (b : Bound) (es : EffectTrees) →
    QuantifierKeeps g n around k higher vs b → EffectsKeep g n (slots_of vs ++ around) higher es → EffectKeeps g n around k (each vs b es)
unfolding EffectFits effect_slots EffectIsNamed
each-keeps g n around k higher vs b es h later = record {
  fits = (h.variables, later.fits);
  below = quantified-below g n around k higher vs b (effects_slots es) h later.below;
  named = (h.named, h.bound_named, later.named);
  state = later.state;
}

both-keep : (g : domain.Signature) (n : ℕ) (around : List ℕ) (k : ℕ) (e : EffectTree) (es : EffectTrees) → EffectKeeps g n around k e →
    EffectsKeep g n around k es → EffectsKeep g n around k (more_effects e es)
unfolding EffectFits effect_slots EffectIsNamed
both-keep g n around k e es h later = record {
  fits = (h.fits, later.fits);
  below =
      Each-both (λ q. q < k) (effect_slots e) (effects_slots es) h.below later.below;
  named = (h.named, later.named);
  state =
      (h.state, later.state);
}

-- the fact or the place of an effect takes its terms, which keep what terms keep
pub record TargetKeeps (g : domain.Signature) (taken : List ℕ) (n k p : ℕ) (ts : TermTrees) : Type 0 where
  pub takes : Takes taken p (term_count ts)
  pub terms : TermsKeep g n k ts

target-keeps : (names : List (List ℕ)) (g : NameSignature) (table : Table) (scope : Scope) (f : FormTree) → length scope ≤ 32 →
    HasNames names f → is_call f ≡ true → target_breaks table g.functions scope f ≡ [] →
    TargetKeeps (seen g) (arities table) (length names) (length scope) (call_place table f)
    (terms_meant names g.functions scope (rest_of f))
target-keeps names g table scope (symbol text at) few has call none = cc
target-keeps names g table scope (integer z at) few has call none = cc
target-keeps names g table scope (list no_form at) few has call none = cc
target-keeps names g table scope (list (more_forms (symbol text s) rest) at) few has call none =
    let parts = none-parts (call_breaks table text (count rest) at) (terms_breaks g.functions scope rest) none in
    record {
      takes = subst (λ (m : ℕ). Takes (arities table) (unwrap_or (place_of table text) 0) m)
          (sym (terms-count names g.functions scope rest)) (called-takes table text (count rest) at parts.0);
      terms = terms-keep names g scope rest few has.1 parts.1;
    }
target-keeps names g table scope (list (more_forms (integer z s) rest) at) few has call none = cc
target-keeps names g table scope (list (more_forms (list fs s) rest) at) few has call none = cc

add-keeps : (g : domain.Signature) (n : ℕ) (around : List ℕ) (k p : ℕ) (ts : TermTrees) → TargetKeeps g g.predicates n k p ts →
    EffectKeeps g n around k (add p ts)
unfolding EffectFits effect_slots EffectIsNamed
add-keeps g n around k p ts h = record { fits = (h.takes, h.terms.fits); below = h.terms.below; named = h.terms.named; state = tt }

del-keeps : (g : domain.Signature) (n : ℕ) (around : List ℕ) (k p : ℕ) (ts : TermTrees) → TargetKeeps g g.predicates n k p ts →
    EffectKeeps g n around k (del p ts)
unfolding EffectFits effect_slots EffectIsNamed
del-keeps g n around k p ts h = record { fits = (h.takes, h.terms.fits); below = h.terms.below; named = h.terms.named; state = tt }

set-keeps : (g : domain.Signature) (n : ℕ) (around : List ℕ) (k f : ℕ) (ts us : TermTrees) → TargetKeeps g g.functions n k f ts →
    TermsKeep g n k us → EffectKeeps g n around k (assign f ts (first_term us))
unfolding EffectFits effect_slots EffectIsNamed
set-keeps g n around k f ts us h later =
    let first = first-keeps g n k us later in
    record {
      fits = (h.takes, h.terms.fits, first.fits);
      below = Each-both (λ q. q < k) (terms_slots ts)
          (term_slots (first_term us)) h.terms.below first.below;
      named = (h.terms.named, first.named);
      state = tt;
    }

-- what the list of an effect itself does not break
pub record ListBreaksNothing (scope : Scope) (w : EffectWord) (rest : FormTrees) : Type 0 where
  pub shape : has_effect_shape w rest ≡ true
  pub few : is_crowded_by_effect scope w rest ≡ false

own-parts : (scope : Scope) (w : EffectWord) (rest : FormTrees) (at : ℕ) → effect_list_breaks scope w rest at ≡ [] →
    ListBreaksNothing scope w rest
own-parts scope w rest at none =
    let parts = none-parts (breaks_if (not (has_effect_shape w rest)) Shape at)
    (breaks_if (is_crowded_by_effect scope w rest) Limit at) none in
    record {
      shape = test-passes (has_effect_shape w rest) Shape at parts.0;
      few =
          test-fails (is_crowded_by_effect scope w rest) Limit at parts.1;
    }

fact-call : (f : FormTree) (fs : FormTrees) → has_effect_shape effect.Add (more_forms f fs) ≡ true → is_call f ≡ true
fact-call f no_form h = h
fact-call f (more_forms i fs) h = cc

place-call : (f : FormTree) (fs : FormTrees) → has_effect_shape effect.Set (more_forms f fs) ≡ true → is_call f ≡ true
place-call f no_form h = cc
place-call f (more_forms i no_form) h = h
place-call f (more_forms i (more_forms j fs)) h = cc

mutual
  unfolding effect_breaks effect_meant

  pub effect-keeps : (names : List (List ℕ)) (g : NameSignature) (around : List ℕ) (scope : Scope) (f : FormTree) → IsPlace g around scope →
      HasNames names f → effect_breaks g scope f ≡ [] → EffectKeeps (seen g) (length names) around (length scope)
      (effect_meant names g scope f)
  effect-keeps names g around scope (symbol text at) place has none = cc
  effect-keeps names g around scope (integer z at) place has none = cc
  effect-keeps names g around scope (list no_form at) place has none = cc
  effect-keeps names g around scope (list (more_forms (symbol text s) rest) at) place has none =
      let parts = none-parts (effect_list_breaks scope (effect_word text) rest at)
      (effect_parts_breaks g scope (effect_word text) rest) none in
      effect_list-keeps names g around scope (effect_word text) rest place has.1
      (own-parts scope (effect_word text) rest at parts.0) parts.1
  effect-keeps names g around scope (list (more_forms (integer z s) rest) at) place has none = cc
  effect-keeps names g around scope (list (more_forms (list fs s) rest) at) place has none = cc

  effect_list-keeps : (names : List (List ℕ)) (g : NameSignature) (around : List ℕ) (scope : Scope) (w : EffectWord) (fs : FormTrees) →
      IsPlace g around scope → HaveNames names fs → ListBreaksNothing scope w fs → effect_parts_breaks g scope w fs ≡ [] →
      EffectKeeps (seen g) (length names) around (length scope) (effect_list_meant names g scope w fs)
  effect_list-keeps names g around scope w no_form place has own none = change-keeps (seen g) (length names) around (length scope)
  effect_list-keeps names g around scope effect.Add (more_forms fact rest) place has own none =
      add-keeps (seen g) (length names) around (length scope) (call_place g.predicates fact)
      (terms_meant names g.functions scope (rest_of fact)) (target-keeps names g g.predicates scope fact place.few has.0
      (fact-call fact rest own.shape) none)
  effect_list-keeps names g around scope effect.Del (more_forms fact rest) place has own none =
      del-keeps (seen g) (length names) around (length scope) (call_place g.predicates fact)
      (terms_meant names g.functions scope (rest_of fact)) (target-keeps names g g.predicates scope fact place.few has.0
      (fact-call fact rest own.shape) none)
  effect_list-keeps names g around scope effect.Set (more_forms target terms) place has own none =
      let parts = none-parts (target_breaks g.functions g.functions scope target) (terms_breaks g.functions scope terms) none in
      set-keeps (seen g) (length names) around (length scope) (call_place g.functions target)
      (terms_meant names g.functions scope (rest_of target)) (terms_meant names g.functions scope terms)
      (target-keeps names g g.functions scope target place.few has.0 (place-call target terms own.shape) parts.0)
      (terms-keep names g scope terms place.few has.1 parts.1)
  effect_list-keeps names g around scope effect.When (more_forms condition effects) place has own none =
      let parts = none-parts (formula_breaks role.State g scope condition) (effects_breaks g scope effects) none in
      when-keeps (seen g) (length names) around (length scope) _ _ (formula-keeps names role.State g around scope condition place has.0
      parts.0) (formula-state names role.State g scope condition refl parts.0)
      (effects-keep names g around scope effects place has.1 parts.1)
  effect_list-keeps names g around scope effect.Each (more_forms vs no_form) place has own none =
      change-keeps (seen g) (length names) around (length scope)
  effect_list-keeps names g around scope effect.Each (more_forms vs (more_forms b effects)) place has own none =
      let parts = none-parts (variables_breaks [] scope b (elements_of vs))
      (bound_breaks g (with_variables scope vs) b ++ effects_breaks g (with_variables scope vs) effects) none in
      let later = none-parts (bound_breaks g (with_variables scope vs) b) (effects_breaks g (with_variables scope vs) effects) parts.1 in
      let head = quantifier-keeps names g around scope vs b place has.0 has.1.0 (list-variables vs own.shape) own.few parts.0 later.0 in
      each-keeps (seen g) (length names) around (length scope) (length (with_variables scope vs)) (variables_meant names scope vs)
      (bound_meant names g (with_variables scope vs) b) _ head.0 (effects-keep names g
      (slots_of (variables_meant names scope vs) ++ around) (with_variables scope vs) effects head.1 has.1.1 later.1)
  effect_list-keeps names g around scope effect.Other (more_forms f fs) place has own none =
      change-keeps (seen g) (length names) around (length scope)

  pub effects-keep : (names : List (List ℕ)) (g : NameSignature) (around : List ℕ) (scope : Scope) (fs : FormTrees) →
      IsPlace g around scope → HaveNames names fs → effects_breaks g scope fs ≡ [] →
      EffectsKeep (seen g) (length names) around (length scope) (effects_meant names g scope fs)
  effects-keep names g around scope no_form place has none = nothing-keeps (seen g) (length names) around (length scope)
  effects-keep names g around scope (more_forms f fs) place has none =
      let parts = none-parts (effect_breaks g scope f) (effects_breaks g scope fs) none in
      both-keep (seen g) (length names) around (length scope) _ _ (effect-keeps names g around scope f place has.0 parts.0)
      (effects-keep names g around scope fs place has.1 parts.1)

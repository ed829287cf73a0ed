-- The values that forms write down for what effects add or set are no variables.
use Rattle.std.proofs.Common.{◌≡◌, ℕ, List, Bool, true, false, not, length, Some, None, cond, refl, sym, ap, ◌∙◌}
use Rattle.std.specs.Prelude.{Option, unwrap_or, slice_get}
use Rattle.std.specs.List.{list_any}
use Rattle.std.specs.Option.{option_map_or}
use Rattle.std.specs.Str.{bytes_eq}
use Rattle.std.proofs.lemmas.Bool.{true≢false}
use Rattle.tl_sexpr.specs.Tree.{FormTree, FormTrees, symbol, integer, list, no_form, more_forms}
use Rattle.tl_syntax.specs.declared.value.Op.{Op}
use Rattle.tl_syntax.specs.declared.value.Value.TheVariants.{Sym}
use Rattle.tl_syntax.specs.declared.variable.Arg.TheVariants as arg
use Rattle.tl_syntax.specs.Texts.{number_of}
use Rattle.tl_syntax.specs.Trees.{TermTrees, no_term, more_terms}
use Rattle.tl_syntax.specs.ValueTests.{TermPasses, TermsPass, EffectPasses, EffectsPass}
use Rattle.tl_syntax.proofs.Texts.{number_of-Some, list_any-from_no_number}
use Rattle.tl_rules.specs.Named.{HasNames, HaveNames}
use Rattle.tl_rules.specs.Parts.{is_variable, rest_of}
use Rattle.tl_rules.specs.Symbols.{number_in}
use Rattle.tl_formulas.specs.declared.signature.NameSignature.{NameSignature}
use Rattle.tl_formulas.specs.declared.words.EffectWord.{EffectWord}
use Rattle.tl_formulas.specs.declared.words.EffectWord.TheVariants as effect
use Rattle.tl_formulas.specs.Words.{effect_word, operation_named}
use Rattle.tl_formulas.specs.Signatures.{Table, Scope, place_of}
use Rattle.tl_formulas.specs.Variables.{with_variables}
use Rattle.tl_formulas.specs.MeaningOfTerms.{variable_meant, term_of_argument, first_term, second_term, call_meant, term_meant}
use Rattle.tl_formulas.specs.MeaningOfTerms.{term_list_meant, terms_meant}
use Rattle.tl_formulas.specs.MeaningOfEffects.{effect_meant, effect_list_meant, effects_meant}
use Rattle.tl_formulas.proofs.KeepsGoals.{rest-has}
use Rattle.tl_domain.specs.LawsNames.{is_constant}

-- the text of a name stands at its number
pub name-at : (names : List (List ℕ)) (text : List ℕ) → list_any (bytes_eq text) names ≡ true → slice_get names (number_in names text) ≡
    Some text
name-at names text has = by_answer (number_of names text) refl
  where
    by_answer : (answer : Option ℕ) → number_of names text ≡ answer → slice_get names (unwrap_or answer (length names)) ≡ Some text
    by_answer None absent = absurd (true≢false (sym has ∙ list_any-from_no_number names text absent))
    by_answer (Some n) found = number_of-Some names text n found

pub name-passes : (names : List (List ℕ)) (text : List ℕ) → list_any (bytes_eq text) names ≡ true → is_variable text ≡ false →
    is_constant names (Sym (number_in names text)) ≡ true
name-passes names text has plain = ap (λ (o : Option (List ℕ)). option_map_or (λ t. not (is_variable t)) o false) (name-at names text has) ∙
    ap not plain

-- a symbol as a term, by whether it is a variable
symbol-passes : (names : List (List ℕ)) (scope : Scope) (text : List ℕ) (b : Bool) → list_any (bytes_eq text) names ≡ true →
    is_variable text ≡ b → TermPasses (is_constant names) (term_of_argument
    (cond b (arg.Var (variable_meant names scope text)) (arg.Val (Sym (number_in names text)))))
unfolding TermPasses
symbol-passes names scope text true has is = tt
symbol-passes names scope text false has is = name-passes names text has is

first-passes : (names : List (List ℕ)) (ts : TermTrees) → TermsPass (is_constant names) ts → TermPasses (is_constant names) (first_term ts)
unfolding TermPasses
first-passes names no_term h = refl
first-passes names (more_terms t ts) h = h.0

second-passes : (names : List (List ℕ)) (ts : TermTrees) → TermsPass (is_constant names) ts →
    TermPasses (is_constant names) (second_term ts)
unfolding TermPasses
second-passes names no_term h = refl
second-passes names (more_terms t ts) h = first-passes names ts h.1

call-passes : (names : List (List ℕ)) (op : Option Op) (function : Option ℕ) (ts : TermTrees) (at : ℕ) → TermsPass (is_constant names) ts →
    TermPasses (is_constant names) (call_meant op function ts at)
unfolding TermPasses
call-passes names (Some op) function ts at h = (first-passes names ts h, second-passes names ts h)
call-passes names None function ts at h = h

mutual
  unfolding term_meant TermPasses

  term-passes : (names : List (List ℕ)) (functions : Table) (scope : Scope) (f : FormTree) → HasNames names f →
      TermPasses (is_constant names) (term_meant names functions scope f)
  term-passes names functions scope (symbol text at) has = symbol-passes names scope text (is_variable text) has refl
  term-passes names functions scope (integer z at) has = refl
  term-passes names functions scope (list fs at) has = term_list-passes names functions scope fs at has

  term_list-passes : (names : List (List ℕ)) (functions : Table) (scope : Scope) (fs : FormTrees) (at : ℕ) → HaveNames names fs →
      TermPasses (is_constant names) (term_list_meant names functions scope fs at)
  term_list-passes names functions scope no_form at has = refl
  term_list-passes names functions scope (more_forms (symbol text s) rest) at has =
      call-passes names (operation_named text) (place_of functions text) (terms_meant names functions scope rest) at
      (terms-pass names functions scope rest has.1)
  term_list-passes names functions scope (more_forms (integer z s) rest) at has = refl
  term_list-passes names functions scope (more_forms (list fs s) rest) at has = refl

  terms-pass : (names : List (List ℕ)) (functions : Table) (scope : Scope) (fs : FormTrees) → HaveNames names fs →
      TermsPass (is_constant names) (terms_meant names functions scope fs)
  terms-pass names functions scope no_form has = tt
  terms-pass names functions scope (more_forms f fs) has = (
    term-passes names functions scope f has.0,
    terms-pass names functions scope fs has.1,
  )

mutual
  unfolding effect_meant EffectPasses

  effect-passes : (names : List (List ℕ)) (g : NameSignature) (scope : Scope) (f : FormTree) → HasNames names f →
      EffectPasses (is_constant names) (effect_meant names g scope f)
  effect-passes names g scope (symbol text at) has = tt
  effect-passes names g scope (integer z at) has = tt
  effect-passes names g scope (list no_form at) has = tt
  effect-passes names g scope (list (more_forms (symbol text s) rest) at) has =
      effect_list-passes names g scope (effect_word text) rest has.1
  effect-passes names g scope (list (more_forms (integer z s) rest) at) has = tt
  effect-passes names g scope (list (more_forms (list fs s) rest) at) has = tt

  effect_list-passes : (names : List (List ℕ)) (g : NameSignature) (scope : Scope) (w : EffectWord) (fs : FormTrees) → HaveNames names fs →
      EffectPasses (is_constant names) (effect_list_meant names g scope w fs)
  effect_list-passes names g scope w no_form has = tt
  effect_list-passes names g scope effect.Add (more_forms fact rest) has =
      terms-pass names g.functions scope (rest_of fact) (rest-has names fact has.0)
  effect_list-passes names g scope effect.Del (more_forms fact rest) has = tt
  effect_list-passes names g scope effect.Set (more_forms place terms) has = (
    terms-pass names g.functions scope (rest_of place) (rest-has names place has.0),
    first-passes names (terms_meant names g.functions scope terms) (terms-pass names g.functions scope terms has.1),
  )
  effect_list-passes names g scope effect.When (more_forms condition effects) has = effects-pass names g scope effects has.1
  effect_list-passes names g scope effect.Each (more_forms vs no_form) has = tt
  effect_list-passes names g scope effect.Each (more_forms vs (more_forms b effects)) has =
      effects-pass names g (with_variables scope vs) effects has.1.1
  effect_list-passes names g scope effect.Other (more_forms f fs) has = tt

  pub effects-pass : (names : List (List ℕ)) (g : NameSignature) (scope : Scope) (fs : FormTrees) → HaveNames names fs →
      EffectsPass (is_constant names) (effects_meant names g scope fs)
  effects-pass names g scope no_form has = tt
  effects-pass names g scope (more_forms f fs) has = (effect-passes names g scope f has.0, effects-pass names g scope fs has.1)

-- What effects break and stand for, by the parts of their lists.
use Rattle.std.proofs.Common.{◌≡◌, ℕ, List, [], ◌∷◌, ◌++◌, false, refl, sym, append_assoc}
use Rattle.tl_sexpr.specs.Tree.{FormTree, FormTrees, symbol, integer, list, no_form, more_forms}
use Rattle.tl_syntax.specs.Effects.{add, del, assign, when, each}
use Rattle.tl_rules.specs.declared.rule.Rule.TheVariants.{Shape}
use Rattle.tl_rules.specs.Parts.{offset_of, is_call, elements_of, rest_of}
use Rattle.tl_formulas.specs.declared.roles.FormulaRole.TheVariants as role
use Rattle.tl_formulas.specs.declared.signature.NameSignature.{NameSignature}
use Rattle.tl_formulas.specs.declared.words.EffectWord.TheVariants as effect
use Rattle.tl_formulas.specs.Words.{effect_word}
use Rattle.tl_formulas.specs.Signatures.{Scope}
use Rattle.tl_formulas.specs.Terms.{term_breaks}
use Rattle.tl_formulas.specs.Bounds.{bound_breaks}
use Rattle.tl_formulas.specs.Variables.{variables_breaks, with_variables}
use Rattle.tl_formulas.specs.Formulas.{binding_breaks, formula_breaks}
use Rattle.tl_formulas.specs.Effects.{target_breaks, effect_list_breaks, effect_breaks, effect_parts_breaks, effects_breaks}
use Rattle.tl_formulas.specs.MeaningOfTerms.{term_meant, terms_meant}
use Rattle.tl_formulas.specs.MeaningOfBounds.{call_place, bound_meant}
use Rattle.tl_formulas.specs.MeaningOfFormulas.{variables_meant, formula_meant}
use Rattle.tl_formulas.specs.MeaningOfEffects.{effect_meant, effect_list_meant, effects_meant}

-- effects by their forms
pub effect-called : (g : NameSignature) (s : Scope) (text : List ℕ) (k : ℕ) (rest : FormTrees) (at : ℕ)
    → effect_breaks g s (list (more_forms (symbol text k) rest) at) ≡ effect_list_breaks s (effect_word text) rest at ++
    effect_parts_breaks g s (effect_word text) rest
unfolding effect_breaks
effect-called g s text k rest at = refl

pub effect-called-meant : (names : List (List ℕ)) (g : NameSignature) (s : Scope) (text : List ℕ) (k : ℕ) (rest : FormTrees) (at : ℕ)
    → effect_meant names g s (list (more_forms (symbol text k) rest) at) ≡ effect_list_meant names g s (effect_word text) rest
unfolding effect_meant
effect-called-meant names g s text k rest at = refl

pub effect-uncalled : (g : NameSignature) (s : Scope) (f : FormTree) → is_call f ≡ false → effect_breaks g s f ≡ (Shape, offset_of f) ∷ []
unfolding effect_breaks
effect-uncalled g s (symbol text at) none = refl
effect-uncalled g s (integer z at) none = refl
effect-uncalled g s (list no_form at) none = refl
effect-uncalled g s (list (more_forms (symbol text k) rest) at) none = cc
effect-uncalled g s (list (more_forms (integer z k) rest) at) none = refl
effect-uncalled g s (list (more_forms (list gs k) rest) at) none = refl

-- effects by the parts of their lists
pub parts-add : (g : NameSignature) (s : Scope) (fact : FormTree) → effect_parts_breaks g s effect.Add (more_forms fact no_form) ≡
    target_breaks g.predicates g.functions s fact
unfolding effect_breaks
parts-add g s fact = refl

pub parts-add-meant : (names : List (List ℕ)) (g : NameSignature) (s : Scope) (fact : FormTree) →
    effect_list_meant names g s effect.Add (more_forms fact no_form) ≡
    add (call_place g.predicates fact) (terms_meant names g.functions s (rest_of fact))
unfolding effect_meant
parts-add-meant names g s fact = refl

pub parts-del : (g : NameSignature) (s : Scope) (fact : FormTree) → effect_parts_breaks g s effect.Del (more_forms fact no_form) ≡
    target_breaks g.predicates g.functions s fact
unfolding effect_breaks
parts-del g s fact = refl

pub parts-del-meant : (names : List (List ℕ)) (g : NameSignature) (s : Scope) (fact : FormTree) →
    effect_list_meant names g s effect.Del (more_forms fact no_form) ≡
    del (call_place g.predicates fact) (terms_meant names g.functions s (rest_of fact))
unfolding effect_meant
parts-del-meant names g s fact = refl

pub parts-set : (g : NameSignature) (s : Scope) (place value : FormTree) →
    effect_parts_breaks g s effect.Set (more_forms place (more_forms value no_form)) ≡ target_breaks g.functions g.functions s place ++
    (term_breaks g.functions s value ++ [])
unfolding effect_breaks term_breaks
parts-set g s place value = refl

pub parts-set-meant : (names : List (List ℕ)) (g : NameSignature) (s : Scope) (place value : FormTree)
    → effect_list_meant names g s effect.Set (more_forms place (more_forms value no_form)) ≡
    assign (call_place g.functions place) (terms_meant names g.functions s (rest_of place)) (term_meant names g.functions s value)
unfolding effect_meant term_meant
parts-set-meant names g s place value = refl

pub parts-when : (g : NameSignature) (s : Scope) (condition : FormTree) (es : FormTrees) →
    effect_parts_breaks g s effect.When (more_forms condition es) ≡ formula_breaks role.State g s condition ++ effects_breaks g s es
unfolding effect_breaks
parts-when g s condition es = refl

pub parts-when-meant : (names : List (List ℕ)) (g : NameSignature) (s : Scope) (condition : FormTree) (es : FormTrees) →
    effect_list_meant names g s effect.When (more_forms condition es) ≡
    when (formula_meant names g s condition) (effects_meant names g s es)
unfolding effect_meant
parts-when-meant names g s condition es = refl

pub parts-each : (g : NameSignature) (s : Scope) (vs b : FormTree) (es : FormTrees)
    → effect_parts_breaks g s effect.Each (more_forms vs (more_forms b es)) ≡ binding_breaks g s vs b ++
    effects_breaks g (with_variables s vs) es
unfolding effect_breaks
parts-each g s vs b es = sym (append_assoc (variables_breaks [] s b (elements_of vs)) (bound_breaks g (with_variables s vs) b)
    (effects_breaks g (with_variables s vs) es))

pub parts-each-meant : (names : List (List ℕ)) (g : NameSignature) (s : Scope) (vs b : FormTree) (es : FormTrees)
    → effect_list_meant names g s effect.Each (more_forms vs (more_forms b es)) ≡
    each (variables_meant names s vs) (bound_meant names g (with_variables s vs) b) (effects_meant names g (with_variables s vs) es)
unfolding effect_meant
parts-each-meant names g s vs b es = refl

pub ruleset effect_forms = (effect-called, effect-called-meant, effect-uncalled)

pub ruleset effect_parts = (
  parts-add,
  parts-add-meant,
  parts-del,
  parts-del-meant,
  parts-set,
  parts-set-meant,
  parts-when,
  parts-when-meant,
  parts-each,
  parts-each-meant,
)

-- Effects: the rules that a form breaks in the role of an effect.
use Rattle.std.specs.Prelude.{ℕ, List, [], ◌∷◌, ◌++◌, Bool, true, false, not}
use Rattle.tl_sexpr.specs.Tree.{FormTree, FormTrees, symbol, integer, list, no_form, more_forms}
use Rattle.tl_formulas.specs.declared.words.EffectWord.{EffectWord}
use Rattle.tl_formulas.specs.declared.words.EffectWord.TheVariants as effect
use Rattle.tl_formulas.specs.declared.roles.FormulaRole.TheVariants as role
use Rattle.tl_rules.specs.declared.rule.Rule.TheVariants.{Shape, Limit}
use Rattle.tl_formulas.specs.declared.signature.NameSignature.{NameSignature}
use Rattle.tl_rules.specs.Rules.{Break, breaks_if}
use Rattle.tl_formulas.specs.Words.{effect_word}
use Rattle.tl_rules.specs.Parts.{count, is_call, is_variable_list, elements_of}
use Rattle.tl_formulas.specs.Signatures.{Table, Scope, call_breaks}
use Rattle.tl_formulas.specs.Terms.{terms_breaks}
use Rattle.tl_formulas.specs.Bounds.{bound_breaks}
use Rattle.tl_formulas.specs.Variables.{variables_breaks, with_variables, is_crowded}
use Rattle.tl_formulas.specs.Formulas.{formula_breaks}

-- the elements are a fact, as `add` and `del` ask for
abbrev pub has_target_shape : FormTrees → Bool
has_target_shape (more_forms fact no_form) = is_call fact
has_target_shape _ = false

-- the elements are a place and a term, as `set` asks for
abbrev pub has_set_shape : FormTrees → Bool
has_set_shape (more_forms place (more_forms term no_form)) = is_call place
has_set_shape _ = false

-- the elements are a condition and any number of effects, as `when` asks for
abbrev pub has_when_shape : FormTrees → Bool
has_when_shape (more_forms condition effects) = true
has_when_shape no_form = false

-- the elements are variables, a bound and any number of effects, as `each` asks for
abbrev pub has_each_shape : FormTrees → Bool
has_each_shape (more_forms vs (more_forms b effects)) = is_variable_list vs
has_each_shape _ = false

-- the elements after such a first word have the shape that it asks for
abbrev pub has_effect_shape : EffectWord → FormTrees → Bool
has_effect_shape effect.Add rest = has_target_shape rest
has_effect_shape effect.Del rest = has_target_shape rest
has_effect_shape effect.Set rest = has_set_shape rest
has_effect_shape effect.When rest = has_when_shape rest
has_effect_shape effect.Each rest = has_each_shape rest
has_effect_shape effect.Other rest = false

-- with the variables of an `each` more than 32 are in scope
abbrev pub is_crowded_by_effect : Scope → EffectWord → FormTrees → Bool
is_crowded_by_effect scope effect.Each (more_forms vs rest) = is_crowded scope vs
is_crowded_by_effect scope _ _ = false

-- what the list of an effect breaks itself
abbrev pub effect_list_breaks : Scope → EffectWord → FormTrees → ℕ → List Break
effect_list_breaks scope w rest at = breaks_if (not (has_effect_shape w rest)) Shape at ++
    breaks_if (is_crowded_by_effect scope w rest) Limit at

-- what `(n T*)` breaks, with its terms, where it should name something of the table
abbrev pub target_breaks : Table → Table → Scope → FormTree → List Break
target_breaks table functions scope (list (more_forms (symbol text _) rest) at) =
    call_breaks table text (count rest) at ++ terms_breaks functions scope rest
target_breaks table functions scope _ = []

unfoldable mutual
  -- what an effect breaks, with its parts
  pub effect_breaks : NameSignature → Scope → FormTree → List Break
  effect_breaks g scope (symbol text at) = (Shape, at) ∷ []
  effect_breaks g scope (integer z at) = (Shape, at) ∷ []
  effect_breaks g scope (list no_form at) = (Shape, at) ∷ []
  effect_breaks g scope (list (more_forms (symbol text _) rest) at) =
      effect_list_breaks scope (effect_word text) rest at ++ effect_parts_breaks g scope (effect_word text) rest
  effect_breaks g scope (list (more_forms (integer z _) rest) at) = (Shape, at) ∷ []
  effect_breaks g scope (list (more_forms (list fs _) rest) at) = (Shape, at) ∷ []

  -- what the elements after such a first word break: a fact, a place and a term, a condition and
  -- effects, or variables with their bound and effects
  pub effect_parts_breaks : NameSignature → Scope → EffectWord → FormTrees → List Break
  effect_parts_breaks g scope w no_form = []
  effect_parts_breaks g scope effect.Add (more_forms fact rest) = target_breaks g.predicates g.functions scope fact
  effect_parts_breaks g scope effect.Del (more_forms fact rest) = target_breaks g.predicates g.functions scope fact
  effect_parts_breaks g scope effect.Set (more_forms place terms) =
      target_breaks g.functions g.functions scope place ++ terms_breaks g.functions scope terms
  effect_parts_breaks g scope effect.When (more_forms condition effects) =
      formula_breaks role.State g scope condition ++ effects_breaks g scope effects
  effect_parts_breaks g scope effect.Each (more_forms vs no_form) = []
  effect_parts_breaks g scope effect.Each (more_forms vs (more_forms b effects)) =
      variables_breaks [] scope b (elements_of vs)
      ++ (bound_breaks g (with_variables scope vs) b ++ effects_breaks g (with_variables scope vs) effects)
  effect_parts_breaks g scope effect.Other (more_forms f fs) = []

  -- what effects break
  pub effects_breaks : NameSignature → Scope → FormTrees → List Break
  effects_breaks g scope no_form = []
  effects_breaks g scope (more_forms f fs) = effect_breaks g scope f ++ effects_breaks g scope fs

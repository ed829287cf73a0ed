-- The order of what formulas and effects break.
use Rattle.std.proofs.Common.{◌≡◌, ℕ, ◌+◌, ◌*◌, ◌≤◌, List, refl, arith, Some, None}
use Rattle.std.specs.Prelude.{Option, ◌&&◌, ◌||◌, not}
use Rattle.tl_sexpr.specs.Tree.{FormTree, FormTrees, symbol, integer, list, no_form, more_forms}
use Rattle.tl_formulas.specs.declared.roles.FormulaRole.{FormulaRole}
use Rattle.tl_formulas.specs.declared.roles.FormulaRole.TheVariants as role
use Rattle.tl_rules.specs.declared.rule.Rule.TheVariants.{Shape, Arity, Temporal, Limit}
use Rattle.tl_formulas.specs.declared.signature.NameSignature.{NameSignature}
use Rattle.tl_formulas.specs.declared.words.FormulaWord.{FormulaWord}
use Rattle.tl_formulas.specs.declared.words.FormulaWord.TheVariants as word
use Rattle.tl_formulas.specs.declared.words.EffectWord.{EffectWord}
use Rattle.tl_formulas.specs.declared.words.EffectWord.TheVariants as effect
use Rattle.tl_formulas.specs.Words.{formula_word, effect_word}
use Rattle.tl_rules.specs.Parts.{count, is_within}
use Rattle.tl_formulas.specs.Signatures.{Table, Scope, place_of, has_arity}
use Rattle.tl_formulas.specs.Variables.{with_variables}
use Rattle.tl_formulas.specs.Formulas.{has_formula_shape, is_temporal, may_be_temporal, is_crowded_by, is_too_deep, is_constant, role_below}
use Rattle.tl_formulas.specs.Formulas.{atom_breaks, name_breaks, steps_breaks, formula_list_breaks, goals_breaks, formula_breaks}
use Rattle.tl_formulas.specs.Formulas.{formula_parts_breaks, formulas_breaks}
use Rattle.tl_formulas.specs.Effects as changes
use Rattle.tl_formulas.specs.Effects.{has_effect_shape, effect_list_breaks, target_breaks, effect_breaks, effect_parts_breaks}
use Rattle.tl_formulas.specs.Effects.{effects_breaks}
use Rattle.tl_sexpr.specs.Offsets.{RisesFrom, RiseFrom}
use Rattle.tl_rules.proofs.Order.{IsInOrder, from, up_to, both, none, one, tested}
use Rattle.tl_rules.proofs.Offsets.{form-within, forms-within}
use Rattle.tl_formulas.proofs.FormOrder.{call-order, terms-order, goal-order, bound-order, variable_list-order}

atom-order : (g : NameSignature) (text : List ℕ) (n at low high : ℕ) → low ≤ 64 * at + 11 → 64 * at + 13 ≤ high →
    IsInOrder low (atom_breaks g text n at) high
atom-order g text n at low high before after = found (place_of g.predicates text) refl
  where
    found : (place : Option ℕ) → place_of g.predicates text ≡ place → IsInOrder low (atom_breaks g text n at) high
    found None is = rw is (call-order g.definitions text n at low high before after)
    found (Some i) is = rw is (tested (not (has_arity g.predicates i n)) Arity at low high (omega arith) (omega arith))

name-order : (g : NameSignature) (w : FormulaWord) (text : List ℕ) (rest : FormTrees) (at low high : ℕ) → low ≤ 64 * at + 11 →
    64 * at + 13 ≤ high → IsInOrder low (name_breaks g w text rest at) high
name-order g word.Name text rest at low high before after = atom-order g text (count rest) at low high before after
name-order g _ text rest at low high before after = none low high (omega arith)

formula_list-order : (r : FormulaRole) (g : NameSignature) (scope : Scope) (w : FormulaWord) (text : List ℕ) (rest : FormTrees) (at : ℕ) →
    IsInOrder (64 * at) (formula_list_breaks r g scope w text rest at) (64 * (at + 1))
formula_list-order r g scope w text rest at =
    both (64 * at) (64 * at + 10) (64 * (at + 1)) _ _
    (tested (not (has_formula_shape w rest)) Shape at (64 * at) (64 * at + 10) (omega arith) (omega arith))
    (both (64 * at + 10) (64 * at + 13) (64 * (at + 1)) _ _
    (name-order g w text rest at (64 * at + 10) (64 * at + 13) (omega arith) (omega arith))
    (both (64 * at + 13) (64 * at + 17) (64 * (at + 1)) _ _
    (tested (is_temporal w && not (may_be_temporal r)) Temporal at (64 * at + 13) (64 * at + 17) (omega arith) (omega arith))
    (tested (is_crowded_by scope w rest || is_too_deep r rest) Limit at (64 * at + 17) (64 * (at + 1)) (omega arith) (omega arith))))

goals-order : (g : NameSignature) (scope : Scope) (fs : FormTrees) (low next : ℕ) → RiseFrom low fs next →
    IsInOrder (64 * low) (goals_breaks g scope fs) (64 * next)
goals-order g scope no_form low next h = none (64 * low) (64 * next) (omega arith)
goals-order g scope (more_forms f fs) low next h =
    both (64 * low) (64 * h.0) (64 * next) _ _ (goal-order g scope f low h.0 h.1) (goals-order g scope fs h.0 next h.2)

steps-order : (f : FormTree) (low next : ℕ) → RisesFrom low f next → IsInOrder (64 * low) (steps_breaks f) (64 * next)
steps-order (symbol text at) low next h = none (64 * low) (64 * next) (omega (arith, h.0, h.1))
steps-order (integer z at) low next h = tested (not (is_within 0 100000 z)) Limit at (64 * low) (64 * next) (omega (arith, h.0))
    (omega (arith, h.1))
steps-order (list fs at) low next h = let parts = forms-within fs (at + 1) next h.1 in
    none (64 * low) (64 * next) (omega (arith, h.0, parts))

mutual
  unfolding formula_breaks

  pub formula-order : (r : FormulaRole) (g : NameSignature) (scope : Scope) (f : FormTree) (low next : ℕ) → RisesFrom low f next →
      IsInOrder (64 * low) (formula_breaks r g scope f) (64 * next)
  formula-order r g scope (symbol text at) low next h = tested (not (is_constant text)) Shape at (64 * low) (64 * next) (omega (arith, h.0))
      (omega (arith, h.1))
  formula-order r g scope (integer z at) low next h = one Shape at (64 * low) (64 * next) (omega (arith, h.0)) (omega (arith, h.1))
  formula-order r g scope (list no_form at) low next h = one Shape at (64 * low) (64 * next) (omega (arith, h.0)) (omega (arith, h.1))
  formula-order r g scope (list (more_forms (symbol text s) rest) at) low next h =
      let elements = h.1 in
      let begin = elements.1 in
      from (64 * low) (64 * at) (64 * next) _ (omega (arith, h.0))
      (both (64 * at) (64 * (at + 1)) (64 * next) _ _
      (formula_list-order r g scope (formula_word text) text rest at)
      (from (64 * (at + 1)) (64 * elements.0) (64 * next) _ (omega (arith, begin.0, begin.1))
      (formula_parts-order (role_below r) g scope (formula_word text) rest elements.0 next elements.2)))
  formula-order r g scope (list (more_forms (integer z s) rest) at) low next h =
      let within = form-within (list (more_forms (integer z s) rest) at) low next h in
      one Shape at (64 * low) (64 * next) (omega (arith, within.0)) (omega (arith, within.1))
  formula-order r g scope (list (more_forms (list fs s) rest) at) low next h =
      let within = form-within (list (more_forms (list fs s) rest) at) low next h in
      one Shape at (64 * low) (64 * next) (omega (arith, within.0)) (omega (arith, within.1))

  formula_parts-order : (r : FormulaRole) (g : NameSignature) (scope : Scope) (w : FormulaWord) (fs : FormTrees) (low next : ℕ) →
      RiseFrom low fs next → IsInOrder (64 * low) (formula_parts_breaks r g scope w fs) (64 * next)
  formula_parts-order r g scope w no_form low next h = none (64 * low) (64 * next) (omega arith)
  formula_parts-order r g scope word.Goal (more_forms f fs) low next h = goals-order g scope (more_forms f fs) low next h
  formula_parts-order r g scope (word.Compare c) (more_forms f fs) low next h = terms-order g.functions scope (more_forms f fs) low next h
  formula_parts-order r g scope word.Name (more_forms f fs) low next h = terms-order g.functions scope (more_forms f fs) low next h
  formula_parts-order r g scope word.ForAll (more_forms vs no_form) low next h = let parts =
      forms-within (more_forms vs no_form) low next h in none (64 * low) (64 * next) (omega arith)
  formula_parts-order r g scope word.ForAll (more_forms vs (more_forms b fs)) low next h =
      let later = h.2 in
      both (64 * low) (64 * h.0) (64 * next) _ _
      (variable_list-order scope b vs low h.0 h.1)
      (both (64 * h.0) (64 * later.0) (64 * next) _ _ (bound-order g (with_variables scope vs) b h.0 later.0 later.1)
      (formulas-order r g (with_variables scope vs) fs later.0 next later.2))
  formula_parts-order r g scope word.Exists (more_forms vs no_form) low next h = let parts =
      forms-within (more_forms vs no_form) low next h in none (64 * low) (64 * next) (omega arith)
  formula_parts-order r g scope word.Exists (more_forms vs (more_forms b fs)) low next h =
      let later = h.2 in
      both (64 * low) (64 * h.0) (64 * next) _ _
      (variable_list-order scope b vs low h.0 h.1)
      (both (64 * h.0) (64 * later.0) (64 * next) _ _ (bound-order g (with_variables scope vs) b h.0 later.0 later.1)
      (formulas-order r g (with_variables scope vs) fs later.0 next later.2))
  formula_parts-order r g scope word.Within (more_forms k fs) low next h =
      both (64 * low) (64 * h.0) (64 * next) _ _ (steps-order k low h.0 h.1) (formulas-order r g scope fs h.0 next h.2)
  formula_parts-order r g scope word.During (more_forms k fs) low next h =
      both (64 * low) (64 * h.0) (64 * next) _ _ (steps-order k low h.0 h.1) (formulas-order r g scope fs h.0 next h.2)
  formula_parts-order r g scope _ (more_forms f fs) low next h =
      both (64 * low) (64 * h.0) (64 * next) _ _ (formula-order r g scope f low h.0 h.1) (formulas-order r g scope fs h.0 next h.2)

  formulas-order : (r : FormulaRole) (g : NameSignature) (scope : Scope) (fs : FormTrees) (low next : ℕ) → RiseFrom low fs next →
      IsInOrder (64 * low) (formulas_breaks r g scope fs) (64 * next)
  formulas-order r g scope no_form low next h = none (64 * low) (64 * next) (omega arith)
  formulas-order r g scope (more_forms f fs) low next h =
      both (64 * low) (64 * h.0) (64 * next) _ _ (formula-order r g scope f low h.0 h.1) (formulas-order r g scope fs h.0 next h.2)

target-order : (table functions : Table) (scope : Scope) (f : FormTree) (low next : ℕ) → RisesFrom low f next →
    IsInOrder (64 * low) (target_breaks table functions scope f) (64 * next)
target-order table functions scope (list (more_forms (symbol text s) rest) at) low next h =
    let elements = h.1 in
    let begin = elements.1 in
    both (64 * low) (64 * (at + 1)) (64 * next) _ _
    (call-order table text (count rest) at (64 * low) (64 * (at + 1)) (omega (arith, h.0)) (omega arith))
    (from (64 * (at + 1)) (64 * elements.0) (64 * next) _ (omega (arith, begin.0, begin.1))
    (terms-order functions scope rest elements.0 next elements.2))
target-order table functions scope f low next h = let within = form-within f low next h in
    none (64 * low) (64 * next) (omega (arith, within.0, within.1))

effect_list-order : (scope : Scope) (w : EffectWord) (rest : FormTrees) (at : ℕ) →
    IsInOrder (64 * at) (effect_list_breaks scope w rest at) (64 * (at + 1))
effect_list-order scope w rest at =
    both (64 * at) (64 * at + 10) (64 * (at + 1)) _ _
    (tested (not (has_effect_shape w rest)) Shape at (64 * at) (64 * at + 10) (omega arith) (omega arith))
    (tested (changes.is_crowded_by_effect scope w rest) Limit at (64 * at + 10) (64 * (at + 1)) (omega arith) (omega arith))

mutual
  unfolding effect_breaks

  effect-order : (g : NameSignature) (scope : Scope) (f : FormTree) (low next : ℕ) → RisesFrom low f next →
      IsInOrder (64 * low) (effect_breaks g scope f) (64 * next)
  effect-order g scope (symbol text at) low next h = one Shape at (64 * low) (64 * next) (omega (arith, h.0)) (omega (arith, h.1))
  effect-order g scope (integer z at) low next h = one Shape at (64 * low) (64 * next) (omega (arith, h.0)) (omega (arith, h.1))
  effect-order g scope (list no_form at) low next h = one Shape at (64 * low) (64 * next) (omega (arith, h.0)) (omega (arith, h.1))
  effect-order g scope (list (more_forms (symbol text s) rest) at) low next h =
      let elements = h.1 in
      let begin = elements.1 in
      from (64 * low) (64 * at) (64 * next) _ (omega (arith, h.0))
      (both (64 * at) (64 * (at + 1)) (64 * next) _ _
      (effect_list-order scope (effect_word text) rest at)
      (from (64 * (at + 1)) (64 * elements.0) (64 * next) _ (omega (arith, begin.0, begin.1))
      (effect_parts-order g scope (effect_word text) rest elements.0 next elements.2)))
  effect-order g scope (list (more_forms (integer z s) rest) at) low next h =
      let within = form-within (list (more_forms (integer z s) rest) at) low next h in
      one Shape at (64 * low) (64 * next) (omega (arith, within.0)) (omega (arith, within.1))
  effect-order g scope (list (more_forms (list fs s) rest) at) low next h =
      let within = form-within (list (more_forms (list fs s) rest) at) low next h in
      one Shape at (64 * low) (64 * next) (omega (arith, within.0)) (omega (arith, within.1))

  effect_parts-order : (g : NameSignature) (scope : Scope) (w : EffectWord) (fs : FormTrees) (low next : ℕ) → RiseFrom low fs next →
      IsInOrder (64 * low) (effect_parts_breaks g scope w fs) (64 * next)
  effect_parts-order g scope w no_form low next h = none (64 * low) (64 * next) (omega arith)
  effect_parts-order g scope effect.Add (more_forms fact rest) low next h =
      let later = forms-within rest h.0 next h.2 in up_to (64 * low) (64 * h.0) (64 * next) _ (omega arith)
      (target-order g.predicates g.functions scope fact low h.0 h.1)
  effect_parts-order g scope effect.Del (more_forms fact rest) low next h =
      let later = forms-within rest h.0 next h.2 in up_to (64 * low) (64 * h.0) (64 * next) _ (omega arith)
      (target-order g.predicates g.functions scope fact low h.0 h.1)
  effect_parts-order g scope effect.Set (more_forms place terms) low next h =
      both (64 * low) (64 * h.0) (64 * next) _ _ (target-order g.functions g.functions scope place low h.0 h.1)
      (terms-order g.functions scope terms h.0 next h.2)
  effect_parts-order g scope effect.When (more_forms condition effects) low next h =
      both (64 * low) (64 * h.0) (64 * next) _ _ (formula-order role.State g scope condition low h.0 h.1)
      (effects-order g scope effects h.0 next h.2)
  effect_parts-order g scope effect.Each (more_forms vs no_form) low next h = let parts = forms-within (more_forms vs no_form) low next h in
      none (64 * low) (64 * next) (omega arith)
  effect_parts-order g scope effect.Each (more_forms vs (more_forms b effects)) low next h =
      let later = h.2 in
      both (64 * low) (64 * h.0) (64 * next) _ _
      (variable_list-order scope b vs low h.0 h.1)
      (both (64 * h.0) (64 * later.0) (64 * next) _ _ (bound-order g (with_variables scope vs) b h.0 later.0 later.1)
      (effects-order g (with_variables scope vs) effects later.0 next later.2))
  effect_parts-order g scope effect.Other (more_forms f fs) low next h = let parts = forms-within (more_forms f fs) low next h in
      none (64 * low) (64 * next) (omega arith)

  pub effects-order : (g : NameSignature) (scope : Scope) (fs : FormTrees) (low next : ℕ) → RiseFrom low fs next →
      IsInOrder (64 * low) (effects_breaks g scope fs) (64 * next)
  effects-order g scope no_form low next h = none (64 * low) (64 * next) (omega arith)
  effects-order g scope (more_forms f fs) low next h =
      both (64 * low) (64 * h.0) (64 * next) _ _ (effect-order g scope f low h.0 h.1) (effects-order g scope fs h.0 next h.2)

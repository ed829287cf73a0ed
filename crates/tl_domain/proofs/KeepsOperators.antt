-- An operator that breaks nothing keeps what operators of a problem keep.
use Rattle.std.proofs.Common.{◌≡◌, ◌<◌, ◌≤◌, ℕ, List, [], Bool, true, false, cond, length, Some, None, refl, sym, ap, ◌∙◌, arith, inl, inr}
use Rattle.std.specs.Prelude.{Option, IsTrue, codes}
use Rattle.std.specs.List.{list_any}
use Rattle.std.specs.Option.{option_map_or}
use Rattle.std.specs.Str.{bytes_eq}
use Rattle.std.proofs.lemmas.Bool.{or_cases}
use Rattle.std.proofs.lemmas.Option.{none-some, same_Some}
use Rattle.tl_sexpr.specs.Tree.{FormTree, FormTrees, symbol, integer, list, no_form, more_forms}
use Rattle.tl_syntax.specs.declared.variable.Var.{Var}
use Rattle.tl_syntax.specs.BoundVariables.{stands_in}
use Rattle.tl_syntax.specs.Fits.{BoundFits, Fits, EffectsFit}
use Rattle.tl_syntax.specs.FreeVariables.{slots_of, bound_slots, free_slots, effects_slots, InScope}
use Rattle.tl_syntax.specs.Kept.{ParametersKeep}
use Rattle.tl_syntax.specs.Lists.{Each}
use Rattle.tl_syntax.specs.Named.{BoundIsNamed, IsNamed, EffectsAreNamed}
use Rattle.tl_syntax.specs.Signature as domain
use Rattle.tl_syntax.specs.StateFormulas.{IsState, EffectsAreState}
use Rattle.tl_syntax.specs.Trees.{FormulaTree}
use Rattle.tl_rules.specs.Named.{HasNames, HaveNames}
use Rattle.tl_rules.specs.Parts.{offset_of, is_list, rest_of, occurs_in, occurs_in_any}
use Rattle.tl_rules.proofs.NamesHave.{number-below}
use Rattle.tl_formulas.specs.declared.roles.FormulaRole.TheVariants as role
use Rattle.tl_formulas.specs.declared.signature.NameSignature.{NameSignature}
use Rattle.tl_formulas.specs.Signatures.{Scope}
use Rattle.tl_formulas.specs.MeaningOfFormulas.{formulas_meant, first_formula, variables_from}
use Rattle.tl_formulas.proofs.KeepsLists.{none-parts, Each-implies}
use Rattle.tl_formulas.proofs.KeepsCalls.{seen, NamesOnly}
use Rattle.tl_formulas.proofs.KeepsGoals.{BoundKeeps, rest-has}
use Rattle.tl_formulas.proofs.KeepsBounds.{bounds-keep}
use Rattle.tl_formulas.proofs.KeepsStands.{IsVariable, not-word, bounds-stand}
use Rattle.tl_formulas.proofs.KeepsFormulas.{FormulaKeeps, IsPlace, constant-keeps, formula-keeps}
use Rattle.tl_formulas.proofs.KeepsState.{formula-state}
use Rattle.tl_formulas.proofs.KeepsEffects.{EffectsKeep, nothing-keeps, effects-keep}
use Rattle.tl_domain.specs.DomainTrees.{OperatorTree}
use Rattle.tl_rules.specs.Parts.{begins_with}
use Rattle.tl_domain.specs.Operators.{head_breaks, parameters_of, name_in_head, leading, after_leading, bounds_clause, pre_clause}
use Rattle.tl_domain.specs.Operators.{effects_clause, occurs_in_bounds, pre_breaks, bounds_clause_breaks, pre_clause_breaks}
use Rattle.tl_domain.specs.Operators.{effects_clause_breaks, clauses_breaks, operator_breaks}
use Rattle.tl_domain.specs.MeaningOfItems.{bounds_clause_meant, pre_clause_meant, effects_clause_meant, operator_meant}
use Rattle.tl_domain.proofs.KeepsHeads.{head-keeps, parameters-keep, head-place, in-scope, parameters-occur}

-- what an operator of a problem keeps, of its plain tree
pub record OperatorTreeKeeps (g : domain.Signature) (n : ℕ) (o : OperatorTree) : Type 0 where
  pub name : o.name < n
  pub params : ParametersKeep n 16 o.params
  pub bounded : Each (λ s. IsTrue (list_any (stands_in s) o.bounds)) o.params
  pub bounds_scope : Each (λ b. InScope (slots_of o.params) (bound_slots b)) o.bounds
  pub bounds_fit : Each (BoundFits g) o.bounds
  pub bounds_named : Each (BoundIsNamed n) o.bounds
  pub state : IsState o.pre
  pub scope : InScope (slots_of o.params) (free_slots o.pre)
  pub fits : Fits g (slots_of o.params) o.pre
  pub named : IsNamed n o.pre
  pub effects_state : EffectsAreState o.effects
  pub effects_scope : InScope (slots_of o.params) (effects_slots o.effects)
  pub effects_fit : EffectsFit g (slots_of o.params) o.effects
  pub effects_named : EffectsAreNamed n o.effects

-- a clause has names for its symbols, where there is one
abbrev pub ClauseHas : List (List ℕ) → Option FormTree → Type 0
ClauseHas names None = Unit {0}
ClauseHas names (Some clause) = HasNames names clause

pub leading-has : (names : List (List ℕ)) (word : List ℕ) (fs : FormTrees) → HaveNames names fs → ClauseHas names (leading word fs)
leading-has names word no_form has = tt
leading-has names word (more_forms f fs) has = by_test (begins_with word f)
  where
    by_test : (b : Bool) → ClauseHas names (cond b (Some f) None)
    by_test true = has.0
    by_test false = tt

pub after-has : (names : List (List ℕ)) (word : List ℕ) (fs : FormTrees) → HaveNames names fs → HaveNames names (after_leading word fs)
after-has names word no_form has = tt
after-has names word (more_forms f fs) has = by_test (begins_with word f)
  where
    by_test : (b : Bool) → HaveNames names (cond b fs (more_forms f fs))
    by_test true = has.1
    by_test false = has

leading-clause : (word : List ℕ) (fs : FormTrees) (clause : FormTree) → leading word fs ≡ Some clause → begins_with word clause ≡ true
leading-clause word no_form clause is = absurd (none-some clause is)
leading-clause word (more_forms f fs) clause is = by_test (begins_with word f) refl is
  where
    by_test : (b : Bool) → begins_with word f ≡ b → cond b (Some f) None ≡ Some clause → begins_with word clause ≡ true
    by_test true test same = ap (begins_with word) (sym (same_Some f clause same)) ∙ test
    by_test false test same = absurd (none-some clause same)

bounds-clause-keeps : (names : List (List ℕ)) (g : NameSignature) (scope : Scope) (clause : Option FormTree) → length scope ≤ 32 →
    ClauseHas names clause → bounds_clause_breaks g scope clause ≡ [] →
    Each (BoundKeeps (seen g) (length names) (length scope)) (bounds_clause_meant names g scope clause)
bounds-clause-keeps names g scope None few has none = tt
bounds-clause-keeps names g scope (Some clause) few has none = bounds-keep names g scope (rest_of clause) few
    (rest-has names clause has) none

-- a variable that occurs in the clause of bounds stands in one of them
clause-stands : (names : List (List ℕ)) (g : NameSignature) (scope : Scope) (fs : FormTrees) (text : List ℕ) (v : Var) → NamesOnly g →
    bounds_clause_breaks g scope (bounds_clause fs) ≡ [] → IsVariable scope text v → occurs_in_bounds fs text ≡ true →
    list_any (stands_in v) (bounds_clause_meant names g scope (bounds_clause fs)) ≡ true
clause-stands names g scope fs text v only none is occurs = by_clause (bounds_clause fs) refl none occurs
  where
    after-word : (clause : FormTree) → begins_with (codes "bounds") clause ≡ true → occurs_in text clause ≡ true →
        occurs_in_any text (rest_of clause) ≡ true
    after-word (symbol other at) clause found = cc
    after-word (integer z at) clause found = cc
    after-word (list no_form at) clause found = cc
    after-word (list (more_forms word rest) at) clause found = elim (or_cases (occurs_in text word) (occurs_in_any text rest) found) [
      | inl here ↦ absurd (not-word text (codes "bounds") word is.variable refl clause here)
      | inr later ↦ later
    ]

    by_clause : (found : Option FormTree) → bounds_clause fs ≡ found → bounds_clause_breaks g scope found ≡ [] →
        option_map_or (occurs_in text) found false ≡ true → list_any (stands_in v) (bounds_clause_meant names g scope found) ≡ true
    by_clause None at right there = cc
    by_clause (Some clause) at right there = bounds-stand names scope text v is g only (rest_of clause) right
        (after-word clause (leading-clause (codes "bounds") fs clause at) there)

-- what a precondition keeps
record ConditionKeeps (g : domain.Signature) (n : ℕ) (around : List ℕ) (k : ℕ) (f : FormulaTree) : Type 0 where
  pub formula : FormulaKeeps g n around k f
  pub state : IsState f

pre-clause-keeps : (names : List (List ℕ)) (g : NameSignature) (around : List ℕ) (scope : Scope) (clause : Option FormTree) →
    IsPlace g around scope → ClauseHas names clause → pre_clause_breaks g scope clause ≡ [] →
    ConditionKeeps (seen g) (length names) around (length scope) (pre_clause_meant names g scope clause)
unfolding formulas_meant
pre-clause-keeps names g around scope None place has none = record {
  formula =
      constant-keeps (seen g) (length names) around (length scope);
  state = tt;
}
pre-clause-keeps names g around scope (Some clause) place has none = elements (rest_of clause) (rest-has names clause has) none
  where
    elements : (fs : FormTrees) → HaveNames names fs → pre_breaks g scope fs (offset_of clause) ≡ [] →
        ConditionKeeps (seen g) (length names) around (length scope) (first_formula (formulas_meant names g scope fs))
    elements no_form own later = cc
    elements (more_forms f no_form) own later = record {
      formula = formula-keeps names role.State g around scope f place own.0 later;
      state = formula-state names role.State g scope f refl later;
    }
    elements (more_forms f (more_forms h fs)) own later = cc

effects-clause-keeps : (names : List (List ℕ)) (g : NameSignature) (around : List ℕ) (scope : Scope) (clause : Option FormTree) →
    IsPlace g around scope → ClauseHas names clause → effects_clause_breaks g scope clause ≡ [] →
    EffectsKeep (seen g) (length names) around (length scope) (effects_clause_meant names g scope clause)
effects-clause-keeps names g around scope None place has none = nothing-keeps (seen g) (length names) around (length scope)
effects-clause-keeps names g around scope (Some clause) place has none =
    effects-keep names g around scope (rest_of clause) place (rest-has names clause has) none

pub operator-keeps : (names : List (List ℕ)) (g : NameSignature) (operators : List (List ℕ)) (head : FormTree) (clauses : FormTrees) →
    NamesOnly g → is_list head ≡ true → HasNames names head → HaveNames names clauses →
    operator_breaks g operators (more_forms head clauses) ≡ [] → OperatorTreeKeeps (seen g) (length names)
    (operator_meant names g head clauses)
operator-keeps names g operators head clauses only shape has_head has none =
    let old = λ (text : List ℕ). list_any (bytes_eq text) operators in
    let scope = parameters_of head in
    let params = variables_from names 0 (parameters_of head) in
    let parts = none-parts (head_breaks 16 old (occurs_in_bounds clauses) head) (clauses_breaks g scope clauses) none in
    let first = none-parts (bounds_clause_breaks g scope (bounds_clause clauses)) _ parts.1 in
    let later = none-parts (pre_clause_breaks g scope (pre_clause clauses))
    (effects_clause_breaks g scope (effects_clause clauses)) first.1 in
    let kept = head-keeps names 16 old (occurs_in_bounds clauses) head shape has_head parts.0 in
    let place = head-place names 16 old (occurs_in_bounds clauses) g head (omega arith) only kept in
    let after_bounds = after-has names (codes "bounds") clauses has in
    let after_pre = after-has names (codes "pre") (after_leading (codes "bounds") clauses) after_bounds in
    let bounds = bounds-clause-keeps names g scope (bounds_clause clauses) place.few
    (leading-has names (codes "bounds") clauses has) first.0 in
    let pre = pre-clause-keeps names g (slots_of params) scope (pre_clause clauses) place
    (leading-has names (codes "pre") _ after_bounds) later.0 in
    let effects = effects-clause-keeps names g (slots_of params) scope (effects_clause clauses) place
    (leading-has names (codes "effects") _ after_pre) later.1 in
    let keeps = BoundKeeps (seen g) (length names) (length scope) in
    record {
      name = number-below names (name_in_head head) kept.name;
      params = parameters-keep names 16 old (occurs_in_bounds clauses) head kept;
      bounded = parameters-occur names (occurs_in_bounds clauses) (λ s.
          IsTrue (list_any (stands_in s) (bounds_clause_meant names g scope (bounds_clause clauses)))) []
          (rest_of head) scope refl kept.variables kept.fresh (λ text v is occurs.
          clause-stands names g scope clauses text v only first.0 is occurs);
      bounds_scope = Each-implies keeps (λ b. InScope (slots_of params) (bound_slots b))
          (λ b h. in-scope names scope (bound_slots b) h.below) _ bounds;
      bounds_fit = Each-implies keeps (BoundFits (seen g)) (λ b h. h.fits) _ bounds;
      bounds_named = Each-implies keeps (BoundIsNamed (length names)) (λ b h. h.named) _ bounds;
      state = pre.state;
      scope = in-scope names scope _ pre.formula.below;
      fits = pre.formula.fits;
      named = pre.formula.named;
      effects_state = effects.state;
      effects_scope = in-scope names scope _ effects.below;
      effects_fit = effects.fits;
      effects_named = effects.named;
    }

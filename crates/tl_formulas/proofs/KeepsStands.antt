-- A variable that occurs in a bound that breaks nothing stands in what the bound stands for.
use Rattle.std.proofs.Common.{◌≡◌, ℕ, List, [], ◌∷◌, Bool, true, false, cond, Some, None, refl, sym, ap, ◌∙◌, subst, inl, inr}
use Rattle.std.specs.Prelude.{Option, ◌&&◌, ◌||◌, not, unwrap_or, codes}
use Rattle.std.specs.List.{list_any}
use Rattle.std.specs.Str.{bytes_eq}
use Rattle.std.proofs.lemmas.Bool.{true≢false, and_parts, or_cases, or_left, or_right, or_parts, eq-eqb, eqb-true, not-true}
use Rattle.std.proofs.lemmas.Slice.Eq.{bytes_eq-Decides}
use Rattle.tl_sexpr.specs.Tree.{FormTree, FormTrees, symbol, integer, list, no_form, more_forms}
use Rattle.tl_syntax.specs.declared.variable.Var.{Var}
use Rattle.tl_syntax.specs.declared.variable.Arg.TheVariants as arg
use Rattle.tl_syntax.specs.declared.value.Value.TheVariants.{Sym}
use Rattle.tl_syntax.specs.declared.value.Cmp.TheVariants as cmp
use Rattle.tl_syntax.specs.declared.bound.Bound.TheVariants as bound
use Rattle.tl_syntax.specs.BoundVariables as slots
use Rattle.tl_syntax.specs.BoundVariables.{stands_in}
use Rattle.tl_rules.specs.declared.rule.Rule.TheVariants.{Shape}
use Rattle.tl_rules.specs.Parts.{is_variable, offset_of, count, is_list, any_list, is_word, elements_of, rest_of, occurs_in, occurs_in_any}
use Rattle.tl_rules.specs.Symbols.{number_in}
use Rattle.tl_formulas.specs.declared.signature.NameSignature.{NameSignature}
use Rattle.tl_formulas.specs.declared.words.FormulaWord.{FormulaWord}
use Rattle.tl_formulas.specs.declared.words.FormulaWord.TheVariants as word
use Rattle.tl_formulas.specs.Words.{formula_word}
use Rattle.tl_formulas.specs.Signatures.{Table, Scope, is_in, slot_of}
use Rattle.tl_formulas.specs.Goals.{arguments_breaks, is_flat, miscounted_breaks, other_goal_breaks, goal_breaks}
use Rattle.tl_formulas.specs.Bounds.{flat_breaks, equality_breaks, goal_bound_breaks, bound_call_breaks, bound_breaks, bounds_breaks}
use Rattle.tl_formulas.specs.MeaningOfTerms.{symbol_meant, argument_meant, arguments_meant}
use Rattle.tl_formulas.specs.MeaningOfBounds.{call_place, other_goal_meant, goal_meant, equality_meant, goal_bound_meant, bound_call_meant}
use Rattle.tl_formulas.specs.MeaningOfBounds.{bound_meant, bounds_meant}
use Rattle.tl_formulas.proofs.KeepsLists.{none-parts, test-fails}
use Rattle.tl_formulas.proofs.KeepsCalls.{NamesOnly, called-is-in}
use Rattle.tl_formulas.proofs.KeepsGoals.{tested-none, never-empty}
use Rattle.tl_formulas.proofs.KeepsBounds.{flat-parts, equality-parts}

-- a text is a variable of the scope, in the slot of this one
pub record IsVariable (scope : Scope) (text : List ℕ) (v : Var) : Type 0 where
  pub variable : is_variable text ≡ true
  pub slot : slot_of scope text ≡ Some v.slot

-- a variable is none of the words of formulas
pub variable-word : (text : List ℕ) → is_variable text ≡ true → formula_word text ≡ word.Name
variable-word [] h = cc
variable-word (c ∷ cs) h = subst (λ (d : ℕ). formula_word (d ∷ cs) ≡ word.Name) (sym (eqb-true c 63 h)) refl

-- it is not the word with which a list under `goal` begins
pub not-word : (text other : List ℕ) (word : FormTree) → is_variable text ≡ true → is_variable other ≡ false → is_word other word ≡ true →
    occurs_in text word ≡ true → ⊥
not-word text other (symbol first at) variable plain is occurs =
    true≢false (sym variable ∙ ap is_variable ((bytes_eq-Decides text first).0 occurs ∙ (bytes_eq-Decides first other).0 is) ∙ plain)
not-word text other (integer z at) variable plain is occurs = cc
not-word text other (list fs at) variable plain is occurs = cc

module _ (names : List (List ℕ)) (scope : Scope) (text : List ℕ) (v : Var) (is : IsVariable scope text v) where
  symbol-stands : (other : List ℕ) → bytes_eq text other ≡ true → slots.is_that_variable v (symbol_meant names scope other) ≡ true
  symbol-stands other same = subst (λ (t : List ℕ). slots.is_that_variable v (symbol_meant names scope t) ≡ true)
      ((bytes_eq-Decides text other).0 same) (by_test (is_variable text) (slot_of scope text) is.variable is.slot)
    where
      by_test : (b : Bool) (found : Option ℕ) → b ≡ true → found ≡ Some v.slot →
          slots.is_that_variable v (cond b (arg.Var (record { slot = unwrap_or found 0; name = number_in names text }))
          (arg.Val (Sym (number_in names text)))) ≡ true
      by_test true None p q = cc
      by_test true (Some k) p q = eq-eqb k v.slot cc
      by_test false found p q = cc

  argument-stands : (f : FormTree) → is_list f ≡ false → occurs_in text f ≡ true → slots.is_that_variable v (argument_meant names scope f) ≡
      true
  argument-stands (symbol other at) flat occurs = symbol-stands other occurs
  argument-stands (integer z at) flat occurs = cc
  argument-stands (list fs at) flat occurs = cc

  arguments-stand : (fs : FormTrees) → any_list fs ≡ false → occurs_in_any text fs ≡ true →
      list_any (slots.is_that_variable v) (arguments_meant names scope fs) ≡ true
  arguments-stand no_form flat occurs = cc
  arguments-stand (more_forms f fs) flat occurs = elim (or_cases (occurs_in text f) (occurs_in_any text fs) occurs) [
    | inl here ↦ or_left _ _ (argument-stands f (or_parts (is_list f) (any_list fs) flat).0 here)
    | inr later ↦ or_right _ _ (arguments-stand fs (or_parts (is_list f) (any_list fs) flat).1 later)
  ]

  -- of a list that begins with a name of the table
  called-occurs : (table : Table) (name : List ℕ) (fs : FormTrees) → is_in table name ≡ true → is_in table text ≡ false →
      (bytes_eq text name || occurs_in_any text fs) ≡ true → occurs_in_any text fs ≡ true
  called-occurs table name fs known absent occurs = elim (or_cases (bytes_eq text name) (occurs_in_any text fs) occurs) [
    | inl here ↦ absurd (true≢false (sym known ∙ ap (is_in table) (sym ((bytes_eq-Decides text name).0 here)) ∙ absent))
    | inr later ↦ later
  ]

  flat-stands : (table : Table) (f : FormTree) → is_in table text ≡ false → is_flat table f ≡ true → occurs_in text f ≡ true →
      list_any (slots.is_that_variable v) (arguments_meant names scope (rest_of f)) ≡ true
  flat-stands table (symbol other at) absent flat occurs = cc
  flat-stands table (integer z at) absent flat occurs = cc
  flat-stands table (list no_form at) absent flat occurs = cc
  flat-stands table (list (more_forms (symbol name s) rest) at) absent flat occurs =
      let parts = and_parts (is_in table name) (not (any_list rest)) flat in
      arguments-stand rest (not-true (any_list rest) parts.1) (called-occurs table name rest parts.0 absent occurs)
  flat-stands table (list (more_forms (integer z s) rest) at) absent flat occurs = cc
  flat-stands table (list (more_forms (list fs s) rest) at) absent flat occurs = cc

  module _ (g : NameSignature) (only : NamesOnly g) where
    other-stands : (fs : FormTrees) (at : ℕ) → other_goal_breaks g scope fs at ≡ [] → occurs_in_any text fs ≡ true →
        stands_in v (other_goal_meant names g scope fs) ≡ true
    other-stands no_form at none occurs = cc
    other-stands (more_forms word no_form) at none occurs = cc
    other-stands (more_forms word (more_forms fact no_form)) at none occurs =
        let tested = tested-none (is_word (codes "not") word && is_flat g.predicates fact) _ _ none (never-empty at) in
        let both = and_parts (is_word (codes "not") word) (is_flat g.predicates fact) tested.0 in
        elim (or_cases (occurs_in text word) _ occurs) [
          | inl here ↦ absurd (not-word text (codes "not") word is.variable refl both.0 here)
          | inr later ↦ elim (or_cases (occurs_in text fact) false later) [
            | inl there ↦ flat-stands g.predicates fact (only.predicates text is.variable) both.1 there
            | inr nowhere ↦ cc
          ]
        ]
    other-stands (more_forms word (more_forms place (more_forms value no_form))) at none occurs =
        let tested = tested-none (is_word (codes "=") word && is_flat g.functions place && not (is_list value)) _ _ none (never-empty at) in
        let both = and_parts (is_word (codes "=") word && is_flat g.functions place) (not (is_list value)) tested.0 in
        let shape = and_parts (is_word (codes "=") word) (is_flat g.functions place) both.0 in
        elim (or_cases (occurs_in text word) _ occurs) [
          | inl here ↦ absurd (not-word text (codes "=") word is.variable refl shape.0 here)
          | inr later ↦ elim (or_cases (occurs_in text place) _ later) [
            | inl there ↦ or_right _ _ (flat-stands g.functions place (only.functions text is.variable) shape.1 there)
            | inr last ↦ elim (or_cases (occurs_in text value) false last) [
              | inl there ↦ or_left _ _ (argument-stands value (not-true (is_list value) both.1) there)
              | inr nowhere ↦ cc
            ]
          ]
        ]
    other-stands (more_forms word (more_forms place (more_forms value (more_forms f fs)))) at none occurs = cc

    goal-stands : (f : FormTree) → goal_breaks g scope f ≡ [] → occurs_in text f ≡ true → stands_in v (goal_meant names g scope f) ≡ true
    unfolding goal_breaks goal_meant
    goal-stands f none occurs =
        let parts = none-parts (miscounted_breaks g.predicates f) (cond (is_flat g.predicates f) (arguments_breaks scope (rest_of f))
        (other_goal_breaks g scope (elements_of f) (offset_of f))) none in
        by_test (is_flat g.predicates f) refl parts.1
      where
        elements-occur : (h : FormTree) (at : ℕ) → other_goal_breaks g scope (elements_of h) at ≡ [] → occurs_in text h ≡ true →
            occurs_in_any text (elements_of h) ≡ true
        elements-occur (symbol other s) at wrong found = cc
        elements-occur (integer z s) at wrong found = cc
        elements-occur (list fs s) at wrong found = found

        by_test : (test : Bool) → is_flat g.predicates f ≡ test → cond test (arguments_breaks scope (rest_of f))
            (other_goal_breaks g scope (elements_of f) (offset_of f)) ≡ [] →
            stands_in v (cond test (bound.GoalFact (call_place g.predicates f) (arguments_meant names scope (rest_of f)))
            (other_goal_meant names g scope (elements_of f))) ≡ true
        by_test true flat later = flat-stands g.predicates f (only.predicates text is.variable) flat occurs
        by_test false flat later = other-stands (elements_of f) (offset_of f) later (elements-occur f (offset_of f) later occurs)

    equality-stands : (fs : FormTrees) (at : ℕ) → equality_breaks g scope fs at ≡ [] → occurs_in_any text fs ≡ true →
        stands_in v (equality_meant names g scope fs) ≡ true
    equality-stands no_form at none occurs = cc
    equality-stands (more_forms (symbol other s) fs) at none occurs = cc
    equality-stands (more_forms (integer z s) fs) at none occurs = cc
    equality-stands (more_forms (list no_form s) fs) at none occurs = cc
    equality-stands (more_forms (list (more_forms (integer z t) rest) s) fs) at none occurs = cc
    equality-stands (more_forms (list (more_forms (list hs t) rest) s) fs) at none occurs = cc
    equality-stands (more_forms (list (more_forms (symbol name t) rest) s) no_form) at none occurs = cc
    equality-stands (more_forms (list (more_forms (symbol name t) rest) s) (more_forms value no_form)) at none occurs =
        let parts = equality-parts g scope name rest s value at none in
        elim (or_cases (bytes_eq text name || occurs_in_any text rest) _ occurs) [
          | inl here ↦ or_right _ _ (arguments-stand rest (test-fails (any_list rest) Shape s parts.called.flat)
              (called-occurs g.functions name rest (called-is-in g.functions name (count rest) s parts.called.called)
              (only.functions text is.variable) here))
          | inr later ↦ elim (or_cases (occurs_in text value) false later) [
            | inl there ↦ or_left _ _ (argument-stands value (test-fails (is_list value) Shape at parts.flat) there)
            | inr nowhere ↦ cc
          ]
        ]
    equality-stands (more_forms (list (more_forms (symbol name t) rest) s) (more_forms value (more_forms f fs))) at none occurs = cc

    goal_bound-stands : (fs : FormTrees) (at : ℕ) → goal_bound_breaks g scope fs at ≡ [] → occurs_in_any text fs ≡ true →
        stands_in v (goal_bound_meant names g scope fs) ≡ true
    goal_bound-stands no_form at none occurs = cc
    goal_bound-stands (more_forms f no_form) at none occurs = elim (or_cases (occurs_in text f) false occurs) [
      | inl here ↦ goal-stands f none here
      | inr nowhere ↦ cc
    ]
    goal_bound-stands (more_forms f (more_forms h fs)) at none occurs = cc

    fact-stands : (name : List ℕ) (rest : FormTrees) (at : ℕ) → flat_breaks g.predicates scope name rest at ≡ [] →
        (bytes_eq text name || occurs_in_any text rest) ≡ true → list_any (slots.is_that_variable v) (arguments_meant names scope rest) ≡
        true
    fact-stands name rest at none occurs =
        let parts = flat-parts g.predicates scope name rest at none in
        arguments-stand rest (test-fails (any_list rest) Shape at parts.flat)
        (called-occurs g.predicates name rest (called-is-in g.predicates name (count rest) at parts.called)
        (only.predicates text is.variable) occurs)

    -- a variable is no word, so it stands after a first word that is one
    after-word : (name : List ℕ) (w : FormulaWord) (rest : FormTrees) → formula_word name ≡ w → (w ≡ word.Name → ⊥) →
        (bytes_eq text name || occurs_in_any text rest) ≡ true → occurs_in_any text rest ≡ true
    after-word name w rest says never occurs = elim (or_cases (bytes_eq text name) (occurs_in_any text rest) occurs) [
      | inl here ↦ absurd (never (sym says ∙ ap formula_word (sym ((bytes_eq-Decides text name).0 here)) ∙ variable-word text is.variable))
      | inr later ↦ later
    ]

    bound_call-stands : (w : FormulaWord) (name : List ℕ) (rest : FormTrees) (at : ℕ) → formula_word name ≡ w →
        bound_call_breaks g scope w name rest at ≡ [] → (bytes_eq text name || occurs_in_any text rest) ≡ true →
        stands_in v (bound_call_meant names g scope w name rest) ≡ true
    bound_call-stands (word.Compare cmp.Eq) name rest at says none occurs =
        equality-stands rest at none (after-word name (word.Compare cmp.Eq) rest says (λ e. cc) occurs)
    bound_call-stands word.Goal name rest at says none occurs = goal_bound-stands rest at none
        (after-word name word.Goal rest says (λ e. cc) occurs)
    bound_call-stands _ name rest at says none occurs = fact-stands name rest at none occurs

    pub bound-stands : (f : FormTree) → bound_breaks g scope f ≡ [] → occurs_in text f ≡ true → stands_in v (bound_meant names g scope f) ≡
        true
    unfolding bound_breaks bound_meant
    bound-stands (symbol other at) none occurs = cc
    bound-stands (integer z at) none occurs = cc
    bound-stands (list no_form at) none occurs = cc
    bound-stands (list (more_forms (symbol name s) rest) at) none occurs =
        bound_call-stands (formula_word name) name rest at refl none occurs
    bound-stands (list (more_forms (integer z s) rest) at) none occurs = cc
    bound-stands (list (more_forms (list fs s) rest) at) none occurs = cc

    pub bounds-stand : (fs : FormTrees) → bounds_breaks g scope fs ≡ [] → occurs_in_any text fs ≡ true →
        list_any (stands_in v) (bounds_meant names g scope fs) ≡ true
    bounds-stand no_form none occurs = cc
    bounds-stand (more_forms f fs) none occurs =
        let parts = none-parts (bound_breaks g scope f) (bounds_breaks g scope fs) none in
        elim (or_cases (occurs_in text f) (occurs_in_any text fs) occurs) [
          | inl here ↦ or_left _ _ (bound-stands f parts.0 here)
          | inr later ↦ or_right _ _ (bounds-stand fs parts.1 later)
        ]

-- A formula that breaks nothing where temporal words may not stand has none.
use Rattle.std.proofs.Common.{◌≡◌, ℕ, List, [], ◌++◌, Bool, true, false, cond, Some, None, refl}
use Rattle.std.specs.Prelude.{Option, ◌&&◌, not, codes}
use Rattle.std.specs.Str.{bytes_eq}
use Rattle.tl_sexpr.specs.Tree.{FormTree, FormTrees, symbol, integer, list, no_form, more_forms}
use Rattle.tl_syntax.specs.declared.bound.Bound.{Bound}
use Rattle.tl_syntax.specs.declared.bound.Bound.TheVariants as bound
use Rattle.tl_syntax.specs.StateFormulas.{IsState, AreState}
use Rattle.tl_syntax.specs.Trees.{TermTrees, FormulaTrees, verum, falsum, no_formula, more_formulas}
use Rattle.tl_rules.specs.declared.rule.Rule.TheVariants.{Shape, Temporal}
use Rattle.tl_rules.specs.Parts.{elements_of}
use Rattle.tl_rules.specs.Rules.{breaks_if}
use Rattle.tl_formulas.specs.declared.signature.NameSignature.{NameSignature}
use Rattle.tl_formulas.specs.declared.roles.FormulaRole.{FormulaRole}
use Rattle.tl_formulas.specs.declared.roles.FormulaRole.TheVariants as role
use Rattle.tl_formulas.specs.declared.words.FormulaWord.{FormulaWord}
use Rattle.tl_formulas.specs.declared.words.FormulaWord.TheVariants as word
use Rattle.tl_formulas.specs.Words.{formula_word}
use Rattle.tl_formulas.specs.Signatures.{Scope, place_of}
use Rattle.tl_formulas.specs.Bounds.{bound_breaks}
use Rattle.tl_formulas.specs.Variables.{variables_breaks, with_variables}
use Rattle.tl_formulas.specs.Formulas.{has_formula_shape, is_temporal, may_be_temporal, role_below, name_breaks, formula_list_breaks}
use Rattle.tl_formulas.specs.Formulas.{formula_breaks, formula_parts_breaks, formulas_breaks}
use Rattle.tl_formulas.specs.MeaningOfBounds.{goal_meant}
use Rattle.tl_formulas.specs.MeaningOfTerms.{terms_meant}
use Rattle.tl_formulas.specs.MeaningOfFormulas.{formula_of_goal, atom_at, atom_meant, first_formula, second_formula, under_word}
use Rattle.tl_formulas.specs.MeaningOfFormulas.{constant_meant, formula_meant, formula_list_meant, formulas_meant}
use Rattle.tl_formulas.proofs.KeepsLists.{none-parts, test-fails}

constant-state : (text : List ℕ) → IsState (constant_meant text)
constant-state text = by_test (bytes_eq text (codes "true"))
  where
    by_test : (b : Bool) → IsState (cond b verum falsum)
    by_test true = tt
    by_test false = tt

goal-state : (b : Bound) → IsState (formula_of_goal b)
goal-state (bound.GoalFact p xs) = tt
goal-state (bound.GoalPlace f xs x) = tt
goal-state (bound.GoalNot p xs) = tt
goal-state (bound.Fact p xs) = tt
goal-state (bound.Place f xs x) = tt

atom-state : (g : NameSignature) (text : List ℕ) (ts : TermTrees) → IsState (atom_meant g text ts)
atom-state g text ts = by_place (place_of g.predicates text)
  where
    by_place : (found : Option ℕ) → IsState (atom_at found (place_of g.definitions text) ts)
    by_place None = tt
    by_place (Some i) = tt

pub first-state : (fs : FormulaTrees) → AreState fs → IsState (first_formula fs)
first-state no_formula h = tt
first-state (more_formulas f fs) h = h.0

second-state : (fs : FormulaTrees) → AreState fs → IsState (second_formula fs)
second-state no_formula h = tt
second-state (more_formulas f fs) h = first-state fs h.1

joined-state : (w : FormulaWord) (fs : FormulaTrees) → is_temporal w ≡ false → AreState fs → IsState (under_word w fs)
joined-state word.Not fs plain h = first-state fs h
joined-state word.And fs plain h = h
joined-state word.Or fs plain h = h
joined-state word.Implies fs plain h = (first-state fs h, (second-state fs h, tt))
joined-state word.Next fs plain h = cc
joined-state word.Always fs plain h = cc
joined-state word.Eventually fs plain h = cc
joined-state word.Until fs plain h = cc
joined-state _ fs plain h = tt

-- a word that breaks nothing where none may be temporal is not
pub own-plain : (r : FormulaRole) (g : NameSignature) (scope : Scope) (w : FormulaWord) (text : List ℕ) (rest : FormTrees) (at : ℕ) →
    may_be_temporal r ≡ false → formula_list_breaks r g scope w text rest at ≡ [] → is_temporal w ≡ false
own-plain r g scope w text rest at never none =
    let parts = none-parts (breaks_if (not (has_formula_shape w rest)) Shape at) _ none in
    let later = none-parts (name_breaks g w text rest at) _ parts.1 in
    let last = none-parts (breaks_if (is_temporal w && not (may_be_temporal r)) Temporal at) _ later.1 in
    by_tests (is_temporal w) (may_be_temporal r) never (test-fails (is_temporal w && not (may_be_temporal r)) Temporal at last.0)
  where
    by_tests : (temporal may : Bool) → may ≡ false → (temporal && not may) ≡ false → temporal ≡ false
    by_tests true true p q = cc
    by_tests true false p q = q
    by_tests false may p q = refl

pub below-plain : (r : FormulaRole) → may_be_temporal r ≡ false → may_be_temporal (role_below r) ≡ false
below-plain role.Control h = cc
below-plain role.State h = refl
below-plain role.Body h = refl

mutual
  unfolding formula_breaks formula_meant

  pub formula-state : (names : List (List ℕ)) (r : FormulaRole) (g : NameSignature) (scope : Scope) (f : FormTree) → may_be_temporal r ≡
      false → formula_breaks r g scope f ≡ [] → IsState (formula_meant names g scope f)
  formula-state names r g scope (symbol text at) never none = constant-state text
  formula-state names r g scope (integer z at) never none = tt
  formula-state names r g scope (list no_form at) never none = tt
  formula-state names r g scope (list (more_forms (symbol text s) rest) at) never none =
      let parts = none-parts (formula_list_breaks r g scope (formula_word text) text rest at)
      (formula_parts_breaks (role_below r) g scope (formula_word text) rest) none in
      formula_list-state names (role_below r) g scope (formula_word text) text rest (below-plain r never)
      (own-plain r g scope (formula_word text) text rest at never parts.0) parts.1
  formula-state names r g scope (list (more_forms (integer z s) rest) at) never none = tt
  formula-state names r g scope (list (more_forms (list fs s) rest) at) never none = tt

  formula_list-state : (names : List (List ℕ)) (r : FormulaRole) (g : NameSignature) (scope : Scope) (w : FormulaWord) (text : List ℕ)
      (fs : FormTrees) → may_be_temporal r ≡ false → is_temporal w ≡ false → formula_parts_breaks r g scope w fs ≡ [] →
      IsState (formula_list_meant names g scope w text fs)
  formula_list-state names r g scope word.Name text no_form never plain none =
      atom-state g text (terms_meant names g.functions scope no_form)
  formula_list-state names r g scope word.Name text (more_forms f fs) never plain none =
      atom-state g text (terms_meant names g.functions scope (more_forms f fs))
  formula_list-state names r g scope word.Goal text no_form never plain none = tt
  formula_list-state names r g scope word.Goal text (more_forms f fs) never plain none = goal-state (goal_meant names g scope f)
  formula_list-state names r g scope (word.Compare c) text no_form never plain none = tt
  formula_list-state names r g scope (word.Compare c) text (more_forms f fs) never plain none = tt
  formula_list-state names r g scope word.ForAll text no_form never plain none = tt
  formula_list-state names r g scope word.ForAll text (more_forms vs no_form) never plain none = tt
  formula_list-state names r g scope word.ForAll text (more_forms vs (more_forms b fs)) never plain none =
      let parts = none-parts (variables_breaks [] scope b (elements_of vs))
      (bound_breaks g (with_variables scope vs) b ++ formulas_breaks r g (with_variables scope vs) fs) none in
      let later = none-parts (bound_breaks g (with_variables scope vs) b) (formulas_breaks r g (with_variables scope vs) fs) parts.1 in
      first-state (formulas_meant names g (with_variables scope vs) fs)
      (formulas-state names r g (with_variables scope vs) fs never later.1)
  formula_list-state names r g scope word.Exists text no_form never plain none = tt
  formula_list-state names r g scope word.Exists text (more_forms vs no_form) never plain none = tt
  formula_list-state names r g scope word.Exists text (more_forms vs (more_forms b fs)) never plain none =
      let parts = none-parts (variables_breaks [] scope b (elements_of vs))
      (bound_breaks g (with_variables scope vs) b ++ formulas_breaks r g (with_variables scope vs) fs) none in
      let later = none-parts (bound_breaks g (with_variables scope vs) b) (formulas_breaks r g (with_variables scope vs) fs) parts.1 in
      first-state (formulas_meant names g (with_variables scope vs) fs)
      (formulas-state names r g (with_variables scope vs) fs never later.1)
  formula_list-state names r g scope word.Within text fs never plain none = cc
  formula_list-state names r g scope word.During text fs never plain none = cc
  formula_list-state names r g scope w text no_form never plain none = joined-state w no_formula plain tt
  formula_list-state names r g scope w text (more_forms f fs) never plain none =
      let parts = none-parts (formula_breaks r g scope f) (formulas_breaks r g scope fs) none in
      joined-state w (more_formulas (formula_meant names g scope f) (formulas_meant names g scope fs)) plain
      (formula-state names r g scope f never parts.0, formulas-state names r g scope fs never parts.1)

  pub formulas-state : (names : List (List ℕ)) (r : FormulaRole) (g : NameSignature) (scope : Scope) (fs : FormTrees) → may_be_temporal r ≡
      false → formulas_breaks r g scope fs ≡ [] → AreState (formulas_meant names g scope fs)
  formulas-state names r g scope no_form never none = tt
  formulas-state names r g scope (more_forms f fs) never none =
      let parts = none-parts (formula_breaks r g scope f) (formulas_breaks r g scope fs) none in
      (formula-state names r g scope f never parts.0, formulas-state names r g scope fs never parts.1)

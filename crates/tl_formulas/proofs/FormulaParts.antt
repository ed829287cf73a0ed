-- What formulas break and stand for, by the parts of their lists.
use Rattle.std.proofs.Common.{◌≡◌, ℕ, List, [], ◌∷◌, ◌++◌, false, refl, sym, append_assoc}
use Rattle.std.specs.Prelude.{ℤ, not}
use Rattle.tl_sexpr.specs.Tree.{FormTree, FormTrees, symbol, integer, list, no_form, more_forms}
use Rattle.tl_syntax.specs.Trees.{compare, no_formula, more_formulas}
use Rattle.tl_syntax.specs.declared.value.Cmp.{Cmp}
use Rattle.tl_syntax.specs.declared.junction.Junction.{Junction}
use Rattle.tl_syntax.specs.declared.junction.Junction.TheVariants as junction
use Rattle.tl_rules.specs.declared.rule.Rule.TheVariants.{Shape}
use Rattle.tl_rules.specs.Rules.{breaks_if}
use Rattle.tl_rules.specs.Parts.{is_call, elements_of}
use Rattle.tl_formulas.specs.declared.roles.FormulaRole.{FormulaRole}
use Rattle.tl_formulas.specs.declared.signature.NameSignature.{NameSignature}
use Rattle.tl_formulas.specs.declared.shapes.Unary.{Unary}
use Rattle.tl_formulas.specs.declared.shapes.Unary.TheVariants as unary
use Rattle.tl_formulas.specs.declared.shapes.Binary.{Binary}
use Rattle.tl_formulas.specs.declared.shapes.Binary.TheVariants as binary
use Rattle.tl_formulas.specs.declared.words.FormulaWord.TheVariants as word
use Rattle.tl_formulas.specs.Words.{formula_word}
use Rattle.tl_formulas.specs.Signatures.{Scope}
use Rattle.tl_formulas.specs.Terms.{term_breaks, terms_breaks}
use Rattle.tl_formulas.specs.Bounds.{bound_breaks}
use Rattle.tl_formulas.specs.Variables.{variables_breaks, with_variables}
use Rattle.tl_formulas.specs.Formulas.{is_constant, role_below, formula_list_breaks, binding_breaks, goals_breaks, steps_breaks}
use Rattle.tl_formulas.specs.Formulas.{formula_breaks, formula_parts_breaks, formulas_breaks}
use Rattle.tl_formulas.specs.MeaningOfTerms.{term_meant, terms_meant}
use Rattle.tl_formulas.specs.MeaningOfBounds.{goal_meant, bound_meant}
use Rattle.tl_formulas.specs.MeaningOfFormulas.{constant_meant, formula_of_goal, under_word, atom_meant, steps_meant, formula_meant}
use Rattle.tl_formulas.specs.MeaningOfFormulas.{formula_list_meant, formulas_meant, variables_meant}
use Rattle.tl_formulas.specs.Readers.{quantifier_tree, counted_tree}
use Rattle.tl_formulas.specs.Shapes.{unary_word, binary_word, many_word, quantifier_word, counted_word}

-- formulas by their forms
pub formula-symbol : (r : FormulaRole) (g : NameSignature) (s : Scope) (text : List ℕ) (at : ℕ) → formula_breaks r g s (symbol text at) ≡
    breaks_if (not (is_constant text)) Shape at
unfolding formula_breaks
formula-symbol r g s text at = refl

pub formula-symbol-meant : (names : List (List ℕ)) (g : NameSignature) (s : Scope) (text : List ℕ) (at : ℕ) →
    formula_meant names g s (symbol text at) ≡ constant_meant text
unfolding formula_meant
formula-symbol-meant names g s text at = refl

pub formula-integer : (r : FormulaRole) (g : NameSignature) (s : Scope) (z : ℤ) (at : ℕ) → formula_breaks r g s (integer z at) ≡
    (Shape, at) ∷ []
unfolding formula_breaks
formula-integer r g s z at = refl

pub formula-called : (r : FormulaRole) (g : NameSignature) (s : Scope) (text : List ℕ) (k : ℕ) (rest : FormTrees) (at : ℕ)
    → formula_breaks r g s (list (more_forms (symbol text k) rest) at)
    ≡ formula_list_breaks r g s (formula_word text) text rest at ++ formula_parts_breaks (role_below r) g s (formula_word text) rest
unfolding formula_breaks
formula-called r g s text k rest at = refl

pub formula-called-meant : (names : List (List ℕ)) (g : NameSignature) (s : Scope) (text : List ℕ) (k : ℕ) (rest : FormTrees) (at : ℕ)
    → formula_meant names g s (list (more_forms (symbol text k) rest) at) ≡ formula_list_meant names g s (formula_word text) text rest
unfolding formula_meant
formula-called-meant names g s text k rest at = refl

pub formula-uncalled : (r : FormulaRole) (g : NameSignature) (s : Scope) (fs : FormTrees) (at : ℕ) → is_call (list fs at) ≡ false →
    formula_breaks r g s (list fs at) ≡ (Shape, at) ∷ []
unfolding formula_breaks
formula-uncalled r g s no_form at none = refl
formula-uncalled r g s (more_forms (symbol text k) rest) at none = cc
formula-uncalled r g s (more_forms (integer z k) rest) at none = refl
formula-uncalled r g s (more_forms (list gs k) rest) at none = refl

-- one formula, and two
pub formulas-one : (r : FormulaRole) (g : NameSignature) (s : Scope) (f : FormTree) → formulas_breaks r g s (more_forms f no_form) ≡
    formula_breaks r g s f ++ []
unfolding formula_breaks
formulas-one r g s f = refl

pub formulas-one-meant : (names : List (List ℕ)) (g : NameSignature) (s : Scope) (f : FormTree) →
    formulas_meant names g s (more_forms f no_form) ≡ more_formulas (formula_meant names g s f) no_formula
unfolding formula_meant
formulas-one-meant names g s f = refl

pub formulas-pair : (r : FormulaRole) (g : NameSignature) (s : Scope) (f h : FormTree) →
    formulas_breaks r g s (more_forms f (more_forms h no_form)) ≡ formula_breaks r g s f ++ (formula_breaks r g s h ++ [])
unfolding formula_breaks
formulas-pair r g s f h = refl

pub formulas-pair-meant : (names : List (List ℕ)) (g : NameSignature) (s : Scope) (f h : FormTree) →
    formulas_meant names g s (more_forms f (more_forms h no_form)) ≡ more_formulas (formula_meant names g s f)
    (more_formulas (formula_meant names g s h) no_formula)
unfolding formula_meant
formulas-pair-meant names g s f h = refl

-- formulas under a word
pub parts-unary : (w : Unary) (r : FormulaRole) (g : NameSignature) (s : Scope) (fs : FormTrees) →
    formula_parts_breaks r g s (unary_word w) fs ≡ formulas_breaks r g s fs
unfolding formula_breaks
parts-unary unary.Not r g s no_form = refl
parts-unary unary.Not r g s (more_forms f fs) = refl
parts-unary unary.Next r g s no_form = refl
parts-unary unary.Next r g s (more_forms f fs) = refl
parts-unary unary.Always r g s no_form = refl
parts-unary unary.Always r g s (more_forms f fs) = refl
parts-unary unary.Eventually r g s no_form = refl
parts-unary unary.Eventually r g s (more_forms f fs) = refl

pub parts-unary-meant : (w : Unary) (names : List (List ℕ)) (g : NameSignature) (s : Scope) (text : List ℕ) (fs : FormTrees) →
    formula_list_meant names g s (unary_word w) text fs ≡ under_word (unary_word w) (formulas_meant names g s fs)
unfolding formula_meant
parts-unary-meant unary.Not names g s text no_form = refl
parts-unary-meant unary.Not names g s text (more_forms f fs) = refl
parts-unary-meant unary.Next names g s text no_form = refl
parts-unary-meant unary.Next names g s text (more_forms f fs) = refl
parts-unary-meant unary.Always names g s text no_form = refl
parts-unary-meant unary.Always names g s text (more_forms f fs) = refl
parts-unary-meant unary.Eventually names g s text no_form = refl
parts-unary-meant unary.Eventually names g s text (more_forms f fs) = refl

pub parts-binary : (w : Binary) (r : FormulaRole) (g : NameSignature) (s : Scope) (fs : FormTrees) →
    formula_parts_breaks r g s (binary_word w) fs ≡ formulas_breaks r g s fs
unfolding formula_breaks
parts-binary binary.Implies r g s no_form = refl
parts-binary binary.Implies r g s (more_forms f fs) = refl
parts-binary binary.Until r g s no_form = refl
parts-binary binary.Until r g s (more_forms f fs) = refl

pub parts-binary-meant : (w : Binary) (names : List (List ℕ)) (g : NameSignature) (s : Scope) (text : List ℕ) (fs : FormTrees) →
    formula_list_meant names g s (binary_word w) text fs ≡ under_word (binary_word w) (formulas_meant names g s fs)
unfolding formula_meant
parts-binary-meant binary.Implies names g s text no_form = refl
parts-binary-meant binary.Implies names g s text (more_forms f fs) = refl
parts-binary-meant binary.Until names g s text no_form = refl
parts-binary-meant binary.Until names g s text (more_forms f fs) = refl

pub parts-many : (j : Junction) (r : FormulaRole) (g : NameSignature) (s : Scope) (fs : FormTrees) →
    formula_parts_breaks r g s (many_word j) fs ≡ formulas_breaks r g s fs
unfolding formula_breaks
parts-many junction.All r g s no_form = refl
parts-many junction.All r g s (more_forms f fs) = refl
parts-many junction.Any r g s no_form = refl
parts-many junction.Any r g s (more_forms f fs) = refl

pub parts-many-meant : (j : Junction) (names : List (List ℕ)) (g : NameSignature) (s : Scope) (text : List ℕ) (fs : FormTrees) →
    formula_list_meant names g s (many_word j) text fs ≡ under_word (many_word j) (formulas_meant names g s fs)
unfolding formula_meant
parts-many-meant junction.All names g s text no_form = refl
parts-many-meant junction.All names g s text (more_forms f fs) = refl
parts-many-meant junction.Any names g s text no_form = refl
parts-many-meant junction.Any names g s text (more_forms f fs) = refl

-- quantifiers
pub parts-quantifier : (j : Junction) (r : FormulaRole) (g : NameSignature) (s : Scope) (vs b f : FormTree)
    → formula_parts_breaks r g s (quantifier_word j) (more_forms vs (more_forms b (more_forms f no_form))) ≡
    formula_parts_breaks r g s word.ForAll (more_forms vs (more_forms b (more_forms f no_form)))
unfolding formula_breaks
parts-quantifier junction.All r g s vs b f = refl
parts-quantifier junction.Any r g s vs b f = refl

pub parts-for_all : (r : FormulaRole) (g : NameSignature) (s : Scope) (vs b f : FormTree)
    → formula_parts_breaks r g s word.ForAll (more_forms vs (more_forms b (more_forms f no_form))) ≡ binding_breaks g s vs b ++
    (formula_breaks r g (with_variables s vs) f ++ [])
unfolding formula_breaks
parts-for_all r g s vs b f = sym (append_assoc (variables_breaks [] s b (elements_of vs)) (bound_breaks g (with_variables s vs) b)
    (formula_breaks r g (with_variables s vs) f ++ []))

pub parts-quantifier-meant : (j : Junction) (names : List (List ℕ)) (g : NameSignature) (s : Scope) (text : List ℕ) (vs b f : FormTree)
    → formula_list_meant names g s (quantifier_word j) text (more_forms vs (more_forms b (more_forms f no_form))) ≡
    quantifier_tree j (variables_meant names s vs) (bound_meant names g (with_variables s vs) b)
    (formula_meant names g (with_variables s vs) f)
unfolding formula_meant
parts-quantifier-meant junction.All names g s text vs b f = refl
parts-quantifier-meant junction.Any names g s text vs b f = refl

-- numbers of steps
pub parts-counted : (j : Junction) (r : FormulaRole) (g : NameSignature) (s : Scope) (k f : FormTree) →
    formula_parts_breaks r g s (counted_word j) (more_forms k (more_forms f no_form)) ≡ steps_breaks k ++ (formula_breaks r g s f ++ [])
unfolding formula_breaks
parts-counted junction.All r g s k f = refl
parts-counted junction.Any r g s k f = refl

pub parts-counted-meant : (j : Junction) (names : List (List ℕ)) (g : NameSignature) (s : Scope) (text : List ℕ) (k f : FormTree) →
    formula_list_meant names g s (counted_word j) text (more_forms k (more_forms f no_form)) ≡
    counted_tree j (steps_meant k) (formula_meant names g s f)
unfolding formula_meant
parts-counted-meant junction.All names g s text k f = refl
parts-counted-meant junction.Any names g s text k f = refl

-- the argument of `goal`, comparisons and atoms
pub parts-goal : (r : FormulaRole) (g : NameSignature) (s : Scope) (fs : FormTrees) → formula_parts_breaks r g s word.Goal fs ≡
    goals_breaks g s fs
unfolding formula_breaks
parts-goal r g s no_form = refl
parts-goal r g s (more_forms f fs) = refl

pub parts-goal-meant : (names : List (List ℕ)) (g : NameSignature) (s : Scope) (text : List ℕ) (f : FormTree) (fs : FormTrees) →
    formula_list_meant names g s word.Goal text (more_forms f fs) ≡ formula_of_goal (goal_meant names g s f)
unfolding formula_meant
parts-goal-meant names g s text f fs = refl

pub parts-compare : (c : Cmp) (r : FormulaRole) (g : NameSignature) (s : Scope) (fs : FormTrees) →
    formula_parts_breaks r g s (word.Compare c) fs ≡ terms_breaks g.functions s fs
unfolding formula_breaks term_breaks
parts-compare c r g s no_form = refl
parts-compare c r g s (more_forms f fs) = refl

pub parts-compare-meant : (c : Cmp) (names : List (List ℕ)) (g : NameSignature) (s : Scope) (text : List ℕ) (f h : FormTree) →
    formula_list_meant names g s (word.Compare c) text (more_forms f (more_forms h no_form)) ≡
    compare c (term_meant names g.functions s f) (term_meant names g.functions s h)
unfolding formula_meant term_meant
parts-compare-meant c names g s text f h = refl

pub parts-atom : (r : FormulaRole) (g : NameSignature) (s : Scope) (fs : FormTrees) → formula_parts_breaks r g s word.Name fs ≡
    terms_breaks g.functions s fs
unfolding formula_breaks term_breaks
parts-atom r g s no_form = refl
parts-atom r g s (more_forms f fs) = refl

pub parts-atom-meant : (names : List (List ℕ)) (g : NameSignature) (s : Scope) (text : List ℕ) (fs : FormTrees) →
    formula_list_meant names g s word.Name text fs ≡ atom_meant g text (terms_meant names g.functions s fs)
unfolding formula_meant
parts-atom-meant names g s text no_form = refl
parts-atom-meant names g s text (more_forms f fs) = refl

pub ruleset formula_forms = (formula-symbol, formula-symbol-meant, formula-integer, formula-called, formula-called-meant, formula-uncalled)

pub ruleset formula_counts = (formulas-one, formulas-one-meant, formulas-pair, formulas-pair-meant)

pub ruleset formula_parts = (
  parts-unary,
  parts-unary-meant,
  parts-binary,
  parts-binary-meant,
  parts-many,
  parts-many-meant,
  parts-quantifier,
  parts-for_all,
  parts-quantifier-meant,
  parts-counted,
  parts-counted-meant,
  parts-goal,
  parts-goal-meant,
  parts-compare,
  parts-compare-meant,
  parts-atom,
  parts-atom-meant,
)

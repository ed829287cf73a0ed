-- Formulas: the rules that a form breaks in the role of a formula.
use Rattle.std.specs.Prelude.{ℕ, List, [], ◌∷◌, ◌++◌, Bool, true, false, ◌&&◌, ◌||◌, ◌==◌, not, Option, Some, None, codes}
use Rattle.std.specs.Str.{bytes_eq}
use Rattle.tl_sexpr.specs.Tree.{FormTree, FormTrees, symbol, integer, list, no_form, more_forms}
use Rattle.tl_formulas.specs.declared.words.FormulaWord.{FormulaWord}
use Rattle.tl_formulas.specs.declared.words.FormulaWord.TheVariants as word
use Rattle.tl_formulas.specs.declared.roles.FormulaRole.{FormulaRole}
use Rattle.tl_formulas.specs.declared.roles.FormulaRole.TheVariants as role
use Rattle.tl_rules.specs.declared.rule.Rule.TheVariants.{Shape, Temporal, Limit}
use Rattle.tl_formulas.specs.declared.signature.NameSignature.{NameSignature}
use Rattle.tl_rules.specs.Rules.{Break, breaks_if}
use Rattle.tl_formulas.specs.Words.{formula_word}
use Rattle.tl_rules.specs.Parts.{count, is_integer, is_variable_list, is_within, is_any_deeper}
use Rattle.tl_formulas.specs.Signatures.{Scope, place_of, call_breaks, call_breaks_at}
use Rattle.tl_formulas.specs.Terms.{terms_breaks}
use Rattle.tl_formulas.specs.Goals.{goal_breaks}
use Rattle.tl_formulas.specs.Bounds.{bound_breaks}
use Rattle.tl_formulas.specs.Variables.{variables_breaks, with_variables, is_crowded}
use Rattle.tl_rules.specs.Parts.{elements_of}

-- the elements are variables, a bound and a formula
abbrev pub has_quantifier_shape : FormTrees → Bool
has_quantifier_shape (more_forms vs (more_forms b (more_forms f no_form))) = is_variable_list vs
has_quantifier_shape _ = false

-- the elements are an integer and a formula
abbrev pub has_counted_shape : FormTrees → Bool
has_counted_shape (more_forms k (more_forms f no_form)) = is_integer k
has_counted_shape _ = false

-- the elements after such a first word have the shape that it asks for
abbrev pub has_formula_shape : FormulaWord → FormTrees → Bool
has_formula_shape word.Not rest = count rest == 1
has_formula_shape word.Next rest = count rest == 1
has_formula_shape word.Always rest = count rest == 1
has_formula_shape word.Eventually rest = count rest == 1
has_formula_shape word.Goal rest = count rest == 1
has_formula_shape word.Implies rest = count rest == 2
has_formula_shape word.Until rest = count rest == 2
has_formula_shape (word.Compare c) rest = count rest == 2
has_formula_shape word.And rest = true
has_formula_shape word.Or rest = true
has_formula_shape word.Name rest = true
has_formula_shape word.ForAll rest = has_quantifier_shape rest
has_formula_shape word.Exists rest = has_quantifier_shape rest
has_formula_shape word.Within rest = has_counted_shape rest
has_formula_shape word.During rest = has_counted_shape rest

-- the word is temporal
abbrev pub is_temporal : FormulaWord → Bool
is_temporal word.Next = true
is_temporal word.Always = true
is_temporal word.Eventually = true
is_temporal word.Until = true
is_temporal word.Within = true
is_temporal word.During = true
is_temporal _ = false

-- temporal words may stand there
abbrev pub may_be_temporal : FormulaRole → Bool
may_be_temporal role.Control = true
may_be_temporal role.State = false
may_be_temporal role.Body = false

-- the role of the formulas in a formula
abbrev pub role_below : FormulaRole → FormulaRole
role_below role.Control = role.Control
role_below role.State = role.State
role_below role.Body = role.State

-- the list with these elements has more than 24 lists within one another, and is the body of a
-- definition
abbrev pub is_too_deep : FormulaRole → FormTrees → Bool
is_too_deep role.Control fs = false
is_too_deep role.State fs = false
is_too_deep role.Body fs = is_any_deeper 23 fs

-- what a list breaks that begins with a name: it should be a predicate's or a definition's
abbrev pub atom_breaks : NameSignature → List ℕ → ℕ → ℕ → List Break
atom_breaks g text n at = atom_breaks_at (place_of g.predicates text)
  where
    atom_breaks_at : Option ℕ → List Break
    atom_breaks_at (Some i) = call_breaks_at g.predicates (Some i) n at
    atom_breaks_at None = call_breaks g.definitions text n at

-- what the name of an atom breaks, and its number of arguments
abbrev pub name_breaks : NameSignature → FormulaWord → List ℕ → FormTrees → ℕ → List Break
name_breaks g word.Name text rest at = atom_breaks g text (count rest) at
name_breaks g _ text rest at = []

-- with the variables of a quantifier more than 32 are in scope
abbrev pub is_crowded_by : Scope → FormulaWord → FormTrees → Bool
is_crowded_by scope word.ForAll (more_forms vs rest) = is_crowded scope vs
is_crowded_by scope word.Exists (more_forms vs rest) = is_crowded scope vs
is_crowded_by scope _ _ = false

-- what the number of steps of `within` and `for` breaks
abbrev pub steps_breaks : FormTree → List Break
steps_breaks (integer z at) = breaks_if (not (is_within 0 100000 z)) Limit at
steps_breaks _ = []

-- what the list of a formula breaks itself, where it has the shape that its first word asks for
abbrev pub shaped_list_breaks : FormulaRole → NameSignature → Scope → FormulaWord → List ℕ → FormTrees → ℕ → List Break
shaped_list_breaks r g scope w text rest at =
    name_breaks g w text rest at
    ++ (breaks_if (is_temporal w && not (may_be_temporal r)) Temporal at
    ++ breaks_if (is_crowded_by scope w rest || is_too_deep r rest) Limit at)

-- what the list of a formula breaks itself
abbrev pub formula_list_breaks : FormulaRole → NameSignature → Scope → FormulaWord → List ℕ → FormTrees → ℕ → List Break
formula_list_breaks r g scope w text rest at =
    breaks_if (not (has_formula_shape w rest)) Shape at ++ shaped_list_breaks r g scope w text rest at

-- the symbol is a constant
abbrev pub is_constant : List ℕ → Bool
is_constant text = bytes_eq text (codes "true") || bytes_eq text (codes "false")

-- what arguments of `goal` break
abbrev pub goals_breaks : NameSignature → Scope → FormTrees → List Break
goals_breaks g scope no_form = []
goals_breaks g scope (more_forms f fs) = goal_breaks g scope f ++ goals_breaks g scope fs

-- what variables and their bound break
abbrev pub binding_breaks : NameSignature → Scope → FormTree → FormTree → List Break
binding_breaks g scope vs b =
    variables_breaks [] scope b (elements_of vs) ++ bound_breaks g (with_variables scope vs) b

unfoldable mutual
  -- what a formula breaks, with its parts
  pub formula_breaks : FormulaRole → NameSignature → Scope → FormTree → List Break
  formula_breaks r g scope (symbol text at) = breaks_if (not (is_constant text)) Shape at
  formula_breaks r g scope (integer z at) = (Shape, at) ∷ []
  formula_breaks r g scope (list no_form at) = (Shape, at) ∷ []
  formula_breaks r g scope (list (more_forms (symbol text _) rest) at) =
      formula_list_breaks r g scope (formula_word text) text rest at ++ formula_parts_breaks (role_below r) g scope (formula_word text) rest
  formula_breaks r g scope (list (more_forms (integer z _) rest) at) = (Shape, at) ∷ []
  formula_breaks r g scope (list (more_forms (list fs _) rest) at) = (Shape, at) ∷ []

  -- what the elements after such a first word break: the argument of `goal`, terms, variables with
  -- their bound and a formula, a number of steps and a formula, or formulas
  pub formula_parts_breaks : FormulaRole → NameSignature → Scope → FormulaWord → FormTrees → List Break
  formula_parts_breaks r g scope w no_form = []
  formula_parts_breaks r g scope word.Goal (more_forms f fs) = goals_breaks g scope (more_forms f fs)
  formula_parts_breaks r g scope (word.Compare c) (more_forms f fs) = terms_breaks g.functions scope (more_forms f fs)
  formula_parts_breaks r g scope word.Name (more_forms f fs) = terms_breaks g.functions scope (more_forms f fs)
  formula_parts_breaks r g scope word.ForAll (more_forms vs no_form) = []
  formula_parts_breaks r g scope word.ForAll (more_forms vs (more_forms b fs)) =
      variables_breaks [] scope b (elements_of vs)
      ++ (bound_breaks g (with_variables scope vs) b ++ formulas_breaks r g (with_variables scope vs) fs)
  formula_parts_breaks r g scope word.Exists (more_forms vs no_form) = []
  formula_parts_breaks r g scope word.Exists (more_forms vs (more_forms b fs)) =
      variables_breaks [] scope b (elements_of vs)
      ++ (bound_breaks g (with_variables scope vs) b ++ formulas_breaks r g (with_variables scope vs) fs)
  formula_parts_breaks r g scope word.Within (more_forms k fs) = steps_breaks k ++ formulas_breaks r g scope fs
  formula_parts_breaks r g scope word.During (more_forms k fs) = steps_breaks k ++ formulas_breaks r g scope fs
  formula_parts_breaks r g scope _ (more_forms f fs) = formula_breaks r g scope f ++ formulas_breaks r g scope fs

  -- what formulas break
  pub formulas_breaks : FormulaRole → NameSignature → Scope → FormTrees → List Break
  formulas_breaks r g scope no_form = []
  formulas_breaks r g scope (more_forms f fs) = formula_breaks r g scope f ++ formulas_breaks r g scope fs

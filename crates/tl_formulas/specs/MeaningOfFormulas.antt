-- The formulas that forms stand for. Where a form breaks a rule, what is said of it here does not
-- matter.
use Rattle.std.specs.Prelude.{ℕ, ◌+◌, List, [], ◌∷◌, Bool, true, false, Option, Some, None, if◌then◌else◌, length, unwrap_or, codes}
use Rattle.std.specs.Str.{bytes_eq}
use Rattle.tl_sexpr.specs.Tree.{FormTree, FormTrees, symbol, integer, list, no_form, more_forms}
use Rattle.tl_syntax.specs.declared.variable.Var.{Var}
use Rattle.tl_syntax.specs.declared.bound.Bound.{Bound}
use Rattle.tl_syntax.specs.declared.bound.Bound.TheVariants as bound
use Rattle.tl_syntax.specs.Trees.{TermTrees, FormulaTree, FormulaTrees, verum, falsum, atom, defined, compare}
use Rattle.tl_syntax.specs.Trees.{goal_fact, goal_place, goal_not, negation, conjunction, disjunction, for_all}
use Rattle.tl_syntax.specs.Trees.{for_some, next, always, eventually, until, within, during, no_formula, more_formulas}
use Rattle.tl_formulas.specs.declared.words.FormulaWord.{FormulaWord}
use Rattle.tl_formulas.specs.declared.words.FormulaWord.TheVariants as word
use Rattle.tl_formulas.specs.declared.signature.NameSignature.{NameSignature}
use Rattle.tl_formulas.specs.Words.{formula_word}
use Rattle.tl_rules.specs.Parts.{natural, elements_of, texts_of}
use Rattle.tl_formulas.specs.Signatures.{Scope, place_of}
use Rattle.tl_formulas.specs.Variables.{with_variables}
use Rattle.tl_rules.specs.Symbols.{number_in}
use Rattle.tl_formulas.specs.MeaningOfTerms.{terms_meant, first_term, second_term}
use Rattle.tl_formulas.specs.MeaningOfBounds.{goal_meant, bound_meant}

-- variables with these texts, in slots from this one on
abbrev pub variables_from : List (List ℕ) → ℕ → List (List ℕ) → List Var
variables_from names slot [] = []
variables_from names slot (text ∷ texts) = record { slot = slot; name = number_in names text } ∷ variables_from names (slot + 1) texts

-- the variables of a list, in the slots after those in scope
abbrev pub variables_meant : List (List ℕ) → Scope → FormTree → List Var
variables_meant names scope vs = variables_from names (length scope) (texts_of (elements_of vs))

-- the number of steps of `within` and `for`
abbrev pub steps_meant : FormTree → ℕ
steps_meant (integer z at) = natural z
steps_meant _ = 0

-- the formula of a bound under `goal`
abbrev pub formula_of_goal : Bound → FormulaTree
formula_of_goal (bound.GoalFact p xs) = goal_fact p xs
formula_of_goal (bound.GoalPlace f xs x) = goal_place f xs x
formula_of_goal (bound.GoalNot p xs) = goal_not p xs
formula_of_goal _ = verum

-- an atom of a declared predicate, or else of a defined one
abbrev pub atom_at : Option ℕ → Option ℕ → TermTrees → FormulaTree
atom_at (Some p) definition ts = atom p ts
atom_at None definition ts = defined (unwrap_or definition 0) ts

abbrev pub atom_meant : NameSignature → List ℕ → TermTrees → FormulaTree
atom_meant g text ts = atom_at (place_of g.predicates text) (place_of g.definitions text) ts

-- the first and the second of formulas
abbrev pub first_formula : FormulaTrees → FormulaTree
first_formula no_formula = verum
first_formula (more_formulas f fs) = f

abbrev pub second_formula : FormulaTrees → FormulaTree
second_formula no_formula = verum
second_formula (more_formulas f fs) = first_formula fs

-- formulas under a word; an implication is read as a disjunction
abbrev pub under_word : FormulaWord → FormulaTrees → FormulaTree
under_word word.Not fs = negation (first_formula fs)
under_word word.And fs = conjunction fs
under_word word.Or fs = disjunction fs
under_word word.Implies fs = disjunction (more_formulas (negation (first_formula fs)) (more_formulas (second_formula fs) no_formula))
under_word word.Next fs = next (first_formula fs)
under_word word.Always fs = always (first_formula fs)
under_word word.Eventually fs = eventually (first_formula fs)
under_word word.Until fs = until (first_formula fs) (second_formula fs)
under_word _ fs = verum

-- the word stands before one formula, before two, and before any number
abbrev pub is_single : FormulaWord → Bool
is_single word.Not = true
is_single word.Next = true
is_single word.Always = true
is_single word.Eventually = true
is_single _ = false

abbrev pub is_double : FormulaWord → Bool
is_double word.Implies = true
is_double word.Until = true
is_double _ = false

abbrev pub is_many : FormulaWord → Bool
is_many word.And = true
is_many word.Or = true
is_many _ = false

-- a symbol as a formula
abbrev pub constant_meant : List ℕ → FormulaTree
constant_meant text = if bytes_eq text (codes "true") then verum else falsum

unfoldable mutual
  -- a formula
  pub formula_meant : List (List ℕ) → NameSignature → Scope → FormTree → FormulaTree
  formula_meant names g scope (symbol text at) = constant_meant text
  formula_meant names g scope (integer z at) = verum
  formula_meant names g scope (list no_form at) = verum
  formula_meant names g scope (list (more_forms (symbol text _) rest) at) = formula_list_meant names g scope (formula_word text) text rest
  formula_meant names g scope (list (more_forms (integer z _) rest) at) = verum
  formula_meant names g scope (list (more_forms (list fs _) rest) at) = verum

  -- a formula by its first word and the elements after it
  pub formula_list_meant : List (List ℕ) → NameSignature → Scope → FormulaWord → List ℕ → FormTrees → FormulaTree
  formula_list_meant names g scope word.Name text no_form = atom_meant g text (terms_meant names g.functions scope no_form)
  formula_list_meant names g scope word.Name text (more_forms f fs) =
      atom_meant g text (terms_meant names g.functions scope (more_forms f fs))
  formula_list_meant names g scope word.Goal text no_form = verum
  formula_list_meant names g scope word.Goal text (more_forms f fs) = formula_of_goal (goal_meant names g scope f)
  formula_list_meant names g scope (word.Compare c) text no_form = verum
  formula_list_meant names g scope (word.Compare c) text (more_forms f fs) =
      compare c (first_term (terms_meant names g.functions scope (more_forms f fs)))
      (second_term (terms_meant names g.functions scope (more_forms f fs)))
  formula_list_meant names g scope word.ForAll text no_form = verum
  formula_list_meant names g scope word.ForAll text (more_forms vs no_form) = verum
  formula_list_meant names g scope word.ForAll text (more_forms vs (more_forms b fs)) =
      for_all (variables_meant names scope vs) (bound_meant names g (with_variables scope vs) b)
      (first_formula (formulas_meant names g (with_variables scope vs) fs))
  formula_list_meant names g scope word.Exists text no_form = verum
  formula_list_meant names g scope word.Exists text (more_forms vs no_form) = verum
  formula_list_meant names g scope word.Exists text (more_forms vs (more_forms b fs)) =
      for_some (variables_meant names scope vs) (bound_meant names g (with_variables scope vs) b)
      (first_formula (formulas_meant names g (with_variables scope vs) fs))
  formula_list_meant names g scope word.Within text no_form = verum
  formula_list_meant names g scope word.Within text (more_forms k fs) =
      within (steps_meant k) (first_formula (formulas_meant names g scope fs))
  formula_list_meant names g scope word.During text no_form = verum
  formula_list_meant names g scope word.During text (more_forms k fs) =
      during (steps_meant k) (first_formula (formulas_meant names g scope fs))
  formula_list_meant names g scope w text no_form = under_word w no_formula
  formula_list_meant names g scope w text (more_forms f fs) =
      under_word w (more_formulas (formula_meant names g scope f) (formulas_meant names g scope fs))

  -- formulas
  pub formulas_meant : List (List ℕ) → NameSignature → Scope → FormTrees → FormulaTrees
  formulas_meant names g scope no_form = no_formula
  formulas_meant names g scope (more_forms f fs) = more_formulas (formula_meant names g scope f) (formulas_meant names g scope fs)

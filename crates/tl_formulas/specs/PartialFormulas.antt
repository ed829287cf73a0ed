-- The formulas that forms mean, where they mean one.
use Rattle.std.specs.Prelude.{ℕ, List, [], ◌∷◌, ◌++◌, Bool, true, ◌&&◌, ◌||◌, not, Option, Some, None, if◌then◌else◌, option_and_then}
use Rattle.std.specs.Prelude.{is_some, codes}
use Rattle.std.specs.Option.{option_map}
use Rattle.std.specs.Str.{bytes_eq}
use Rattle.tl_sexpr.specs.Tree.{FormTree, FormTrees, symbol, integer, list, no_form, more_forms}
use Rattle.tl_syntax.specs.declared.value.Cmp.{Cmp}
use Rattle.tl_syntax.specs.Trees.{TermTrees, no_term, more_terms, FormulaTree, FormulaTrees, verum, falsum, atom, defined, compare}
use Rattle.tl_syntax.specs.Trees.{negation, conjunction, disjunction, for_all, for_some, next, always, eventually, until, within}
use Rattle.tl_syntax.specs.Trees.{during, no_formula, more_formulas}
use Rattle.tl_rules.specs.Both.{option_both}
use Rattle.tl_rules.specs.Parts.{count, is_variable_list, is_within, natural, elements_of, texts_of, occurs_in}
use Rattle.tl_formulas.specs.declared.roles.FormulaRole.{FormulaRole}
use Rattle.tl_formulas.specs.declared.signature.NameSignature.{NameSignature}
use Rattle.tl_formulas.specs.declared.words.FormulaWord.{FormulaWord}
use Rattle.tl_formulas.specs.declared.words.FormulaWord.TheVariants as word
use Rattle.tl_formulas.specs.Formulas.{is_temporal, may_be_temporal, role_below, is_too_deep, is_crowded_by}
use Rattle.tl_formulas.specs.MeaningOfFormulas.{variables_meant, formula_of_goal}
use Rattle.tl_formulas.specs.PartialBounds.{goal_meaning, bound_meaning}
use Rattle.tl_formulas.specs.PartialTerms.{place_for, terms_meaning}
use Rattle.tl_formulas.specs.Signatures.{Scope, is_in, slot_of}
use Rattle.tl_formulas.specs.Variables.{with_variables}
use Rattle.tl_formulas.specs.Words.{formula_word}

-- a constant
abbrev pub constant_meaning : List ℕ → Option FormulaTree
constant_meaning text =
    if bytes_eq text (codes "true") then Some verum else (if bytes_eq text (codes "false") then Some falsum else None)

-- the texts are different, none is one of the earlier ones, and each passes the test
abbrev pub are_new : (List ℕ → Bool) → Scope → List (List ℕ) → Bool
are_new test earlier [] = true
are_new test earlier (text ∷ texts) = not (is_some (slot_of earlier text)) && test text && are_new test (earlier ++ text ∷ []) texts

-- the form is a list of different variables, which are not in scope and stand in the bound
abbrev pub are_bound_by : Scope → FormTree → FormTree → Bool
are_bound_by scope b vs =
    is_variable_list vs && are_new (λ text. not (is_some (slot_of scope text)) && occurs_in text b) [] (texts_of (elements_of vs))

-- the number of steps of `within` and `for`
abbrev pub steps_meaning : FormTree → Option ℕ
steps_meaning (integer z at) = if is_within 0 100000 z then Some (natural z) else None
steps_meaning _ = None

-- an atom of a declared predicate, or else of a defined one
abbrev pub atom_meaning : NameSignature → List ℕ → ℕ → TermTrees → Option FormulaTree
atom_meaning g text n ts =
    if is_in g.predicates text then option_map (λ p. atom p ts) (place_for g.predicates text n)
    else option_map (λ d. defined d ts) (place_for g.definitions text n)

-- two terms compared
abbrev pub compare_meaning : Cmp → TermTrees → Option FormulaTree
compare_meaning c (more_terms t (more_terms u no_term)) = Some (compare c t u)
compare_meaning c _ = None

-- formulas under a word; an implication is read as a disjunction
abbrev pub under_meaning : FormulaWord → FormulaTrees → Option FormulaTree
under_meaning word.And fs = Some (conjunction fs)
under_meaning word.Or fs = Some (disjunction fs)
under_meaning word.Not (more_formulas f no_formula) = Some (negation f)
under_meaning word.Next (more_formulas f no_formula) = Some (next f)
under_meaning word.Always (more_formulas f no_formula) = Some (always f)
under_meaning word.Eventually (more_formulas f no_formula) = Some (eventually f)
under_meaning word.Until (more_formulas f (more_formulas h no_formula)) = Some (until f h)
under_meaning word.Implies (more_formulas f (more_formulas h no_formula)) =
    Some (disjunction (more_formulas (negation f) (more_formulas h no_formula)))
under_meaning _ _ = None

-- such a list may be a formula of this role: temporal words stand in control formulas alone, at most
-- 32 variables are in scope, and the body of a definition is not too deep
abbrev pub may_stand : FormulaRole → Scope → FormulaWord → FormTrees → Bool
may_stand r scope w rest = not (is_temporal w && not (may_be_temporal r)) && not (is_crowded_by scope w rest || is_too_deep r rest)

unfoldable mutual
  -- a formula of a role
  pub formula_meaning : FormulaRole → List (List ℕ) → NameSignature → Scope → FormTree → Option FormulaTree
  formula_meaning r names g scope (symbol text at) = constant_meaning text
  formula_meaning r names g scope (integer z at) = None
  formula_meaning r names g scope (list no_form at) = None
  formula_meaning r names g scope (list (more_forms (symbol text _) rest) at) =
      if may_stand r scope (formula_word text) rest then formula_list_meaning (role_below r) names g scope
      (formula_word text) text rest else None
  formula_meaning r names g scope (list (more_forms (integer z _) rest) at) = None
  formula_meaning r names g scope (list (more_forms (list fs _) rest) at) = None

  -- a formula by its first word and the elements after it, with formulas of a role in it
  pub formula_list_meaning : FormulaRole → List (List ℕ) → NameSignature → Scope → FormulaWord → List ℕ → FormTrees → Option FormulaTree
  formula_list_meaning r names g scope word.Name text rest =
      option_and_then (atom_meaning g text (count rest)) (terms_meaning names g.functions scope rest)
  formula_list_meaning r names g scope (word.Compare c) text rest =
      option_and_then (compare_meaning c) (terms_meaning names g.functions scope rest)
  formula_list_meaning r names g scope word.Goal text (more_forms f no_form) = option_map formula_of_goal (goal_meaning names g scope f)
  formula_list_meaning r names g scope word.Goal text _ = None
  formula_list_meaning r names g scope word.ForAll text (more_forms vs (more_forms b (more_forms f no_form))) =
      if are_bound_by scope b vs
      then option_both (for_all (variables_meant names scope vs)) (bound_meaning names g (with_variables scope vs) b)
      (formula_meaning r names g (with_variables scope vs) f) else None
  formula_list_meaning r names g scope word.ForAll text _ = None
  formula_list_meaning r names g scope word.Exists text (more_forms vs (more_forms b (more_forms f no_form))) =
      if are_bound_by scope b vs
      then option_both (for_some (variables_meant names scope vs)) (bound_meaning names g (with_variables scope vs) b)
      (formula_meaning r names g (with_variables scope vs) f) else None
  formula_list_meaning r names g scope word.Exists text _ = None
  formula_list_meaning r names g scope word.Within text (more_forms k (more_forms f no_form)) =
      option_both within (steps_meaning k) (formula_meaning r names g scope f)
  formula_list_meaning r names g scope word.Within text _ = None
  formula_list_meaning r names g scope word.During text (more_forms k (more_forms f no_form)) =
      option_both during (steps_meaning k) (formula_meaning r names g scope f)
  formula_list_meaning r names g scope word.During text _ = None
  formula_list_meaning r names g scope w text no_form = under_meaning w no_formula
  formula_list_meaning r names g scope w text (more_forms f fs) =
      option_and_then (under_meaning w) (option_both more_formulas (formula_meaning r names g scope f)
      (formulas_meaning r names g scope fs))

  -- formulas
  pub formulas_meaning : FormulaRole → List (List ℕ) → NameSignature → Scope → FormTrees → Option FormulaTrees
  formulas_meaning r names g scope no_form = Some no_formula
  formulas_meaning r names g scope (more_forms f fs) =
      option_both more_formulas (formula_meaning r names g scope f) (formulas_meaning r names g scope fs)

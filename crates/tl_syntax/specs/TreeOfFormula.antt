-- The plain trees of formulas.
use Rattle.std.specs.Prelude.{List}
use Rattle.tl_syntax.specs.declared.formula.Formula.{Formula, Formula-F, fold-Formula}
use Rattle.tl_syntax.specs.declared.formula.Formula.TheOpen as layer
use Rattle.tl_syntax.specs.declared.formula.Formulas.{Formulas, Formulas-F, fold-Formulas}
use Rattle.tl_syntax.specs.Trees.{FormulaTree, FormulaTrees, verum, falsum, atom, defined, compare, goal_fact, goal_place, goal_not}
use Rattle.tl_syntax.specs.Trees.{negation, conjunction, disjunction, for_all, for_some, next, always, eventually, until, within, during}
use Rattle.tl_syntax.specs.Trees.{formulas_of_list}
use Rattle.tl_syntax.specs.TreeOfTerm.{tree_of_term, tree_of_terms}

-- one layer of a formula, whose parts are trees already
abbrev pub formula_step : Formula-F FormulaTree FormulaTrees → FormulaTree
formula_step layer.True = verum
formula_step layer.False = falsum
formula_step (layer.Atom p ts) = atom p (tree_of_terms ts)
formula_step (layer.Defined p ts) = defined p (tree_of_terms ts)
formula_step (layer.Compare c s t) = compare c (tree_of_term s) (tree_of_term t)
formula_step (layer.GoalFact p xs) = goal_fact p xs
formula_step (layer.GoalPlace f xs x) = goal_place f xs x
formula_step (layer.GoalNot p xs) = goal_not p xs
formula_step (layer.Not f) = negation f.value
formula_step (layer.And fs) = conjunction fs
formula_step (layer.Or fs) = disjunction fs
formula_step (layer.ForAll vs b f) = for_all vs b f.value
formula_step (layer.Exists vs b f) = for_some vs b f.value
formula_step (layer.Next f) = next f.value
formula_step (layer.Always f) = always f.value
formula_step (layer.Eventually f) = eventually f.value
formula_step (layer.Until f g) = until f.value g.value
formula_step (layer.Within n f) = within n f.value
formula_step (layer.During n f) = during n f.value

-- one layer of a list, whose formulas are trees already
abbrev pub formulas_step : Formulas-F FormulaTree FormulaTrees → FormulaTrees
formulas_step fs = formulas_of_list fs.items.items

-- the plain tree of a formula
unfoldable pub tree_of_formula : Formula → FormulaTree
tree_of_formula = fold-Formula FormulaTree FormulaTrees formula_step formulas_step

-- the plain trees of a list of formulas
unfoldable pub tree_of_formulas : Formulas → FormulaTrees
tree_of_formulas = fold-Formulas FormulaTree FormulaTrees formula_step formulas_step

-- the formulas of a list, in their order
abbrev pub formulas_in : Formulas → List Formula
formulas_in fs = fs.items.items

-- The formulas that are labelled from their parts.
use Rattle.tl_check.specs.declared.binder.Binder.{Binder}
use Rattle.tl_syntax.specs.declared.formula.Formula.{Formula}
use Rattle.tl_syntax.specs.Junctions.{quantified}
use Rattle.tl_syntax.specs.TreeOfFormula.{tree_of_formula}
use Rattle.tl_syntax.specs.Trees.{FormulaTree, until}

-- the first formula until the second one
abbrev pub until_tree : Formula → Formula → FormulaTree
until_tree f g = until (tree_of_formula f) (tree_of_formula g)

-- the formula that a quantifier makes with the one below it
abbrev pub quantified_tree : Binder → FormulaTree
quantified_tree b = quantified b.junction b.vars.now b.bound.now (tree_of_formula b.part.now)

-- Parts of formulas with the values of bindings put in.
use Rattle.std.specs.Prelude.{ℕ, List}
use Rattle.tl_syntax.specs.declared.bound.Bound.{Bound}
use Rattle.tl_syntax.specs.declared.formula.Formula.{Formula}
use Rattle.tl_syntax.specs.declared.junction.Junction.{Junction}
use Rattle.tl_syntax.specs.declared.substitution.Binding.{Binding}
use Rattle.tl_syntax.specs.declared.term.Term.{Term}
use Rattle.tl_syntax.specs.declared.value.Cmp.{Cmp}
use Rattle.tl_syntax.specs.declared.variable.Arg.{Arg}
use Rattle.tl_syntax.specs.declared.variable.Var.{Var}
use Rattle.tl_syntax.specs.Bindings.{assignment_of}
use Rattle.tl_syntax.specs.Junctions.{quantified}
use Rattle.tl_syntax.specs.Substitution.{without, substituted, substituted_arg, substituted_args, substituted_bound, substituted_term}
use Rattle.tl_syntax.specs.TreeOfFormula.{tree_of_formula}
use Rattle.tl_syntax.specs.TreeOfTerm.{tree_of_term}
use Rattle.tl_syntax.specs.Trees.{FormulaTree, compare, goal_place}

-- a comparison of two terms
abbrev pub substituted_comparison : List Binding → Cmp → Term → Term → FormulaTree
substituted_comparison bs c s t = compare c (substituted_term (assignment_of bs) (tree_of_term s))
    (substituted_term (assignment_of bs) (tree_of_term t))

-- a place of the goal list with its value
abbrev pub substituted_goal_place : List Binding → ℕ → List Arg → Arg → FormulaTree
substituted_goal_place bs f xs x = goal_place f (substituted_args (assignment_of bs) xs) (substituted_arg (assignment_of bs) x)

-- the formula for every tuple of the bound, or for some one: the values are put in for all
-- variables but its own
abbrev pub substituted_quantified : List Binding → Junction → List Var → Bound → Formula → FormulaTree
substituted_quantified bs j ss b f =
    quantified j ss (substituted_bound (without ss (assignment_of bs)) b) (substituted (without ss (assignment_of bs)) (tree_of_formula f))

use Rattle.std.proofs.Common.{sym, ap, ◌∙◌}
use Rattle.tl_action.specs.Sure.{is_bare}
use Rattle.tl_syntax.specs.TreeOfTerm.{tree_of_term}
use Rattle.tl_syntax.proofs.TermTrees.{tree-Var, tree-Val, tree-Place, tree-Arith}
use Rattle.tl_action.proofs.sure.is_bare.Goals as goal

pub returns-in-Var : goal.returns-in-Var
returns-in-Var c = ap is_bare (sym (ap tree_of_term c.in-Var.is ∙ tree-Var c.in-Var.field-0))

pub returns-in-Val : goal.returns-in-Val
returns-in-Val c = ap is_bare (sym (ap tree_of_term c.in-Val.is ∙ tree-Val c.in-Val.field-0))

pub returns-in-Place : goal.returns-in-Place
returns-in-Place c = ap is_bare (sym (ap tree_of_term c.in-Place.is ∙ tree-Place c.in-Place.field-0 c.in-Place.field-1))

pub returns-in-Arith : goal.returns-in-Arith
returns-in-Arith c = ap is_bare (sym (ap tree_of_term c.in-Arith.is ∙ tree-Arith c.in-Arith.field-0 c.in-Arith.field-1 c.in-Arith.field-2
    c.in-Arith.field-3))

use Rattle.std.proofs.Common.{sym, ap, ◌∙◌}
use Rattle.tl_action.specs.Early.{is_known_term}
use Rattle.tl_syntax.specs.TreeOfTerm.{tree_of_term}
use Rattle.tl_syntax.proofs.TermTrees.{tree-Var, tree-Val, tree-Place, tree-Arith}
use Rattle.tl_action.proofs.early.is_known.Goals as goal

pub returns-in-Var : goal.returns-in-Var
returns-in-Var c = c.is_known_slot.ensures ∙ ap (is_known_term c.args.bounds.now c.args.j) (sym (ap tree_of_term c.in-Var.is ∙
    tree-Var c.in-Var.var))

pub returns-in-Val : goal.returns-in-Val
returns-in-Val c = ap (is_known_term c.args.bounds.now c.args.j) (sym (ap tree_of_term c.in-Val.is ∙ tree-Val c.in-Val.field-0))

pub returns-in-Place : goal.returns-in-Place
returns-in-Place c = ap (is_known_term c.args.bounds.now c.args.j) (sym (ap tree_of_term c.in-Place.is ∙
    tree-Place c.in-Place.field-0 c.in-Place.field-1))

pub returns-in-Arith : goal.returns-in-Arith
returns-in-Arith c = ap (is_known_term c.args.bounds.now c.args.j) (sym (ap tree_of_term c.in-Arith.is ∙
    tree-Arith c.in-Arith.field-0 c.in-Arith.field-1 c.in-Arith.field-2 c.in-Arith.field-3))

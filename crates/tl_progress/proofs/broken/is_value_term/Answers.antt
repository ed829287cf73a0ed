use Rattle.std.proofs.Common.{sym, ap, ◌∙◌}
use Rattle.tl_progress.specs.Broken.{is_value_term}
use Rattle.tl_syntax.specs.TreeOfTerm.{tree_of_term}
use Rattle.tl_syntax.specs.Trees.{TermTree}
use Rattle.tl_syntax.proofs.TermTrees.{tree-Var, tree-Val, tree-Place, tree-Arith}
use Rattle.tl_progress.proofs.broken.is_value_term.Goals as goal

pub returns-in-Var : goal.returns-in-Var
returns-in-Var c = ap (λ (u : TermTree). is_value_term u c.args.value) (sym (ap tree_of_term c.in-Var.is ∙ tree-Var c.in-Var.field-0))

pub returns-in-Val : goal.returns-in-Val
returns-in-Val c = c.eq.ensures ∙ ap (λ (u : TermTree). is_value_term u c.args.value)
    (sym (ap tree_of_term c.in-Val.is ∙ tree-Val c.in-Val.own))

pub returns-in-Place : goal.returns-in-Place
returns-in-Place c = ap (λ (u : TermTree). is_value_term u c.args.value)
    (sym (ap tree_of_term c.in-Place.is ∙ tree-Place c.in-Place.field-0 c.in-Place.field-1))

pub returns-in-Arith : goal.returns-in-Arith
returns-in-Arith c = ap (λ (u : TermTree). is_value_term u c.args.value)
    (sym (ap tree_of_term c.in-Arith.is ∙ tree-Arith c.in-Arith.field-0 c.in-Arith.field-1 c.in-Arith.field-2 c.in-Arith.field-3))

use Rattle.std.proofs.Common.{IfOk, subst}
use Rattle.tl_nodes.specs.NodeTrees.{trees_at}
use Rattle.tl_nodes.specs.Numbers.{trees, Denotes}
use Rattle.tl_syntax.specs.Trees.{FormulaTree}
use Rattle.tl_progress.proofs.Gathering.{joined-and, joined-or}
use Rattle.tl_progress.proofs.joins.join.Goals as goal

pub returns-in-All-clause-number : goal.returns-in-All-clause-number
returns-in-All-clause-number c = subst (λ (t : FormulaTree). IfOk c.and.result (λ i. Denotes c.and.new.self i t))
    (joined-and c.args.junction (trees_at (trees c.args.nodes.now) c.args.parts.now) c.in-All.is) c.and.ensures.number

pub returns-in-Any-clause-number : goal.returns-in-Any-clause-number
returns-in-Any-clause-number c = subst (λ (t : FormulaTree). IfOk c.or.result (λ i. Denotes c.or.new.self i t))
    (joined-or c.args.junction (trees_at (trees c.args.nodes.now) c.args.parts.now) c.in-Any.is) c.or.ensures.number

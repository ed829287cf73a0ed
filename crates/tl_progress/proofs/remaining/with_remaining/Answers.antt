use Rattle.std.proofs.Common.{IfOk, subst, List}
use Rattle.tl_eval.specs.Frames.{assignment_in}
use Rattle.tl_nodes.specs.Joins.{simplified_join}
use Rattle.tl_nodes.specs.NodeTrees.{tree_at}
use Rattle.tl_nodes.specs.Numbers.{trees, Denotes}
use Rattle.tl_syntax.specs.Substitution.{substituted}
use Rattle.tl_syntax.specs.Trees.{FormulaTree}
use Rattle.tl_progress.proofs.Gathering.{part-decides, two-below, two-trees}
use Rattle.tl_progress.proofs.remaining.with_remaining.Goals as goal

pub returns-then-decides-clause-number : goal.returns-then-decides-clause-number
returns-then-decides-clause-number c =
    part-decides c.args.both.junction (trees c.args.nodes.now) c.args.both.part
    (substituted (assignment_in c.args.env.now) (tree_at (trees c.args.nodes.now) c.args.both.at)) c.requires.part
    (c.decides.ensures c.if-decides.true)

pub join-requires : goal.join-requires
join-requires c = two-below (trees c.args.nodes.now) (trees c.remaining.new.nodes) c.in_ok-rest.ensures.kept c.args.both.part
    c.in_ok-rest.rest c.requires.part _ c.in_ok-rest.ensures.number

pub returns-clause-number : goal.returns-clause-number
returns-clause-number c =
    subst (λ (fs : List FormulaTree). IfOk c.join.result (λ i. Denotes c.join.new.nodes i (simplified_join c.args.both.junction fs)))
    (two-trees (trees c.args.nodes.now) (trees c.remaining.new.nodes) c.in_ok-rest.ensures.kept c.args.both.part c.in_ok-rest.rest
    c.requires.part _ c.in_ok-rest.ensures.number) c.join.ensures.number

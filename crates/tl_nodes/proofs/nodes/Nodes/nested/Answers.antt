use Rattle.std.proofs.Common.{sym, ap, ◌∙◌}
use Rattle.tl_nodes.proofs.nodes.Nodes.nested.Goals as goal
use Rattle.tl_nodes.specs.Joins.{join_node}
use Rattle.tl_nodes.proofs.NestedJoins.{nested-parts, nested-smaller, nested-below, single-parts, and-not-or, or-not-and, neither}

pub returns-in-All-clause-parts : goal.returns-in-All-clause-parts
returns-in-All-clause-parts c = nested-parts _ c.args.id _ c.get.ensures.tree c.args.junction _
    (c.in-And.is ∙ ap (λ b. join_node b c.in-And.ids) (sym c.in-All.is))

pub returns-in-All-clause-below : goal.returns-in-All-clause-below
returns-in-All-clause-below c = nested-below _ c.args.id _ c.get.ensures.tree c.args.junction _
    (c.in-And.is ∙ ap (λ b. join_node b c.in-And.ids) (sym c.in-All.is)) c.get.ensures.parts

pub returns-in-All-clause-smaller : goal.returns-in-All-clause-smaller
returns-in-All-clause-smaller c = nested-smaller _ c.args.id _ c.get.ensures.tree c.args.junction _
    (c.in-And.is ∙ ap (λ b. join_node b c.in-And.ids) (sym c.in-All.is))

pub returns-in-Any-clause-parts : goal.returns-in-Any-clause-parts
returns-in-Any-clause-parts c = single-parts c.args.junction _ c.args.id _ c.get.ensures.tree c.get.ensures.parts
    (and-not-or _ c.args.junction c.in-And.ids c.in-And.is c.in-Any.is)

pub returns-in-All-junction-clause-parts : goal.returns-in-All-junction-clause-parts
returns-in-All-junction-clause-parts c = single-parts c.args.junction _ c.args.id _ c.get.ensures.tree c.get.ensures.parts
    (or-not-and _ c.args.junction c.in-Or.ids c.in-Or.is c.in-All-junction.is)

pub returns-in-Any-junction-clause-parts : goal.returns-in-Any-junction-clause-parts
returns-in-Any-junction-clause-parts c = nested-parts _ c.args.id _ c.get.ensures.tree c.args.junction _
    (c.in-Or.is ∙ ap (λ b. join_node b c.in-Or.ids) (sym c.in-Any-junction.is))

pub returns-in-Any-junction-clause-below : goal.returns-in-Any-junction-clause-below
returns-in-Any-junction-clause-below c = nested-below _ c.args.id _ c.get.ensures.tree c.args.junction _
    (c.in-Or.is ∙ ap (λ b. join_node b c.in-Or.ids) (sym c.in-Any-junction.is)) c.get.ensures.parts

pub returns-in-Any-junction-clause-smaller : goal.returns-in-Any-junction-clause-smaller
returns-in-Any-junction-clause-smaller c = nested-smaller _ c.args.id _ c.get.ensures.tree c.args.junction _
    (c.in-Or.is ∙ ap (λ b. join_node b c.in-Or.ids) (sym c.in-Any-junction.is))

pub returns-in_default : goal.returns-in_default
returns-in_default c = record {
  parts = single-parts c.args.junction _ c.args.id _ c.get.ensures.tree c.get.ensures.parts
      (neither _ c.args.junction c.in_default.not-And c.in_default.not-Or);
  below = tt;
  smaller = tt;
}

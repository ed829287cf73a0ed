use Rattle.std.proofs.Common.{IfOk, ap, ◌∙◌, subst}
use Rattle.tl_eval.specs.Frames.{assignment_in}
use Rattle.tl_nodes.specs.NodeTrees.{tree_at}
use Rattle.tl_nodes.specs.Numbers.{trees, Denotes}
use Rattle.tl_syntax.specs.Assignment.{Assignment}
use Rattle.tl_syntax.specs.Bindings.{assignment_of}
use Rattle.tl_syntax.specs.Substitution.{substituted}
use Rattle.tl_progress.proofs.remaining.remaining.Goals as goal

pub returns-then-put_few-clause-number : goal.returns-then-put_few-clause-number
returns-then-put_few-clause-number c =
    subst (λ (d : Assignment). IfOk c.filled.result (λ i. Denotes c.filled.new.nodes i
    (substituted d (tree_at (trees c.args.nodes.now) c.args.at))))
    (ap assignment_of c.as_slice.ensures ∙ (c.put_few.ensures c.if-put_few.true ∙ ap assignment_in c.slots-frame.ensures.values))
    c.filled.ensures.number

pub returns-clause-number : goal.returns-clause-number
returns-clause-number c =
    subst (λ (d : Assignment). IfOk c.filled-2.result (λ i. Denotes c.filled-2.new.nodes i
    (substituted d (tree_at (trees c.args.nodes.now) c.args.at))))
    (ap assignment_of c.as_slice-2.ensures ∙ (c.in_ok-bindings.ensures ∙ ap assignment_in c.slots-frame.ensures.values))
    c.filled-2.ensures.number

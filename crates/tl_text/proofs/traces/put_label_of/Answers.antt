use Rattle.std.proofs.Common.{◌≡◌, ◌<◌, ◌++◌, ◌∙◌, ℕ, List, length, codes, sym, ap, subst}
use Rattle.tl_label.specs.Labels.{label_text}
use Rattle.tl_nodes.specs.declared.nodes.Nodes.{Nodes}
use Rattle.tl_nodes.specs.NodeTrees.{tree_at}
use Rattle.tl_nodes.specs.Numbers.{trees}
use Rattle.tl_space.specs.Spaces.{task_of, kept_of}
use Rattle.tl_world.specs.declared.task.Task.{Task}
use Rattle.tl_text.proofs.TraceLines.{label-inside, label-line}
use Rattle.tl_text.proofs.traces.put_label_of.Goals as goal

pub label_text-requires-clause-id : goal.label_text-requires-clause-id
label_text-requires-clause-id c =
    let nodes = c.args.space.now.nodes in
    subst (λ (s : Nodes). c.label.result < length (trees s)) (sym c.nodes.ensures)
    (label-inside (kept_of c.args.space.now) c.args.at c.requires (trees nodes) c.label.result c.label.ensures.residual)

pub returns : goal.returns
returns c =
    let nodes = c.args.space.now.nodes in
    let task = task_of c.args.space.now in
    let label : c.in_ok-label.label ≡ label_text task.problem.names task.problem.domain (tree_at (trees nodes) c.label.result) =
    c.in_ok-label.ensures
    ∙ ap (λ (s : Nodes). label_text c.task.result.now.problem.names c.task.result.now.problem.domain (tree_at (trees s) c.label.result))
    c.nodes.ensures
    ∙ ap (λ (t : Task). label_text t.problem.names t.problem.domain (tree_at (trees nodes) c.label.result)) c.task.ensures in
    let line = label-line (kept_of c.args.space.now) c.args.at c.requires
    (trees nodes) c.label.result c.label.ensures.residual task.problem.names task.problem.domain in
    c.in_ok-put_label.ensures
    ∙ ap (λ (t : List ℕ). c.args.out.now ++ (codes "; label " ++ (t ++ codes "\n"))) (c.as_slice.ensures ∙ label)
    ∙ ap (λ (t : List ℕ). c.args.out.now ++ t) line

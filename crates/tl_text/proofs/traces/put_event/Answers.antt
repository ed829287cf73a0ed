use Rattle.std.proofs.Common.{◌≡◌, ◌++◌, ◌∙◌, ap}
use Rattle.std.specs.Fmt.{decimal}
use Rattle.tl_label.proofs.Lines.{where_ok}
use Rattle.tl_space.specs.Spaces.{task_of, kept_of}
use Rattle.tl_world.specs.declared.task.Task.{Task}
use Rattle.tl_text.specs.Traces.{label_line, action_end}
use Rattle.tl_text.proofs.TraceLines.{kept-lines}
use Rattle.tl_text.proofs.traces.put_event.Goals as goal

pub returns-in_ok-put_met-in-Kept : goal.returns-in_ok-put_met-in-Kept
returns-in_ok-put_met-in-Kept c =
    let old = c.args.out.now in
    let p = (task_of c.args.space.now).problem in
    let first : c.put_met.new.out ≡ old ++ (c.as_str.result.now ++ action_end p.names p.domain c.in-Kept.action) =
    c.in_ok-put_met-in-Kept.ensures ∙ ap (λ (t : Task). old ++ (c.as_str.result.now ++
    action_end t.problem.names t.problem.domain c.in-Kept.action)) c.task.ensures in
    rw c.in-Kept.is
    (where_ok c.put_label_of-in-Kept.result
    (kept-lines old c.as_str.result.now (decimal c.in-Kept.at) (decimal c.in-Kept.from) (action_end p.names p.domain c.in-Kept.action)
    (label_line p.names p.domain (kept_of c.args.space.now) c.in-Kept.at) c.put_met.new.out c.put_label_of-in-Kept.new.out
    (c.as_str.ensures.value ∙ c.in_ok-met-in-Kept.ensures) first) c.put_label_of-in-Kept.ensures)

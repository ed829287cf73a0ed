use Rattle.std.proofs.Common.{ap, ◌∙◌, Some, length, take, ◌<◌, cond, ◌==◌, arith}
use Rattle.std.specs.Prelude.{slice_set}
use Rattle.tl_eval.specs.Frames.{assignment_in}
use Rattle.tl_eval.proofs.FrameLaws.{set-in_frame, assignment-set, length-frame}
use Rattle.tl_eval.proofs.env.Env.put.Goals as goal

pub returns-clause-value : goal.returns-clause-value
returns-clause-value c = set-in_frame c.self.inside.values.items c.args.slot (Some c.args.value) c.requires ∙
    ap (λ frame. slice_set frame c.args.slot (Some c.args.value)) c.self.view_is

pub returns-clause-others : goal.returns-clause-others
returns-clause-others c = λ q.
    let room : c.args.slot < length (take 32 c.self.inside.values.items) = let n =
    length-frame c.self.inside.values.items c.self.invariant in let h = c.requires in omega arith in
    ap (λ frame. assignment_in frame q) (set-in_frame c.self.inside.values.items c.args.slot (Some c.args.value) c.requires)
    ∙ (assignment-set (take 32 c.self.inside.values.items) c.args.slot (Some c.args.value) q room ∙
    ap (λ frame. cond (q == c.args.slot) (Some c.args.value) (assignment_in frame q)) c.self.view_is)

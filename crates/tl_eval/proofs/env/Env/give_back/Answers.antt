use Rattle.std.proofs.Common.{◌≡◌, length, take, List, Option, sym, ap, ◌∙◌}
use Rattle.tl_eval.specs.Frames.{assignment_in, given_back}
use Rattle.tl_eval.proofs.FrameLaws.{length-frame}
use Rattle.tl_eval.proofs.KeptLaws.{all-back, same-frame}
use Rattle.tl_eval.proofs.WholeLaws.{same-frames}
use Rattle.tl_syntax.specs.declared.value.Value.{Value}
use Rattle.tl_eval.proofs.env.Env.give_back.Goals as goal

pub returns-clause-values : goal.returns-clause-values
returns-clause-values c =
    let kept : length c.give_back.new.frames ≡ length c.self.inside.values.items = c.give_back.auto.frames ∙
    ap (λ (xs : List (Option Value)). length xs) c.as_mut_slice.ensures.value in
    ap assignment_in (same-frames 32 c.self.inside.values.len c.self.inside.values.items c.give_back.new.frames kept
    c.self.inside.values.ok.0)
    ∙ (c.give_back.ensures ∙ ap (λ (frame : List (Option Value)). given_back c.args.vars.now c.args.values.now (assignment_in frame))
    (ap (take 32) c.as_mut_slice.ensures.value ∙ c.self.view_is))

pub returns-clause-frame : goal.returns-clause-frame
returns-clause-frame c = λ frame h k.
    let kept : length c.give_back.new.frames ≡ length c.self.inside.values.items = c.give_back.auto.frames ∙
    ap (λ (xs : List (Option Value)). length xs) c.as_mut_slice.ensures.value in
    let here = same-frames 32 c.self.inside.values.len c.self.inside.values.items c.give_back.new.frames kept c.self.inside.values.ok.0 in
    same-frame _ frame
    (ap (λ (xs : List (Option Value)). length xs) here ∙ (length-frame c.give_back.new.frames (kept ∙ c.self.invariant) ∙ sym h.slots))
    (returns-clause-values c ∙ all-back c.args.vars.now c.args.values.now (assignment_in c.args.self.now) (assignment_in frame) k h.same)

use Rattle.std.proofs.Common.{◌≡◌, length, take, List, Option, ap, ◌∙◌}
use Rattle.tl_eval.proofs.WholeLaws.{same-frames}
use Rattle.tl_syntax.specs.declared.value.Value.{Value}
use Rattle.tl_eval.proofs.env.Env.copy.Goals as goal

pub returns : goal.returns
returns c =
    let kept : length c.restore.new.frames ≡ length c.in_ok-values.values.items = c.restore.auto.frames ∙
    ap (λ (xs : List (Option Value)). length xs) c.as_mut_slice.ensures.value in
    same-frames 32 c.in_ok-values.values.len c.in_ok-values.values.items c.restore.new.frames kept c.in_ok-values.values.ok.0
    ∙ (c.restore.ensures ∙ (c.saved-frame.ensures ∙ (ap (take 32) c.as_slice.ensures.value ∙ c.self.view_is)))

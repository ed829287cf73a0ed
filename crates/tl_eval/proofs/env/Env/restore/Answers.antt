use Rattle.std.proofs.Common.{◌≡◌, length, List, Option, ap, ◌∙◌}
use Rattle.tl_eval.proofs.WholeLaws.{same-frames}
use Rattle.tl_syntax.specs.declared.value.Value.{Value}
use Rattle.tl_eval.proofs.env.Env.restore.Goals as goal

pub returns : goal.returns
returns c =
    let kept : length c.restore.new.frames ≡ length c.self.inside.values.items = c.restore.auto.frames ∙
    ap (λ (xs : List (Option Value)). length xs) c.as_mut_slice.ensures.value in
    same-frames 32 c.self.inside.values.len c.self.inside.values.items c.restore.new.frames kept c.self.inside.values.ok.0
    ∙ c.restore.ensures

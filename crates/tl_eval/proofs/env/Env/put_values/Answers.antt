use Rattle.std.proofs.Common.{◌≡◌, length, take, List, Option, sym, ap, ◌∙◌}
use Rattle.tl_eval.specs.Frames.{assignment_in}
use Rattle.tl_eval.proofs.BindLaws.{bind-through}
use Rattle.tl_eval.proofs.FrameLaws.{length-frame}
use Rattle.tl_eval.proofs.WholeLaws.{same-frames}
use Rattle.tl_syntax.specs.declared.value.Value.{Value}
use Rattle.tl_syntax.specs.Assignment.{bind}
use Rattle.tl_eval.proofs.env.Env.put_values.Goals as goal

pub returns-clause-values : goal.returns-clause-values
returns-clause-values c =
    let kept : length c.put_in_scope.new.frames ≡ length c.self.inside.values.items = c.put_in_scope.auto.frames ∙
    ap (λ (xs : List (Option Value)). length xs) c.as_mut_slice.ensures.value in
    ap assignment_in (same-frames 32 c.self.inside.values.len c.self.inside.values.items c.put_in_scope.new.frames kept
    c.self.inside.values.ok.0)
    ∙ (c.put_in_scope.ensures ∙ ap (λ (frame : List (Option Value)). bind c.args.vars.now c.args.values.now (assignment_in frame))
    (ap (take 32) c.as_mut_slice.ensures.value ∙ c.self.view_is))

pub returns-clause-slots : goal.returns-clause-slots
returns-clause-slots c =
    let kept : length c.put_in_scope.new.frames ≡ length c.self.inside.values.items = c.put_in_scope.auto.frames ∙
    ap (λ (xs : List (Option Value)). length xs) c.as_mut_slice.ensures.value in
    ap (λ (xs : List (Option Value)). length xs) (same-frames 32 c.self.inside.values.len c.self.inside.values.items
    c.put_in_scope.new.frames kept c.self.inside.values.ok.0)
    ∙ (length-frame c.put_in_scope.new.frames (kept ∙ c.self.invariant)
    ∙ (sym (length-frame c.self.inside.values.items c.self.invariant) ∙ ap (λ (xs : List (Option Value)). length xs) c.self.view_is))

pub returns-clause-elsewhere : goal.returns-clause-elsewhere
returns-clause-elsewhere c = λ t. bind-through c.args.vars.now t c.args.values.now _ (assignment_in c.args.self.now)
    (returns-clause-values c)

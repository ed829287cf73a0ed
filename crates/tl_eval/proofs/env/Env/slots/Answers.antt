use Rattle.std.proofs.Common.{length, List, Option, sym, ap, ◌∙◌}
use Rattle.tl_eval.proofs.FrameLaws.{length-frame}
use Rattle.tl_syntax.specs.declared.value.Value.{Value}
use Rattle.tl_eval.proofs.env.Env.slots.Goals as goal

pub returns-clause-slots : goal.returns-clause-slots
returns-clause-slots c =
    ap (λ (xs : List (Option Value)). length xs) c.frame.ensures ∙ (ap (λ (xs : List (Option Value)). length xs) (sym c.self.view_is) ∙
    length-frame c.self.inside.values.items c.self.invariant)

use Rattle.std.proofs.Common.{ap, ◌∙◌, sym, take, Option, List, rules}
use Rattle.tl_syntax.specs.declared.value.Value.{Value}
use Rattle.tl_eval.specs.Frames.{assignment_in}
use Rattle.tl_eval.proofs.FrameLaws.{length-frame, nothing-at}
use Rattle.tl_eval.proofs.env.Env.with_memory.Goals as goal

pub returns-clause-slots : goal.returns-clause-slots
returns-clause-slots c = length-frame c.in_ok-values.values.items (sym c.in_ok-values.values.ok.0 ∙ c.in_ok-values.ensures.len)

pub returns-clause-empty : goal.returns-clause-empty
returns-clause-empty c = λ q. ap (λ (values : List (Option Value)). assignment_in (take 32 values) q)
    (c.in_ok-values.ensures.items_if_clones_equal (λ y h. search rules)) ∙ nothing-at 32 32 q

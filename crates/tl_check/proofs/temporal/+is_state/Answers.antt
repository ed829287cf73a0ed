use Rattle.tl_check.proofs.TemporalLaws.{state-more, state-all}
use Rattle.tl_check.proofs.temporal.+is_state.Goals as goal

pub are_state-loop-part-preserved : goal.are_state-loop-part-preserved
are_state-loop-part-preserved t c = state-more c.as_slice-part-items.result.now c.loop-part.part-index c.part-item.result
    c.loop-part-test.true c.part-item.is c.loop-part.invariant (c.is_state.ensures c.if-not-is_state.false)

pub are_state-returns : goal.are_state-returns
are_state-returns t c = λ q. state-all c.args.parts.now c.as_slice-part-items.result.now c.loop-part.part-index
    c.as_slice-part-items.ensures c.loop-part-test.false c.loop-part.invariant

use Rattle.std.proofs.Common.{take}
use Rattle.tl_check.proofs.TemporalLaws.{AllState}
use Rattle.tl_check.proofs.temporal.+is_state.Given as goal

abbrev pub invariant-are_state-loop-part : goal.invariant-are_state-loop-part
invariant-are_state-loop-part l = AllState (take l.part-index l.part-items)

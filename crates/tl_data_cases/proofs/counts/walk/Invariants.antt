use Rattle.std.proofs.Common.{◌≡◌, ◌+◌}
use Rattle.tl_data_cases.proofs.counts.walk.Given as goal

abbrev pub invariant-loop-byte : goal.invariant-loop-byte
invariant-loop-byte g l = l.steps ≡ l.initial.steps + l._byte-index

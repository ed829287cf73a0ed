use Rattle.std.proofs.Common.{◌≡◌, ◌≤◌, ◌-◌, length, take}
use Rattle.tl_rows.proofs.runs.Runs.begins_with.Given as goal

abbrev pub invariant-loop-k : goal.invariant-loop-k
invariant-loop-k l = record {
  within : l.k ≤ length l.shared;
  same : take l.k l.self ≡ take l.k l.shared;
}

abbrev pub decreases-loop-k : goal.decreases-loop-k
decreases-loop-k l = length l.shared - l.k

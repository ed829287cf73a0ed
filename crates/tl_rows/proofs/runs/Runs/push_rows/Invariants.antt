use Rattle.std.proofs.Common.{◌≡◌, ◌≤◌, ◌-◌, ◌++◌}
use Rattle.tl_rows.specs.Runs.{between}
use Rattle.tl_rows.proofs.runs.Runs.push_rows.Given as goal

abbrev pub invariant-loop-k : goal.invariant-loop-k
invariant-loop-k l = record {
  low : l.from ≤ l.k;
  high : l.k ≤ l.to;
  rows : l.self ≡ l.initial.self ++ between l.other l.from l.k;
}

abbrev pub decreases-loop-k : goal.decreases-loop-k
decreases-loop-k l = l.to - l.k

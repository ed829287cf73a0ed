use Rattle.std.proofs.Common.{◌≡◌, ◌≤◌, ◌-◌, ◌++◌, length}
use Rattle.tl_rows.specs.Runs.{between, rows_in, run_place}
use Rattle.tl_rows.proofs.shared.Shared.push_runs.Given as goal

abbrev pub invariant-loop-i : goal.invariant-loop-i
invariant-loop-i l = record {
  within : l.i ≤ length l.runs;
  low : l.k ≤ run_place l.runs l.i;
  high : run_place l.runs l.i ≤ l.to;
  rows : l.self ≡ l.initial.self ++ between (rows_in l.runs) l.k (run_place l.runs l.i);
}

abbrev pub decreases-loop-i : goal.decreases-loop-i
decreases-loop-i l = length l.runs - l.i

use Rattle.std.proofs.Common.{◌≡◌, ◌≢◌, ◌<◌, ◌≤◌, ◌-◌, [], length, get_or, Greater}
use Rattle.tl_rows.specs.Plain.{row_cmp}
use Rattle.tl_rows.specs.Runs.{rows_in, run_place}
use Rattle.tl_rows.proofs.shared.find_run_for.Given as goal

abbrev pub invariant-loop-low : goal.invariant-loop-low
invariant-loop-low l = record {
  order : l.low < l.high;
  within : l.high ≤ length l.runs;
  before : 0 < l.low → row_cmp (get_or (rows_in l.runs) (run_place l.runs l.low) []) l.args ≢ Greater;
  after : l.high < length l.runs → row_cmp (get_or (rows_in l.runs) (run_place l.runs l.high) []) l.args ≡ Greater;
}

abbrev pub decreases-loop-low : goal.decreases-loop-low
decreases-loop-low l = l.high - l.low

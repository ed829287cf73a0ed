use Rattle.std.proofs.Common.{◌≡◌, ◌≤◌, ◌<◌, ℕ, false, get_or}
use Rattle.tl_check.proofs.EndLaws.{Passed}
use Rattle.tl_check.specs.Runs.{spread}
use Rattle.tl_check.proofs.ends.up_to_true.Given as goal

abbrev pub invariant-loop-run : goal.invariant-loop-run
invariant-loop-run l = record {
  passed : Passed l.runs l.run-index l.at;
  order : l.end ≤ l.at;
  none : (k : ℕ) → l.end ≤ k → k < l.at → get_or (spread l.runs) k false ≡ false;
}

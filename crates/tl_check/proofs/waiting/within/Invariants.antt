use Rattle.std.proofs.Common.{◌≡◌, ◌≤◌, ◌++◌, drop}
use Rattle.tl_check.specs.Passes.{within_labels}
use Rattle.tl_check.specs.Runs.{spread}
use Rattle.tl_check.specs.Waiting.{within_after}
use Rattle.tl_check.proofs.waiting.within.Given as goal

abbrev pub invariant-loop-run : goal.invariant-loop-run
invariant-loop-run l = record {
  few : l.waiting ≤ l.steps;
  so_far : spread l.made.items ++ within_after l.steps l.waiting (spread (drop l.run-index l.runs)) ≡ within_labels l.steps (spread l.runs);
}

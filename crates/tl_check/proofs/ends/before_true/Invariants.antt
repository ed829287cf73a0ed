use Rattle.tl_check.proofs.EndLaws.{Passed}
use Rattle.tl_check.specs.Ends.{IsFalseBefore}
use Rattle.tl_check.specs.Runs.{spread}
use Rattle.tl_check.proofs.ends.before_true.Given as goal

abbrev pub invariant-loop-run : goal.invariant-loop-run
invariant-loop-run l = record {
  passed : Passed l.runs l.run-index l.at;
  none : IsFalseBefore (spread l.runs) l.at;
}

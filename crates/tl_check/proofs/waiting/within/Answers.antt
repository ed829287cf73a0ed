use Rattle.std.proofs.Common.{drop}
use Rattle.tl_check.proofs.RunLaws.{spread-end}
use Rattle.tl_check.proofs.WaitLaws.{within-done}
use Rattle.tl_check.specs.Passes.{within_labels}
use Rattle.tl_check.specs.Runs.{spread}
use Rattle.tl_check.proofs.waiting.within.Goals as goal

pub returns : goal.returns
returns c =
    within-done c.args.steps c.loop-run.waiting (spread c.loop-run.made.items) (spread c.add.new.runs.items)
    (spread (drop c.loop-run.run-index c.args.runs.now)) (within_labels c.args.steps (spread c.args.runs.now)) c.in_ok-add.ensures.added
    (spread-end c.args.runs.now c.loop-run.run-index c.loop-run-test.false) c.loop-run.invariant.so_far

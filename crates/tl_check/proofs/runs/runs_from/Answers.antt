use Rattle.std.proofs.Common.{drop}
use Rattle.tl_check.proofs.RunLaws.{from-on, from-end}
use Rattle.tl_check.specs.Runs.{spread}
use Rattle.tl_check.proofs.runs.runs_from.Goals as goal

pub loop-run-preserved : goal.loop-run-preserved
loop-run-preserved c = from-on c.args.runs.now c.loop-run.run-index c.loop-run.left c.lesser-skipped.result c.run-item.result
    (spread c.loop-run.made.items) (spread c.add.new.runs.items) (drop c.args.at (spread c.args.runs.now)) c.loop-run-test.true
    c.run-item.is c.lesser-skipped.ensures.left c.lesser-skipped.ensures.right c.in_ok-add.ensures.added c.loop-run.invariant

pub returns : goal.returns
returns c = from-end c.args.runs.now c.loop-run.run-index c.loop-run.left (spread c.loop-run.made.items)
    (drop c.args.at (spread c.args.runs.now)) c.loop-run-test.false c.loop-run.invariant

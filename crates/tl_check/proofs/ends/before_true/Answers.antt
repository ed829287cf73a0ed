use Rattle.std.proofs.Common.{refl, arith}
use Rattle.tl_check.proofs.EndLaws.{passed-on, fits, false-before_more, true-here, false-everywhere}
use Rattle.tl_check.proofs.ends.before_true.Goals as goal

pub loop-run-init : goal.loop-run-init
loop-run-init c = record { passed = record { rest = refl; size = omega arith }; none = λ k h. absurd (omega arith) }

pub overflow_add-at : goal.overflow_add-at
overflow_add-at c = omega (
  arith,
  fits c.args.runs.now c.loop-run.run-index c.loop-run.at c.run-item.result c.loop-run-test.true
      c.run-item.is c.loop-run.invariant.passed,
)

pub loop-run-preserved : goal.loop-run-preserved
loop-run-preserved c = record {
  passed = passed-on c.args.runs.now c.loop-run.run-index c.loop-run.at c.run-item.result c.loop-run-test.true c.run-item.is
      c.loop-run.invariant.passed;
  none = false-before_more c.args.runs.now c.loop-run.run-index c.loop-run.at c.run-item.result c.loop-run-test.true c.run-item.is
      c.loop-run.invariant.passed c.loop-run.invariant.none c.if-run.false;
}

pub returns-then-run-clause-there : goal.returns-then-run-clause-there
returns-then-run-clause-there c = true-here c.args.runs.now c.loop-run.run-index c.loop-run.at c.run-item.result c.loop-run-test.true
    c.run-item.is c.loop-run.invariant.passed c.if-run.true

pub returns-clause-none : goal.returns-clause-none
returns-clause-none c = false-everywhere c.args.runs.now c.loop-run.run-index c.loop-run.at c.loop-run-test.false
    c.loop-run.invariant.passed c.loop-run.invariant.none

use Rattle.std.proofs.Common.{refl, arith}
use Rattle.tl_check.proofs.EndLaws.{passed-on, fits, up-to_more, all-passed, false-from}
use Rattle.tl_check.proofs.ends.up_to_true.Goals as goal

pub loop-run-init : goal.loop-run-init
loop-run-init c = record { passed = record { rest = refl; size = omega arith }; order = omega arith; none = λ k h l. absurd (omega arith) }

pub overflow_add-at : goal.overflow_add-at
overflow_add-at c = omega (
  arith,
  fits c.args.runs.now c.loop-run.run-index c.loop-run.at c.run-item.result c.loop-run-test.true
      c.run-item.is c.loop-run.invariant.passed,
)

pub loop-run-preserved : goal.loop-run-preserved
loop-run-preserved c =
    let more = up-to_more c.args.runs.now c.loop-run.run-index c.loop-run.at c.run-item.result c.loop-run-test.true c.run-item.is
    c.loop-run.invariant.passed c.loop-run.end c.end_at-end.result c.loop-run.invariant.order c.loop-run.invariant.none
    c.end_at-end.ensures.moved c.end_at-end.ensures.stays in
    record {
      passed = passed-on c.args.runs.now c.loop-run.run-index c.loop-run.at c.run-item.result c.loop-run-test.true c.run-item.is
          c.loop-run.invariant.passed;
      order = more.0;
      none = more.1;
    }

pub returns-clause-within : goal.returns-clause-within
returns-clause-within c = omega (
  arith,
  c.loop-run.invariant.order,
  all-passed c.args.runs.now c.loop-run.run-index c.loop-run.at
      c.loop-run-test.false c.loop-run.invariant.passed,
)

pub returns-clause-after : goal.returns-clause-after
returns-clause-after c = false-from c.args.runs.now c.loop-run.run-index c.loop-run.at c.loop-run-test.false c.loop-run.invariant.passed
    c.loop-run.end c.loop-run.invariant.none

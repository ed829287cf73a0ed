use Rattle.std.proofs.Common.{refl}
use Rattle.tl_check.proofs.RunLaws.{negate-on}
use Rattle.tl_check.proofs.passes.negate.Goals as goal

pub loop-i-preserved : goal.loop-i-preserved
loop-i-preserved c = negate-on c.loop-i.i c.loop-i.runs c.args.runs.now c.index-runs-i.result _ c.loop-i-test.true c.loop-i.invariant
    c.index-runs-i.is refl refl

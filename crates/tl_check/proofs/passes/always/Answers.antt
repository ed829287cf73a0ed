use Rattle.std.proofs.Common.{refl}
use Rattle.tl_check.proofs.RunLaws.{always-on}
use Rattle.tl_check.proofs.passes.always.Goals as goal

pub loop-i-preserved : goal.loop-i-preserved
loop-i-preserved c = always-on c.loop-i.i c.loop-i.later c.loop-i.runs c.args.runs.now c.index-runs-i.result _ c.loop-i-test.true
    c.loop-i.invariant c.index-runs-i.is refl c.join-later.ensures

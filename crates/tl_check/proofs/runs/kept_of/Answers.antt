use Rattle.std.proofs.Common.{arith}
use Rattle.tl_check.proofs.RunLaws.{kept-on}
use Rattle.tl_check.proofs.runs.kept_of.Goals as goal

pub loop-i-preserved : goal.loop-i-preserved
loop-i-preserved c = kept-on c.args.runs.now c.loop-i.i c.args.count c.loop-i.left c.index-runs-i.result (omega arith) c.index-runs-i.is
    (omega arith) c.loop-i.invariant

use Rattle.std.proofs.Common.{false, arith, refl, length}
use Rattle.tl_check.proofs.RunLaws.{last-run}
use Rattle.tl_check.proofs.runs.last.Goals as goal

pub returns-else-count-eq0 : goal.returns-else-count-eq0
returns-else-count-eq0 c = last-run false c.args.runs.now (length c.args.runs.now) c.index-runs-count.result refl
    (omega arith) c.index-runs-count.is

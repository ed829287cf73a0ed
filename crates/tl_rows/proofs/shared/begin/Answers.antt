use Rattle.std.proofs.Common.{◌<◌, arith}
use Rattle.tl_rows.proofs.Joined.{place-before}
use Rattle.tl_rows.proofs.shared.begin.Goals as goal

pub returns-else-i-eq0-clause-place : goal.returns-else-i-eq0-clause-place
returns-else-i-eq0-clause-place c = let some : 0 < c.args.i = omega arith in
    (place-before c.args.runs.now c.args.i c.index-runs-i.result c.requires.counted some c.requires.bound).0

pub returns-else-i-eq0-clause-small : goal.returns-else-i-eq0-clause-small
returns-else-i-eq0-clause-small c = let some : 0 < c.args.i = omega arith in
    (place-before c.args.runs.now c.args.i c.index-runs-i.result c.requires.counted some c.requires.bound).1

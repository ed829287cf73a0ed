use Rattle.std.proofs.Common.{arith}
use Rattle.tl_rows.proofs.Joined.{end-is-place}
use Rattle.tl_rows.proofs.shared.find_run.Goals as goal

pub returns-then-k-runs-clause-to : goal.returns-then-k-runs-clause-to
returns-then-k-runs-clause-to c =
    let e = end-is-place c.args.runs.now c.args.guess c.index-runs-guess.result c.requires.counted c.if-guess-runs.true in
    let t = c.if-k-runs.true in omega (arith, e, t)

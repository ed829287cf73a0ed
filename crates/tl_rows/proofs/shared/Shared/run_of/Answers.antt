use Rattle.std.proofs.Common.{arith}
use Rattle.tl_rows.proofs.Joined.{found-run, found-end}
use Rattle.tl_rows.proofs.shared.Shared.run_of.Goals as goal

pub returns-clause-part : goal.returns-clause-part
returns-clause-part c = found-run c.self.inside.runs.items c.as_slice-runs.result.now c.args.self.now c.find_run-i.result c.begin.result
    c.index-runs-i.result c.as_slice-runs.ensures.value c.self.view_is c.find_run-i.ensures.bound c.begin.ensures.place

pub returns-clause-to : goal.returns-clause-to
returns-clause-to c =
    let e = found-end c.self.inside.runs.items c.as_slice-runs.result.now c.find_run-i.result c.begin.result c.index-runs-i.result
    c.as_slice-runs.ensures.value c.self.invariant c.find_run-i.ensures.bound c.begin.ensures.place in
    omega (arith, e, c.find_run-i.ensures.to)

use Rattle.std.proofs.Common.{◌<◌, length, sym, subst}
use Rattle.tl_rows.proofs.Joined.{found-for, found-some}
use Rattle.tl_rows.proofs.shared.Shared.run_for.Goals as goal

pub returns-clause-part : goal.returns-clause-part
returns-clause-part c = found-for c.args.args.now c.self.inside.runs.items c.as_slice-runs.result.now c.args.self.now c.as_ref.result.now
    c.find_run_for-i.result c.begin.result c.index-runs-i.result c.as_slice-runs.ensures.value c.self.view_is c.self.invariant
    c.find_run_for-i.ensures.bound c.begin.ensures.place c.as_ref.ensures
    c.find_run_for-i.ensures.before c.find_run_for-i.ensures.after

pub returns-clause-filled : goal.returns-clause-filled
returns-clause-filled c = subst (λ xs. 0 < length xs) (sym c.as_ref.ensures)
    (found-some c.self.inside.runs.items c.as_slice-runs.result.now c.find_run_for-i.result c.index-runs-i.result
    c.as_slice-runs.ensures.value c.self.invariant c.find_run_for-i.ensures.bound)

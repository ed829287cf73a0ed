use Rattle.std.proofs.Common.{◌≡◌, ◌-◌, suc, length, slice_get, Some, ap, subst, arith}
use Rattle.tl_depth.specs.declared.level.Level.{Level}
use Rattle.tl_depth.proofs.Ends.{at-end, some-length, on-ok, report_arrival-is}
use Rattle.tl_depth.proofs.stack.DepthFirst.tell.Goals as goal

pub returns-clause-told : goal.returns-clause-told
returns-clause-told c = on-ok c.report_arrival.result _ _ c.report_arrival.ensures (λ h front d a e q.
    let s : length c.args.self.now.stack.items ≡ suc (length front) = some-length _ front d e in
    let l : suc (length c.as_slice.result.now - 1) ≡ length c.args.self.now.stack.items =
    omega (arith, ap length c.as_slice.ensures.value) in
    let n : c.index-level.result.now ≡ d = at-end _ front d _ _ e l c.index-level.ensures in
    report_arrival-is c.args.self.now.watch c.args.self.now.events _ d c.index-level.result.now c.in_ok-action.action a c.args.arrival n
    (subst (λ (z : Level). slice_get z.actions z.tried ≡ Some c.in_ok-action.action) n c.in_ok-action.ensures) q h)

use Rattle.std.proofs.Common.{◌≡◌, ◌-◌, suc, length, ap, subst, arith}
use Rattle.tl_depth.specs.Expansions.{GainsArrival}
use Rattle.tl_depth.specs.declared.level.Level.{Level}
use Rattle.tl_depth.proofs.Ends.{at-end, some-length, on-ok}
use Rattle.tl_depth.proofs.stack.DepthFirst.remember_arrival.Goals as goal

pub returns-clause-remembered : goal.returns-clause-remembered
returns-clause-remembered c = on-ok c.remember_arrival.result _ _ c.remember_arrival.ensures (λ h front d e.
    let s : length c.args.self.now.stack.items ≡ suc (length front) = some-length _ front d e in
    let l : suc (length c.as_slice.result.now - 1) ≡ length c.args.self.now.stack.items =
    omega (arith, ap length c.as_slice.ensures.value) in
    let n : c.index-level.result.now ≡ d = at-end _ front d _ _ e l c.index-level.ensures in
    subst (λ (z : Level). GainsArrival c.args.self.now.expansions c.remember_arrival.new.self z.at z.tried c.args.arrival) n h)

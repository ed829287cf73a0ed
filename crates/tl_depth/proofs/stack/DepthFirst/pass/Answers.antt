use Rattle.std.proofs.Common.{◌≡◌, ◌-◌, suc, length, ap, arith}
use Rattle.tl_depth.specs.declared.level.Level.{Level}
use Rattle.tl_depth.proofs.Ends.{at-end, bumped, some-length}
use Rattle.tl_depth.proofs.stack.DepthFirst.pass.Goals as goal

pub overflow_add-index_mut : goal.overflow_add-index_mut
overflow_add-index_mut c =
    let r = c.requires in
    let s : length c.args.self.now.stack.items ≡ suc (length r.0) = some-length _ r.0 r.1 r.2 in
    let l : suc (length c.as_slice-len.result.now - 1) ≡ length c.args.self.now.stack.items =
    omega (arith, ap length c.as_slice-len.ensures.value) in
    let e : c.index_mut.result.now ≡ r.1 = at-end _ r.0 r.1 _ _ r.2 l c.index_mut.ensures.value in
    let t : c.index_mut.result.now.tried ≡ r.1.tried = ap (λ (l : Level). l.tried) e in
    omega (arith, r.3, r.4, t)

pub returns-clause-stack : goal.returns-clause-stack
returns-clause-stack c front d e =
    let s : length c.args.self.now.stack.items ≡ suc (length front) = some-length _ front d e in
    bumped _ front d _ _ e (omega (arith, ap length c.as_slice-len.ensures.value)) c.index_mut.ensures.value

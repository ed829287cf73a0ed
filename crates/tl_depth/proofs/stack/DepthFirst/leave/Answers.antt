use Rattle.std.proofs.Common.{◌≡◌, ◌<◌, suc, [], ◌∷◌, ◌++◌, length, ap, ◌∙◌, subst, arith}
use Rattle.tl_syntax.specs.Lists.{Each}
use Rattle.tl_depth.specs.declared.level.Level.{Level}
use Rattle.tl_depth.proofs.Ends.{at-end, bumped, each-last, last-of, some-length}
use Rattle.tl_depth.proofs.stack.DepthFirst.leave.Goals as goal

pub overflow_add-index_mut : goal.overflow_add-index_mut
overflow_add-index_mut c =
    let r = c.requires in
    let s : length c.args.self.now.stack.items ≡ suc (length r.0) = some-length _ r.0 r.1 r.2 in
    let l : length c.as_slice-len.result.now ≡ length c.args.self.now.stack.items = ap length c.as_slice-len.ensures.value in
    let f : c.remember_top.new.self.stack.items ≡ r.0 = c.remember_top.ensures.stack r.0 r.1 r.2 in
    let w = last-of r.0 (omega arith) in
    let n : length r.0 ≡ suc (length w.0) = some-length _ w.0 w.1 w.2 in
    let e : c.index_mut.result.now ≡ w.1 = at-end _ w.0 w.1 _ _ (f ∙ w.2) (omega (arith, ap length f)) c.index_mut.ensures.value in
    let t : c.index_mut.result.now.tried ≡ w.1.tried = ap (λ (l : Level). l.tried) e in
    let b = each-last (λ (h : Level). (h.tried < length h.actions) × (length h.actions < 18446744073709551616)) w.0 w.1
    (subst (Each (λ (h : Level). (h.tried < length h.actions) × (length h.actions < 18446744073709551616))) w.2 r.3) in
    omega (arith, b.0, b.1, t)

pub returns-then-len-gt1-clause-root : goal.returns-then-len-gt1-clause-root
returns-then-len-gt1-clause-root c d e = absurd (omega (arith, ap length c.as_slice-len.ensures.value, ap length e))

pub returns-then-len-gt1-clause-stack : goal.returns-then-len-gt1-clause-stack
returns-then-len-gt1-clause-stack c front h d e =
    let s : length c.args.self.now.stack.items ≡ suc (length (front ++ h ∷ [])) = some-length _ (front ++ h ∷ []) d e in
    let l : length c.as_slice-len.result.now ≡ length c.args.self.now.stack.items = ap length c.as_slice-len.ensures.value in
    let f : c.remember_top.new.self.stack.items ≡ front ++ h ∷ [] = c.remember_top.ensures.stack (front ++ h ∷ []) d e in
    bumped _ front h _ _ f (omega (arith, ap length f)) c.index_mut.ensures.value

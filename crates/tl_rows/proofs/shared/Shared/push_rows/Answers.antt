use Rattle.std.proofs.Common.{◌≡◌, ◌≤◌, ◌/◌, ◌++◌, append_assoc, ap, ◌∙◌, subst, arith}
use Rattle.std.specs.Prelude.{OnOk}
use Rattle.tl_rows.specs.Runs.{between}
use Rattle.tl_rows.proofs.Parts.{between-all, between-joined}
use Rattle.tl_rows.proofs.shared.Shared.push_rows.Goals as goal

pub returns : goal.returns
returns c =
    let count = c.len-count.result in
    let half = count / 2 in
    let before = c.args.self.now in
    let front : c.in_ok-front.front.value ≡ between c.args.rows 0 half = c.in_ok-front.ensures.ok ∙ c.in_ok-part.ensures in
    let back : c.in_ok-back.back.value ≡ between c.args.rows half count = c.in_ok-back.ensures.ok ∙ c.in_ok-part-2.ensures in
    let first : c.push-2.new.self ≡ before ++ between c.args.rows 0 half = c.in_ok-push.ensures ∙ ap (λ xs. before ++ xs) front in
    let both : c.push-2.new.self ++ c.in_ok-back.back.value ≡ before ++ c.args.rows =
    (λ i. first i ++ back i)
    ∙ (append_assoc before (between c.args.rows 0 half) (between c.args.rows half count)
    ∙ ap (λ xs. before ++ xs) (between-joined c.args.rows 0 half count (let m : 0 ≤ half = omega arith in m)
    (let m : half ≤ count = omega arith in m) ∙ between-all c.args.rows count c.len-count.ensures.len)) in
    subst (λ xs. OnOk c.push-3.result (c.push-3.new.self ≡ xs)) both c.push-3.ensures

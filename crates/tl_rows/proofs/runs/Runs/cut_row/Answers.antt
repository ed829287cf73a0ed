use Rattle.std.proofs.Common.{◌≡◌, ◌+◌, ◌-◌, ◌++◌, length, ap, ◌∙◌, arith}
use Rattle.std.specs.List.{remove}
use Rattle.tl_rows.proofs.Parts.{remove-back}
use Rattle.tl_rows.proofs.runs.Runs.cut_row.Goals as goal

pub returns-then-k-full-clause-all : goal.returns-then-k-full-clause-all
returns-then-k-full-clause-all c =
    let s = c.self.inside.shared in
    let t = c.self.inside.last in
    let k = c.args.k in
    let n = k - c.len-full.result in
    let at : k ≡ length s + n = omega (arith, c.len-full.ensures.len, c.if-k-full.true) in
    ap (λ xs. s ++ xs) c.in_ok-self-inside.ensures ∙ (remove-back s t n k at ∙ ap (λ xs. remove xs k) c.self.view_is)

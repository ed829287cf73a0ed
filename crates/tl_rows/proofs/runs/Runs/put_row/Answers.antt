use Rattle.std.proofs.Common.{◌≡◌, ◌+◌, ◌-◌, ◌++◌, length, ap, ◌∙◌, arith}
use Rattle.std.specs.List.{insert}
use Rattle.tl_rows.proofs.Parts.{insert-back}
use Rattle.tl_rows.proofs.runs.Runs.put_row.Goals as goal

pub returns-then-takes-clause-all : goal.returns-then-takes-clause-all
returns-then-takes-clause-all c =
    let s = c.self.inside.shared in
    let t = c.self.inside.last in
    let row = c.args.row.now in
    let k = c.args.k in
    let n = k - c.len-full.result in
    let at : k ≡ length s + n = omega (arith, c.len-full.ensures.len, c.if-k-full.true) in
    ap (λ xs. s ++ xs) c.in_ok-self-inside.ensures ∙ (insert-back s t n k row at ∙ ap (λ xs. insert xs k row) c.self.view_is)

use Rattle.std.proofs.Common.{◌≡◌, ◌+◌, ◌++◌, length, sym, ap, ◌∙◌, subst, arith}
use Rattle.tl_rows.specs.declared.shared.Run.{Run}
use Rattle.tl_rows.specs.Runs.{rows_in, AreCounted}
use Rattle.tl_rows.proofs.Joined.{counted-pushed, rows_in-pushed}
use Rattle.tl_rows.proofs.shared.Shared.push.Goals as goal

pub invariant_of-self-2 : goal.invariant_of-self-2
invariant_of-self-2 c =
    let run : Run = record { rows = c.args.rows; end = c.len.result + c.len-count.result } in
    let count : c.len-count.result ≡ length c.args.rows.value = c.len-count.ensures.len ∙ ap length c.deref.ensures in
    let before : c.len.result ≡ length (rows_in c.self.inside.runs.items) = c.len.ensures.len ∙ sym (ap length c.self.view_is) in
    subst (AreCounted 0) (sym c.in_ok-push.ensures.items)
    (counted-pushed 0 c.self.inside.runs.items run c.self.invariant (omega (arith, count)) (omega arith) (omega (arith, count, before)))

pub returns : goal.returns
returns c =
    let run : Run = record { rows = c.args.rows; end = c.len.result + c.len-count.result } in
    ap rows_in c.in_ok-push.ensures.items ∙ (rows_in-pushed c.self.inside.runs.items run ∙
    ap (λ xs. xs ++ c.args.rows.value) c.self.view_is)

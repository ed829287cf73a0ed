use Rattle.std.proofs.Common.{◌∙◌}
use Rattle.tl_rows.proofs.Exchanged.{if-ok, keeps-with}
use Rattle.tl_rows.proofs.second.Second.with.Goals as goal

pub returns : goal.returns
returns c = if-ok c.of.result
    (λ s is. keeps-with c.args.self.now c.in-Some.rows.now c.in-Some.ensures.some c.args.row.now c.as_slice.result.now
    c.as_slice-in-Err.result.now c.in_ok-with-in-Err.field-0 c.in-Err.k s
    (c.as_slice.ensures ∙ c.in_ok-other.ensures) (c.as_slice-in-Err.ensures ∙ c.in_ok-other.ensures) c.in-Err.ensures.range
    c.in-Err.ensures.place c.in_ok-with-in-Err.ensures is)
    c.of.ensures

use Rattle.std.proofs.Common.{◌∙◌}
use Rattle.tl_rows.proofs.Exchanged.{if-ok, keeps-without}
use Rattle.tl_rows.proofs.second.Second.without.Goals as goal

pub returns-in-Ok : goal.returns-in-Ok
returns-in-Ok c = if-ok c.of.result
    (λ s is. keeps-without c.args.self.now c.in-Some.rows.now c.in-Some.ensures.some c.args.gone.now c.as_slice.result.now
    c.in_ok-without-in-Ok.field-0 c.in-Ok.k s
    (c.as_slice.ensures ∙ c.in_ok-other.ensures) c.in-Ok.ensures.range c.in-Ok.ensures.place c.in_ok-without-in-Ok.ensures is)
    c.of.ensures

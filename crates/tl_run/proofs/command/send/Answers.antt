use Rattle.std.proofs.Common.{inl, inr, refl}
use Rattle.tl_run.proofs.command.send.Goals as goal

pub returns-in-Ok-clause-sent : goal.returns-in-Ok-clause-sent
returns-in-Ok-clause-sent g c = inl (refl, (rw c.as_slice.ensures at c.in-Ok.ensures.all, rw c.as_slice.ensures at c.in-Ok.ensures.puts))

pub returns-in-Err-clause-sent : goal.returns-in-Err-clause-sent
returns-in-Err-clause-sent g c = inr (
  refl,
  (
    rw c.as_slice.ensures at c.in-Err.ensures.part,
    rw c.as_slice.ensures at c.in-Err.ensures.puts,
  ),
)

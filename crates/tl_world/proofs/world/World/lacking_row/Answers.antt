use Rattle.std.proofs.Common.{sym, ap, ◌∙◌, arith}
use Rattle.tl_terms.specs.World.{has_fact}
use Rattle.tl_world.proofs.Lacking.{one-fails}
use Rattle.tl_world.proofs.world.World.lacking_row.Goals as goal

pub returns-then-not-holds : goal.returns-then-not-holds
returns-then-not-holds c =
    one-fails (λ a. has_fact c.args.self.now (c.args.pred, a)) c.args.rows.now c.loop-k.k c.row.result.now
    (omega (arith, c.loop-k-test.true, c.len.ensures))
    (ap (λ a. has_fact c.args.self.now (c.args.pred, a)) (sym c.row.ensures) ∙ (sym c.holds.ensures ∙ c.if-not-holds.true))

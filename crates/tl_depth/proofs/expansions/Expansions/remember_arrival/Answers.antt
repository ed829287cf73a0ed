use Rattle.std.proofs.Common.{arith, ap, length, sym, subst}
use Rattle.tl_depth.specs.Expansions.{CameOf}
use Rattle.tl_depth.proofs.Ends.{on-ok-any}
use Rattle.tl_depth.proofs.Remembering.{right-set, right-at, right-learnt}
use Rattle.tl_depth.proofs.expansions.Expansions.remember_arrival.Goals as goal

pub returns-then-at-as_slice : goal.returns-then-at-as_slice
returns-then-at-as_slice c = on-ok-any c.add.result _ (λ p task kept right came.
    right-set p task kept c.args.self.now.entries.items c.args.at c.add.new.self
    (right-learnt p task kept c.args.at c.args.tried c.index_mut.result.now c.add.new.self c.seen_again.result
    (right-at p task kept c.args.self.now.entries.items c.args.at c.index_mut.result.now
    (omega (arith, ap length c.as_slice.ensures.value, c.if-at-as_slice.true)) c.index_mut.ensures.value right)
    c.add.ensures.actions c.add.ensures.arrivals (subst (CameOf p kept c.args.at c.args.tried) (sym c.seen_again.ensures) came)) right)

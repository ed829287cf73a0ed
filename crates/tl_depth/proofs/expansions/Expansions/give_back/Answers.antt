use Rattle.std.proofs.Common.{arith, ap, length}
use Rattle.tl_depth.proofs.Remembering.{right-set, right-at, right-left}
use Rattle.tl_depth.proofs.expansions.Expansions.give_back.Goals as goal

pub returns-then-at-as_slice : goal.returns-then-at-as_slice
returns-then-at-as_slice c p task kept right listed =
    right-set p task kept c.args.self.now.entries.items c.args.at c.leave.new.self
    (right-left p task kept c.args.at c.args.actions c.index_mut.result.now c.leave.new.self c.leave.ensures.actions
    c.leave.ensures.arrivals listed
    (right-at p task kept c.args.self.now.entries.items c.args.at c.index_mut.result.now
    (omega (arith, ap length c.as_slice.ensures.value, c.if-at-as_slice.true)) c.index_mut.ensures.value right)) right

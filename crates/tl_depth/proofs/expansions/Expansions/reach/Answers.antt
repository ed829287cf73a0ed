use Rattle.std.proofs.Common.{false, None, refl}
use Rattle.tl_depth.proofs.Remembering.{right-added}
use Rattle.tl_depth.proofs.expansions.Expansions.reach.Goals as goal

pub returns-then-is_err-clause-stay : goal.returns-then-is_err-clause-stay
returns-then-is_err-clause-stay c p task kept right = right-added p task kept _ c.entries.self.entries.items c.push.new.self.items
    (record { again = false; actions = None; arrivals = c.new.result }) c.push.ensures.items refl c.new.ensures.items
    (c.entries.invariant p task kept right)

pub entries-preserved : goal.entries-preserved
entries-preserved c p task kept right = right-added p task kept _ c.entries.self.entries.items c.push.new.self.items
    (record { again = false; actions = None; arrivals = c.new.result }) c.push.ensures.items refl c.new.ensures.items
    (c.entries.invariant p task kept right)

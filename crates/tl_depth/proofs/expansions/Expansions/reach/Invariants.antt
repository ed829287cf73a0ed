use Rattle.std.proofs.Common.{◌-◌, suc, length}
use Rattle.tl_depth.specs.Expansions.{StayExpansions}
use Rattle.tl_depth.proofs.expansions.Expansions.reach.Given as goal

abbrev pub invariant-entries : goal.invariant-entries
invariant-entries l = StayExpansions l.fn.self l.self

abbrev pub decreases-entries : goal.decreases-entries
decreases-entries l = suc l.at - length l.self.entries.items

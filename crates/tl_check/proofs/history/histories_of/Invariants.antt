use Rattle.std.proofs.Common.{List}
use Rattle.tl_check.specs.Histories.{IsFactHistory}
use Rattle.tl_check.specs.Trails.{IsTracked}
use Rattle.tl_syntax.specs.Lists.{Each}
use Rattle.tl_terms.specs.World.{World}
use Rattle.tl_check.proofs.history.histories_of.Given as goal

abbrev pub invariant-loop-tracked : goal.invariant-loop-tracked
invariant-loop-tracked l = (ws : List World) → Each (IsTracked ws) l.yielded → Each (IsFactHistory ws) l.histories.items

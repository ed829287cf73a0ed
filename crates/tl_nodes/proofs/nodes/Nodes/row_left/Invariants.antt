use Rattle.std.proofs.Common.{◌≤◌, take}
use Rattle.std.specs.List.{slice_range}
use Rattle.tl_nodes.specs.Left.{IsOpened}
use Rattle.tl_nodes.specs.Numbers.{trees}
use Rattle.tl_nodes.proofs.nodes.Nodes.row_left.Given as goal

abbrev pub invariant-loop-k : goal.invariant-loop-k
invariant-loop-k l = (l.from ≤ l.to) × (l.to ≤ l.k) × IsOpened (trees l.self) l.junction (take l.k l.parts)
    (slice_range l.parts l.from l.to)

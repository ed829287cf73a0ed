use Rattle.std.proofs.Common.{take}
use Rattle.tl_nodes.specs.Left.{IsOpened}
use Rattle.tl_nodes.specs.Numbers.{trees}
use Rattle.tl_nodes.proofs.nodes.Nodes.put_few_left.Given as goal

abbrev pub invariant-loop-part : goal.invariant-loop-part
invariant-loop-part l = IsOpened (trees l.self) l.junction (take l.part-index l.parts) l.few

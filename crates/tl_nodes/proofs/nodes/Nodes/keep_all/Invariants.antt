use Rattle.std.proofs.Common.{ℕ, List, ◌++◌, take}
use Rattle.tl_nodes.specs.Left.{IsOpened}
use Rattle.tl_nodes.specs.Numbers.{trees}
use Rattle.tl_nodes.proofs.nodes.Nodes.keep_all.Given as goal

abbrev pub invariant-loop-id : goal.invariant-loop-id
invariant-loop-id l = (parts : List ℕ) → IsOpened (trees l.self) l.junction parts l.fn.few →
    IsOpened (trees l.self) l.junction (parts ++ take l.id-index l.ids) l.few

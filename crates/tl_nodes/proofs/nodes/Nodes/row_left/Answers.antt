use Rattle.std.proofs.Common.{◌≡◌, ◌+◌, ◌≤◌, ◌<◌, [], ◌∷◌, ◌++◌, length, slice_index_or, ◌∙◌, arith}
use Rattle.std.specs.List.{slice_range}
use Rattle.tl_nodes.specs.Numbers.{trees}
use Rattle.tl_nodes.proofs.LeftNumbers.{opened-more, row-begun, row-going}
use Rattle.tl_nodes.proofs.nodes.Nodes.row_left.Goals as goal
use Rattle.tl_nodes.proofs.nodes.Nodes.row_left.Goals.{then-from-to, else-from-to+else-to-k}

pub loop-k-preserved-then-is_dropped : goal.loop-k-preserved-then-is_dropped
loop-k-preserved-then-is_dropped c =
    let ts = trees c.args.self.now in
    let xs = c.args.parts.now in
    let row = slice_range xs c.loop-k.from c.loop-k.to in
    let i = c.loop-k.invariant in (
      i.0,
      omega arith,
      opened-more ts c.args.junction xs c.loop-k.k row row c.loop-k-test.true c.requires c.in-None.ensures.parts
          (c.is_dropped.ensures.dropped c.if-is_dropped.true) i.2,
    )

pub loop-k-preserved : goal.loop-k-preserved
loop-k-preserved c =
    let ts = trees c.args.self.now in
    let xs = c.args.parts.now in
    let k = c.loop-k.k in
    let row = slice_range xs c.loop-k.from c.loop-k.to in
    let i = c.loop-k.invariant in
    let under : c.loop-k.from ≤ c.loop-k.to = i.0 in
    let upto : c.loop-k.to ≤ k = i.1 in
    let inside : k < length xs = c.loop-k-test.true in
    let more : slice_range xs c.if-from-to.from (k + 1) ≡ row ++ slice_index_or xs k 0 ∷ [] = elim c.if-from-to.branch [
      | then-from-to w ↦ row-begun xs c.loop-k.from c.loop-k.to k c.if-from-to.from w.if-from-to.true w.from-is inside
      | else-from-to+else-to-k w ↦ row-going xs c.loop-k.from c.loop-k.to k c.if-from-to.from w.from-is
          (omega (arith, w.if-to-k.false)) under inside
    ] in
    let first : c.if-from-to.from ≤ k + 1 = elim c.if-from-to.branch [
      | then-from-to w ↦ omega (arith, w.from-is)
      | else-from-to+else-to-k w ↦ omega (arith, w.from-is)
    ] in (
      first,
      omega arith,
      opened-more ts c.args.junction xs k row (slice_range xs c.if-from-to.from (k + 1)) inside c.requires
          c.in-None.ensures.parts (more ∙ c.is_dropped.ensures.kept c.if-is_dropped.false) i.2,
    )

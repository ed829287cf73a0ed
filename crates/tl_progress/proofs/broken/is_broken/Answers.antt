use Rattle.std.proofs.Common.{true≢false, false, sym, arith}
use Rattle.tl_nodes.specs.Numbers.{trees}
use Rattle.tl_progress.proofs.BrokenLaws.{leaves-basic, leaves-not}
use Rattle.tl_progress.proofs.PutLayers.{less-Not}
use Rattle.tl_progress.proofs.broken.is_broken.Goals as goal

pub is_made-requires : goal.is_made-requires
is_made-requires c = let less = less-Not (trees c.args.nodes.now) c.args.at c.get.result.now c.get.ensures.parts c.in-Not.part c.in-Not.is
    in omega (arith, less, c.requires)

pub returns-in-Basic : goal.returns-in-Basic
returns-in-Basic c = λ h. leaves-basic (trees c.args.nodes.now) c.args.at c.get.result.now c.get.ensures.tree c.args.changes.now.dels.now
    c.args.changes.now.adds.now false c.in-Basic.f c.in-Basic.is (c.deletes.ensures h)

pub returns-in-Not : goal.returns-in-Not
returns-in-Not c = λ h. leaves-not (trees c.args.nodes.now) c.args.at c.get.result.now c.get.ensures.tree c.args.changes.now.dels.now
    c.args.changes.now.adds.now c.in-Not.part c.in-Not.is (c.is_made.ensures h)

pub returns-in_default : goal.returns-in_default
returns-in_default c = λ h. absurd (true≢false (sym h))

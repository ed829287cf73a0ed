use Rattle.std.proofs.Common.{true, true≢false, sym}
use Rattle.tl_nodes.specs.Numbers.{trees}
use Rattle.tl_progress.proofs.BrokenLaws.{leaves-basic}
use Rattle.tl_progress.proofs.broken.is_made.Goals as goal

pub returns-in-Basic : goal.returns-in-Basic
returns-in-Basic c = λ h. leaves-basic (trees c.args.nodes.now) c.args.at c.get.result.now c.get.ensures.tree c.args.changes.now.dels.now
    c.args.changes.now.adds.now true c.in-Basic.f c.in-Basic.is (c.adds_it.ensures h)

pub returns-in_default : goal.returns-in_default
returns-in_default c = λ h. absurd (true≢false (sym h))

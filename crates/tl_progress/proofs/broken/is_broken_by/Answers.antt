use Rattle.tl_nodes.specs.Numbers.{trees}
use Rattle.tl_progress.proofs.BrokenLaws.{leaves-and}
use Rattle.tl_progress.proofs.PutLayers.{below-And}
use Rattle.tl_progress.proofs.broken.is_broken_by.Goals as goal

pub is_one_broken-requires-clause-below : goal.is_one_broken-requires-clause-below
is_one_broken-requires-clause-below c = below-And (trees c.args.nodes.now) c.args.id c.get.result.now c.get.ensures.parts c.in-And.parts
    c.in-And.is

pub returns-in-And : goal.returns-in-And
returns-in-And c = λ h. let r = c.is_one_broken.ensures h in leaves-and
    (trees c.args.nodes.now) c.args.id c.get.result.now c.get.ensures.tree c.args.changes.now.dels.now c.args.changes.now.adds.now
    c.in-And.parts c.in-And.is r.0 r.1 r.2

use Rattle.tl_nodes.specs.Numbers.{trees}
use Rattle.tl_nodes.proofs.LeftNumbers.{opened-one}
use Rattle.tl_nodes.proofs.TreesOfNodes.{inside-true}
use Rattle.tl_nodes.proofs.nodes.Nodes.keep.Goals as goal

pub returns-in-None : goal.returns-in-None
returns-in-None c = λ h parts w. opened-one (trees c.args.self.now) c.args.junction parts c.args.few.now c.keep_one.new.few c.args.id
    (inside-true c.args.id _ c.requires) c.in-None.ensures.parts (c.keep_one.ensures h) w

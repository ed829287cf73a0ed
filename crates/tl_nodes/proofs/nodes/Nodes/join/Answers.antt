use Rattle.tl_nodes.specs.Numbers.{trees}
use Rattle.tl_nodes.proofs.LeftNumbers.{below-left, left-opened}
use Rattle.tl_nodes.proofs.nodes.Nodes.join.Goals as goal

pub join_left-requires : goal.join_left-requires
join_left-requires c =
    let ts = trees c.args.self.now in
    let parts = c.args.parts.now in
    below-left ts c.args.junction parts c.in-Some.row.now (left-opened ts c.args.junction parts c.in-Some.row.now c.in-Some.ensures)

pub returns-in-Some-clause-number : goal.returns-in-Some-clause-number
returns-in-Some-clause-number c =
    let ts = trees c.args.self.now in
    let parts = c.args.parts.now in
    c.join_left.ensures.number parts (left-opened ts c.args.junction parts c.in-Some.row.now c.in-Some.ensures)

pub returns-in-Some-clause-known : goal.returns-in-Some-clause-known
returns-in-Some-clause-known c =
    let ts = trees c.args.self.now in
    let parts = c.args.parts.now in
    λ i h. c.join_left.ensures.known parts i (left-opened ts c.args.junction parts c.in-Some.row.now c.in-Some.ensures) h

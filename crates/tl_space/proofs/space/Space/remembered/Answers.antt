use Rattle.tl_nodes.specs.Numbers.{trees}
use Rattle.tl_space.specs.Remembered.{IsRemembered}
use Rattle.tl_space.specs.Spaces.{problem_of}
use Rattle.tl_known.specs.WorldNumbers.{worlds_in}
use Rattle.std.proofs.Common.{Option, Some, None, IfSome}
use Rattle.tl_search.specs.declared.arrival.Arrival.{Arrival}
use Rattle.tl_syntax.specs.Lists.{Among}
use Rattle.tl_space.specs.declared.numbers.Numbers.{Numbers}
use Rattle.tl_space.specs.declared.space.Space.{Space}
use Rattle.tl_space.specs.Inner.{IsKnownIn}
use Rattle.tl_space.proofs.Remembering.{each-among}
use Rattle.tl_space.proofs.space.Space.remembered.Goals as goal

known : (s : Space) (key : Numbers) (o : Option Arrival) → IfSome o (λ r. Among (key, r) s.arrivals) → IfSome o (IsKnownIn s key)
known s key None h = tt
known s key (Some r) h = (each-among (IsRemembered (problem_of s) (worlds_in s.worlds) (trees s.nodes) s.pairs.keys) s.arrivals
    (key, r) s.remembered h).known

pub returns : goal.returns
returns c = known c.args.self.now c.args.key c.get.result c.get.ensures

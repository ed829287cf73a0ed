use Rattle.std.proofs.Common.{arith}
use Rattle.tl_progress.proofs.Below.{less-at}
use Rattle.tl_progress.proofs.broken.is_found_broken.Goals as goal

pub is_broken-requires : goal.is_broken-requires
is_broken-requires c =
    let less = less-at c.args.conjunction.now.at c.args.conjunction.now.parts.now c.in-Some.part c.requires.below c.in-Some.ensures in
    omega (arith, less, c.requires.inside)

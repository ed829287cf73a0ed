use Rattle.std.proofs.Common.{[], arith}
use Rattle.tl_known.specs.WorldNumbers.{worlds_in}
use Rattle.tl_known.proofs.TableNumbers.{comes-from-none}
use Rattle.tl_known.proofs.worlds.Worlds.number.Goals as goal

pub keep-requires : goal.keep-requires
keep-requires c = comes-from-none (worlds_in c.args.self.now) c.len.result [] [] [] c.args.world
    (let next = c.len.ensures.len in omega (arith, next))

use Rattle.tl_known.specs.WorldNumbers.{worlds_in}
use Rattle.tl_known.proofs.TableNumbers.{numbers-tell}
use Rattle.tl_known.proofs.Unchanged.{number-after}
use Rattle.tl_known.proofs.worlds.Worlds.find_by_mark.Goals as goal

pub is_after-requires : goal.is_after-requires
is_after-requires c =
    numbers-tell (worlds_in c.args.self.now) c.numbered.result.world.now c.numbered-before.result.world.now c.numbered.result.numbers.now
    c.numbered-before.result.numbers.now c.numbered.ensures.numbers c.numbered-before.ensures.numbers

pub returns-then-is_after : goal.returns-then-is_after
returns-then-is_after c =
    number-after (worlds_in c.args.self.now) c.args.source.now.from c.in_ok-number.number c.numbered-before.result.world.now
    c.numbered.result.world.now c.args.source.now.dels.now c.args.source.now.adds.now c.args.source.now.sets.now
    c.numbered-before.ensures.world c.numbered.ensures.world (c.is_after.ensures.facts c.if-is_after.true)
    (c.is_after.ensures.places c.if-is_after.true)

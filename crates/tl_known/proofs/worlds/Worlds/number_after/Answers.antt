use Rattle.tl_known.specs.WorldNumbers.{worlds_in}
use Rattle.tl_known.proofs.KnownAfter.{one-after, number-made, known-made, kept-made}
use Rattle.tl_known.proofs.TableNumbers.{comes-by-changes}
use Rattle.tl_known.proofs.worlds.Worlds.number_after.Goals as goal

pub returns-in-Some-clause-known : goal.returns-in-Some-clause-known
returns-in-Some-clause-known c = λ n is. one-after (worlds_in c.args.self.now) c.args.from c.args.dels.now c.args.adds.now c.args.sets.now
    c.in-Some.known n c.requires c.args.self.now.one_to_one c.in-Some.ensures is

pub keep-requires : goal.keep-requires
keep-requires c = comes-by-changes (worlds_in c.args.self.now) c.args.from c.get.result.now c.in_ok-next.next c.args.dels.now
    c.args.adds.now c.args.sets.now c.get.ensures c.in_ok-next.ensures.facts c.in_ok-next.ensures.places

pub returns-clause-number : goal.returns-clause-number
returns-clause-number c = number-made (worlds_in c.args.self.now) c.args.from c.args.dels.now c.args.adds.now c.args.sets.now
    (worlds_in c.keep.new.self) c.get.result.now c.in_ok-next.next c.get.ensures c.in_ok-next.ensures.facts c.in_ok-next.ensures.places
    c.keep.result c.keep.ensures.stay c.keep.ensures.number

pub returns-clause-known : goal.returns-clause-known
returns-clause-known c = known-made (worlds_in c.args.self.now) c.args.from c.args.dels.now c.args.adds.now c.args.sets.now
    (worlds_in c.keep.new.self) c.get.result.now c.in_ok-next.next c.get.ensures c.in_ok-next.ensures.facts c.in_ok-next.ensures.places
    c.keep.result c.keep.ensures.known

pub returns-clause-kept : goal.returns-clause-kept
returns-clause-kept c = kept-made (worlds_in c.args.self.now) c.args.from c.args.dels.now c.args.adds.now c.args.sets.now
    (worlds_in c.keep.new.self) c.get.result.now c.in_ok-next.next c.get.ensures c.in_ok-next.ensures.facts c.in_ok-next.ensures.places
    c.keep.ensures.kept

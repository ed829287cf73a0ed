use Rattle.std.proofs.Common.{sym, subst}
use Rattle.tl_known.specs.TableNumbers.{AreTableNumbers}
use Rattle.tl_known.specs.WorldNumbers.{worlds_in}
use Rattle.tl_known.proofs.TableNumbers.{numbers-at}
use Rattle.tl_known.proofs.worlds.Worlds.numbered.Goals as goal

pub returns-clause-numbers : goal.returns-clause-numbers
returns-clause-numbers c =
    let s = c.args.self.now in
    subst (AreTableNumbers (worlds_in s) c.get.result.now) (sym c.of.ensures)
    (numbers-at (worlds_in s) s.numbers.starts.items s.numbers.all.items c.args.number c.get.result.now s.numbered c.get.ensures)

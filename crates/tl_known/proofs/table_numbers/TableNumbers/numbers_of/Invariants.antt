use Rattle.std.proofs.Common.{◌≡◌, length, slice_get, Some}
use Rattle.tl_terms.specs.World.{World}
use Rattle.tl_known.specs.TableNumbers.{AreTableNumbers, ComesFrom}
use Rattle.tl_known.proofs.table_numbers.TableNumbers.numbers_of.Given as goal

abbrev pub invariant-loop-i : goal.invariant-loop-i
invariant-loop-i l = record {
  starts : l.self.starts.items ≡ l.fn.self.starts.items;
  all : l.self.all.items ≡ l.fn.self.all.items;
  many : length l.numbers.items ≡ l.i;
  are : (w : World) → slice_get l.worlds.keys l.number ≡ Some w → ComesFrom l.worlds.keys l.source.from l.source.dels.now l.source.adds.now
      l.source.sets.now w → AreTableNumbers l.worlds.keys w l.numbers.items;
}

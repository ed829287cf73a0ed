use Rattle.std.proofs.Common.{sym}
use Rattle.tl_known.proofs.TableNumbers.{number-of-one}
use Rattle.tl_known.proofs.table_numbers.known.Goals as goal

pub returns-then-is_alike : goal.returns-then-is_alike
returns-then-is_alike c = number-of-one c.args.worlds.now.keys c.in_ok-number.number c.in_ok-other.other.now c.args.world.now c.args.table
    (sym c.in_ok-other.ensures.key) (c.is_alike.ensures c.if-is_alike.true)

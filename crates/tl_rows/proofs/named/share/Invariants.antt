use Rattle.std.proofs.Common.{◌≡◌, take, map}
use Rattle.tl_rows.specs.Tables.{plain_of}
use Rattle.tl_rows.proofs.named.share.Given as goal

abbrev pub invariant-loop-t : goal.invariant-loop-t
invariant-loop-t g l = map plain_of l.out.items ≡ map plain_of (take l.t-index l.tables)

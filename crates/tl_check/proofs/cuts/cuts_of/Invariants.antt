use Rattle.std.proofs.Common.{◌≡◌, ◌++◌, length}
use Rattle.tl_check.specs.Cuts.{lefts, rights}
use Rattle.tl_check.specs.Rests.{rest_labels}
use Rattle.tl_check.specs.Runs.{spread}
use Rattle.tl_check.proofs.cuts.cuts_of.Given as goal

abbrev pub invariant-loop-cut : goal.invariant-loop-cut
invariant-loop-cut l = record {
  left : lefts l.cuts.items ++ rest_labels l.x ≡ spread l.left;
  right : rights l.cuts.items ++ rest_labels l.y ≡ spread l.right;
}

abbrev pub decreases-loop-cut : goal.decreases-loop-cut
decreases-loop-cut l = length (rest_labels l.x)

use Rattle.std.proofs.Common.{◌≡◌, ◌++◌, drop}
use Rattle.tl_check.specs.Passes.{joined_labels}
use Rattle.tl_check.specs.Cuts.{lefts, rights}
use Rattle.tl_check.specs.Runs.{spread}
use Rattle.tl_check.proofs.cuts.join_cuts.Given as goal

abbrev pub invariant-loop-cut : goal.invariant-loop-cut
invariant-loop-cut l = spread l.runs.items ++ joined_labels l.junction (lefts (drop l.cut-index l.cuts))
    (rights (drop l.cut-index l.cuts)) ≡ joined_labels l.junction (lefts l.cuts) (rights l.cuts)

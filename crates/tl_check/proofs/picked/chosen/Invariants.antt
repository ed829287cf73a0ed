use Rattle.std.proofs.Common.{◌≡◌, ◌++◌, drop}
use Rattle.tl_check.specs.Cuts.{lefts, rights}
use Rattle.tl_check.specs.Picked.{chosen_labels}
use Rattle.tl_check.specs.Runs.{spread}
use Rattle.tl_check.proofs.picked.chosen.Given as goal

abbrev pub invariant-loop-cut : goal.invariant-loop-cut
invariant-loop-cut l = spread l.made.items ++ chosen_labels l.elsewhere (lefts (drop l.cut-index l.cuts))
    (rights (drop l.cut-index l.cuts)) ≡ chosen_labels l.elsewhere (lefts l.cuts) (rights l.cuts)

use Rattle.std.proofs.Common.{◌≡◌, ◌++◌, drop}
use Rattle.tl_check.specs.Passes.{until_labels}
use Rattle.tl_check.specs.Cuts.{lefts, rights}
use Rattle.tl_check.specs.Runs.{spread}
use Rattle.tl_check.specs.Waiting.{until_after}
use Rattle.tl_check.proofs.waiting.until.Given as goal

abbrev pub invariant-loop-cut : goal.invariant-loop-cut
invariant-loop-cut l = spread l.made.items ++ until_after l.waiting (lefts (drop l.cut-index l.cuts)) (rights (drop l.cut-index l.cuts)) ≡
    until_labels (lefts l.cuts) (rights l.cuts)

use Rattle.std.specs.Bool.{⊤}
use Rattle.tl_progress.proofs.broken.is_found_broken.Given as goal

abbrev pub invariant-loop-mark : goal.invariant-loop-mark
invariant-loop-mark l = ⊤

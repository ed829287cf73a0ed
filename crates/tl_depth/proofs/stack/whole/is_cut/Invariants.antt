use Rattle.std.proofs.Common.{◌≡◌, ◌<◌, ℕ, Some}
use Rattle.std.specs.List.{slice_get}
use Rattle.tl_depth.proofs.stack.whole.is_cut.Given as goal

abbrev pub invariant-loop-left : goal.invariant-loop-left
invariant-loop-left l = (k : ℕ) → k < l.left-index → slice_get l.most k ≡ Some 0 → ⊥

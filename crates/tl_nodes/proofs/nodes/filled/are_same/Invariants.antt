use Rattle.std.proofs.Common.{◌≡◌, ◌≤◌, ◌-◌, length, drop}
use Rattle.tl_nodes.specs.Filled.{same_bindings}
use Rattle.tl_nodes.proofs.nodes.filled.are_same.Given as goal

abbrev pub invariant-loop-k : goal.invariant-loop-k
invariant-loop-k l = record {
  within : l.k ≤ length l.bindings;
  left : same_bindings l.bindings l.others ≡ same_bindings (drop l.k l.bindings) (drop l.k l.others);
}

abbrev pub decreases-loop-k : goal.decreases-loop-k
decreases-loop-k l = length l.bindings - l.k

use Rattle.std.proofs.Common.{◌≡◌, ◌≤◌, ◌-◌, length, drop, not}
use Rattle.std.specs.List.{list_all}
use Rattle.tl_terms.specs.World.{has_fact}
use Rattle.tl_world.proofs.world.World.holds_no_row.Given as goal

abbrev pub invariant-loop-k : goal.invariant-loop-k
invariant-loop-k l = record {
  within : l.k ≤ length l.rows;
  left : list_all (λ a. not (has_fact l.self (l.pred, a))) l.rows ≡ list_all (λ a. not (has_fact l.self (l.pred, a))) (drop l.k l.rows);
}

abbrev pub decreases-loop-k : goal.decreases-loop-k
decreases-loop-k l = length l.rows - l.k

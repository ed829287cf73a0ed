use Rattle.std.proofs.Common.{◌≡◌, ◌≤◌, ◌-◌, length, drop}
use Rattle.std.specs.List.{list_all}
use Rattle.tl_world.specs.Calls.{gives_row}
use Rattle.tl_world.proofs.world.World.gives_rows.Given as goal

abbrev pub invariant-loop-k : goal.invariant-loop-k
invariant-loop-k l = record {
  within : l.k ≤ length l.rows;
  left : list_all (λ r. gives_row l.self l.fun r) l.rows ≡ list_all (λ r. gives_row l.self l.fun r) (drop l.k l.rows);
}

abbrev pub decreases-loop-k : goal.decreases-loop-k
decreases-loop-k l = length l.rows - l.k

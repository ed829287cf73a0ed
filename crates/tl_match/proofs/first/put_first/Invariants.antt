use Rattle.std.proofs.Common.{◌≡◌, ◌≤◌, ◌-◌, List, length, drop}
use Rattle.tl_syntax.specs.declared.value.Value.{Value}
use Rattle.tl_match.specs.Least.{fits_some}
use Rattle.tl_match.proofs.first.put_first.Given as goal

abbrev pub invariant-loop-k : goal.invariant-loop-k
invariant-loop-k l = record {
  within : l.k ≤ length l.rows;
  same : (t : List Value) → fits_some l.parts (drop l.from l.rows) t ≡ fits_some l.parts (drop l.k l.rows) t;
}

abbrev pub decreases-loop-k : goal.decreases-loop-k
decreases-loop-k l = length l.rows - l.k

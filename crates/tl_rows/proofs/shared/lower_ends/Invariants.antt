use Rattle.std.proofs.Common.{◌≡◌, ◌≤◌, ◌++◌, map, length, take, drop}
use Rattle.tl_rows.specs.Runs.{lowered}
use Rattle.tl_rows.proofs.shared.lower_ends.Given as goal

abbrev pub invariant-loop-j : goal.invariant-loop-j
invariant-loop-j l = record {
  low : l.i ≤ l.j;
  within : l.j ≤ length l.initial.runs.items;
  made : l.runs.items ≡ take l.j l.initial.runs.items ++ map lowered (drop l.j l.initial.runs.items);
}

abbrev pub decreases-loop-j : goal.decreases-loop-j
decreases-loop-j l = l.j

use Rattle.std.proofs.Common.{◌≡◌, ◌≤◌, length, drop}
use Rattle.tl_eval.specs.Frames.{assignment_in, given_back}
use Rattle.tl_eval.proofs.kept.give_values.Given as goal

abbrev pub invariant-loop-i : goal.invariant-loop-i
invariant-loop-i l = record {
  within : l.i ≤ length l.vars;
  so_far : assignment_in l.frame ≡ given_back (drop l.i l.vars) (drop l.i l.values) (assignment_in l.initial.frame);
}

abbrev pub decreases-loop-i : goal.decreases-loop-i
decreases-loop-i l = l.i

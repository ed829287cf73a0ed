use Rattle.std.proofs.Common.{◌≡◌, ◌++◌, drop}
use Rattle.tl_rules.specs.Reads.{trees_in}
use Rattle.tl_rules.specs.Values.{values_meant}
use Rattle.tl_problem.specs.Values.{values_breaks}
use Rattle.tl_problem.proofs.values.values.Given as goal

-- the values so far, and after them those that are left
abbrev pub invariant-loop-form : goal.invariant-loop-form
invariant-loop-form l = record {
  breaks : values_breaks (trees_in l.forms) ≡ values_breaks (trees_in (drop l.form-index l.forms));
  meant : values_meant l.names (trees_in l.forms) ≡ l.values ++ values_meant l.names (trees_in (drop l.form-index l.forms));
}

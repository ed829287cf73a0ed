use Rattle.std.proofs.Common.{◌≡◌, ◌++◌, drop}
use Rattle.tl_rules.specs.Reads.{trees_in}
use Rattle.tl_line.specs.Actions.{named_values_breaks}
use Rattle.tl_rules.specs.Values.{values_meant}
use Rattle.tl_line.proofs.values.arguments.Given as goal

-- the arguments so far, and after them those that are left
abbrev pub invariant-loop-form : goal.invariant-loop-form
invariant-loop-form l = record {
  breaks : named_values_breaks l.names (trees_in l.forms) ≡ named_values_breaks l.names (trees_in (drop l.form-index l.forms));
  meant : values_meant l.names (trees_in l.forms) ≡ l.args ++ values_meant l.names (trees_in (drop l.form-index l.forms));
}

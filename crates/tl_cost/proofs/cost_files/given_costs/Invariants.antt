use Rattle.std.proofs.Common.{◌≡◌, drop, length}
use Rattle.tl_rules.specs.Reads.{trees_in}
use Rattle.tl_cost.specs.CostFiles.{costs_breaks, entries_breaks, given_after, none_given}
use Rattle.tl_cost.proofs.cost_files.given_costs.Given as goal

-- the costs so far, and after them the forms that are left
abbrev pub invariant-loop-form : goal.invariant-loop-form
invariant-loop-form l = record {
  breaks : costs_breaks l.names l.operators (trees_in l.forms) ≡ entries_breaks l.names l.operators l.given.items
      (trees_in (drop l.form-index l.forms));
  meant : given_after l.names l.operators (none_given l.operators) (trees_in l.forms) ≡
      given_after l.names l.operators l.given.items (trees_in (drop l.form-index l.forms));
  long : length l.given.items ≡ length l.operators;
}

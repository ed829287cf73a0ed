use Rattle.std.proofs.Common.{◌≡◌, ◌+◌, ◌≤◌, ◌++◌, drop}
use Rattle.tl_formulas.specs.MeaningOfFormulas.{variables_from}
use Rattle.tl_rules.specs.Parts.{texts_of}
use Rattle.tl_rules.specs.Reads.{trees_in}
use Rattle.tl_formulas.proofs.variables.variables.Given as goal

-- the variables so far, and those that are left
abbrev pub invariant-loop-form : goal.invariant-loop-form
invariant-loop-form l = record {
  vars : variables_from l.names l.from (texts_of (trees_in l.variables)) ≡ l.vars ++
      variables_from l.names l.slot (texts_of (trees_in (drop l.form-index l.variables)));
  few : l.slot ≤ l.from + l.form-index;
}

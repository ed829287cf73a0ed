use Rattle.std.proofs.Common.{◌≡◌, drop}
use Rattle.tl_rules.specs.Parts.{are_variables}
use Rattle.tl_rules.specs.Reads.{trees_in}
use Rattle.tl_formulas.proofs.variables.are_variables.Given as goal

-- all are variables where those that are left are
abbrev pub invariant-loop-form : goal.invariant-loop-form
invariant-loop-form l = are_variables (trees_in l.forms) ≡ are_variables (trees_in (drop l.form-index l.forms))

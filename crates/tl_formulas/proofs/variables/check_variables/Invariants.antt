use Rattle.std.proofs.Common.{◌≡◌, ◌≤◌, [], length, drop}
use Rattle.tl_sexpr.specs.Tree.{tree_of}
use Rattle.tl_rules.specs.Reads.{trees_in}
use Rattle.tl_formulas.specs.Variables.{variables_breaks}
use Rattle.tl_formulas.proofs.variables.check_variables.Given as goal

-- the variables that are left stand after those so far
abbrev pub invariant-loop-form : goal.invariant-loop-form
invariant-loop-form l = record {
  breaks : variables_breaks [] l.scope (tree_of l.bound) (trees_in l.variables) ≡
      variables_breaks l.earlier l.scope (tree_of l.bound) (trees_in (drop l.form-index l.variables));
  few : length l.earlier ≤ l.form-index;
}

use Rattle.std.proofs.Common.{◌≡◌, ◌≤◌, drop}
use Rattle.tl_sexpr.specs.Tree.{tree_of}
use Rattle.tl_rules.specs.Parts.{is_any_deeper, size, sizes}
use Rattle.tl_rules.specs.Reads.{trees_in}
use Rattle.tl_formulas.proofs.formula_checks.+deeper.Given as goal

abbrev pub decreases-is_deeper : goal.decreases-is_deeper
decreases-is_deeper l = size (tree_of l.form.now)

abbrev pub decreases-is_any_deeper : goal.decreases-is_any_deeper
decreases-is_any_deeper l = sizes (trees_in l.forms.now)

-- one of all forms is deeper where one of those that are left is
abbrev pub invariant-is_any_deeper-loop-form : goal.invariant-is_any_deeper-loop-form
invariant-is_any_deeper-loop-form l = record {
  left : is_any_deeper l.limit (trees_in l.forms) ≡ is_any_deeper l.limit (trees_in (drop l.form-index l.forms));
  fewer : sizes (trees_in (drop l.form-index l.forms)) ≤ sizes (trees_in l.forms);
}

use Rattle.std.proofs.Common.{◌≡◌, ◌≤◌, drop}
use Rattle.tl_sexpr.specs.Tree.{tree_of}
use Rattle.tl_rules.specs.Parts.{occurs_in_any, size, sizes}
use Rattle.tl_rules.specs.Reads.{trees_in}
use Rattle.tl_formulas.proofs.variables.+occurs.Given as goal

abbrev pub decreases-occurs : goal.decreases-occurs
decreases-occurs l = size (tree_of l.form.now)

abbrev pub decreases-occurs_any : goal.decreases-occurs_any
decreases-occurs_any l = sizes (trees_in l.forms.now)

-- the symbol stands in all forms where it stands in those that are left
abbrev pub invariant-occurs_any-loop-form : goal.invariant-occurs_any-loop-form
invariant-occurs_any-loop-form l = record {
  left : occurs_in_any l.text (trees_in l.forms) ≡ occurs_in_any l.text (trees_in (drop l.form-index l.forms));
  fewer : sizes (trees_in (drop l.form-index l.forms)) ≤ sizes (trees_in l.forms);
}

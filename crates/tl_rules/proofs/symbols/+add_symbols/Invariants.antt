use Rattle.std.proofs.Common.{◌≡◌, ◌+◌, ◌<◌, ◌≤◌, ◌^◌, length, drop}
use Rattle.tl_sexpr.specs.Spelling.{symbols_in_all}
use Rattle.tl_sexpr.specs.Tree.{tree_of}
use Rattle.tl_rules.specs.Parts.{size, sizes}
use Rattle.tl_rules.specs.Reads.{trees_in}
use Rattle.tl_rules.specs.Symbols.{names_with_all, BeginsWith}
use Rattle.tl_rules.proofs.symbols.+add_symbols.Given as goal

abbrev pub decreases-add_form : goal.decreases-add_form
decreases-add_form l = size (tree_of l.form.now)

abbrev pub decreases-add_forms : goal.decreases-add_forms
decreases-add_forms l = sizes (trees_in l.forms.now)

-- the forms that are left give the names so far what all give those at first
abbrev pub invariant-add_forms-loop-form : goal.invariant-add_forms-loop-form
invariant-add_forms-loop-form l = record {
  names : names_with_all l.initial.names (trees_in l.forms) ≡ names_with_all l.names (trees_in (drop l.form-index l.forms));
  room : length l.names + symbols_in_all (trees_in (drop l.form-index l.forms)) < 2 ^ 32;
  kept : BeginsWith l.names l.initial.names;
  fewer : sizes (trees_in (drop l.form-index l.forms)) ≤ sizes (trees_in l.forms);
}

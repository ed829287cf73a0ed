-- Words that ask for a formula at later positions.
use Rattle.std.specs.Prelude.{List, Bool, map, not}
use Rattle.tl_check.specs.Passes.{next_labels, always_labels, eventually_labels, within_labels}
use Rattle.tl_check.specs.declared.later.Later.{Later}
use Rattle.tl_check.specs.declared.later.Later.TheVariants as later
use Rattle.tl_syntax.specs.Trees.{FormulaTree, next, always, eventually, within, during}

-- the word before a formula
abbrev pub later_tree : Later → FormulaTree → FormulaTree
later_tree later.Next f = next f
later_tree later.Always f = always f
later_tree later.Eventually f = eventually f
later_tree (later.Within n) f = within n f
later_tree (later.During n) f = during n f

-- its labels, from those of the formula
abbrev pub later_labels : Later → List Bool → List Bool
later_labels later.Next bs = next_labels bs
later_labels later.Always bs = always_labels bs
later_labels later.Eventually bs = eventually_labels bs
later_labels (later.Within n) bs = within_labels n bs
later_labels (later.During n) bs = map not (within_labels n (map not bs))

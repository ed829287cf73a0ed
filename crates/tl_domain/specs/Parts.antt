-- Names, integers and lists, taken apart.
use Rattle.std.specs.Prelude.{◌≡◌, false}
use Rattle.tl_sexpr.specs.Tree.{FormTree, symbol, integer, list}
use Rattle.tl_rules.specs.Parts.{is_variable}
use Rattle.tl_rules.specs.Reads.{trees_in}
use Rattle.tl_domain.specs.declared.parts.Integer.{Integer}
use Rattle.tl_domain.specs.declared.parts.List.{List}
use Rattle.tl_domain.specs.declared.parts.Name.{Name}

-- the form of a name, of an integer and of a list
abbrev pub name_tree : Name → FormTree
name_tree x = symbol x.text.now x.at

abbrev pub integer_tree : Integer → FormTree
integer_tree x = integer x.value x.at

abbrev pub list_tree : List → FormTree
list_tree x = list (trees_in x.elements.now) x.at

-- the form is this name
pub record IsName (f : FormTree) (x : Name) : Type 0 where
  pub form : f ≡ name_tree x
  pub named : is_variable x.text.now ≡ false

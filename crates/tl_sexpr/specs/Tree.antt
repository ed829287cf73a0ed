-- Forms as plain trees: lists without capacities, and the offset of each form's first byte.
use Rattle.std.specs.Prelude.{ℕ, ℤ, List, [], ◌∷◌}
use Rattle.tl_sexpr.specs.declared.form.Form.{Form, Form-F, fold-Form}
use Rattle.tl_sexpr.specs.declared.form.Form.TheOpen as layer
use Rattle.tl_sexpr.specs.declared.form.Forms.{Forms, Forms-F, fold-Forms}

mutual
  -- a symbol with its text, an integer, or a list; the number is the offset
  pub data FormTree : Type 0 where
    symbol : List ℕ → ℕ → FormTree
    integer : ℤ → ℕ → FormTree
    list : FormTrees → ℕ → FormTree

  pub data FormTrees : Type 0 where
    no_form : FormTrees
    more_forms : FormTree → FormTrees → FormTrees

abbrev pub trees_of_list : List FormTree → FormTrees
trees_of_list [] = no_form
trees_of_list (f ∷ fs) = more_forms f (trees_of_list fs)

-- one layer of a form, whose parts are trees already
abbrev pub form_step : Form-F FormTree FormTrees → FormTree
form_step (layer.Sym text at) = symbol text at
form_step (layer.Int z at) = integer z at
form_step (layer.List fs at) = list fs at

abbrev pub forms_step : Forms-F FormTree FormTrees → FormTrees
forms_step fs = trees_of_list fs.items.items

-- the plain tree of a form
unfoldable pub tree_of : Form → FormTree
tree_of = fold-Form FormTree FormTrees form_step forms_step

-- the plain trees of a list of forms
unfoldable pub trees_of : Forms → FormTrees
trees_of = fold-Forms FormTree FormTrees form_step forms_step

-- the forms of a list, in their order
abbrev pub items_of : Forms → List Form
items_of fs = fs.items.items

-- The elements of items after their first word, as a reader takes them apart.
use Rattle.std.specs.Prelude.{◌≡◌, false}
use Rattle.tl_sexpr.specs.Tree.{FormTrees, tree_of, no_form, more_forms}
use Rattle.tl_rules.specs.Parts.{is_variable}
use Rattle.tl_domain.specs.declared.item_shapes.Declaration.{Declaration}
use Rattle.tl_domain.specs.declared.item_shapes.Define.{Define}
use Rattle.tl_domain.specs.declared.item_shapes.Defined.{Defined}
use Rattle.tl_domain.specs.Parts.{name_tree, integer_tree, list_tree}

-- the elements are the name and the number of arguments
pub record IsDeclaration (fs : FormTrees) (x : Declaration) : Type 0 where
  pub elements : fs ≡ more_forms (name_tree x.name) (more_forms (integer_tree x.arity) no_form)
  pub named : is_variable x.name.text.now ≡ false

-- they are the head and the body
abbrev pub IsDefine : FormTrees → Define → Type 0
IsDefine fs x = fs ≡ more_forms (list_tree x.head) (more_forms (tree_of x.body.now) no_form)

-- they are the number of levels, the head and the body
abbrev pub IsDefined : FormTrees → Defined → Type 0
IsDefined fs x = fs ≡ more_forms (integer_tree x.levels) (more_forms (list_tree x.head) (more_forms (tree_of x.body.now) no_form))

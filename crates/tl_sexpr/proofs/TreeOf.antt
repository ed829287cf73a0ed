-- The trees of forms made by their variants, and of lists of forms.
use Rattle.std.proofs.Common.{◌≡◌, ℕ, ℤ, List, map, ap, sym, ◌∙◌}
use Rattle.tl_sexpr.specs.declared.form.Form.{fold-Form, fold-roll-Form}
use Rattle.tl_sexpr.specs.declared.form.Form.TheVariants as variant
use Rattle.tl_sexpr.specs.declared.form.Form.TheOpen as layer
use Rattle.tl_sexpr.specs.declared.form.Forms.{Forms, fold_out-Forms}
use Rattle.tl_sexpr.specs.Tree.{FormTree, FormTrees, symbol, integer, list, form_step, forms_step, tree_of, trees_of, trees_of_list}
use Rattle.tl_sexpr.specs.Tree.{items_of}

pub tree-Sym : (text : List ℕ) (at : ℕ) → tree_of (variant.Sym text at) ≡ symbol text at
unfolding tree_of trees_of
tree-Sym text at = ap (fold-Form FormTree FormTrees form_step forms_step) (sym (variant.rolls-Sym text at)) ∙
    fold-roll-Form FormTree FormTrees form_step forms_step (layer.Sym text at)

pub tree-Int : (z : ℤ) (at : ℕ) → tree_of (variant.Int z at) ≡ integer z at
unfolding tree_of trees_of
tree-Int z at = ap (fold-Form FormTree FormTrees form_step forms_step) (sym (variant.rolls-Int z at)) ∙
    fold-roll-Form FormTree FormTrees form_step forms_step (layer.Int z at)

pub tree-List : (fs : Forms) (at : ℕ) → tree_of (variant.List fs at) ≡ list (trees_of fs) at
unfolding tree_of trees_of
tree-List fs at = ap (fold-Form FormTree FormTrees form_step forms_step) (sym (variant.rolls-List fs at)) ∙
    fold-roll-Form FormTree FormTrees form_step forms_step (layer.List fs at)

pub trees-Forms : (fs : Forms) → trees_of fs ≡ trees_of_list (map tree_of (items_of fs))
unfolding tree_of trees_of
trees-Forms fs = fold_out-Forms FormTree FormTrees form_step forms_step fs

pub ruleset trees = (tree-Sym, tree-Int, tree-List, trees-Forms)

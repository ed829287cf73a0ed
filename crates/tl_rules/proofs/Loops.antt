-- Loops over forms: the forms that are left.
use Rattle.std.proofs.Common.{◌≡◌, ℕ, ◌+◌, ◌<◌, ◌≤◌, List, length, get_or, map, drop, refl, ap, add-one, drop-cons}
use Rattle.std.proofs.lemmas.List.{drop_all}
use Rattle.tl_sexpr.specs.declared.form.Form.{Form}
use Rattle.tl_sexpr.specs.Tree.{no_form, more_forms, tree_of, trees_of_list}
use Rattle.tl_rules.specs.Reads.{trees_in}

-- the next form and those after it
pub trees-next : (forms : List Form) (i : ℕ) (x : Form) → i < length forms → x ≡ get_or forms i x → trees_in (drop i forms) ≡
    more_forms (tree_of x) (trees_in (drop (i + 1) forms))
trees-next forms i x lt is = rw (add-one, drop-cons forms i x, ← is) refl

-- at the end none is left
pub trees-end : (forms : List Form) (i : ℕ) → length forms ≤ i → trees_in (drop i forms) ≡ no_form
trees-end forms i end = ap (λ xs. trees_of_list (map tree_of xs)) (drop_all i forms end)

-- Numbers that keep their trees, and one number more.
use Rattle.std.proofs.Common.{◌≡◌, ℕ, true, List, [], ◌∷◌, ◌++◌, map, length, Some, slice_get, nat_lt, refl, sym, ap₂, ◌∙◌}
use Rattle.tl_syntax.specs.declared.formula.Formula.{Formula}
use borrow.Author.Tests.{ltb-true}
use Rattle.std.proofs.lemmas.Option.{slice_get_within}
use Rattle.std.proofs.lemmas.List.{map-append}
use Rattle.tl_syntax.specs.TreeOfFormula.{tree_of_formula}
use Rattle.tl_syntax.specs.Trees.{FormulaTree}
use Rattle.tl_syntax.proofs.Plain.{both, with_both}
use Rattle.tl_nodes.specs.Fits.{all_below}
use Rattle.tl_nodes.specs.NodeTrees.{tree_at, trees_at}
use Rattle.tl_nodes.specs.Numbering.{Keeps}
use Rattle.tl_nodes.proofs.TreesOfNodes.{at-is, at-there, inside-true}

pub inside : (ts : List FormulaTree) (i : ℕ) (t : FormulaTree) → slice_get ts i ≡ Some t → nat_lt i (length ts) ≡ true
inside ts i t h = inside-true i (length ts) (slice_get_within ts i t h)

-- numbers that keep their trees
keeps-at : (ts us : List FormulaTree) → Keeps ts us → (i : ℕ) → nat_lt i (length ts) ≡ true → slice_get us i ≡ Some (tree_at ts i)
keeps-at ts us kept i h = kept i (tree_at ts i) (at-there ts i (ltb-true i (length ts) h))

pub keeps-all : (ts us : List FormulaTree) → Keeps ts us → (ids : List ℕ) → all_below (length ts) ids ≡ true → trees_at us ids ≡
    trees_at ts ids
keeps-all ts us kept [] h = refl
keeps-all ts us kept (i ∷ ids) h =
    let p = both (nat_lt i (length ts)) (all_below (length ts) ids) h in
    ap₂ ◌∷◌ (at-is us i (tree_at ts i) (keeps-at ts us kept i p.0)) (keeps-all ts us kept ids p.1)

pub keeps-below : (ts us : List FormulaTree) → Keeps ts us → (ids : List ℕ) → all_below (length ts) ids ≡ true → all_below (length us) ids ≡
    true
keeps-below ts us kept [] h = refl
keeps-below ts us kept (i ∷ ids) h =
    let p = both (nat_lt i (length ts)) (all_below (length ts) ids) h in
    with_both (inside us i (tree_at ts i) (keeps-at ts us kept i p.0)) (keeps-below ts us kept ids p.1)

pub push-below : (us : List FormulaTree) (ids : List ℕ) (id : ℕ) (t : FormulaTree) → all_below (length us) ids ≡ true → slice_get us id ≡
    Some t → all_below (length us) (ids ++ id ∷ []) ≡ true
push-below us [] id t h k = with_both (inside us id t k) refl
push-below us (i ∷ ids) id t h k =
    let p = both (nat_lt i (length us)) (all_below (length us) ids) h in
    with_both p.0 (push-below us ids id t p.1 k)

pub push-trees : (us : List FormulaTree) (ids : List ℕ) (id : ℕ) (f : Formula) (xs : List Formula) → trees_at us ids ≡
    map tree_of_formula xs → slice_get us id ≡ Some (tree_of_formula f)
    → trees_at us (ids ++ id ∷ []) ≡ map tree_of_formula (xs ++ f ∷ [])
push-trees us ids id f xs h k =
    map-append (tree_at us) ids (id ∷ []) ∙ (ap₂ (λ a b. a ++ b ∷ []) h (at-is us id (tree_of_formula f) k) ∙
    sym (map-append tree_of_formula xs (f ∷ [])))

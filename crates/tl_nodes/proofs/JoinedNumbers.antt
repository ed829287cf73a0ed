-- The join of numbers, by the numbers that are left of its parts.
use Rattle.std.proofs.Common.{◌≡◌, ℕ, Bool, true, false, true≢false, cond, not, List, [], ◌∷◌, map, filter, length, Some, slice_get}
use Rattle.std.proofs.Common.{slice_index_or, nat_lt, nat_eq, eqb-true, eq-eqb, refl, sym, ap, ap₂, ◌∙◌, arith}
use Rattle.std.specs.List.{list_any, flat_map}
use Rattle.indexmap.specs.IndexSet.{insert_all}
use borrow.Author.Tests.{ltb-true}
use Rattle.tl_syntax.specs.declared.junction.Junction.{Junction}
use Rattle.tl_syntax.specs.declared.junction.Junction.TheVariants.{All, Any}
use Rattle.tl_syntax.specs.Trees.{FormulaTree, verum, falsum}
use Rattle.tl_syntax.proofs.Plain.{both}
use Rattle.tl_terms.specs.Simplification.{same_formula, is_verum, is_falsum, without_repeats, conjunction_of, disjunction_of, and_parts}
use Rattle.tl_terms.specs.Simplification.{or_parts, simplified_and, simplified_or}
use Rattle.tl_terms.proofs.Simplification.{same_formula-is}
use Rattle.tl_nodes.specs.Fits.{all_below, fits}
use Rattle.tl_nodes.specs.Joins.{junction_parts, simplified_join, dropped, decides, join_node}
use Rattle.tl_nodes.specs.NodeTrees.{tree_at, trees_at, tree_of_node}
use Rattle.tl_nodes.specs.Numbering.{OneToOne}
use Rattle.tl_nodes.proofs.FirstOfEqual.{same-of, same-any, same-filtered}
use Rattle.tl_nodes.proofs.KeptOnce.{same-bool, dedup, kept-once, below-filter, below-dedup, filter-map, any-map, distinct-map}
use Rattle.tl_nodes.proofs.NestedJoins.{join-fits}
use Rattle.tl_nodes.proofs.TreesOfNodes.{at-is, at-there}

verum-is : (t : FormulaTree) → is_verum t ≡ true → t ≡ verum
verum-is verum h = refl
verum-is t h = absurd (true≢false (sym h))

falsum-is : (t : FormulaTree) → is_falsum t ≡ true → t ≡ falsum
falsum-is falsum h = refl
falsum-is t h = absurd (true≢false (sym h))

abbrev is_unit : Junction → FormulaTree → Bool
is_unit All t = is_verum t
is_unit Any t = is_falsum t

abbrev is_zero : Junction → FormulaTree → Bool
is_zero All t = is_falsum t
is_zero Any t = is_verum t

abbrev zero_tree : Junction → FormulaTree
zero_tree All = falsum
zero_tree Any = verum

abbrev unit_tree : Junction → FormulaTree
unit_tree All = verum
unit_tree Any = falsum

abbrev pub list_join : Junction → List FormulaTree → FormulaTree
list_join All fs = conjunction_of fs
list_join Any fs = disjunction_of fs

joined-zero : (junction : Junction) (fs ps : List FormulaTree) → without_repeats ps ≡
    without_repeats (flat_map (junction_parts junction) fs) → list_any (is_zero junction) ps ≡ true → simplified_join junction fs ≡
    zero_tree junction
unfolding simplified_join junction_parts simplified_and simplified_or
joined-zero All fs ps e h =
    let xs = flat_map and_parts fs in
    ap (λ b. cond b falsum (conjunction_of (without_repeats (filter (λ f. not (is_verum f)) xs)))) (sym (same-any ps xs e is_falsum) ∙ h)
joined-zero Any fs ps e h =
    let xs = flat_map or_parts fs in
    ap (λ b. cond b verum (disjunction_of (without_repeats (filter (λ f. not (is_falsum f)) xs)))) (sym (same-any ps xs e is_verum) ∙ h)

joined-rest : (junction : Junction) (fs ps : List FormulaTree) → without_repeats ps ≡
    without_repeats (flat_map (junction_parts junction) fs) → list_any (is_zero junction) ps ≡ false → simplified_join junction fs ≡
    list_join junction (without_repeats (filter (λ f. not (is_unit junction f)) ps))
unfolding simplified_join junction_parts simplified_and simplified_or
joined-rest All fs ps e h =
    let xs = flat_map and_parts fs in
    ap (λ b. cond b falsum (conjunction_of (without_repeats (filter (λ f. not (is_verum f)) xs)))) (sym (same-any ps xs e is_falsum) ∙ h)
    ∙ ap conjunction_of (sym (same-filtered ps xs e (λ f. not (is_verum f))))
joined-rest Any fs ps e h =
    let xs = flat_map or_parts fs in
    ap (λ b. cond b verum (disjunction_of (without_repeats (filter (λ f. not (is_falsum f)) xs)))) (sym (same-any ps xs e is_verum) ∙ h)
    ∙ ap disjunction_of (sym (same-filtered ps xs e (λ f. not (is_falsum f))))

empty : (ks : List ℕ) → length ks ≡ 0 → ks ≡ []
empty [] h = refl
empty (x ∷ xs) h = absurd (omega arith)

many : (ts : List FormulaTree) (junction : Junction) (ks : List ℕ) → (length ks ≡ 0 → ⊥) → (length ks ≡ 1 → ⊥) →
    tree_of_node ts (join_node junction ks) ≡ list_join junction (trees_at ts ks)
unfolding tree_of_node
many ts junction [] a b = absurd (a refl)
many ts junction (x ∷ []) a b = absurd (b refl)
many ts All (x ∷ (y ∷ ks)) a b = refl
many ts Any (x ∷ (y ∷ ks)) a b = refl

module _ (ts : List FormulaTree) (one : OneToOne ts) (z : slice_get ts 0 ≡ Some verum) (f : slice_get ts 1 ≡ Some falsum) where
  there : (i : ℕ) → nat_lt i (length ts) ≡ true → slice_get ts i ≡ Some (tree_at ts i)
  there i h = at-there ts i (ltb-true i (length ts) h)

  same-at : (i j : ℕ) → nat_lt i (length ts) ≡ true → nat_lt j (length ts) ≡ true → same_formula (tree_at ts i) (tree_at ts j) ≡ nat_eq i j
  same-at i j h k = same-bool (same_formula (tree_at ts i) (tree_at ts j)) (nat_eq i j)
      (λ s. eq-eqb i j (one i j (tree_at ts i) (there i h) (there j k ∙ ap Some (sym (same_formula-is (tree_at ts i) (tree_at ts j) s)))))
      (λ s. same-of (tree_at ts i) (tree_at ts j) (ap (tree_at ts) (eqb-true i j s)))

  verum-at : (i : ℕ) → nat_lt i (length ts) ≡ true → is_verum (tree_at ts i) ≡ nat_eq i 0
  verum-at i h = same-bool (is_verum (tree_at ts i)) (nat_eq i 0)
      (λ s. eq-eqb i 0 (one i 0 verum (there i h ∙ ap Some (verum-is (tree_at ts i) s)) z))
      (λ s. ap (λ x. is_verum (tree_at ts x)) (eqb-true i 0 s) ∙ ap is_verum (at-is ts 0 verum z))

  falsum-at : (i : ℕ) → nat_lt i (length ts) ≡ true → is_falsum (tree_at ts i) ≡ nat_eq i 1
  falsum-at i h = same-bool (is_falsum (tree_at ts i)) (nat_eq i 1)
      (λ s. eq-eqb i 1 (one i 1 falsum (there i h ∙ ap Some (falsum-is (tree_at ts i) s)) f))
      (λ s. ap (λ x. is_falsum (tree_at ts x)) (eqb-true i 1 s) ∙ ap is_falsum (at-is ts 1 falsum f))

  zero-at : (junction : Junction) (i : ℕ) → nat_lt i (length ts) ≡ true → is_zero junction (tree_at ts i) ≡ nat_eq i (decides junction)
  zero-at All i h = falsum-at i h
  zero-at Any i h = verum-at i h

  unit-at : (junction : Junction) (i : ℕ) → nat_lt i (length ts) ≡ true → is_unit junction (tree_at ts i) ≡ nat_eq i (dropped junction)
  unit-at All i h = verum-at i h
  unit-at Any i h = falsum-at i h

  zero-there : (junction : Junction) → slice_get ts (decides junction) ≡ Some (zero_tree junction)
  zero-there All = f
  zero-there Any = z

  unit-there : (junction : Junction) → slice_get ts (dropped junction) ≡ Some (list_join junction [])
  unit-there All = z
  unit-there Any = f

  pub decided : (junction : Junction) (xs : List ℕ) (fs : List FormulaTree) → all_below (length ts) xs ≡ true →
      without_repeats (trees_at ts xs) ≡ without_repeats (flat_map (junction_parts junction) fs)
      → list_any (λ y. nat_eq y (decides junction)) xs ≡ true → slice_get ts (decides junction) ≡ Some (simplified_join junction fs)
  decided junction xs fs below e h =
      zero-there junction ∙ ap Some (sym (joined-zero junction fs (trees_at ts xs) e
      (any-map (tree_at ts) (length ts) (is_zero junction) (λ y. nat_eq y (decides junction)) (zero-at junction) xs below ∙ h)))

  module _ (junction : Junction) (xs : List ℕ) (fs : List FormulaTree) (below : all_below (length ts) xs ≡ true)
      (e : without_repeats (trees_at ts xs) ≡ without_repeats (flat_map (junction_parts junction) fs))
      (h : list_any (λ y. nat_eq y (decides junction)) xs ≡ false) (ks : List ℕ)
      (k : ks ≡ insert_all nat_eq [] (filter (λ i. not (nat_eq i (dropped junction))) xs)) where
    rest : List ℕ
    rest = filter (λ i. not (nat_eq i (dropped junction))) xs

    rest-below : all_below (length ts) rest ≡ true
    unfolding rest
    rest-below = below-filter (length ts) (λ i. not (nat_eq i (dropped junction))) xs below

    kept-is : ks ≡ dedup rest
    unfolding rest
    kept-is = k ∙ kept-once rest

    pub left-below : all_below (length ts) ks ≡ true
    left-below = ap (all_below (length ts)) kept-is ∙ below-dedup (length ts) rest rest-below

    pub left-joined : simplified_join junction fs ≡ list_join junction (trees_at ts ks)
    unfolding rest
    left-joined =
        joined-rest junction fs (trees_at ts xs) e (any-map (tree_at ts) (length ts) (is_zero junction) (λ y. nat_eq y (decides junction))
        (zero-at junction) xs below ∙ h)
        ∙ ap (list_join junction)
        (ap without_repeats (filter-map (tree_at ts) (length ts) (λ g. not (is_unit junction g)) (λ i. not (nat_eq i (dropped junction)))
        (λ i a. ap not (unit-at junction i a)) xs below)
        ∙ (distinct-map (tree_at ts) (length ts) same-at rest rest-below ∙ ap (map (tree_at ts)) (sym kept-is)))

    pub none-left : length ks ≡ 0 → slice_get ts (dropped junction) ≡ Some (simplified_join junction fs)
    none-left n = unit-there junction ∙ ap Some (sym (left-joined ∙ ap (λ l. list_join junction (trees_at ts l)) (empty ks n)))

    pub one-left : length ks ≡ 1 → slice_get ts (slice_index_or ks 0 0) ≡ Some (simplified_join junction fs)
    one-left n = single junction ks n left-below ∙ ap Some (sym left-joined)
      where
        single : (a : Junction) (l : List ℕ) → length l ≡ 1 → all_below (length ts) l ≡ true → slice_get ts (slice_index_or l 0 0) ≡
            Some (list_join a (trees_at ts l))
        single a [] m b = absurd (omega arith)
        single All (x ∷ []) m b = there x (both (nat_lt x (length ts)) true b).0
        single Any (x ∷ []) m b = there x (both (nat_lt x (length ts)) true b).0
        single a (x ∷ (y ∷ l)) m b = absurd (omega arith)

    pub many-left : (length ks ≡ 0 → ⊥) → (length ks ≡ 1 → ⊥) → tree_of_node ts (join_node junction ks) ≡ simplified_join junction fs
    many-left a b = many ts junction ks a b ∙ sym left-joined

    pub many-fit : fits (length ts) (join_node junction ks) ≡ true
    many-fit = join-fits (length ts) junction ks ∙ left-below

-- what the code asked and kept, in the words above
pub asked : (w d : ℕ) (shown xs : List ℕ) (r b : Bool) → r ≡ list_any (λ y. nat_eq y w) shown → w ≡ d → shown ≡ xs → r ≡ b →
    list_any (λ y. nat_eq y d) xs ≡ b
asked w d shown xs r b v e s k = sym (ap₂ (λ x l. list_any (λ y. nat_eq y x) l) e s) ∙ (sym v ∙ k)

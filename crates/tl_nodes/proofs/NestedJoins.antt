-- Numbers of joins, and the numbers of their parts.
use Rattle.std.proofs.Common.{◌≡◌, ℕ, ◌+◌, ◌<◌, Bool, true, true≢false, List, [], ◌∷◌, ◌++◌, map, reverse, Some, slice_get, nat_lt, ◌&&◌}
use Rattle.std.proofs.Common.{refl, sym, ap, ◌∙◌, subst, arith}
use Rattle.std.specs.List.{flat_map, sum_by}
use Rattle.std.proofs.lemmas.List.Folds.{list_all-append}
use Rattle.std.proofs.lemmas.List.Sums.{sum_by-append, sum_by-cons}
use Rattle.std.proofs.lemmas.List.{reverse-append}
use Rattle.tl_nodes.specs.declared.node.Node.{Node}
use Rattle.tl_nodes.specs.declared.node.Node.TheVariants as node
use Rattle.tl_syntax.specs.declared.junction.Junction.{Junction}
use Rattle.tl_syntax.specs.declared.junction.Junction.TheVariants.{All, Any}
use Rattle.tl_syntax.specs.Basic.{is_basic}
use Rattle.tl_syntax.specs.Junctions.{joined}
use Rattle.tl_syntax.specs.TreeOfFormula.{tree_of_formula}
use Rattle.tl_syntax.specs.Trees.{FormulaTree, conjunction, disjunction, formulas_of_list}
use Rattle.tl_syntax.proofs.Plain.{both, with_both}
use Rattle.tl_terms.specs.Simplification.{and_parts, and_parts_all, or_parts, or_parts_all}
use Rattle.tl_nodes.specs.Fits.{all_below, fits}
use Rattle.tl_nodes.specs.Joins.{junction_parts, join_node, breadth, breadth_all}
use Rattle.tl_nodes.specs.NodeTrees.{tree_at, trees_at, tree_of_node}
use Rattle.tl_nodes.proofs.TreesOfNodes.{at-is}

and-list : (xs : List FormulaTree) → and_parts_all (formulas_of_list xs) ≡ flat_map and_parts xs
unfolding and_parts
and-list [] = refl
and-list (x ∷ xs) = ap (λ ys. and_parts x ++ ys) (and-list xs)

or-list : (xs : List FormulaTree) → or_parts_all (formulas_of_list xs) ≡ flat_map or_parts xs
unfolding or_parts
or-list [] = refl
or-list (x ∷ xs) = ap (λ ys. or_parts x ++ ys) (or-list xs)

pub parts-list : (junction : Junction) (xs : List FormulaTree) → junction_parts junction (joined junction (formulas_of_list xs)) ≡
    flat_map (junction_parts junction) xs
unfolding junction_parts and_parts or_parts
parts-list All xs = and-list xs
parts-list Any xs = or-list xs

breadth-list : (t : ℕ → FormulaTree) (ids : List ℕ) → breadth_all (formulas_of_list (map t ids)) ≡ sum_by (λ i. breadth (t i)) ids
unfolding breadth
breadth-list t [] = refl
breadth-list t (i ∷ ids) = ap (λ n. breadth (t i) + n) (breadth-list t ids) ∙ sym (sum_by-cons (λ k. breadth (t k)) i ids)

breadth-join : (junction : Junction) (t : ℕ → FormulaTree) (ids : List ℕ) → breadth (joined junction (formulas_of_list (map t ids))) ≡
    sum_by (λ i. breadth (t i)) ids + 1
unfolding breadth
breadth-join All t ids = ap (λ n. n + 1) (breadth-list t ids)
breadth-join Any t ids = ap (λ n. n + 1) (breadth-list t ids)

pub breadth-pos : (t : FormulaTree) → 0 < breadth t
unfolding breadth
breadth-pos (conjunction fs) = omega arith
breadth-pos (disjunction fs) = omega arith
breadth-pos t = omega arith

node-join : (ts : List FormulaTree) (junction : Junction) (ids : List ℕ) → tree_of_node ts (join_node junction ids) ≡
    joined junction (formulas_of_list (map (tree_at ts) ids))
unfolding tree_of_node
node-join ts All ids = refl
node-join ts Any ids = refl

pub join-fits : (n : ℕ) (junction : Junction) (ids : List ℕ) → fits n (join_node junction ids) ≡ all_below n ids
unfolding fits
join-fits n All ids = refl
join-fits n Any ids = refl

module _ (ts : List FormulaTree) (id : ℕ) (n : Node) (is_it : slice_get ts id ≡ Some (tree_of_node ts n)) (junction : Junction)
    (ids : List ℕ) (e : n ≡ join_node junction ids) where
  shown : tree_at ts id ≡ joined junction (formulas_of_list (map (tree_at ts) ids))
  shown = at-is ts id (tree_of_node ts n) is_it ∙ (ap (tree_of_node ts) e ∙ node-join ts junction ids)

  pub nested-parts : junction_parts junction (tree_at ts id) ≡ flat_map (junction_parts junction) (trees_at ts ids)
  nested-parts = ap (junction_parts junction) shown ∙ parts-list junction (map (tree_at ts) ids)

  pub nested-smaller : sum_by (λ i. breadth (tree_at ts i)) ids < breadth (tree_at ts id)
  nested-smaller =
      let k : breadth (tree_at ts id) ≡ sum_by (λ i. breadth (tree_at ts i)) ids + 1 = ap breadth shown ∙
      breadth-join junction (tree_at ts) ids in
      omega arith

  pub nested-below : fits id n ≡ true → all_below id ids ≡ true
  nested-below w = sym (join-fits id junction ids) ∙ subst (λ x. fits id x ≡ true) e w

basic-and : (t : FormulaTree) → is_basic t ≡ true → and_parts t ≡ t ∷ []
unfolding and_parts
basic-and (conjunction fs) h = absurd (true≢false (sym h))
basic-and t h = refl

basic-or : (t : FormulaTree) → is_basic t ≡ true → or_parts t ≡ t ∷ []
unfolding or_parts
basic-or (disjunction fs) h = absurd (true≢false (sym h))
basic-or t h = refl

other-and : (ts : List FormulaTree) (k : ℕ) (n : Node) → fits k n ≡ true → ((ids : List ℕ) → n ≡ node.And ids → ⊥) →
    and_parts (tree_of_node ts n) ≡ tree_of_node ts n ∷ []
unfolding fits tree_of_node and_parts
other-and ts k (node.And ids) w h = absurd (h ids refl)
other-and ts k (node.Basic f) w h = basic-and (tree_of_formula f) w
other-and ts k n w h = refl

other-or : (ts : List FormulaTree) (k : ℕ) (n : Node) → fits k n ≡ true → ((ids : List ℕ) → n ≡ node.Or ids → ⊥) →
    or_parts (tree_of_node ts n) ≡ tree_of_node ts n ∷ []
unfolding fits tree_of_node or_parts
other-or ts k (node.Or ids) w h = absurd (h ids refl)
other-or ts k (node.Basic f) w h = basic-or (tree_of_formula f) w
other-or ts k n w h = refl

other-parts : (junction : Junction) (ts : List FormulaTree) (k : ℕ) (n : Node) → fits k n ≡ true →
    ((ids : List ℕ) → n ≡ join_node junction ids → ⊥) → junction_parts junction (tree_of_node ts n) ≡ tree_of_node ts n ∷ []
unfolding junction_parts
other-parts All ts k n w h = other-and ts k n w h
other-parts Any ts k n w h = other-or ts k n w h

pub single-parts : (junction : Junction) (ts : List FormulaTree) (id : ℕ) (n : Node) → slice_get ts id ≡ Some (tree_of_node ts n) →
    fits id n ≡ true → ((ids : List ℕ) → n ≡ join_node junction ids → ⊥)
    → junction_parts junction (tree_at ts id) ≡ tree_at ts id ∷ []
single-parts junction ts id n is_it w h =
    subst (λ t. junction_parts junction t ≡ t ∷ []) (sym (at-is ts id (tree_of_node ts n) is_it)) (other-parts junction ts id n w h)

pub and-not-or : (n : Node) (junction : Junction) (is : List ℕ) → n ≡ node.And is → junction ≡ Any → (ids : List ℕ) → n ≡
    join_node junction ids → ⊥
and-not-or n junction is e f ids g = let k : node.And is ≡ node.Or ids = sym e ∙ (g ∙ ap (λ b. join_node b ids) f) in cc

pub or-not-and : (n : Node) (junction : Junction) (is : List ℕ) → n ≡ node.Or is → junction ≡ All → (ids : List ℕ) → n ≡
    join_node junction ids → ⊥
or-not-and n junction is e f ids g = let k : node.Or is ≡ node.And ids = sym e ∙ (g ∙ ap (λ b. join_node b ids) f) in cc

pub neither : (n : Node) (junction : Junction) → ((ids : List ℕ) → n ≡ node.And ids → ⊥) → ((ids : List ℕ) → n ≡ node.Or ids → ⊥) →
    (ids : List ℕ) → n ≡ join_node junction ids → ⊥
neither n All a b ids e = a ids e
neither n Any a b ids e = b ids e

pub less-without : (f : ℕ → ℕ) (xs ys : List ℕ) (i : ℕ) → ys ≡ xs ++ i ∷ [] → 0 < f i → sum_by f xs < sum_by f ys
less-without f xs ys i e h =
    let k : sum_by f ys ≡ sum_by f xs + (0 + f i) = ap (sum_by f) e ∙ sum_by-append f xs (i ∷ []) in
    omega arith

and-swap : (a b : Bool) → a ≡ true → b ≡ true → (a && b) ≡ true
and-swap a b h k = with_both h k

pub all-reverse : (n : ℕ) (xs : List ℕ) → all_below n xs ≡ true → all_below n (reverse xs) ≡ true
all-reverse n [] h = refl
all-reverse n (x ∷ xs) h =
    let p = both (nat_lt x n) (all_below n xs) h in
    let e : reverse (x ∷ xs) ≡ reverse xs ++ x ∷ [] = reverse-append (x ∷ []) xs in
    ap (all_below n) e ∙ (list_all-append (λ i. nat_lt i n) (reverse xs) (x ∷ []) ∙
    and-swap (all_below n (reverse xs)) (nat_lt x n && true) (all-reverse n xs p.1) (with_both p.0 refl))

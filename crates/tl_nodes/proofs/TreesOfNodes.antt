-- The trees of a list of nodes: how many there are, and that each is its node's over all of them.
use Rattle.std.proofs.Common.{◌≡◌, ℕ, zero, suc, ◌+◌, ◌<◌, ◌≤◌, true, List, [], ◌∷◌, ◌++◌, map, length, Some, slice_get, nat_lt, refl, sym}
use Rattle.std.proofs.Common.{ap, ap₂, ◌∙◌, subst, arith, length-append, append_assoc, append-nil, fold}
use Rattle.std.proofs.lemmas.List.Sums.{fold-append}
use Rattle.std.proofs.lemmas.Option.{slice_get-get_or, get_or_from_slice_get}
use borrow.Author.Tests.{ltb-true}
use Rattle.tl_nodes.specs.declared.node.Node.{Node}
use Rattle.tl_nodes.specs.declared.node.Node.TheVariants as node
use Rattle.tl_syntax.specs.Trees.{FormulaTree, verum, negation, conjunction, disjunction, for_all, for_some, next, always, eventually}
use Rattle.tl_syntax.specs.Trees.{until, within, during, formulas_of_list}
use Rattle.tl_syntax.proofs.Plain.{both, with_both}
use Rattle.tl_nodes.specs.Fits.{all_below, fits, EachFits}
use Rattle.tl_nodes.specs.NodeTrees.{tree_at, tree_of_node, trees_of_nodes}
use Rattle.tl_nodes.proofs.GrownLists.{get-left, get-end}

pub at-is : (ts : List FormulaTree) (i : ℕ) (t : FormulaTree) → slice_get ts i ≡ Some t → tree_at ts i ≡ t
at-is ts i t h = get_or_from_slice_get ts i t verum h

pub at-there : (ts : List FormulaTree) (i : ℕ) → i < length ts → slice_get ts i ≡ Some (tree_at ts i)
at-there ts i h = slice_get-get_or ts i verum h

pub inside-true : (i n : ℕ) → i < n → nat_lt i n ≡ true
inside-true i n h = grind (arith, ltb-true)

pub trees-push : (ns : List Node) (n : Node) → trees_of_nodes (ns ++ n ∷ []) ≡ trees_of_nodes ns ++ tree_of_node (trees_of_nodes ns) n ∷ []
unfolding trees_of_nodes
trees-push ns n = fold-append (λ ts m. ts ++ tree_of_node ts m ∷ []) [] ns (n ∷ [])

folded-length : (ns : List Node) (ts : List FormulaTree) → length (fold (λ us m. us ++ tree_of_node us m ∷ []) ts ns) ≡
    length ts + length ns
folded-length [] ts = omega arith
folded-length (n ∷ ns) ts = folded-length ns (ts ++ tree_of_node ts n ∷ []) ∙ simp length-append (omega arith)

pub trees-length : (ns : List Node) → length (trees_of_nodes ns) ≡ length ns
unfolding trees_of_nodes
trees-length ns = folded-length ns [] ∙ omega arith

-- a node reads only the trees of its children
at-left : (ts us : List FormulaTree) (i : ℕ) → nat_lt i (length ts) ≡ true → tree_at (ts ++ us) i ≡ tree_at ts i
at-left ts us i h =
    let below : i < length ts = ltb-true i (length ts) h in
    get_or_from_slice_get (ts ++ us) i (tree_at ts i) verum (get-left ts us i (tree_at ts i) (slice_get-get_or ts i verum below))

all-left : (ts us : List FormulaTree) (is : List ℕ) → all_below (length ts) is ≡ true → map (tree_at (ts ++ us)) is ≡ map (tree_at ts) is
all-left ts us [] h = refl
all-left ts us (i ∷ is) h =
    let p = both (nat_lt i (length ts)) (all_below (length ts) is) h in
    ap₂ ◌∷◌ (at-left ts us i p.0) (all-left ts us is p.1)

pub node-left : (ts us : List FormulaTree) (n : Node) → fits (length ts) n ≡ true → tree_of_node (ts ++ us) n ≡ tree_of_node ts n
unfolding tree_of_node fits
node-left ts us (node.Not i) h = ap negation (at-left ts us i h)
node-left ts us (node.And is) h = ap (λ ks. conjunction (formulas_of_list ks)) (all-left ts us is h)
node-left ts us (node.Or is) h = ap (λ ks. disjunction (formulas_of_list ks)) (all-left ts us is h)
node-left ts us (node.Next i) h = ap next (at-left ts us i h)
node-left ts us (node.Always i) h = ap always (at-left ts us i h)
node-left ts us (node.Eventually i) h = ap eventually (at-left ts us i h)
node-left ts us (node.Until i j) h =
    let p = both (nat_lt i (length ts)) (nat_lt j (length ts)) h in
    ap₂ until (at-left ts us i p.0) (at-left ts us j p.1)
node-left ts us (node.Within n i) h = ap (within n) (at-left ts us i h)
node-left ts us (node.During n i) h = ap (during n) (at-left ts us i h)
node-left ts us (node.ForAll vs b i) h = ap (for_all vs b) (at-left ts us i h)
node-left ts us (node.Exists vs b i) h = ap (for_some vs b) (at-left ts us i h)
node-left ts us n h = refl

lt-more : (i m n : ℕ) → m ≤ n → nat_lt i m ≡ true → nat_lt i n ≡ true
lt-more i m n le h = grind (arith, ltb-true)

all-more : (m n : ℕ) → m ≤ n → (is : List ℕ) → all_below m is ≡ true → all_below n is ≡ true
all-more m n le [] h = refl
all-more m n le (i ∷ is) h =
    let p = both (nat_lt i m) (all_below m is) h in
    with_both (lt-more i m n le p.0) (all-more m n le is p.1)

pub fits-more : (m n : ℕ) → m ≤ n → (a : Node) → fits m a ≡ true → fits n a ≡ true
unfolding fits
fits-more m n le (node.Basic f) h = h
fits-more m n le (node.Not i) h = lt-more i m n le h
fits-more m n le (node.And is) h = all-more m n le is h
fits-more m n le (node.Or is) h = all-more m n le is h
fits-more m n le (node.Next i) h = lt-more i m n le h
fits-more m n le (node.Always i) h = lt-more i m n le h
fits-more m n le (node.Eventually i) h = lt-more i m n le h
fits-more m n le (node.Until i j) h =
    let p = both (nat_lt i m) (nat_lt j m) h in
    with_both (lt-more i m n le p.0) (lt-more j m n le p.1)
fits-more m n le (node.Within k i) h = lt-more i m n le h
fits-more m n le (node.During k i) h = lt-more i m n le h
fits-more m n le (node.ForAll vs b i) h = lt-more i m n le h
fits-more m n le (node.Exists vs b i) h = lt-more i m n le h
fits-more m n le a h = refl

-- the trees that a fold goes on with stay
pub folded-left : (ns : List Node) (ts : List FormulaTree) → (us : List FormulaTree) ×
    (fold (λ us m. us ++ tree_of_node us m ∷ []) ts ns ≡ ts ++ us)
folded-left [] ts = ([], simp append-nil)
folded-left (n ∷ ns) ts =
    let k = folded-left ns (ts ++ tree_of_node ts n ∷ []) in
    (tree_of_node ts n ∷ k.0, k.1 ∙ append_assoc ts (tree_of_node ts n ∷ []) k.0)

-- each number's tree is its node's, over all the trees
layer-from : (ns : List Node) (ts : List FormulaTree) → ((i : ℕ) (n : Node) → slice_get ns i ≡ Some n → fits (length ts + i) n ≡ true)
    → (i : ℕ) (n : Node) → slice_get ns i ≡ Some n
    → slice_get (fold (λ us m. us ++ tree_of_node us m ∷ []) ts ns) (length ts + i) ≡
    Some (tree_of_node (fold (λ us m. us ++ tree_of_node us m ∷ []) ts ns) n)
layer-from [] ts all i n h = let f : ⊥ = cc in absurd f
layer-from (m ∷ ns) ts all zero n h =
    let e : m ≡ n = cc in
    let us = ts ++ tree_of_node ts m ∷ [] in
    let k = folded-left ns us in
    let w : fits (length ts) m ≡ true = subst (λ x. fits x m ≡ true) (let z : length ts + 0 ≡ length ts = omega arith in z)
    (all 0 m refl) in
    let there : slice_get (us ++ k.0) (length ts) ≡ Some (tree_of_node ts m) =
    get-left us k.0 (length ts) (tree_of_node ts m) (get-end ts (tree_of_node ts m)) in
    let same : tree_of_node (us ++ k.0) m ≡ tree_of_node ts m =
    ap (λ x. tree_of_node x m) (append_assoc ts (tree_of_node ts m ∷ []) k.0) ∙ node-left ts (tree_of_node ts m ∷ k.0) m w in
    let at : length ts + 0 ≡ length ts = omega arith in
    rw (at, k.1, ← e) (there ∙ ap Some (sym same))
layer-from (m ∷ ns) ts all (suc i) n h =
    let us = ts ++ tree_of_node ts m ∷ [] in
    let len : length us ≡ length ts + 1 = simp length-append in
    let on : (j : ℕ) (a : Node) → slice_get ns j ≡ Some a → fits (length us + j) a ≡ true =
    λ j a g. subst (λ x. fits x a ≡ true) (let z : length ts + suc j ≡ length us + j = omega arith in z) (all (suc j) a g) in
    let z : length ts + suc i ≡ length us + i = omega arith in
    rw z (layer-from ns us on i n h)

pub layer : (ns : List Node) → EachFits ns → (i : ℕ) (n : Node) → slice_get ns i ≡ Some n → slice_get (trees_of_nodes ns) i ≡
    Some (tree_of_node (trees_of_nodes ns) n)
unfolding trees_of_nodes
layer ns all i n h =
    let zl : (j : ℕ) → 0 + j ≡ j = λ j. omega arith in
    let k = layer-from ns [] (λ j a g. subst (λ x. fits x a ≡ true) (sym (zl j)) (all j a g)) i n h in
    subst (λ x. slice_get (trees_of_nodes ns) x ≡ Some (tree_of_node (trees_of_nodes ns) n)) (zl i) k

pub ruleset fits_tests = (inside-true)

-- Two nodes are equal by the derived test exactly where they make one tree of numbers that denote different trees.
use Rattle.std.proofs.Common.{◌≡◌, ℕ, ◌<◌, Bool, true, true≢false, List, [], ◌∷◌, map, length, ap, ap₂, sym, ◌∙◌, refl, nat_eq, nat_lt}
use Rattle.std.proofs.Common.{◌&&◌, eqb-true, eq-eqb, Some, arith}
use lib.Pointwise.{pointwise}
use borrow.Author.Tests.{ltb-true}
use Rattle.std.proofs.lemmas.Option.{slice_get-get_or}
use Rattle.tl_syntax.specs.contracts.variable.VarPartialEq.TheImpl as var_impl
use Rattle.tl_syntax.specs.contracts.bound.BoundPartialEq.TheImpl as bound_impl
use Rattle.tl_syntax.specs.declared.bound.Bound.{Bound}
use Rattle.tl_syntax.specs.declared.variable.Var.{Var}
use Rattle.tl_nodes.specs.contracts.node.NodePartialEq.TheImpl as node_impl
use Rattle.tl_nodes.specs.declared.node.Node.{Node}
use Rattle.tl_nodes.specs.declared.node.Node.TheVariants as node
use Rattle.tl_syntax.specs.Basic.{is_basic}
use Rattle.tl_syntax.specs.TreeOfFormula.{tree_of_formula}
use Rattle.tl_syntax.specs.Trees.{FormulaTree, verum, falsum, negation, conjunction, disjunction, for_all, for_some, next, always}
use Rattle.tl_syntax.specs.Trees.{eventually, until, within, during, formulas_of_list}
use Rattle.tl_syntax.proofs.FormulaSame.{formula_eq, formula-same}
use Rattle.tl_syntax.proofs.PartsSame.{nat-tells, var-tells, bound-tells}
use Rattle.tl_syntax.proofs.Plain.{both, with_both, list-tells}
use Rattle.tl_nodes.specs.Fits.{all_below, fits}
use Rattle.tl_nodes.specs.NodeTrees.{tree_at, tree_of_node}
use Rattle.tl_nodes.specs.Numbering.{OneToOne}

abbrev pub node_eq : Node → Node → Bool
node_eq = (node_impl.ghosts).eq

abbrev vars_eq : List Var → List Var → Bool
vars_eq = pointwise (var_impl.ghosts).eq

abbrev bound_eq : Bound → Bound → Bool
bound_eq = (bound_impl.ghosts).eq

-- equal nodes make one tree, whatever the numbers denote
pub alike : (ts : List FormulaTree) (a b : Node) → node_eq a b ≡ true → tree_of_node ts a ≡ tree_of_node ts b
unfolding tree_of_node formula_eq
alike ts node.True node.True h = refl
alike ts node.False node.False h = refl
alike ts (node.Basic f) (node.Basic g) h = (formula-same f g).0 h
alike ts (node.Not i) (node.Not j) h = ap (λ k. negation (tree_at ts k)) (eqb-true i j h)
alike ts (node.And is) (node.And js) h = ap (λ ks. conjunction (formulas_of_list (map (tree_at ts) ks)))
    ((list-tells nat_eq nat-tells is js).0 h)
alike ts (node.Or is) (node.Or js) h = ap (λ ks. disjunction (formulas_of_list (map (tree_at ts) ks)))
    ((list-tells nat_eq nat-tells is js).0 h)
alike ts (node.Next i) (node.Next j) h = ap (λ k. next (tree_at ts k)) (eqb-true i j h)
alike ts (node.Always i) (node.Always j) h = ap (λ k. always (tree_at ts k)) (eqb-true i j h)
alike ts (node.Eventually i) (node.Eventually j) h = ap (λ k. eventually (tree_at ts k)) (eqb-true i j h)
alike ts (node.Until i k) (node.Until j l) h =
    let p = both (nat_eq i j) (nat_eq k l) h in
    ap₂ (λ m n. until (tree_at ts m) (tree_at ts n)) (eqb-true i j p.0) (eqb-true k l p.1)
alike ts (node.Within m i) (node.Within n j) h =
    let p = both (nat_eq m n) (nat_eq i j) h in
    ap₂ (λ k l. within k (tree_at ts l)) (eqb-true m n p.0) (eqb-true i j p.1)
alike ts (node.During m i) (node.During n j) h =
    let p = both (nat_eq m n) (nat_eq i j) h in
    ap₂ (λ k l. during k (tree_at ts l)) (eqb-true m n p.0) (eqb-true i j p.1)
alike ts (node.ForAll vs b i) (node.ForAll ws c j) h =
    let p = both (vars_eq vs ws) (bound_eq b c && nat_eq i j) h in
    let q = both (bound_eq b c) (nat_eq i j) p.1 in
    let x = (list-tells (var_impl.ghosts).eq var-tells vs ws).0 p.0 in
    let y = (bound-tells b c).0 q.0 in
    let z = eqb-true i j q.1 in
    λ k. for_all (x k) (y k) (tree_at ts (z k))
alike ts (node.Exists vs b i) (node.Exists ws c j) h =
    let p = both (vars_eq vs ws) (bound_eq b c && nat_eq i j) h in
    let q = both (bound_eq b c) (nat_eq i j) p.1 in
    let x = (list-tells (var_impl.ghosts).eq var-tells vs ws).0 p.0 in
    let y = (bound-tells b c).0 q.0 in
    let z = eqb-true i j q.1 in
    λ k. for_some (x k) (y k) (tree_at ts (z k))
alike ts a b h = absurd (true≢false (sym h))

-- which layer a node is, and its tree
kind : Node → ℕ
kind node.True = 0
kind node.False = 1
kind (node.Basic f) = 2
kind (node.Not i) = 3
kind (node.And is) = 4
kind (node.Or is) = 5
kind (node.Next i) = 6
kind (node.Always i) = 7
kind (node.Eventually i) = 8
kind (node.Until i j) = 9
kind (node.ForAll vs b i) = 10
kind (node.Exists vs b i) = 11
kind (node.Within n i) = 12
kind (node.During n i) = 13

kind_of : FormulaTree → ℕ
kind_of verum = 0
kind_of falsum = 1
kind_of (negation f) = 3
kind_of (conjunction fs) = 4
kind_of (disjunction fs) = 5
kind_of (next f) = 6
kind_of (always f) = 7
kind_of (eventually f) = 8
kind_of (until f g) = 9
kind_of (for_all vs b f) = 10
kind_of (for_some vs b f) = 11
kind_of (within n f) = 12
kind_of (during n f) = 13
kind_of _ = 2

basic-kind : (t : FormulaTree) → is_basic t ≡ true → kind_of t ≡ 2
unfolding kind_of
basic-kind verum h = absurd (true≢false (sym h))
basic-kind falsum h = absurd (true≢false (sym h))
basic-kind (negation f) h = absurd (true≢false (sym h))
basic-kind (conjunction fs) h = absurd (true≢false (sym h))
basic-kind (disjunction fs) h = absurd (true≢false (sym h))
basic-kind (next f) h = absurd (true≢false (sym h))
basic-kind (always f) h = absurd (true≢false (sym h))
basic-kind (eventually f) h = absurd (true≢false (sym h))
basic-kind (until f g) h = absurd (true≢false (sym h))
basic-kind (for_all vs b f) h = absurd (true≢false (sym h))
basic-kind (for_some vs b f) h = absurd (true≢false (sym h))
basic-kind (within n f) h = absurd (true≢false (sym h))
basic-kind (during n f) h = absurd (true≢false (sym h))
basic-kind t h = refl

kind-is : (ts : List FormulaTree) (n : ℕ) (a : Node) → fits n a ≡ true → kind_of (tree_of_node ts a) ≡ kind a
unfolding tree_of_node fits kind kind_of
kind-is ts n (node.Basic f) h = basic-kind (tree_of_formula f) h
kind-is ts n a h = refl

below : (i n : ℕ) → nat_lt i n ≡ true → i < n
below i n h = ltb-true i n h

at-same : (ts : List FormulaTree) → OneToOne ts → (i j : ℕ) → nat_lt i (length ts) ≡ true → nat_lt j (length ts) ≡ true → tree_at ts i ≡
    tree_at ts j → nat_eq i j ≡ true
at-same ts one i j h k e =
    eq-eqb i j (one i j (tree_at ts i) (slice_get-get_or ts i verum (below i (length ts) h))
    (slice_get-get_or ts j verum (below j (length ts) k) ∙ ap Some (sym e)))

all-same : (ts : List FormulaTree) → OneToOne ts → (is js : List ℕ) → all_below (length ts) is ≡ true → all_below (length ts) js ≡ true
    → formulas_of_list (map (tree_at ts) is) ≡ formulas_of_list (map (tree_at ts) js) → pointwise nat_eq is js ≡ true
all-same ts one [] [] h k e = refl
all-same ts one (i ∷ is) (j ∷ js) h k e =
    let p = both (nat_lt i (length ts)) (all_below (length ts) is) h in
    let q = both (nat_lt j (length ts)) (all_below (length ts) js) k in
    let x : tree_at ts i ≡ tree_at ts j = cc in
    let y : formulas_of_list (map (tree_at ts) is) ≡ formulas_of_list (map (tree_at ts) js) = cc in
    with_both (at-same ts one i j p.0 q.0 x) (all-same ts one is js p.1 q.1 y)
all-same ts one is js h k e = absurd (let f : ⊥ = cc in f)

-- nodes that make one tree are equal, where the numbers denote different trees
pub told : (ts : List FormulaTree) → OneToOne ts → (a b : Node) → fits (length ts) a ≡ true → fits (length ts) b ≡ true
    → tree_of_node ts a ≡ tree_of_node ts b → node_eq a b ≡ true
unfolding tree_of_node fits formula_eq kind
told ts one node.True node.True h k e = refl
told ts one node.False node.False h k e = refl
told ts one (node.Basic f) (node.Basic g) h k e = (formula-same f g).1 e
told ts one (node.Not i) (node.Not j) h k e = at-same ts one i j h k (let x : tree_at ts i ≡ tree_at ts j = cc in x)
told ts one (node.And is) (node.And js) h k e = all-same ts one is js h k
    (let x : formulas_of_list (map (tree_at ts) is) ≡ formulas_of_list (map (tree_at ts) js) = cc in x)
told ts one (node.Or is) (node.Or js) h k e = all-same ts one is js h k
    (let x : formulas_of_list (map (tree_at ts) is) ≡ formulas_of_list (map (tree_at ts) js) = cc in x)
told ts one (node.Next i) (node.Next j) h k e = at-same ts one i j h k (let x : tree_at ts i ≡ tree_at ts j = cc in x)
told ts one (node.Always i) (node.Always j) h k e = at-same ts one i j h k (let x : tree_at ts i ≡ tree_at ts j = cc in x)
told ts one (node.Eventually i) (node.Eventually j) h k e = at-same ts one i j h k (let x : tree_at ts i ≡ tree_at ts j = cc in x)
told ts one (node.Until i m) (node.Until j n) h k e =
    let p = both (nat_lt i (length ts)) (nat_lt m (length ts)) h in
    let q = both (nat_lt j (length ts)) (nat_lt n (length ts)) k in
    let x : tree_at ts i ≡ tree_at ts j = cc in
    let y : tree_at ts m ≡ tree_at ts n = cc in
    with_both (at-same ts one i j p.0 q.0 x) (at-same ts one m n p.1 q.1 y)
told ts one (node.Within m i) (node.Within n j) h k e =
    let x : m ≡ n = cc in
    let y : tree_at ts i ≡ tree_at ts j = cc in
    with_both (eq-eqb m n x) (at-same ts one i j h k y)
told ts one (node.During m i) (node.During n j) h k e =
    let x : m ≡ n = cc in
    let y : tree_at ts i ≡ tree_at ts j = cc in
    with_both (eq-eqb m n x) (at-same ts one i j h k y)
told ts one (node.ForAll vs b i) (node.ForAll ws c j) h k e =
    let x : vs ≡ ws = cc in
    let y : b ≡ c = cc in
    let z : tree_at ts i ≡ tree_at ts j = cc in
    with_both ((list-tells (var_impl.ghosts).eq var-tells vs ws).1 x) (with_both ((bound-tells b c).1 y) (at-same ts one i j h k z))
told ts one (node.Exists vs b i) (node.Exists ws c j) h k e =
    let x : vs ≡ ws = cc in
    let y : b ≡ c = cc in
    let z : tree_at ts i ≡ tree_at ts j = cc in
    with_both ((list-tells (var_impl.ghosts).eq var-tells vs ws).1 x) (with_both ((bound-tells b c).1 y) (at-same ts one i j h k z))
told ts one a b h k e =
    let same : kind a ≡ kind b = sym (kind-is ts (length ts) a h) ∙ (ap kind_of e ∙ kind-is ts (length ts) b k) in
    absurd (omega arith)

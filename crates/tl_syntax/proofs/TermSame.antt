-- Two terms are equal by the derived test exactly where they are one tree.
use Rattle.std.proofs.Common.{◌≡◌, ◌↔◌, Bool, true, false, true≢false, List, [], ◌∷◌, map, ap, ap₂, sym, ◌∙◌, refl, subst, nat_eq, ◌&&◌}
use Rattle.std.proofs.Common.{eqb-true, eq-eqb}
use Rattle.std.specs.Cmp.Lexicographic.{pointwise}
use Rattle.tl_syntax.specs.Trees.{TermTree, TermTrees, variable, value, place, arith, more_terms}
use Rattle.tl_syntax.specs.TreeOfTerm.{tree_of_term, tree_of_terms, term_step, terms_step, terms_of_list}
use Rattle.tl_syntax.specs.declared.term.Term.{Term, Term-F, out-Term, roll-Term, out-roll-Term, roll-out-Term, fold-roll-Term, map-Term}
use Rattle.tl_syntax.specs.declared.term.Term.{ind-Term}
use Rattle.tl_syntax.specs.declared.term.Terms.{Terms, Terms-F, roll-Terms, map-Terms}
use Rattle.tl_syntax.specs.declared.term.Term.TheOpen as layer
use Rattle.tl_syntax.specs.contracts.term.TermPartialEq.TheImpl as term_impl
use Rattle.tl_syntax.specs.contracts.term.TermPartialEq.TheImpl.Laws as term_laws
use Rattle.tl_syntax.specs.contracts.term.TermsPartialEq.TheImpl as terms_impl
use Rattle.tl_syntax.specs.contracts.term.TermsPartialEq.TheImpl.Laws as terms_laws
use Rattle.tl_syntax.specs.contracts.variable.VarPartialEq.TheImpl as var_impl
use Rattle.tl_syntax.specs.contracts.value.OpPartialEq.TheImpl as op_impl
use Rattle.tl_syntax.specs.contracts.value.ValuePartialEq.TheImpl as value_impl
use Rattle.tl_syntax.proofs.Plain.{both, with_both, value-tells}
use Rattle.tl_syntax.proofs.PartsSame.{var-tells, op-tells}
use Rattle.tl_syntax.proofs.TermTrees.{trees-Terms}

-- the derived test, a layer at a time
unfoldable pub term_eq : Term → Term → Bool
term_eq = (term_impl.ghosts).eq

unfoldable pub terms_eq : Terms → Terms → Bool
terms_eq = (terms_impl.ghosts).eq

eq-Terms : (ts us : Terms) → terms_eq ts us ≡ pointwise term_eq ts.items.items us.items.items
unfolding term_eq terms_eq
eq-Terms ts us = terms_laws.is ts us

layer_eq : Term-F Term Terms → Term-F Term Terms → Bool
layer_eq (layer.Var u) (layer.Var v) = (var_impl.ghosts).eq u v
layer_eq (layer.Val u) (layer.Val v) = (value_impl.ghosts).eq u v
layer_eq (layer.Place f ts) (layer.Place g us) = nat_eq f g && terms_eq ts us
layer_eq (layer.Arith op a b at) (layer.Arith oq c d au) = (op_impl.ghosts).eq op oq &&
    (term_eq a.value c.value && (term_eq b.value d.value && nat_eq at au))
layer_eq _ _ = false

eq-roll : (x y : Term-F Term Terms) → term_eq (roll-Term x) (roll-Term y) ≡ layer_eq x y
unfolding term_eq terms_eq layer_eq
eq-roll (layer.Var u) (layer.Var v) = term_laws.is (roll-Term (layer.Var u)) (roll-Term (layer.Var v)) ∙ simp out-roll-Term
eq-roll (layer.Val u) (layer.Val v) = term_laws.is (roll-Term (layer.Val u)) (roll-Term (layer.Val v)) ∙ simp out-roll-Term
eq-roll (layer.Place f ts) (layer.Place g us) = term_laws.is (roll-Term (layer.Place f ts)) (roll-Term (layer.Place g us)) ∙
    simp out-roll-Term
eq-roll (layer.Arith op a b at) (layer.Arith oq c d au) = term_laws.is (roll-Term (layer.Arith op a b at))
    (roll-Term (layer.Arith oq c d au)) ∙ simp out-roll-Term
eq-roll x y = term_laws.is (roll-Term x) (roll-Term y) ∙ simp out-roll-Term

layer_tree : Term-F Term Terms → TermTree
layer_tree (layer.Var v) = variable v
layer_tree (layer.Val v) = value v
layer_tree (layer.Place f ts) = place f (tree_of_terms ts)
layer_tree (layer.Arith op a b at) = arith op (tree_of_term a.value) (tree_of_term b.value) at

tree-roll : (x : Term-F Term Terms) → tree_of_term (roll-Term x) ≡ layer_tree x
unfolding tree_of_term tree_of_terms layer_tree
tree-roll (layer.Var v) = fold-roll-Term TermTree TermTrees term_step terms_step (layer.Var v)
tree-roll (layer.Val v) = fold-roll-Term TermTree TermTrees term_step terms_step (layer.Val v)
tree-roll (layer.Place f ts) = fold-roll-Term TermTree TermTrees term_step terms_step (layer.Place f ts)
tree-roll (layer.Arith op a b at) = fold-roll-Term TermTree TermTrees term_step terms_step (layer.Arith op a b at)

IsSame : Term → Type 0
IsSame a = (b : Term) → (term_eq a b ≡ true) ↔ (tree_of_term a ≡ tree_of_term b)

AreSame : Terms → Type 0
AreSame ts = (us : Terms) → (terms_eq ts us ≡ true) ↔ (tree_of_terms ts ≡ tree_of_terms us)

abbrev Above : Type 0
Above = Term-F ((t : Term) × IsSame t) ((ts : Terms) × AreSame ts)

abbrev terms_below : Above → Term-F Term Terms
terms_below = map-Term ((t : Term) × IsSame t) ((ts : Terms) × AreSame ts) Term Terms (λ e. e.0) (λ e. e.0)

layer-same : (x : Above) (y : Term-F Term Terms) → (layer_eq (terms_below x) y ≡ true) ↔ (layer_tree (terms_below x) ≡ layer_tree y)
unfolding IsSame AreSame layer_eq layer_tree
layer-same (layer.Var u) (layer.Var v) = (λ h. ap variable ((var-tells u v).0 h), λ e. (var-tells u v).1 (let k : u ≡ v = cc in k))
layer-same (layer.Val u) (layer.Val v) = (λ h. ap value ((value-tells u v).0 h), λ e. (value-tells u v).1 (let k : u ≡ v = cc in k))
layer-same (layer.Place f ts) (layer.Place g us) = (
  λ h. let k = both (nat_eq f g) (terms_eq ts.0 us) h in ap₂ place (eqb-true f g k.0) ((ts.1 us).0 k.1),
  λ h. let e : f ≡ g = cc in let k : tree_of_terms ts.0 ≡ tree_of_terms us = cc in with_both (eq-eqb f g e) ((ts.1 us).1 k),
)
layer-same (layer.Arith op a b at) (layer.Arith oq c d au) = (
  λ h.
      let k = both ((op_impl.ghosts).eq op oq) (term_eq a.value.0 c.value && (term_eq b.value.0 d.value && nat_eq at au)) h in
      let l = both (term_eq a.value.0 c.value) (term_eq b.value.0 d.value && nat_eq at au) k.1 in
      let m = both (term_eq b.value.0 d.value) (nat_eq at au) l.1 in
      let p = (op-tells op oq).0 k.0 in let q = (a.value.1 c.value).0 l.0 in let r = (b.value.1 d.value).0 m.0 in let s =
      eqb-true at au m.1 in
      λ i. arith (p i) (q i) (r i) (s i),
  λ h.
      let p : op ≡ oq = cc in
      let q : tree_of_term a.value.0 ≡ tree_of_term c.value = cc in
      let r : tree_of_term b.value.0 ≡ tree_of_term d.value = cc in
      let s : at ≡ au = cc in
      with_both ((op-tells op oq).1 p) (with_both ((a.value.1 c.value).1 q) (with_both ((b.value.1 d.value).1 r) (eq-eqb at au s))),
)
layer-same x y = (λ h. absurd (true≢false (sym h)), λ e. absurd (let k : ⊥ = cc in k))

items-same : (xs : List ((t : Term) × IsSame t)) (ys : List Term) → (pointwise term_eq (map (λ e. e.0) xs) ys ≡ true) ↔
    (terms_of_list (map tree_of_term (map (λ e. e.0) xs)) ≡ terms_of_list (map tree_of_term ys))
unfolding IsSame
items-same [] [] = (λ _. refl, λ _. refl)
items-same (x ∷ xs) (y ∷ ys) = (
  λ h. let k = both (term_eq x.0 y) (pointwise term_eq (map (λ e. e.0) xs) ys) h in
      ap₂ more_terms ((x.1 y).0 k.0) ((items-same xs ys).0 k.1),
  λ h.
      let p : tree_of_term x.0 ≡ tree_of_term y = cc in
      let q : terms_of_list (map tree_of_term (map (λ e. e.0) xs)) ≡ terms_of_list (map tree_of_term ys) = cc in
      with_both ((x.1 y).1 p) ((items-same xs ys).1 q),
)
items-same xs ys = (λ h. absurd (true≢false (sym h)), λ e. absurd (let k : ⊥ = cc in k))

pub iff-along : {b c : Bool} {A : Type 0} {s t u v : A} → b ≡ c → s ≡ u → t ≡ v → (c ≡ true) ↔ (u ≡ v) → (b ≡ true) ↔ (s ≡ t)
iff-along e p q h = (λ k. p ∙ (h.0 (sym e ∙ k) ∙ sym q), λ k. e ∙ h.1 (sym p ∙ (k ∙ q)))

abbrev rows_below : Terms-F ((t : Term) × IsSame t) ((ts : Terms) × AreSame ts) → Terms-F Term Terms
rows_below = map-Terms ((t : Term) × IsSame t) ((ts : Terms) × AreSame ts) Term Terms (λ e. e.0) (λ e. e.0)

pub term-same : (a b : Term) → (term_eq a b ≡ true) ↔ (tree_of_term a ≡ tree_of_term b)
unfolding IsSame AreSame
term-same = ind-Term IsSame AreSame
    (λ x y is b. subst (λ z. (c : Term) → (term_eq (roll-Term z) c ≡ true) ↔ (tree_of_term (roll-Term z) ≡ tree_of_term c)) is
    (λ c. subst (λ w. (term_eq (roll-Term (terms_below y)) w ≡ true) ↔ (tree_of_term (roll-Term (terms_below y)) ≡ tree_of_term w))
    (roll-out-Term c)
    (iff-along (eq-roll (terms_below y) (out-Term c)) (tree-roll (terms_below y)) (tree-roll (out-Term c)) (layer-same y (out-Term c)))) b)
    (λ x y is us. subst (λ z. (terms_eq (roll-Terms z) us ≡ true) ↔ (tree_of_terms (roll-Terms z) ≡ tree_of_terms us)) is
    (iff-along (eq-Terms (roll-Terms (rows_below y)) us) (trees-Terms (roll-Terms (rows_below y))) (trees-Terms us)
    (items-same y.items.items us.items.items)))

list-same : (xs ys : List Term) → (pointwise term_eq xs ys ≡ true) ↔ (terms_of_list (map tree_of_term xs) ≡
    terms_of_list (map tree_of_term ys))
list-same [] [] = (λ _. refl, λ _. refl)
list-same (x ∷ xs) (y ∷ ys) = (
  λ h. let k = both (term_eq x y) (pointwise term_eq xs ys) h in ap₂ more_terms ((term-same x y).0 k.0) ((list-same xs ys).0 k.1),
  λ h.
      let p : tree_of_term x ≡ tree_of_term y = cc in
      let q : terms_of_list (map tree_of_term xs) ≡ terms_of_list (map tree_of_term ys) = cc in
      with_both ((term-same x y).1 p) ((list-same xs ys).1 q),
)
list-same xs ys = (λ h. absurd (true≢false (sym h)), λ e. absurd (let k : ⊥ = cc in k))

pub terms-same : (ts us : Terms) → (terms_eq ts us ≡ true) ↔ (tree_of_terms ts ≡ tree_of_terms us)
terms-same ts us = iff-along (eq-Terms ts us) (trees-Terms ts) (trees-Terms us) (list-same ts.items.items us.items.items)

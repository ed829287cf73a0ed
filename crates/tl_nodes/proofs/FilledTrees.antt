-- Trees with values put in that are remembered stay right.
use Rattle.std.proofs.Common.{◌≡◌, ◌<◌, ◌≤◌, ◌≢◌, ◌&&◌, ◌==◌, ℕ, zero, suc, List, [], ◌∷◌, length, replicate, get_or, true, false}
use Rattle.std.proofs.Common.{true≢false, eqb-true, Option, Some, None, slice_get, refl, sym, ap, ap₂, ◌∙◌, subst, arith}
use Rattle.std.proofs.lemmas.Option.{slice_get_within}
use Rattle.std.specs.Prelude.{slice_set}
use Rattle.tl_nodes.specs.declared.nodes.filled.Filled.{Filled}
use Rattle.tl_nodes.specs.Filled.{IsFilled, AreFilled, bindings_in, same_option, same_bindings}
use Rattle.tl_nodes.specs.NodeTrees.{tree_at}
use Rattle.tl_nodes.specs.Numbering.{Keeps}
use Rattle.tl_nodes.proofs.TreesOfNodes.{at-is, at-there}
use Rattle.tl_syntax.specs.declared.substitution.Binding.{Binding}
use Rattle.tl_syntax.specs.declared.value.Value.{Value}
use Rattle.tl_syntax.specs.Bindings.{assignment_of}
use Rattle.tl_syntax.specs.Substitution.{substituted}
use Rattle.tl_syntax.specs.Trees.{FormulaTree, verum}
use Rattle.tl_syntax.proofs.Plain.{both, value-tells}

-- ---- trees that stay

one-stays : (ts us : List FormulaTree) → Keeps ts us → (m : Filled) → IsFilled ts m → IsFilled us m
one-stays ts us kept m h =
    let there = kept m.at (tree_at ts m.at) (at-there ts m.at h.inside) in
    record {
      few = h.few;
      inside = slice_get_within us m.at (tree_at ts m.at) there;
      is = kept m.number (substituted (assignment_of (bindings_in m)) (tree_at ts m.at)) h.is ∙
          ap (λ (f : FormulaTree). Some (substituted (assignment_of (bindings_in m)) f)) (sym (at-is us m.at (tree_at ts m.at) there));
    }

pub filled-stay : (ts us : List FormulaTree) → Keeps ts us → (ms : List Filled) → AreFilled ts ms → AreFilled us ms
filled-stay ts us kept [] h = tt
filled-stay ts us kept (m ∷ ms) h = (one-stays ts us kept m h.0, filled-stay ts us kept ms h.1)

-- ---- one at a place

pub filled-set : (ts : List FormulaTree) (ms : List Filled) (i : ℕ) (m : Filled) → AreFilled ts ms → IsFilled ts m →
    AreFilled ts (slice_set ms i m)
filled-set ts [] i m h k = tt
filled-set ts (x ∷ ms) zero m h k = (k, h.1)
filled-set ts (x ∷ ms) (suc i) m h k = (h.0, filled-set ts ms i m h.1 k)

pub filled-at : (ts : List FormulaTree) (ms : List Filled) (i : ℕ) (m : Filled) → i < length ms → m ≡ get_or ms i m → AreFilled ts ms →
    IsFilled ts m
filled-at ts [] i m l e h = absurd (omega arith)
filled-at ts (x ∷ ms) zero m l e h = subst (IsFilled ts) (sym e) h.0
filled-at ts (x ∷ ms) (suc i) m l e h = filled-at ts ms i m (omega arith) e h.1

pub set-length : (ms : List Filled) (i : ℕ) (m : Filled) → length (slice_set ms i m) ≡ length ms
set-length [] i m = refl
set-length (x ∷ ms) zero m = refl
set-length (x ∷ ms) (suc i) m = ap suc (set-length ms i m)

-- the tree with these bindings put in
pub is-filled : (ts : List FormulaTree) (m : Filled) (at : ℕ) (bs : List Binding) (number : ℕ) → m.at ≡ at → m.count ≤ 4 → bindings_in m ≡
    bs → m.number ≡ number → at < length ts → slice_get ts number ≡ Some (substituted (assignment_of bs) (tree_at ts at)) → IsFilled ts m
is-filled ts m at bs number e few b n inside is = record {
  few = few;
  inside = omega (arith, e, inside);
  is = ap (slice_get ts) n ∙ (is ∙ sym (λ i. Some (substituted (assignment_of (b i)) (tree_at ts (e i)))));
}

-- ---- nothing is put in

pub none-filled : (ts : List FormulaTree) (m : Filled) → m.at ≡ 0 → m.count ≡ 0 → m.number ≡ 0 → slice_get ts 0 ≡ Some verum → IsFilled ts m
unfolding substituted
none-filled ts m at count number true_is = record {
  few = omega arith;
  inside = let z = slice_get_within ts 0 verum true_is in omega arith;
  is = ap (slice_get ts) number ∙ (true_is ∙ ap (λ (f : FormulaTree). Some (substituted (assignment_of (bindings_in m)) f))
      (sym (ap (tree_at ts) at ∙ at-is ts 0 verum true_is)));
}

pub all-filled : (ts : List FormulaTree) (n : ℕ) (m : Filled) → IsFilled ts m → AreFilled ts (replicate n m)
all-filled ts zero m h = tt
all-filled ts (suc n) m h = (h, all-filled ts n m h)

pub copies-length : (n : ℕ) (m : Filled) → length (replicate n m) ≡ n
copies-length zero m = refl
copies-length (suc n) m = ap suc (copies-length n m)

-- ---- the same bindings

option-is : (u v : Option Value) → same_option u v ≡ true → u ≡ v
option-is None None h = refl
option-is (Some u) (Some v) h = ap (λ (x : Value). Some x) ((value-tells u v).0 h)
option-is None (Some v) h = absurd (true≢false (sym h))
option-is (Some u) None h = absurd (true≢false (sym h))

pub bindings-are : (xs ys : List Binding) → same_bindings xs ys ≡ true → xs ≡ ys
bindings-are [] [] h = refl
bindings-are [] (b ∷ bs) h = absurd (true≢false (sym h))
bindings-are (a ∷ xs) [] h = absurd (true≢false (sym h))
bindings-are (a ∷ xs) (b ∷ ys) h =
    let k = both ((a.slot == b.slot) && same_option a.value b.value) (same_bindings xs ys) h in
    let l = both (a.slot == b.slot) (same_option a.value b.value) k.0 in
    let p = eqb-true a.slot b.slot l.0 in
    let q = option-is a.value b.value l.1 in
    ap₂ (λ (x : Binding) (zs : List Binding). x ∷ zs) (λ i. record { slot = p i; value = q i }) (bindings-are xs ys k.1)

bindings-count : (xs ys : List Binding) → same_bindings xs ys ≡ true → length xs ≡ length ys
bindings-count xs ys h = ap length (bindings-are xs ys h)

pub bindings-short : (xs ys : List Binding) → length xs ≢ length ys → false ≡ same_bindings xs ys
bindings-short xs ys d = elim (same_bindings xs ys) as (λ b. same_bindings xs ys ≡ b → false ≡ b)
    [ true ↦ λ h. absurd (d (bindings-count xs ys h)) | false ↦ λ h. refl ] refl

-- The open list as a set of entries in their order.
use Rattle.std.proofs.Common.{◌≡◌, ◌<◌, ℕ, true, false, Less, Equal, Greater, refl, sym, ap, arith, Ordering}
use native.Mathlib.Decide.{ℕ_discrete}
use Rattle.std.specs.Ordering.{nat_cmp, ordering_then, is_gt, is_eq, MatchOrdering}
use Rattle.std.specs.BTreeMap.{is_at}
use Rattle.std.specs.BTreeSet.{IsLowerBound, Updates}
use Rattle.std.proofs.lemmas.Cmp.{ranked}
use Rattle.tl_cost.specs.Ways.{ComesNoLater, Adds, Drops, IsFirstOf, entry_cmp, is_listed}
use Rattle.tl_cost.specs.declared.open_list.Entry.{Entry}
use Rattle.tl_cost.specs.declared.open_list.OpenList.{OpenList}

nat-ties : (a b : ℕ) → nat_cmp a b ≡ Equal → a ≡ b
nat-ties a b e = by_order (nat_cmp a b) (ranked a b (nat_cmp a b) refl) e
  where
    by_order : (o : Ordering) → MatchOrdering o (a < b) (a ≡ b) (b < a) → o ≡ Equal → a ≡ b
    by_order Less h q = cc
    by_order Equal h q = h
    by_order Greater h q = cc

then-equal : (r s : Ordering) → ordering_then r s ≡ Equal → (r ≡ Equal) × (s ≡ Equal)
then-equal Less s e = let q : Less ≡ Equal = e in let b : ⊥ = cc in absurd b
then-equal Equal s e = (refl, e)
then-equal Greater s e = let q : Greater ≡ Equal = e in let b : ⊥ = cc in absurd b

entry-is : (x y : Entry) → x.cost ≡ y.cost → x.length ≡ y.length → x.number ≡ y.number → x ≡ y
entry-is x y p q r = λ i. record { cost = p i; length = q i; number = r i }

-- whether two entries are the same
pub same-entry : (x y : Entry) → Dec (x ≡ y)
same-entry x y = elim (ℕ_discrete x.cost y.cost) [
  | no n ↦ no (λ e. n (ap (λ (u : Entry). u.cost) e))
  | yes p ↦ elim (ℕ_discrete x.length y.length) [
    | no n ↦ no (λ e. n (ap (λ (u : Entry). u.length) e))
    | yes q ↦ elim (ℕ_discrete x.number y.number) [
      | no n ↦ no (λ e. n (ap (λ (u : Entry). u.number) e))
      | yes r ↦ yes (entry-is x y p q r)
    ]
  ]
]

-- only the entry itself is found
tied-is : (x y : Entry) → entry_cmp x y ≡ Equal → x ≡ y
tied-is x y e =
    let a = then-equal (nat_cmp x.cost y.cost) (ordering_then (nat_cmp x.length y.length) (nat_cmp x.number y.number)) e in
    let b = then-equal (nat_cmp x.length y.length) (nat_cmp x.number y.number) a.1 in
    entry-is x y (nat-ties x.cost y.cost a.0) (nat-ties x.length y.length b.0) (nat-ties x.number y.number b.1)

not-at : (x y : Entry) → (y ≡ x → ⊥) → is_at (entry_cmp x) y ≡ false
not-at x y n = by_order (entry_cmp x y) refl
  where
    by_order : (o : Ordering) → entry_cmp x y ≡ o → is_eq o ≡ false
    by_order Less e = refl
    by_order Equal e = absurd (n (sym (tied-is x y e)))
    by_order Greater e = refl

-- an entry more
pub adds-one : (old new : OpenList) (e : Entry) → Updates entry_cmp old.entries new.entries e true → Adds (is_listed old) (is_listed new) e
adds-one old new e h = record { is = h.1; others = λ q n. h.2 q (not-at e q n) }

-- an entry less
pub drops-one : (old new : OpenList) (e : Entry) → Updates entry_cmp old.entries new.entries e false →
    Drops (is_listed old) (is_listed new) e
drops-one old new e h = record { is = h.1; others = λ q n. h.2 q (not-at e q n) }

upto-by : (a b m n : ℕ) (r s t : Ordering) → MatchOrdering r (a < b) (a ≡ b) (b < a) → MatchOrdering s (m < n) (m ≡ n) (n < m) →
    is_gt (ordering_then r (ordering_then s t)) ≡ false → ComesNoLater a m b n
upto-by a b m n Less s t h k e = record { cheap = omega arith; short = λ q. absurd (omega arith) }
upto-by a b m n Equal Less t h k e = record { cheap = omega arith; short = λ q. omega arith }
upto-by a b m n Equal Equal t h k e = record { cheap = omega arith; short = λ q. omega arith }
upto-by a b m n Equal Greater t h k e = let q : true ≡ false = e in let c : ⊥ = cc in absurd c
upto-by a b m n Greater s t h k e = let q : true ≡ false = e in let c : ⊥ = cc in absurd c

-- the first entry comes no later than any
pub first-one : (list : OpenList) (e : Entry) → IsLowerBound entry_cmp list.entries e → IsFirstOf (is_listed list) e
first-one list e h q listed = upto-by e.cost q.cost e.length q.length (nat_cmp e.cost q.cost) (nat_cmp e.length q.length)
    (nat_cmp e.number q.number) (ranked e.cost q.cost (nat_cmp e.cost q.cost) refl)
    (ranked e.length q.length (nat_cmp e.length q.length) refl) (h q listed)

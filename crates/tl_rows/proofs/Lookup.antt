-- A look-up in tables is a look-up of the table and then of the row.
use Rattle.std.proofs.Common.{◌≡◌, ℕ, zero, suc, ◌<◌, true, false, cond, T, List, [], ◌∷◌, ◌++◌, map, length, get_or, Option, Some, None}
use Rattle.std.proofs.Common.{refl, sym, ap, ◌∙◌, subst, arith, Less, Equal, Greater, is_some, Err}
use Rattle.std.specs.Ordering.{is_lt, is_eq, nat_cmp, ordering_then, eq_by_cmp}
use Rattle.std.specs.Cmp.{IsTotalOrder, nat_cmp_total, tied_itself}
use Rattle.std.specs.List.Sorted.{IsBinarySearchResult}
use Rattle.std.specs.Cmp.Lexicographic.{lists_total}
use Rattle.std.specs.FinSet as set
use Rattle.std.specs.FinMap as dict
use Rattle.std.specs.FinMap.Entries.{below_all, is_some-find}
use Rattle.tl_syntax.specs.declared.value.Value.{Value}
use Rattle.tl_syntax.specs.Keys.{Key, key_cmp}
use Rattle.tl_syntax.proofs.TotalOrders.{key_total, value_total}
use Rattle.tl_rows.specs.Plain.{row_cmp, PlainRows, PlainTables, keyed, entries_of, AreRows, EachInOrder, InOrder, set_of, map_of}
use Rattle.tl_rows.proofs.Search.{first_true, second_true, with_true, is_less, find-at, search-err}

pub row_total : IsTotalOrder row_cmp
row_total = lists_total value_total

abbrev pub or_else : {X : Type 0} → Option X → Option X → Option X
or_else (Some x) other = Some x
or_else None other = other

abbrev pub in_rows : {X : Type 0} → Option (PlainRows X) → List Value → Option X
in_rows None a = None
in_rows (Some rs) a = dict.find row_cmp a rs

module _ {X : Type 0} where
  pub find-append : (q : Key) (es fs : List (Key × X)) → dict.find key_cmp q (es ++ fs) ≡
      or_else (dict.find key_cmp q es) (dict.find key_cmp q fs)
  find-append q [] fs = refl
  find-append q (e ∷ es) fs =
      elim (eq_by_cmp key_cmp q e.0) as (λ b. cond b (Some e.1) (dict.find key_cmp q (es ++ fs)) ≡
      or_else (cond b (Some e.1) (dict.find key_cmp q es)) (dict.find key_cmp q fs)) [
        | true ↦ refl
        | false ↦ find-append q es fs
      ]

  pub find-keyed : (n m : ℕ) (a : List Value) (rs : PlainRows X) → dict.find key_cmp (n, a) (keyed m rs) ≡
      cond (is_eq (nat_cmp n m)) (dict.find row_cmp a rs) None
  find-keyed n m a [] = elim (nat_cmp n m) as (λ r. ◌≡◌ {A = Option X} None
      (cond (is_eq r) None None)) [ Less ↦ refl | Equal ↦ refl | Greater ↦ refl ]
  find-keyed n m a (r ∷ rs) =
      ap (λ u. cond (is_eq (ordering_then (nat_cmp n m) (row_cmp a r.0))) (Some r.1) u) (find-keyed n m a rs)
      ∙ elim (nat_cmp n m) as (λ s. cond (is_eq (ordering_then s (row_cmp a r.0))) (Some r.1)
      (cond (is_eq s) (dict.find row_cmp a rs) None) ≡ cond (is_eq s)
      (dict.find row_cmp a (r ∷ rs)) None) [ Less ↦ refl | Equal ↦ refl | Greater ↦ refl ]

  -- a number that ties with one below all is not found
  apart : (n m : ℕ) (ts : PlainTables X) → nat_cmp n m ≡ Equal → T (below_all nat_cmp m ts) → dict.find nat_cmp n ts ≡ None
  apart n m [] e h = refl
  apart n m (t ∷ ts) e h =
      ap (λ r. cond (is_eq r) (Some t.1) (dict.find nat_cmp n ts)) (nat_cmp_total.congr n m t.0 e ∙ is_less _ (first_true _ _ h))
      ∙ apart n m ts e (second_true _ _ h)

  pub find-entries : (n : ℕ) (a : List Value) (ts : PlainTables X) → T (dict.is_sorted nat_cmp ts) →
      dict.find key_cmp (n, a) (entries_of ts) ≡ in_rows (dict.find nat_cmp n ts) a
  find-entries n a [] h = refl
  find-entries n a (t ∷ ts) h =
      find-append (n, a) (keyed t.0 t.1) (entries_of ts)
      ∙ ((λ i. or_else (find-keyed n t.0 a t.1 i) (find-entries n a ts (second_true _ _ h) i))
      ∙ elim (nat_cmp n t.0) as (λ r. nat_cmp n t.0 ≡ r → or_else (cond (is_eq r) (dict.find row_cmp a t.1) None)
      (in_rows (dict.find nat_cmp n ts) a) ≡ in_rows (cond (is_eq r) (Some t.1) (dict.find nat_cmp n ts)) a) [
        | Less ↦ λ e. refl
        | Equal ↦ λ e. ap (λ u. or_else (dict.find row_cmp a t.1) (in_rows u a)) (apart n t.0 ts e (first_true _ _ h)) ∙
            or_none (dict.find row_cmp a t.1)
        | Greater ↦ λ e. refl
      ] refl)
    where
      or_none : (x : Option X) → or_else x None ≡ x
      or_none None = refl
      or_none (Some x) = refl

pub contains-set_of : (ts : PlainTables (Unit {0})) (q : Key) → set.contains (set_of ts) q ≡ is_some (dict.find key_cmp q (entries_of ts))
contains-set_of ts q = set.contains-from_list key_total _ q ∙ sym (is_some-find key_cmp q (entries_of ts))

module _ {X : Type 0} where
  below-append : (k : Key) (es fs : List (Key × X)) → T (below_all key_cmp k es) → T (below_all key_cmp k fs) →
      T (below_all key_cmp k (es ++ fs))
  below-append k [] fs p q = q
  below-append k (e ∷ es) fs p q = with_true _ _ (first_true _ _ p) (below-append k es fs (second_true _ _ p) q)

  below-keyed : (n : ℕ) (a : List Value) (rs : PlainRows X) → T (below_all row_cmp a rs) → T (below_all key_cmp (n, a) (keyed n rs))
  below-keyed n a [] h = tt
  below-keyed n a (r ∷ rs) h =
      with_true _ _ (subst (λ s. T (is_lt (ordering_then s (row_cmp a r.0)))) (sym (tied_itself nat_cmp_total n)) (first_true _ _ h))
      (below-keyed n a rs (second_true _ _ h))

  below-other : (n m : ℕ) (a : List Value) (rs : PlainRows X) → nat_cmp n m ≡ Less → T (below_all key_cmp (n, a) (keyed m rs))
  below-other n m a [] e = tt
  below-other n m a (r ∷ rs) e = with_true _ _ (subst (λ s. T (is_lt (ordering_then s (row_cmp a r.0)))) (sym e) tt)
      (below-other n m a rs e)

  below-entries : (n : ℕ) (a : List Value) (ts : PlainTables X) → T (below_all nat_cmp n ts) → T (below_all key_cmp (n, a) (entries_of ts))
  below-entries n a [] h = tt
  below-entries n a (t ∷ ts) h = below-append (n, a) (keyed t.0 t.1) (entries_of ts)
      (below-other n t.0 a t.1 (is_less _ (first_true _ _ h))) (below-entries n a ts (second_true _ _ h))

  sorted-keyed : (n : ℕ) (rs : PlainRows X) (fs : List (Key × X)) → T (dict.is_sorted row_cmp rs) →
      ((a : List Value) → T (below_all key_cmp (n, a) fs)) → T (dict.is_sorted key_cmp fs) → T (dict.is_sorted key_cmp (keyed n rs ++ fs))
  sorted-keyed n [] fs h above s = s
  sorted-keyed n (r ∷ rs) fs h above s =
      with_true _ _ (below-append (n, r.0) (keyed n rs) fs (below-keyed n r.0 rs (first_true _ _ h)) (above r.0))
      (sorted-keyed n rs fs (second_true _ _ h) above s)

  -- the entries of tables in order rise
  pub entries-rise : (ts : PlainTables X) → InOrder ts → T (dict.is_sorted key_cmp (entries_of ts))
  entries-rise [] h = tt
  entries-rise (t ∷ ts) h =
      sorted-keyed t.0 t.1 (entries_of ts) h.1.0.1 (λ a. below-entries t.0 a ts (first_true _ _ h.0))
      (entries-rise ts (second_true _ _ h.0, h.1.1))

pub get-map_of : {X : Type 0} (ts : PlainTables X) (q : Key) → InOrder ts → dict.get (map_of ts) q ≡ dict.find key_cmp q (entries_of ts)
get-map_of ts q h = dict.get-from_sorted key_cmp (entries_of ts) q (entries-rise ts h)

module _ {A X : Type 0} (f : A → ℕ × PlainRows X) where
  pub each-at : (ts : List A) (i : ℕ) (d : A) → i < length ts → EachInOrder (map f ts) → T (dict.is_sorted row_cmp (f (get_or ts i d)).1)
  each-at [] i d p h = absurd (omega arith)
  each-at (t ∷ ts) zero d p h = h.0.1
  each-at (t ∷ ts) (suc i) d p h = each-at ts i d (omega arith) h.1

  pub rows-at : (ts : List A) (i : ℕ) (d : A) → i < length ts → EachInOrder (map f ts) → AreRows (f (get_or ts i d)).1
  rows-at [] i d p h = absurd (omega arith)
  rows-at (t ∷ ts) zero d p h = h.0
  rows-at (t ∷ ts) (suc i) d p h = rows-at ts i d (omega arith) h.1

  -- the search found a table with the number n
  pub at-table : (ts : List A) (n : ℕ) (a : List Value) (i : ℕ) (d : A) → InOrder (map f ts) → i < length ts →
      nat_cmp (f (get_or ts i d)).0 n ≡ Equal → dict.find key_cmp (n, a) (entries_of (map f ts)) ≡ dict.find row_cmp a (f (get_or ts i d)).1
  at-table ts n a i d h p e = find-entries n a (map f ts) h.0 ∙ ap (λ u. in_rows u a) (find-at nat_cmp_total f n ts i d p h.0 e)

  -- the search found no such table
  pub no-table : (ts : List A) (n : ℕ) (a : List Value) (i : ℕ) → InOrder (map f ts) →
      IsBinarySearchResult (λ t. nat_cmp (f t).0 n) ts (Err i) → dict.find key_cmp (n, a) (entries_of (map f ts)) ≡ None
  no-table ts n a i h place = find-entries n a (map f ts) h.0 ∙ ap (λ u. in_rows u a) (search-err nat_cmp_total f n ts i h.0 place)

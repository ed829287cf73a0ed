-- Tables after one fact or one place is put in or taken out.
use Rattle.std.proofs.Common.{◌≡◌, ℕ, Bool, true, false, cond, not, T, ◌&&◌, ◌||◌, List, [], ◌∷◌, Option, Some, None, refl, sym, ap, ◌∙◌}
use Rattle.std.proofs.Common.{Ordering, Less, Equal, Greater, is_some}
use Rattle.std.specs.Ordering.{is_eq, nat_cmp, ordering_then, eq_by_cmp}
use Rattle.std.specs.Cmp.{nat_cmp_total, tied_back, alike_right, eq_by_cmp_equiv}
use Rattle.std.specs.FinSet as set
use Rattle.std.specs.FinMap as dict
use Rattle.std.specs.FinMap.Entries.{where_key, by_order, is_sorted-put, is_sorted-where_key, find-put, find-where_key}
use Rattle.tl_syntax.specs.declared.value.Value.{Value}
use Rattle.tl_syntax.specs.Keys.{Key, key_cmp}
use Rattle.tl_syntax.proofs.TotalOrders.{key_total, key_ties}
use Rattle.tl_rows.specs.Plain.{row_cmp, PlainRows, PlainTables, entries_of, EachInOrder, InOrder, HasItem, set_of, map_of}
use Rattle.tl_rows.proofs.Lookup.{find-entries, in_rows, row_total, contains-set_of, get-map_of}
use Rattle.tl_world.proofs.Edits.{other_than}

turned : {A : Type 0} (b : Bool) (x y : A) → cond (not b) x y ≡ cond b y x
turned true x y = refl
turned false x y = refl

module _ {X : Type 0} where
  pub filled-put : (a : List Value) (v : X) (rs : PlainRows X) → HasItem (dict.put row_cmp a v rs)
  filled-put a v [] = tt
  filled-put a v (r ∷ rs) = elim (row_cmp a r.0) as (λ o. HasItem (by_order o ((a, v) ∷ r ∷ rs) ((r.0, v) ∷ rs)
      (r ∷ dict.put row_cmp a v rs))) [ Less ↦ tt | Equal ↦ tt | Greater ↦ tt ]

  each-put : (n : ℕ) (rs : PlainRows X) (ts : PlainTables X) → HasItem rs → T (dict.is_sorted row_cmp rs) → EachInOrder ts →
      EachInOrder (dict.put nat_cmp n rs ts)
  each-put n rs [] f s h = ((f, s), tt)
  each-put n rs (t ∷ ts) f s h =
      elim (nat_cmp n t.0) as (λ o. EachInOrder (by_order o ((n, rs) ∷ t ∷ ts) ((t.0, rs) ∷ ts) (t ∷ dict.put nat_cmp n rs ts))) [
        | Less ↦ ((f, s), h)
        | Equal ↦ ((f, s), h.1)
        | Greater ↦ (h.0, each-put n rs ts f s h.1)
      ]

  each-where : (p : ℕ → Bool) (ts : PlainTables X) → EachInOrder ts → EachInOrder (where_key nat_cmp p ts)
  each-where p [] h = tt
  each-where p (t ∷ ts) h = elim (p t.0) as (λ b. EachInOrder (cond b (t ∷ where_key nat_cmp p ts) (where_key nat_cmp p ts))) [
    | true ↦
        (h.0, each-where p ts h.1)
    | false ↦ each-where p ts h.1
  ]

  pub put-order : (n : ℕ) (rs : PlainRows X) (ts : PlainTables X) → HasItem rs → T (dict.is_sorted row_cmp rs) → InOrder ts →
      InOrder (dict.put nat_cmp n rs ts)
  put-order n rs ts f s h = (is_sorted-put nat_cmp nat_cmp_total n rs ts h.0, each-put n rs ts f s h.1)

  pub where-order : (p : ℕ → Bool) (ts : PlainTables X) → InOrder ts → InOrder (where_key nat_cmp p ts)
  where-order p ts h = (is_sorted-where_key nat_cmp p ts h.0, each-where p ts h.1)

  pub row-put-order : (a : List Value) (v : X) (rs : PlainRows X) → T (dict.is_sorted row_cmp rs) →
      T (dict.is_sorted row_cmp (dict.put row_cmp a v rs))
  row-put-order a v rs s = is_sorted-put row_cmp row_total a v rs s

  pub row-where-order : (a : List Value) (rs : PlainRows X) → T (dict.is_sorted row_cmp rs) →
      T (dict.is_sorted row_cmp (where_key row_cmp (other_than row_cmp a) rs))
  row-where-order a rs s = is_sorted-where_key row_cmp (λ x. not (eq_by_cmp row_cmp a x)) rs s

  -- a look-up after the rows of n became rs
  find-after : (n m : ℕ) (b : List Value) (rs : PlainRows X) (ts : PlainTables X) → InOrder ts →
      T (dict.is_sorted nat_cmp (dict.put nat_cmp n rs ts))
      → dict.find key_cmp (m, b) (entries_of (dict.put nat_cmp n rs ts)) ≡
      cond (is_eq (nat_cmp m n)) (dict.find row_cmp b rs) (dict.find key_cmp (m, b) (entries_of ts))
  find-after n m b rs ts h s =
      find-entries m b (dict.put nat_cmp n rs ts) s
      ∙ (ap (λ u. in_rows u b) (find-put nat_cmp nat_cmp_total m n rs ts)
      ∙ (elim (is_eq (nat_cmp m n)) as (λ c. in_rows (cond c (Some rs) (dict.find nat_cmp m ts)) b ≡
      cond c (dict.find row_cmp b rs) (in_rows (dict.find nat_cmp m ts) b)) [ true ↦ refl | false ↦ refl ]
      ∙ ap (λ u. cond (is_eq (nat_cmp m n)) (dict.find row_cmp b rs) u) (sym (find-entries m b ts h.0))))

  in-same : (n m : ℕ) (b : List Value) (ts : PlainTables X) → InOrder ts → nat_cmp m n ≡ Equal → dict.find key_cmp (m, b) (entries_of ts) ≡
      in_rows (dict.find nat_cmp n ts) b
  in-same n m b ts h e = find-entries m b ts h.0 ∙ ap (λ u. in_rows u b)
      (Rattle.std.specs.FinMap.Entries.find_tied nat_cmp nat_cmp_total n m (tied_back nat_cmp_total m n e) ts)

  -- put in
  pub find-put-in : (n : ℕ) (a : List Value) (v : X) (rs : PlainRows X) (ts : PlainTables X) (q : Key)
      → InOrder ts → T (dict.is_sorted row_cmp rs) → ((b : List Value) → in_rows (dict.find nat_cmp n ts) b ≡ dict.find row_cmp b rs)
      → dict.find key_cmp q (entries_of (dict.put nat_cmp n (dict.put row_cmp a v rs) ts)) ≡
      cond (eq_by_cmp key_cmp q (n, a)) (Some v) (dict.find key_cmp q (entries_of ts))
  find-put-in n a v rs ts q h s is =
      find-after n q.0 q.1 (dict.put row_cmp a v rs) ts h (is_sorted-put nat_cmp nat_cmp_total n _ ts h.0)
      ∙ elim (nat_cmp q.0 n) as (λ o. nat_cmp q.0 n ≡ o → cond (is_eq o) (dict.find row_cmp q.1 (dict.put row_cmp a v rs))
      (dict.find key_cmp q (entries_of ts)) ≡ cond (is_eq (ordering_then o (row_cmp q.1 a))) (Some v)
      (dict.find key_cmp q (entries_of ts))) [
        | Less ↦ λ e. refl
        | Equal ↦ λ e. find-put row_cmp row_total q.1 a v rs ∙ ap (λ u. cond (eq_by_cmp row_cmp q.1 a) (Some v) u)
            (sym (in-same n q.0 q.1 ts h e ∙ is q.1))
        | Greater ↦ λ e. refl
      ] refl

  gone : (a b : List Value) (rs : PlainRows X) → dict.find row_cmp b (where_key row_cmp (λ x. not (eq_by_cmp row_cmp a x)) rs) ≡
      cond (eq_by_cmp row_cmp b a) None (dict.find row_cmp b rs)
  gone a b rs =
      find-where_key row_cmp (λ x. not (eq_by_cmp row_cmp a x)) b (λ x t. ap (λ r. not (is_eq r)) (sym (alike_right row_total b x a t))) rs
      ∙ (turned (eq_by_cmp row_cmp a b) _ _ ∙ ap (λ c. cond c None (dict.find row_cmp b rs)) ((eq_by_cmp_equiv row_total).symm a b))

  -- taken out
  pub find-taken : (n : ℕ) (a : List Value) (rs : PlainRows X) (ts : PlainTables X) (q : Key)
      → InOrder ts → ((b : List Value) → in_rows (dict.find nat_cmp n ts) b ≡ dict.find row_cmp b rs)
      → dict.find key_cmp q (entries_of (dict.put nat_cmp n (where_key row_cmp (λ x. not (eq_by_cmp row_cmp a x)) rs) ts)) ≡
      cond (eq_by_cmp key_cmp q (n, a)) None (dict.find key_cmp q (entries_of ts))
  find-taken n a rs ts q h is =
      find-after n q.0 q.1 _ ts h (is_sorted-put nat_cmp nat_cmp_total n _ ts h.0)
      ∙ elim (nat_cmp q.0 n) as (λ o. nat_cmp q.0 n ≡ o → cond (is_eq o)
      (dict.find row_cmp q.1 (where_key row_cmp (λ x. not (eq_by_cmp row_cmp a x)) rs)) (dict.find key_cmp q (entries_of ts)) ≡
      cond (is_eq (ordering_then o (row_cmp q.1 a))) None (dict.find key_cmp q (entries_of ts))) [
        | Less ↦ λ e. refl
        | Equal ↦ λ e. gone a q.1 rs ∙ ap (λ u. cond (eq_by_cmp row_cmp q.1 a) None u) (sym (in-same n q.0 q.1 ts h e ∙ is q.1))
        | Greater ↦ λ e. refl
      ] refl

  -- the last row taken out, and the table with it
  pub find-emptied : (n : ℕ) (a : List Value) (rs : PlainRows X) (ts : PlainTables X) (q : Key)
      → InOrder ts → ((b : List Value) → in_rows (dict.find nat_cmp n ts) b ≡ dict.find row_cmp b rs) →
      where_key row_cmp (λ x. not (eq_by_cmp row_cmp a x)) rs ≡ []
      → dict.find key_cmp q (entries_of (where_key nat_cmp (λ x. not (eq_by_cmp nat_cmp n x)) ts)) ≡
      cond (eq_by_cmp key_cmp q (n, a)) None (dict.find key_cmp q (entries_of ts))
  find-emptied n a rs ts q h is none =
      find-entries q.0 q.1 (where_key nat_cmp (λ x. not (eq_by_cmp nat_cmp n x)) ts)
      (is_sorted-where_key nat_cmp (λ x. not (eq_by_cmp nat_cmp n x)) ts h.0)
      ∙ (ap (λ u. in_rows u q.1) (find-where_key nat_cmp (λ x. not (eq_by_cmp nat_cmp n x)) q.0
      (λ x t. ap (λ r. not (is_eq r)) (sym (alike_right nat_cmp_total q.0 x n t))) ts
      ∙ (turned (eq_by_cmp nat_cmp n q.0) _ _ ∙ ap (λ c. cond c None (dict.find nat_cmp q.0 ts))
      ((eq_by_cmp_equiv nat_cmp_total).symm n q.0)))
      ∙ elim (nat_cmp q.0 n) as (λ o. nat_cmp q.0 n ≡ o → in_rows (cond (is_eq o) None (dict.find nat_cmp q.0 ts)) q.1 ≡
      cond (is_eq (ordering_then o (row_cmp q.1 a))) None (dict.find key_cmp q (entries_of ts))) [
        | Less ↦ λ e. sym (find-entries q.0 q.1 ts h.0)
        | Equal ↦ λ e. ap (λ es. dict.find row_cmp q.1 es) (sym none) ∙
            (gone a q.1 rs ∙ ap (λ u. cond (eq_by_cmp row_cmp q.1 a) None u) (sym (in-same n q.0 q.1 ts h e ∙ is q.1)))
        | Greater ↦ λ e. sym (find-entries q.0 q.1 ts h.0)
      ] refl)

some_or : (b : Bool) (x : Option (Unit {0})) → is_some (cond b (Some tt) x) ≡ (b || is_some x)
some_or true x = refl
some_or false x = refl

none_or : (b : Bool) (x : Option (Unit {0})) → is_some (cond b None x) ≡ (not b && is_some x)
none_or true x = refl
none_or false x = refl

pub set-put : (ts us : PlainTables (Unit {0})) (k : Key) → ((q : Key) → dict.find key_cmp q (entries_of us) ≡
    cond (eq_by_cmp key_cmp q k) (Some tt) (dict.find key_cmp q (entries_of ts))) → set_of us ≡ set.insert (set_of ts) k
set-put ts us k h = set.same_set key_total key_ties (set_of us) (set.insert (set_of ts) k) (λ q.
    contains-set_of us q ∙ (ap is_some (h q) ∙ (some_or _ _ ∙ (ap (λ b. eq_by_cmp key_cmp q k || b) (sym (contains-set_of ts q)) ∙
    sym (set.contains-insert key_total (set_of ts) k q)))))

pub set-taken : (ts us : PlainTables (Unit {0})) (k : Key) → ((q : Key) → dict.find key_cmp q (entries_of us) ≡
    cond (eq_by_cmp key_cmp q k) None (dict.find key_cmp q (entries_of ts))) → set_of us ≡ set.remove (set_of ts) k
set-taken ts us k h = set.same_set key_total key_ties (set_of us) (set.remove (set_of ts) k) (λ q.
    contains-set_of us q ∙ (ap is_some (h q) ∙ (none_or _ _ ∙ (ap (λ b. not (eq_by_cmp key_cmp q k) && b) (sym (contains-set_of ts q)) ∙
    sym (set.contains-remove key_total (set_of ts) k q)))))

pub map-put : (ts us : PlainTables Value) (k : Key) (v : Value) → InOrder ts → InOrder us →
    ((q : Key) → dict.find key_cmp q (entries_of us) ≡ cond (eq_by_cmp key_cmp q k) (Some v) (dict.find key_cmp q (entries_of ts))) →
    map_of us ≡ dict.insert (map_of ts) k v
map-put ts us k v hs hu h = dict.same_map key_total key_ties (map_of us) (dict.insert (map_of ts) k v) (λ q.
    get-map_of us q hu ∙ (h q ∙ (ap (λ u. cond (eq_by_cmp key_cmp q k) (Some v) u) (sym (get-map_of ts q hs)) ∙
    sym (dict.get-insert key_total (map_of ts) k v q))))

tied : (r : Ordering) → is_eq r ≡ true → r ≡ Equal
tied Less e = absurd (Rattle.std.proofs.Common.true≢false (sym e))
tied Equal e = refl
tied Greater e = absurd (Rattle.std.proofs.Common.true≢false (sym e))

-- nothing to take out, nothing new to put in
pub set-absent : (ts : PlainTables (Unit {0})) (k : Key) → dict.find key_cmp k (entries_of ts) ≡ None → set_of ts ≡ set.remove (set_of ts) k
set-absent ts k h = set-taken ts ts k (λ q. elim (eq_by_cmp key_cmp q k) as
    (λ b. eq_by_cmp key_cmp q k ≡ b → dict.find key_cmp q (entries_of ts) ≡ cond b None (dict.find key_cmp q (entries_of ts))) [
      | true ↦ λ e. Rattle.std.specs.FinMap.Entries.find_tied key_cmp key_total k q (tied_back key_total q k (tied _ e)) (entries_of ts) ∙ h
      | false ↦ λ e. refl
    ] refl)

pub set-present : (ts : PlainTables (Unit {0})) (k : Key) → dict.find key_cmp k (entries_of ts) ≡ Some tt → set_of ts ≡
    set.insert (set_of ts) k
set-present ts k h = set-put ts ts k (λ q. elim (eq_by_cmp key_cmp q k) as
    (λ b. eq_by_cmp key_cmp q k ≡ b → dict.find key_cmp q (entries_of ts) ≡ cond b (Some tt) (dict.find key_cmp q (entries_of ts))) [
      | true ↦ λ e. Rattle.std.specs.FinMap.Entries.find_tied key_cmp key_total k q (tied_back key_total q k (tied _ e)) (entries_of ts) ∙ h
      | false ↦ λ e. refl
    ] refl)

-- The tables of a world after its code put a row in or took one out.
use Rattle.std.proofs.Common.{◌≡◌, ℕ, ◌<◌, ◌≤◌, cond, T, List, [], ◌∷◌, map, length, get_or, Some, None, refl, sym, ap, ◌∙◌, subst, arith}
use Rattle.std.proofs.Common.{Equal, Err}
use Rattle.std.specs.Ordering.{nat_cmp, eq_by_cmp}
use Rattle.std.specs.Cmp.{nat_cmp_total}
use Rattle.std.specs.List.{insert, remove, HoldsAt}
use Rattle.std.specs.List.Sorted.{IsBinarySearchResult}
use Rattle.std.proofs.lemmas.List.{get_or_default}
use Rattle.std.specs.FinSet as set
use Rattle.std.specs.FinMap as dict
use Rattle.std.specs.FinMap.Entries.{where_key}
use Rattle.tl_syntax.specs.declared.value.Value.{Value}
use Rattle.tl_syntax.specs.Keys.{Key, key_cmp}
use Rattle.tl_rows.specs.declared.named.Named.{Named}
use Rattle.tl_rows.specs.Plain.{row_cmp, PlainRows, entries_of, InOrder, HasItem}
use Rattle.tl_rows.proofs.Search.{find-at, search-ok, search-err, searchable}
use Rattle.tl_rows.proofs.Lookup.{each-at, in_rows, row_total}
use Rattle.tl_world.proofs.Edits.{other_than, insert-put, replace-put, remove-where}
use Rattle.tl_world.proofs.Step.{filled-put, put-order, where-order, row-put-order, row-where-order, find-put-in, find-taken, find-emptied}

module _ {R X : Type 0} (g : R → List Value × X) where
  abbrev pub named : Named (List R) → ℕ × PlainRows X
  named t = (t.name, map g t.rows.value)

  -- the table with the number n stands at i
  pub record Found (ts : List (Named (List R))) (n i : ℕ) (old : Named (List R)) : Type 0 where
    pub below : i < length ts
    pub is : old ≡ get_or ts i old
    pub tie : nat_cmp (get_or ts i old).name n ≡ Equal
    pub order : InOrder (map named ts)

  pub found-at : (s ts : List (Named (List R))) (n i : ℕ) (old : Named (List R)) → s ≡ ts → InOrder (map named ts) → i < length s →
      HoldsAt (λ (u : Named (List R)). nat_cmp u.name n ≡ Equal) s i → old ≡ get_or ts i old → Found ts n i old
  found-at s ts n i old same h p e is = record {
    below = subst (λ x. i < length x) same p;
    is = is;
    tie = subst (λ x. HoldsAt (λ (u : Named (List R)). nat_cmp u.name n ≡ Equal) x i) same e old;
    order = h;
  }

  pub same-rows : (ts : List (Named (List R))) (n i : ℕ) (t old : Named (List R)) (rows : List R) → Found ts n i old → t ≡ get_or ts i t →
      rows ≡ t.rows.value → rows ≡ old.rows.value
  same-rows ts n i t old rows f is held = held ∙ ap (λ (u : Named (List R)). u.rows.value)
      (is ∙ (get_or_default ts i t old f.below ∙ sym f.is))

  module _ (ts : List (Named (List R))) (n i : ℕ) (old : Named (List R)) (f : Found ts n i old) where
    number : (get_or ts i old).name ≡ n
    number = set.nat_cmp-IsAntisymmetric (get_or ts i old).name n f.tie

    pub name-is : old.name ≡ n
    name-is = ap (λ (u : Named (List R)). u.name) f.is ∙ number

    pub rows-rise : T (dict.is_sorted row_cmp (map g old.rows.value))
    rows-rise = subst (λ (u : Named (List R)). T (dict.is_sorted row_cmp (map g u.rows.value))) (sym f.is)
        (each-at named ts i old f.below f.order.1)

    pub rows-found : (b : List Value) → in_rows (dict.find nat_cmp n (map named ts)) b ≡ dict.find row_cmp b (map g old.rows.value)
    rows-found b = ap (λ u. in_rows u b) (find-at nat_cmp_total named n ts i old f.below f.order.0 f.tie) ∙
        ap (λ (u : Named (List R)). dict.find row_cmp b (map g u.rows.value)) (sym f.is)

    replaced : (fresh : Named (List R)) → fresh.name ≡ n → map named (insert (remove ts i) i fresh) ≡
        dict.put nat_cmp n (map g fresh.rows.value) (map named ts)
    replaced fresh e = replace-put nat_cmp_total named n (map g fresh.rows.value) ts i fresh old
        (e ∙ sym number) refl f.below f.order.0 f.tie

    dropped : map named (remove ts i) ≡ where_key nat_cmp (other_than nat_cmp n) (map named ts)
    dropped = remove-where nat_cmp_total named n ts i old f.below f.order.0 f.tie

    module _ (fresh : Named (List R)) (e : fresh.name ≡ n) (a : List Value) where
      pub order-put : (v : X) → map g fresh.rows.value ≡ dict.put row_cmp a v (map g old.rows.value) →
          InOrder (map named (insert (remove ts i) i fresh))
      order-put v w = subst InOrder (sym (replaced fresh e ∙ ap (λ rs. dict.put nat_cmp n rs (map named ts)) w))
          (put-order n (dict.put row_cmp a v (map g old.rows.value)) (map named ts) (filled-put a v (map g old.rows.value))
          (row-put-order a v (map g old.rows.value) rows-rise) f.order)

      pub find-put : (v : X) → map g fresh.rows.value ≡ dict.put row_cmp a v (map g old.rows.value) → (q : Key)
          → dict.find key_cmp q (entries_of (map named (insert (remove ts i) i fresh))) ≡
          cond (eq_by_cmp key_cmp q (n, a)) (Some v) (dict.find key_cmp q (entries_of (map named ts)))
      find-put v w q = ap (λ us. dict.find key_cmp q (entries_of us)) (replaced fresh e ∙ ap (λ rs. dict.put nat_cmp n rs (map named ts)) w)
          ∙ find-put-in n a v (map g old.rows.value) (map named ts) q f.order rows-rise rows-found

      pub order-taken : map g fresh.rows.value ≡ where_key row_cmp (other_than row_cmp a) (map g old.rows.value) →
          HasItem (map g fresh.rows.value) → InOrder (map named (insert (remove ts i) i fresh))
      order-taken w filled = subst InOrder (sym (replaced fresh e))
          (put-order n (map g fresh.rows.value) (map named ts) filled (subst (λ rs. T (dict.is_sorted row_cmp rs)) (sym w)
          (row-where-order a (map g old.rows.value) rows-rise)) f.order)

      pub find-taken-out : map g fresh.rows.value ≡ where_key row_cmp (other_than row_cmp a) (map g old.rows.value) → (q : Key)
          → dict.find key_cmp q (entries_of (map named (insert (remove ts i) i fresh))) ≡
          cond (eq_by_cmp key_cmp q (n, a)) None (dict.find key_cmp q (entries_of (map named ts)))
      find-taken-out w q = ap (λ us. dict.find key_cmp q (entries_of us))
          (replaced fresh e ∙ ap (λ rs. dict.put nat_cmp n rs (map named ts)) w)
          ∙ find-taken n a (map g old.rows.value) (map named ts) q f.order rows-found

    pub order-emptied : InOrder (map named (remove ts i))
    order-emptied = subst InOrder (sym dropped) (where-order (other_than nat_cmp n) (map named ts) f.order)

    pub find-emptied-out : (a : List Value) → where_key row_cmp (other_than row_cmp a) (map g old.rows.value) ≡ [] → (q : Key)
        → dict.find key_cmp q (entries_of (map named (remove ts i))) ≡
        cond (eq_by_cmp key_cmp q (n, a)) None (dict.find key_cmp q (entries_of (map named ts)))
    find-emptied-out a none q = ap (λ us. dict.find key_cmp q (entries_of us)) dropped ∙
        find-emptied n a (map g old.rows.value) (map named ts) q f.order rows-found none

    -- at the places that a search in the rows found
    pub row-taken : (a : List Value) (k : ℕ) (rows : List R) → rows ≡ old.rows.value → k < length rows →
        HoldsAt (λ r. row_cmp (g r).0 a ≡ Equal) rows k → map g (remove old.rows.value k) ≡
        where_key row_cmp (other_than row_cmp a) (map g old.rows.value)
    row-taken a k rows same p t =
        let below : k < length old.rows.value = subst (λ x. k < length x) same p in
        let tied = subst (λ x. HoldsAt (λ r. row_cmp (g r).0 a ≡ Equal) x k) same t in
        taken old.rows.value rows-rise below tied
      where
        taken : (xs : List R) → T (dict.is_sorted row_cmp (map g xs)) → k < length xs → HoldsAt (λ r. row_cmp (g r).0 a ≡ Equal) xs k →
            map g (remove xs k) ≡ where_key row_cmp (other_than row_cmp a) (map g xs)
        taken [] s below tied = absurd (omega arith)
        taken (x ∷ xs) s below tied = remove-where row_total g a (x ∷ xs) k x below s (tied x)

    pub row-put : (a : List Value) (v : X) (k : ℕ) (rows : List R) (x : R) → rows ≡ old.rows.value → g x ≡ (a, v) → k ≤ length rows →
        IsBinarySearchResult (λ r. row_cmp (g r).0 a) rows (Err k) → map g (insert old.rows.value k x) ≡
        dict.put row_cmp a v (map g old.rows.value)
    row-put a v k rows x same is p place =
        let parts = (subst (λ xs. IsBinarySearchResult (λ r. row_cmp (g r).0 a) xs (Err k)) same place)
        (searchable row_total g old.rows.value a rows-rise) in
        let within : k ≤ length old.rows.value = subst (λ xs. k ≤ length xs) same p in
        insert-put row_total g a v old.rows.value k x is within (λ j d low. parts.0 j d (omega arith) low)
        (λ j d low high. parts.1 j d low high)

    pub row-absent : (a : List Value) (k : ℕ) (rows : List R) → rows ≡ old.rows.value →
        IsBinarySearchResult (λ r. row_cmp (g r).0 a) rows (Err k) → dict.find row_cmp a (map g (get_or ts i old).rows.value) ≡ None
    row-absent a k rows same place =
        ap (λ (u : Named (List R)). dict.find row_cmp a (map g u.rows.value)) (sym f.is)
        ∙ search-err row_total g a old.rows.value k rows-rise (subst (λ xs. IsBinarySearchResult (λ r. row_cmp (g r).0 a) xs (Err k)) same
        place)

    pub row-present : (a : List Value) (k : ℕ) (d : R) (rows : List R) → rows ≡ old.rows.value → k < length rows →
        HoldsAt (λ r. row_cmp (g r).0 a ≡ Equal) rows k → dict.find row_cmp a (map g (get_or ts i old).rows.value) ≡
        Some (g (get_or old.rows.value k d)).1
    row-present a k d rows same p t =
        ap (λ (u : Named (List R)). dict.find row_cmp a (map g u.rows.value)) (sym f.is)
        ∙ search-ok row_total g a old.rows.value k rows-rise (subst (λ xs. k < length xs) same p)
        (subst (λ xs. HoldsAt (λ r. row_cmp (g r).0 a ≡ Equal) xs k) same t) d

  -- no table has the number n
  module _ (s ts : List (Named (List R))) (n i : ℕ) (same : s ≡ ts) (h : InOrder (map named ts)) (p : i ≤ length s)
      (place : IsBinarySearchResult (λ (u : Named (List R)). nat_cmp u.name n) s (Err i)) where
    none_at : IsBinarySearchResult (λ (u : Named (List R)). nat_cmp u.name n) ts (Err i)
    none_at = subst (λ x. IsBinarySearchResult (λ (u : Named (List R)). nat_cmp u.name n) x (Err i)) same place

    pub not-found : dict.find nat_cmp n (map named ts) ≡ None
    not-found = search-err nat_cmp_total named n ts i h.0 none_at

    module _ (fresh : Named (List R)) (a : List Value) (v : X) (e : fresh.name ≡ n) (w : map g fresh.rows.value ≡ (a, v) ∷ []) where
      added : map named (insert ts i fresh) ≡ dict.put nat_cmp n ((a, v) ∷ []) (map named ts)
      added =
          let parts = none_at (searchable nat_cmp_total named ts n h.0) in
          let within : i ≤ length ts = subst (λ x. i ≤ length x) same p in
          insert-put nat_cmp_total named n ((a, v) ∷ []) ts i fresh (λ j. (e j, w j)) within (λ j d low. parts.0 j d (omega arith) low)
          (λ j d low high. parts.1 j d low high)

      pub order-new : InOrder (map named (insert ts i fresh))
      order-new = subst InOrder (sym added) (put-order n ((a, v) ∷ []) (map named ts) tt tt h)

      pub find-new : (q : Key) → dict.find key_cmp q (entries_of (map named (insert ts i fresh))) ≡
          cond (eq_by_cmp key_cmp q (n, a)) (Some v) (dict.find key_cmp q (entries_of (map named ts)))
      find-new q = ap (λ us. dict.find key_cmp q (entries_of us)) added
          ∙ find-put-in n a v [] (map named ts) q h tt (λ b. ap (λ u. in_rows u b) not-found)

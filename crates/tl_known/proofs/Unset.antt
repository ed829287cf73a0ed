-- Tables with the same values but for places that are set, and places that are what settings make.
use Rattle.std.proofs.Common.{◌≡◌, ◌||◌, ℕ, suc, ◌<◌, ◌+◌, true, false, cond, true≢false, List, [], ◌∷◌, ◌++◌, map, length, get_or, drop}
use Rattle.std.proofs.Common.{drop-cons, Option, Some, None, refl, sym, ap, ◌∙◌, subst, arith}
use Rattle.std.specs.FinMap as dict
use Rattle.std.specs.List.{list_all}
use Rattle.std.specs.Ordering.{eq_by_cmp}
use Rattle.std.specs.Cmp.{Equal-is}
use Rattle.tl_syntax.specs.declared.place_value.PlaceValue.{PlaceValue}
use Rattle.tl_syntax.specs.declared.value.Value.{Value}
use Rattle.tl_syntax.specs.Keys.{Key, key_cmp, value_cmp, place_entry}
use Rattle.tl_syntax.proofs.Plain.{both}
use Rattle.tl_syntax.proofs.TotalOrders.{key_total, key_ties, value_ties}
use Rattle.tl_terms.specs.Acceptance.{is_value}
use Rattle.tl_terms.specs.Step.{overwritten}
use Rattle.tl_rows.specs.declared.named.Named.{Named}
use Rattle.tl_rows.specs.declared.table.PlaceRow.{PlaceRow}
use Rattle.tl_world.specs.Edits.{changed_places}
use Rattle.tl_rows.specs.Tables.{keyed, entries_of, InOrder, place_row, place_tables, places_of}
use Rattle.tl_known.specs.Unset.{is_set, AreValuesBeside}
use Rattle.tl_rows.proofs.Lookup.{find-append, or_else, get-map_of}
use Rattle.tl_world.proofs.Orders.{key-is}

-- the value is there
pub there : (o : Option Value) (v : Value) → is_value o v ≡ true → o ≡ Some v
there None v h = absurd (true≢false (sym h))
there (Some u) v h = ap (λ x. Some x) (value_ties u v ((Equal-is (value_cmp u v)).0 h))

-- where the places that are set have their values, and others are as they were, the places are those that the settings make
pub is-overwritten : (m t : dict.FinMap key_cmp Value) (sets : List PlaceValue) →
    list_all (λ p. is_value (dict.get m (place_entry p).0) (place_entry p).1) sets ≡ true →
    ((q : Key) → is_set sets q ≡ false → dict.get m q ≡ dict.get t q)
    → m ≡ changed_places t sets
is-overwritten m t sets in_now beside = dict.same_map key_total key_ties m (changed_places t sets) (λ q. each q)
  where
    given : (ps : List PlaceValue) (q : Key) → list_all (λ p. is_value (dict.get m (place_entry p).0) (place_entry p).1) ps ≡ true →
        (is_set ps q ≡ false → dict.get m q ≡ dict.get t q) → dict.get m q ≡ dict.get (overwritten t (map place_entry ps)) q
    given [] q h b = b refl
    given (p ∷ ps) q h b =
        let k = both (is_value (dict.get m (place_entry p).0) (place_entry p).1)
        (list_all (λ r. is_value (dict.get m (place_entry r).0) (place_entry r).1) ps) h in
        (elim (eq_by_cmp key_cmp q (place_entry p).0) as (λ c. eq_by_cmp key_cmp q (place_entry p).0 ≡ c →
        ((c || is_set ps q) ≡ false → dict.get m q ≡ dict.get t q) → dict.get m q ≡
        cond c (Some (place_entry p).1) (dict.get (overwritten t (map place_entry ps)) q)) [
          | true ↦ λ e _. ap (dict.get m) (key-is q (place_entry p).0 e) ∙ there (dict.get m (place_entry p).0) (place_entry p).1 k.0
          | false ↦ λ e d. given ps q k.1 d
        ]) refl b
        ∙ sym (dict.get-insert key_total (overwritten t (map place_entry ps)) (place_entry p).0 (place_entry p).1 q)

    each : (q : Key) → dict.get m q ≡ dict.get (overwritten t (map place_entry sets)) q
    each q = given sets q in_now (beside q)

module _ (sets : List PlaceValue) where
  pub values-of : (ts us : List (Named (List PlaceRow))) (m t : dict.FinMap key_cmp Value) → InOrder (place_tables ts) →
      InOrder (place_tables us) → places_of ts ≡ m → places_of us ≡ t
      → AreValuesBeside sets (entries_of (place_tables ts)) (entries_of (place_tables us)) → (q : Key) → is_set sets q ≡ false →
      dict.get m q ≡ dict.get t q
  values-of ts us m t h k d e b q s =
      ap (λ n. dict.get n q) (sym d)
      ∙ (get-map_of (place_tables ts) q h ∙ (b q s ∙ (sym (get-map_of (place_tables us) q k) ∙ ap (λ n. dict.get n q) e)))

  values-parts : (xs ys zs ws : List (Key × Value)) → AreValuesBeside sets xs ys → AreValuesBeside sets zs ws →
      AreValuesBeside sets (xs ++ zs) (ys ++ ws)
  values-parts xs ys zs ws a b q h = find-append q xs zs ∙ ((λ i. or_else (a q h i) (b q h i)) ∙ sym (find-append q ys ws))

  pub values-back : (xs ys : List (Key × Value)) → AreValuesBeside sets xs ys → AreValuesBeside sets ys xs
  values-back xs ys a q h = sym (a q h)

  -- one that is set is passed over
  set-alone : (k : Key) (v : Value) → is_set sets k ≡ true → AreValuesBeside sets ((k, v) ∷ []) []
  set-alone k v m q h = (elim (eq_by_cmp key_cmp q k) as (λ b. eq_by_cmp key_cmp q k ≡ b →
      ◌≡◌ {A = Option Value} (cond b (Some v) None) None) [
        | true ↦ λ e. absurd (true≢false (sym m ∙ (ap (is_set sets) (sym (key-is q k e)) ∙ h)))
        | false ↦ λ e. refl
      ]) refl

  module _ (n : ℕ) where
    first-place : (xs : List PlaceRow) (k i : ℕ) (r : PlaceRow) → i ≡ k + 1 → k < length xs → r ≡ get_or xs k r → r ∷ drop i xs ≡ drop k xs
    first-place xs k i r p w e = (λ j. e j ∷ drop (let z : i ≡ suc k = omega (arith, p) in z j) xs) ∙ sym (drop-cons xs k r w)

    -- a place with the same value is passed in both
    pub same-passed : (xs ys : List PlaceRow) (k l i j : ℕ) (r s : PlaceRow) → i ≡ k + 1 → j ≡ l + 1 → k < length xs → l < length ys → r ≡
        get_or xs k r → s ≡ get_or ys l s → r ≡ s
        → AreValuesBeside sets (keyed n (map place_row (drop i xs))) (keyed n (map place_row (drop j ys))) →
        AreValuesBeside sets (keyed n (map place_row (drop k xs))) (keyed n (map place_row (drop l ys)))
    same-passed xs ys k l i j r s p q v w d e same h =
        let one : AreValuesBeside sets (((n, r.args), r.value) ∷ []) (((n, s.args), s.value) ∷ []) = λ u _.
        ap (λ (x : PlaceRow). dict.find key_cmp u (((n, x.args), x.value) ∷ [])) same in
        subst (λ zs. AreValuesBeside sets (keyed n (map place_row (drop k xs))) (keyed n (map place_row zs))) (first-place ys l j s q w e)
        (subst (λ zs. AreValuesBeside sets (keyed n (map place_row zs)) (keyed n (map place_row (s ∷ drop j ys))))
        (first-place xs k i r p v d)
        (values-parts (((n, r.args), r.value) ∷ []) (((n, s.args), s.value) ∷ []) (keyed n (map place_row (drop i xs)))
        (keyed n (map place_row (drop j ys))) one h))

    -- a place that is set is passed in one
    pub set-passed : (xs ys : List PlaceRow) (k i : ℕ) (r : PlaceRow) → i ≡ k + 1 → k < length xs → r ≡ get_or xs k r →
        is_set sets (n, r.args) ≡ true
        → AreValuesBeside sets (keyed n (map place_row (drop i xs))) (keyed n (map place_row ys)) →
        AreValuesBeside sets (keyed n (map place_row (drop k xs))) (keyed n (map place_row ys))
    set-passed xs ys k i r p w e m h =
        subst (λ zs. AreValuesBeside sets (keyed n (map place_row zs)) (keyed n (map place_row ys))) (first-place xs k i r p w e)
        (values-parts (((n, r.args), r.value) ∷ []) [] (keyed n (map place_row (drop i xs))) (keyed n (map place_row ys))
        (set-alone (n, r.args) r.value m) h)

    pub set-passed-back : (xs ys : List PlaceRow) (l j : ℕ) (r : PlaceRow) → j ≡ l + 1 → l < length ys → r ≡ get_or ys l r →
        is_set sets (n, r.args) ≡ true
        → AreValuesBeside sets (keyed n (map place_row xs)) (keyed n (map place_row (drop j ys))) →
        AreValuesBeside sets (keyed n (map place_row xs)) (keyed n (map place_row (drop l ys)))
    set-passed-back xs ys l j r p w e m h = values-back (keyed n (map place_row (drop l ys))) (keyed n (map place_row xs))
        (set-passed ys xs l j r p w e m (values-back (keyed n (map place_row xs)) (keyed n (map place_row (drop j ys))) h))

  -- a table and the tables after it
  from-table : (ts : List (Named (List PlaceRow))) (i j : ℕ) (t : Named (List PlaceRow)) → j ≡ i + 1 → i < length ts → t ≡ get_or ts i t →
      keyed t.name (map place_row t.rows.value) ++ entries_of (place_tables (drop j ts)) ≡ entries_of (place_tables (drop i ts))
  from-table ts i j t p w e = ap (λ us. entries_of (place_tables us)) ((λ k. e k ∷ drop (let z : j ≡ suc i = omega (arith, p) in z k) ts) ∙
      sym (drop-cons ts i t w))

  -- tables of one function are passed in both
  pub tables-passed : (ts us : List (Named (List PlaceRow))) (i j k l : ℕ) (t u : Named (List PlaceRow)) → k ≡ i + 1 → l ≡ j + 1 →
      i < length ts → j < length us → t ≡ get_or ts i t → u ≡ get_or us j u → t.name ≡ u.name
      → AreValuesBeside sets (keyed t.name (map place_row t.rows.value)) (keyed t.name (map place_row u.rows.value)) →
      AreValuesBeside sets (entries_of (place_tables (drop k ts))) (entries_of (place_tables (drop l us)))
      → AreValuesBeside sets (entries_of (place_tables (drop i ts))) (entries_of (place_tables (drop j us)))
  tables-passed ts us i j k l t u p q v w d e same rows h =
      let right : keyed t.name (map place_row u.rows.value) ++ entries_of (place_tables (drop l us)) ≡
      entries_of (place_tables (drop j us)) = ap (λ n. keyed n (map place_row u.rows.value) ++ entries_of (place_tables (drop l us)))
      same ∙ from-table us j l u q w e in
      subst (λ es. AreValuesBeside sets (entries_of (place_tables (drop i ts))) es) right
      (subst (λ es. AreValuesBeside sets es (keyed t.name (map place_row u.rows.value) ++ entries_of (place_tables (drop l us))))
      (from-table ts i k t p v d)
      (values-parts (keyed t.name (map place_row t.rows.value)) (keyed t.name (map place_row u.rows.value))
      (entries_of (place_tables (drop k ts))) (entries_of (place_tables (drop l us))) rows h))

  -- a table all places of which are set is passed in one
  pub table-passed : (ts us : List (Named (List PlaceRow))) (i k : ℕ) (t : Named (List PlaceRow)) → k ≡ i + 1 → i < length ts → t ≡
      get_or ts i t
      → AreValuesBeside sets (keyed t.name (map place_row t.rows.value)) [] →
      AreValuesBeside sets (entries_of (place_tables (drop k ts))) (entries_of (place_tables us)) →
      AreValuesBeside sets (entries_of (place_tables (drop i ts))) (entries_of (place_tables us))
  table-passed ts us i k t p w e rows h =
      subst (λ es. AreValuesBeside sets es (entries_of (place_tables us))) (from-table ts i k t p w e)
      (values-parts (keyed t.name (map place_row t.rows.value)) [] (entries_of (place_tables (drop k ts)))
      (entries_of (place_tables us)) rows h)

  pub table-passed-back : (ts us : List (Named (List PlaceRow))) (j l : ℕ) (u : Named (List PlaceRow)) → l ≡ j + 1 → j < length us → u ≡
      get_or us j u
      → AreValuesBeside sets (keyed u.name (map place_row u.rows.value)) [] →
      AreValuesBeside sets (entries_of (place_tables ts)) (entries_of (place_tables (drop l us))) →
      AreValuesBeside sets (entries_of (place_tables ts)) (entries_of (place_tables (drop j us)))
  table-passed-back ts us j l u p w e rows h = values-back (entries_of (place_tables (drop j us))) (entries_of (place_tables ts))
      (table-passed us ts j l u p w e rows (values-back (entries_of (place_tables ts)) (entries_of (place_tables (drop l us))) h))

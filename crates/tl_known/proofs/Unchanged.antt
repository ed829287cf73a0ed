-- Tables with the same facts but for those that changes name, and worlds that are what changes make.
use Rattle.std.proofs.Common.{◌≡◌, ◌||◌, ◌&&◌, ℕ, suc, ◌<◌, ◌+◌, Bool, true, false, not, true≢false, List, [], ◌∷◌, ◌++◌, map, length}
use Rattle.std.proofs.Common.{get_or, take, drop, drop-cons, drop-drop, slice_get, Some, refl, sym, ap, ◌∙◌, subst, arith}
use Rattle.std.proofs.lemmas.List.{take-append-drop, map-append}
use Rattle.std.proofs.lemmas.List.Folds.{list_any-append}
use Rattle.std.specs.Cmp.{tied_itself, Equal-is}
use Rattle.std.specs.FinSet as set
use Rattle.std.specs.List.{list_all, list_any}
use Rattle.std.specs.Ordering.{eq_by_cmp}
use Rattle.tl_syntax.specs.declared.fact.Fact.{Fact}
use Rattle.tl_syntax.specs.declared.place_value.PlaceValue.{PlaceValue}
use Rattle.tl_syntax.specs.declared.value.Value.{Value}
use Rattle.tl_syntax.specs.Keys.{Key, key_cmp, fact_key}
use Rattle.tl_syntax.proofs.Plain.{both}
use Rattle.tl_syntax.proofs.Telling.{told_alike}
use Rattle.tl_syntax.proofs.TotalOrders.{key_total, key_ties}
use Rattle.tl_terms.specs.Step.{without_all}
use Rattle.tl_terms.specs.World.{World}
use Rattle.tl_rows.specs.declared.named.Named.{Named}
use Rattle.tl_rows.specs.Codes.{values_eq}
use Rattle.tl_world.specs.Edits.{changed_facts, changed_places, lists_fact}
use Rattle.tl_rows.specs.Tables.{keyed, entries_of, fact_row, fact_tables, facts_of}
use Rattle.tl_known.specs.Unchanged.{row_keys, table_keys, AreAlikeBeside, AreSameBeside, IsNumberAfter}
use Rattle.tl_world.proofs.Orders.{contains-all, contains-without, key-is}
use Rattle.tl_rows.proofs.SameParts.{row-tells}

key-itself : (q k : Key) → q ≡ k → eq_by_cmp key_cmp q k ≡ true
key-itself q k e = (Equal-is (key_cmp q k)).1 (ap (key_cmp q) (sym e) ∙ tied_itself key_total q)

-- a fact of the predicate is told by its arguments
pub fact-is : (n m : ℕ) (a b x : List Value) (r : Bool) → n ≡ m → x ≡ a → r ≡ values_eq x b → r ≡ eq_by_cmp key_cmp (m, b) (n, a)
fact-is n m a b x r p e is = told_alike {P = (m, b) ≡ (n, a)} r (eq_by_cmp key_cmp (m, b) (n, a)) (
  λ h. let q : a ≡ b = sym e ∙ (row-tells x b).0 (sym is ∙ h) in λ i. (sym p i, sym q i),
  λ d. is ∙ (row-tells x b).1 (e ∙ sym (ap (λ (k : Key). k.1) d)),
) (key-is (m, b) (n, a), key-itself (m, b) (n, a))

-- a test that passes on each of some facts passes on one of them
pub named-passes : (p : Key → Bool) (fs : List Fact) (q : Key) → list_all (λ f. p (fact_key f)) fs ≡ true → lists_fact fs q ≡ true → p q ≡
    true
named-passes p [] q h m = absurd (true≢false (sym m))
named-passes p (f ∷ fs) q h m =
    let k = both (p (fact_key f)) (list_all (λ g. p (fact_key g)) fs) h in
    (elim (eq_by_cmp key_cmp q (fact_key f)) as (λ b. eq_by_cmp key_cmp q (fact_key f) ≡ b → (b || lists_fact fs q) ≡ true → p q ≡ true) [
      | true ↦ λ e _. ap p (key-is q (fact_key f) e) ∙ k.0
      | false ↦ λ e t. named-passes p fs q k.1 t
    ]) refl m

-- where the added facts are there, the deleted ones are not but for those that are added, and others are as they were, the changes were
-- made
pub is-changed : (s t : set.FinSet key_cmp) (dels adds : List Fact) → list_all (λ f. set.contains s (fact_key f)) adds ≡ true →
    list_all (λ f. not (set.contains s (fact_key f)) || lists_fact adds (fact_key f)) dels ≡ true
    → AreSameBeside (dels ++ adds) s t → s ≡ changed_facts t dels adds
is-changed s t dels adds in_now out beside = set.same_set key_total key_ties s (changed_facts t dels adds)
    (λ q. each q ∙ sym (contains-all (without_all t (map fact_key dels)) adds q ∙
    ap (λ b. lists_fact adds q || b) (contains-without t dels q)))
  where
    gone : (a b : Bool) → (not a || b) ≡ true → b ≡ false → a ≡ false
    gone true b h e = sym h ∙ e
    gone false b h e = refl

    each : (q : Key) → set.contains s q ≡ (lists_fact adds q || (not (lists_fact dels q) && set.contains t q))
    each q = (elim (lists_fact adds q) as (λ a. lists_fact adds q ≡ a → set.contains s q ≡
        (a || (not (lists_fact dels q) && set.contains t q))) [
          | true ↦ λ e. named-passes (λ k. set.contains s k) adds q in_now e
          | false ↦ λ e. (elim (lists_fact dels q) as (λ d. lists_fact dels q ≡ d → set.contains s q ≡ (not d && set.contains t q)) [
            | true ↦ λ g. gone (set.contains s q) (lists_fact adds q) (named-passes
                (λ k. not (set.contains s k) || lists_fact adds k) dels q out g) e
            | false ↦ λ g. beside q (list_any-append (λ f. eq_by_cmp key_cmp q (fact_key f)) dels adds ∙
                (ap (λ b. b || lists_fact adds q) g ∙ e))
          ]) refl
        ]) refl

-- a world that is what the changes make has its number
pub number-after : (ws : List World) (from n : ℕ) (before found : World) (dels adds : List Fact) (sets : List PlaceValue) →
    slice_get ws from ≡ Some before → slice_get ws n ≡ Some found
    → found.facts ≡ changed_facts before.facts dels adds → found.places ≡ changed_places before.places sets →
    IsNumberAfter ws from dels adds sets n
number-after ws from n before found dels adds sets p q f g w e =
    let same : before ≡ w = let both_are : Some before ≡ Some w = sym p ∙ e in cc in
    let facts = f ∙ ap (λ (v : World). changed_facts v.facts dels adds) same in
    let places = g ∙ ap (λ (v : World). changed_places v.places sets) same in
    q ∙ λ i. Some (record { facts = facts i; places = places i })

-- the facts of a table are its keys
pub rows-keyed : (n : ℕ) (rows : List (List Value)) → map (λ e. e.0) (keyed n (map fact_row rows)) ≡ row_keys n rows
rows-keyed n [] = refl
rows-keyed n (r ∷ rows) = ap (λ ks. (n, r) ∷ ks) (rows-keyed n rows)

-- the facts of the tables are their keys
keys-any : (p : Key → Bool) (ts : List (Named (List (List Value)))) → list_any p (map (λ e. e.0) (entries_of (fact_tables ts))) ≡
    list_any p (table_keys ts)
keys-any p ts = ap (list_any p) (same ts)
  where
    same : (us : List (Named (List (List Value)))) → map (λ e. e.0) (entries_of (fact_tables us)) ≡ table_keys us
    same [] = refl
    same (u ∷ us) =
        map-append (λ e. e.0) (keyed u.name (map fact_row u.rows.value)) (entries_of (fact_tables us))
        ∙ λ i. rows-keyed u.name u.rows.value i ++ same us i

module _ (fs : List Fact) where
  pub alike-facts : (ts us : List (Named (List (List Value)))) → AreAlikeBeside fs (table_keys ts) (table_keys us) →
      AreSameBeside fs (facts_of ts) (facts_of us)
  alike-facts ts us h q e =
      set.contains-from_list key_total (map (λ k. k.0) (entries_of (fact_tables ts))) q
      ∙ (keys-any (eq_by_cmp key_cmp q) ts
      ∙ (h q e
      ∙ sym (set.contains-from_list key_total (map (λ k. k.0) (entries_of (fact_tables us))) q ∙ keys-any (eq_by_cmp key_cmp q) us)))

  pub same-alike : (xs ys : List Key) → xs ≡ ys → AreAlikeBeside fs xs ys
  same-alike xs ys e q h = ap (list_any (eq_by_cmp key_cmp q)) e

  pub alike-back : (xs ys : List Key) → AreAlikeBeside fs xs ys → AreAlikeBeside fs ys xs
  alike-back xs ys a q h = sym (a q h)

  pub alike-parts : (xs ys zs ws : List Key) → AreAlikeBeside fs xs ys → AreAlikeBeside fs zs ws → AreAlikeBeside fs (xs ++ zs) (ys ++ ws)
  alike-parts xs ys zs ws a b q h =
      list_any-append (eq_by_cmp key_cmp q) xs zs
      ∙ ((λ i. a q h i || b q h i) ∙ sym (list_any-append (eq_by_cmp key_cmp q) ys ws))

  -- one that is named is passed over
  pub named-alone : (k : Key) → lists_fact fs k ≡ true → AreAlikeBeside fs (k ∷ []) []
  named-alone k m q h = (elim (eq_by_cmp key_cmp q k) as (λ b. eq_by_cmp key_cmp q k ≡ b → (b || false) ≡ false) [
    | true ↦ λ e. absurd (true≢false (sym m ∙ (ap (lists_fact fs) (sym (key-is q k e)) ∙ h)))
    | false ↦ λ e. refl
  ]) refl

  module _ (n : ℕ) where
    pub rows-parts : (xs ys zs ws : List (List Value)) → AreAlikeBeside fs (row_keys n xs) (row_keys n ys) →
        AreAlikeBeside fs (row_keys n zs) (row_keys n ws) → AreAlikeBeside fs (row_keys n (xs ++ zs)) (row_keys n (ys ++ ws))
    rows-parts xs ys zs ws a b = subst (AreAlikeBeside fs (row_keys n (xs ++ zs))) (sym (map-append (λ r. (n, r)) ys ws))
        (subst (λ ks. AreAlikeBeside fs ks (row_keys n ys ++ row_keys n ws)) (sym (map-append (λ r. (n, r)) xs zs))
        (alike-parts (row_keys n xs) (row_keys n ys) (row_keys n zs) (row_keys n ws) a b))

    -- rows that are the same are passed in both
    pub same-passed : (xs ys : List (List Value)) (k l s i j : ℕ) → i ≡ k + s → j ≡ l + s → take s (drop k xs) ≡ take s (drop l ys)
        → AreAlikeBeside fs (row_keys n (drop i xs)) (row_keys n (drop j ys)) →
        AreAlikeBeside fs (row_keys n (drop k xs)) (row_keys n (drop l ys))
    same-passed xs ys k l s i j p q e h =
        let left : take s (drop k xs) ++ drop i xs ≡ drop k xs = ap (λ zs. take s (drop k xs) ++ zs)
        (ap (λ m. drop m xs) p ∙ sym (drop-drop s k xs)) ∙ take-append-drop s (drop k xs) in
        let right : take s (drop l ys) ++ drop j ys ≡ drop l ys = ap (λ zs. take s (drop l ys) ++ zs)
        (ap (λ m. drop m ys) q ∙ sym (drop-drop s l ys)) ∙ take-append-drop s (drop l ys) in
        subst (λ zs. AreAlikeBeside fs (row_keys n (drop k xs)) (row_keys n zs)) right
        (subst (λ zs. AreAlikeBeside fs (row_keys n zs) (row_keys n (take s (drop l ys) ++ drop j ys))) left
        (rows-parts (take s (drop k xs)) (take s (drop l ys)) (drop i xs) (drop j ys) (same-alike _ _ (ap (row_keys n) e)) h))

    -- a row that is named is passed in one
    pub named-passed : (xs ys : List (List Value)) (k i : ℕ) (r : List Value) → i ≡ k + 1 → k < length xs → r ≡ get_or xs k r →
        lists_fact fs (n, r) ≡ true
        → AreAlikeBeside fs (row_keys n (drop i xs)) (row_keys n ys) → AreAlikeBeside fs (row_keys n (drop k xs)) (row_keys n ys)
    named-passed xs ys k i r p w e m h =
        let left : r ∷ drop i xs ≡ drop k xs = (λ j. e j ∷ drop (let z : i ≡ suc k = omega (arith, p) in z j) xs) ∙
        sym (drop-cons xs k r w) in
        subst (λ zs. AreAlikeBeside fs (row_keys n zs) (row_keys n ys)) left
        (alike-parts ((n, r) ∷ []) [] (row_keys n (drop i xs)) (row_keys n ys) (named-alone (n, r) m) h)

    pub named-passed-back : (xs ys : List (List Value)) (l j : ℕ) (r : List Value) → j ≡ l + 1 → l < length ys → r ≡ get_or ys l r →
        lists_fact fs (n, r) ≡ true
        → AreAlikeBeside fs (row_keys n xs) (row_keys n (drop j ys)) → AreAlikeBeside fs (row_keys n xs) (row_keys n (drop l ys))
    named-passed-back xs ys l j r p w e m h = alike-back (row_keys n (drop l ys)) (row_keys n xs)
        (named-passed ys xs l j r p w e m (alike-back (row_keys n xs) (row_keys n (drop j ys)) h))

  -- a table and the tables after it
  from-table : (ts : List (Named (List (List Value)))) (i j : ℕ) (t : Named (List (List Value))) → j ≡ i + 1 → i < length ts → t ≡
      get_or ts i t → row_keys t.name t.rows.value ++ table_keys (drop j ts) ≡ table_keys (drop i ts)
  from-table ts i j t p w e = ap table_keys ((λ k. e k ∷ drop (let z : j ≡ suc i = omega (arith, p) in z k) ts) ∙ sym (drop-cons ts i t w))

  -- tables of one number are passed in both
  pub tables-passed : (ts us : List (Named (List (List Value)))) (i j k l : ℕ) (t u : Named (List (List Value))) → k ≡ i + 1 → l ≡ j + 1 →
      i < length ts → j < length us → t ≡ get_or ts i t → u ≡ get_or us j u → t.name ≡ u.name
      → AreAlikeBeside fs (row_keys t.name t.rows.value) (row_keys t.name u.rows.value) →
      AreAlikeBeside fs (table_keys (drop k ts)) (table_keys (drop l us)) →
      AreAlikeBeside fs (table_keys (drop i ts)) (table_keys (drop j us))
  tables-passed ts us i j k l t u p q v w d e same rows h =
      let left = from-table ts i k t p v d in
      let right : row_keys t.name u.rows.value ++ table_keys (drop l us) ≡ table_keys (drop j us) =
      ap (λ n. row_keys n u.rows.value ++ table_keys (drop l us)) same ∙ from-table us j l u q w e in
      subst (λ ks. AreAlikeBeside fs (table_keys (drop i ts)) ks) right
      (subst (λ ks. AreAlikeBeside fs ks (row_keys t.name u.rows.value ++ table_keys (drop l us))) left
      (alike-parts (row_keys t.name t.rows.value) (row_keys t.name u.rows.value) (table_keys (drop k ts)) (table_keys (drop l us)) rows h))

  -- a table all rows of which are named is passed in one
  pub table-passed : (ts us : List (Named (List (List Value)))) (i k : ℕ) (t : Named (List (List Value))) → k ≡ i + 1 → i < length ts → t ≡
      get_or ts i t
      → AreAlikeBeside fs (row_keys t.name t.rows.value) [] → AreAlikeBeside fs (table_keys (drop k ts)) (table_keys us) →
      AreAlikeBeside fs (table_keys (drop i ts)) (table_keys us)
  table-passed ts us i k t p w e rows h =
      subst (λ ks. AreAlikeBeside fs ks (table_keys us)) (from-table ts i k t p w e)
      (alike-parts (row_keys t.name t.rows.value) [] (table_keys (drop k ts)) (table_keys us) rows h)

  pub table-passed-back : (ts us : List (Named (List (List Value)))) (j l : ℕ) (u : Named (List (List Value))) → l ≡ j + 1 → j < length us →
      u ≡ get_or us j u
      → AreAlikeBeside fs (row_keys u.name u.rows.value) [] → AreAlikeBeside fs (table_keys ts) (table_keys (drop l us)) →
      AreAlikeBeside fs (table_keys ts) (table_keys (drop j us))
  table-passed-back ts us j l u p w e rows h = alike-back (table_keys (drop j us)) (table_keys ts)
      (table-passed us ts j l u p w e rows (alike-back (table_keys ts) (table_keys (drop l us)) h))

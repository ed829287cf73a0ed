-- The tables of a world by their names, and what they say.
use Rattle.std.proofs.Common.{◌≡◌, true≢false, ℕ, zero, suc, ◌+◌, ◌<◌, List, [], ◌∷◌, ◌++◌, map, length, length-append, get_or, drop}
use Rattle.std.proofs.Common.{slice_get, Option, Some, None, cond, is_some, Ordering, Less, Equal, Greater, refl, sym, ap, ◌∙◌, subst}
use Rattle.std.proofs.Common.{arith}
use Rattle.std.proofs.lemmas.List.{length-map}
use Rattle.std.proofs.lemmas.Option.{slice_get_read, slice_get-map}
use Rattle.std.specs.Cmp.{nat_cmp_total, tied_itself, Equal-is}
use Rattle.std.specs.FinMap as dict
use Rattle.std.specs.FinMap.Entries.{is_some-find}
use Rattle.std.specs.FinSet as set
use Rattle.std.specs.List.{list_any, HoldsAt}
use Rattle.std.specs.Ordering.{eq_by_cmp, is_eq, nat_cmp}
use Rattle.std.specs.Prelude.{option_map}
use Rattle.tl_syntax.specs.declared.value.Value.{Value}
use Rattle.tl_syntax.specs.declared.value.Value.TheVariants.{Sym}
use Rattle.tl_syntax.specs.Keys.{key_cmp, value_cmp}
use Rattle.tl_syntax.specs.Lists.{Among}
use Rattle.tl_syntax.proofs.TotalOrders.{value_total}
use Rattle.tl_terms.specs.Acceptance.{is_value}
use Rattle.tl_terms.specs.World.{World, has_fact, value_at}
use Rattle.tl_rows.specs.declared.named.Named.{Named}
use Rattle.tl_rows.specs.declared.table.PlaceRow.{PlaceRow}
use Rattle.tl_known.specs.declared.table_name.TableName.{TableName}
use Rattle.tl_known.specs.declared.table_name.TableName.TheVariants.{Pred, Fun}
use Rattle.tl_world.specs.Calls.{ArePlacesOf}
use Rattle.tl_known.specs.TableNumbers.{tables_in, AreAlikeOf, TellAlike}
use Rattle.tl_rows.specs.Tables.{keyed, row_cmp, InOrder, fact_row, fact_table, fact_tables, place_row, place_table, place_tables}
use Rattle.tl_known.specs.Unchanged.{row_keys, AreRowsBeside, TellRows}
use Rattle.tl_known.specs.Unset.{ArePlacesBeside, TellPlaces}
use Rattle.tl_world.proofs.Group.{facts-back, places-back, whole}
use Rattle.tl_rows.proofs.Lookup.{at-table, contains-set_of, find-keyed, get-map_of}
use Rattle.tl_known.proofs.Unchanged.{rows-keyed}
use Rattle.tl_known.proofs.Unset.{there}

-- what stands at a place of two lists, one after the other
pub get-left : {A : Type 0} (xs ys : List A) (i : ℕ) → i < length xs → slice_get (xs ++ ys) i ≡ slice_get xs i
get-left [] ys i p = absurd (omega arith)
get-left (x ∷ xs) ys zero p = refl
get-left (x ∷ xs) ys (suc i) p = get-left xs ys i (omega arith)

get-right : {A : Type 0} (xs ys : List A) (i : ℕ) → slice_get (xs ++ ys) (length xs + i) ≡ slice_get ys i
get-right {A} [] ys i = ap (slice_get ys) (let e : length {A = A} [] + i ≡ i = omega arith in e)
get-right (x ∷ xs) ys i = ap (slice_get (x ∷ xs ++ ys)) (let e : length (x ∷ xs) + i ≡ suc (length xs + i) = omega arith in e) ∙
    get-right xs ys i

-- and from a place on
pub get-dropped : {A : Type 0} (s : ℕ) (xs : List A) (i : ℕ) → slice_get (drop s xs) i ≡ slice_get xs (s + i)
get-dropped zero xs i = ap (slice_get xs) (let e : i ≡ 0 + i = omega arith in e)
get-dropped (suc s) [] i = refl
get-dropped (suc s) (x ∷ xs) i = get-dropped s xs i ∙ ap (slice_get (x ∷ xs)) (let e : suc (s + i) ≡ suc s + i = omega arith in e)

module _ {R : Type 0} (f : ℕ → TableName) where
  name-at : (ts : List (Named R)) (i : ℕ) (t : Named R) → i < length ts → t ≡ get_or ts i t →
      slice_get (map (λ (u : Named R). f u.name) ts) i ≡ Some (f t.name)
  name-at ts i t p is = slice_get-map (λ (u : Named R). f u.name) ts i ∙
      ap (option_map (λ (u : Named R). f u.name)) (slice_get_read ts (length ts) i t refl p is)

  -- a table that was searched for
  name-found : (ts : List (Named R)) (i n : ℕ) → i < length ts → HoldsAt (λ (u : Named R). nat_cmp u.name n ≡ Equal) ts i →
      slice_get (map (λ (u : Named R). f u.name) ts) i ≡ Some (f n)
  name-found [] i n p h = absurd (omega arith)
  name-found (t ∷ ts) zero n p h = ap (λ m. Some (f m)) (set.nat_cmp-IsAntisymmetric t.name n (h t))
  name-found (t ∷ ts) (suc i) n p h = name-found ts i n (omega arith) h

module _ (ts : List (Named (List (List Value)))) (us : List (Named (List PlaceRow))) (w : World)
    (h : InOrder (fact_tables ts) × InOrder (place_tables us)) (e : whole (fact_tables ts) (place_tables us) ≡ w) where
  preds : List TableName
  preds = map (λ (t : Named (List (List Value))). Pred t.name) ts

  funs : List TableName
  funs = map (λ (u : Named (List PlaceRow)). Fun u.name) us

  -- the tables of a world have their names
  tables-of : tables_in w ≡ preds ++ funs
  unfolding preds funs
  tables-of =
      ap tables_in (sym e)
      ∙ λ i. (ap (map (λ t. Pred t.0)) (facts-back (fact_tables ts) h.0) ∙ pred-names ts) i ++
      (ap (map (λ t. Fun t.0)) (places-back (place_tables us) h.1) ∙ fun-names us) i
    where
      pred-names : (xs : List (Named (List (List Value)))) → map (λ t. Pred t.0) (fact_tables xs) ≡ map (λ t. Pred t.name) xs
      pred-names [] = refl
      pred-names (x ∷ xs) = ap (λ ns. Pred x.name ∷ ns) (pred-names xs)

      fun-names : (xs : List (Named (List PlaceRow))) → map (λ t. Fun t.0) (place_tables xs) ≡ map (λ t. Fun t.name) xs
      fun-names [] = refl
      fun-names (x ∷ xs) = ap (λ ns. Fun x.name ∷ ns) (fun-names xs)

  pred-count : length preds ≡ length ts
  unfolding preds
  pred-count = length-map ts (λ (t : Named (List (List Value))). Pred t.name)

  pub table-count : length (tables_in w) ≡ length ts + length us
  unfolding funs
  table-count = ap length tables-of ∙ (length-append preds funs ∙ λ i.
      pred-count i + length-map us (λ (u : Named (List PlaceRow)). Fun u.name) i)

  from-left : (i : ℕ) → i < length ts → slice_get (tables_in w) i ≡ slice_get preds i
  from-left i p = ap (λ ns. slice_get ns i) tables-of ∙ get-left preds funs i (subst (λ n. i < n) (sym pred-count) p)

  from-right : (i : ℕ) → slice_get (tables_in w) (length ts + i) ≡ slice_get funs i
  from-right i = ap (λ ns. slice_get ns (length ts + i)) tables-of ∙ (ap (λ n. slice_get (preds ++ funs) (n + i)) (sym pred-count) ∙
      get-right preds funs i)

  pub pred-at : (i : ℕ) (t : Named (List (List Value))) → i < length ts → t ≡ get_or ts i t → slice_get (tables_in w) i ≡ Some (Pred t.name)
  unfolding preds
  pred-at i t p is = from-left i p ∙ name-at (λ n. Pred n) ts i t p is

  pub fun-at : (i : ℕ) (u : Named (List PlaceRow)) → i < length us → u ≡ get_or us i u → slice_get (tables_in w) (length ts + i) ≡
      Some (Fun u.name)
  unfolding funs
  fun-at i u p is = from-right i ∙ name-at (λ n. Fun n) us i u p is

  pub pred-found : (s : List (Named (List (List Value)))) (i n : ℕ) → s ≡ ts → i < length s →
      HoldsAt (λ (u : Named (List (List Value))). nat_cmp u.name n ≡ Equal) s i → slice_get (tables_in w) i ≡ Some (Pred n)
  unfolding preds
  pred-found s i n same p at =
      let below : i < length ts = subst (λ x. i < length x) same p in
      from-left i below ∙ name-found (λ n. Pred n) ts i n below (subst
      (λ x. HoldsAt (λ (u : Named (List (List Value))). nat_cmp u.name n ≡ Equal) x i) same at)

  pub fun-found : (s : List (Named (List PlaceRow))) (i n : ℕ) → s ≡ us → i < length s →
      HoldsAt (λ (u : Named (List PlaceRow)). nat_cmp u.name n ≡ Equal) s i → slice_get (tables_in w) (length ts + i) ≡ Some (Fun n)
  unfolding funs
  fun-found s i n same p at =
      from-right i
      ∙ name-found (λ n. Fun n) us i n (subst (λ x. i < length x) same p)
      (subst (λ x. HoldsAt (λ (u : Named (List PlaceRow)). nat_cmp u.name n ≡ Equal) x i) same at)

  -- the facts of a predicate are the rows of its table
  pub facts-at : (i : ℕ) (t : Named (List (List Value))) → i < length ts → t ≡ get_or ts i t → (a : List Value) → has_fact w (t.name, a) ≡
      is_some (dict.find row_cmp a (map fact_row t.rows.value))
  facts-at i t p is a =
      ap (λ (v : World). has_fact v (t.name, a)) (sym e)
      ∙ (contains-set_of (fact_tables ts) (t.name, a)
      ∙ (ap is_some (at-table fact_table ts t.name a i t h.0 p (subst (λ (u : Named (List (List Value))). nat_cmp u.name t.name ≡ Equal) is
      (tied_itself nat_cmp_total t.name)))
      ∙ ap (λ (u : Named (List (List Value))). is_some (dict.find row_cmp a (map fact_row u.rows.value))) (sym is)))

  -- the values of a function are those of its table
  pub values-at : (i : ℕ) (u : Named (List PlaceRow)) → i < length us → u ≡ get_or us i u → (a : List Value) → value_at w (u.name, a) ≡
      dict.find row_cmp a (map place_row u.rows.value)
  values-at i u p is a =
      ap (λ (v : World). value_at v (u.name, a)) (sym e)
      ∙ (get-map_of (place_tables us) (u.name, a) h.1
      ∙ (at-table place_table us u.name a i u h.1 p (subst (λ (t : Named (List PlaceRow)). nat_cmp t.name u.name ≡ Equal) is
      (tied_itself nat_cmp_total u.name))
      ∙ ap (λ (t : Named (List PlaceRow)). dict.find row_cmp a (map place_row t.rows.value)) (sym is)))

find-keys : (n m : ℕ) (a : List Value) (rows : List (List Value)) → list_any (eq_by_cmp key_cmp (m, a)) (row_keys n rows) ≡
    is_some (cond (is_eq (nat_cmp m n)) (dict.find row_cmp a (map fact_row rows)) None)
find-keys n m a rows =
    ap (list_any (eq_by_cmp key_cmp (m, a))) (sym (rows-keyed n rows))
    ∙ (sym (is_some-find key_cmp (m, a) (keyed n (map fact_row rows))) ∙ ap is_some (find-keyed m n a (map fact_row rows)))

-- rows that are found alike are the same facts
rows-alike : (n : ℕ) (rows others : List (List Value)) → ((a : List Value) → is_some (dict.find row_cmp a (map fact_row rows)) ≡
    is_some (dict.find row_cmp a (map fact_row others))) → AreRowsBeside [] [] n rows others
rows-alike n rows others h q _ = find-keys n q.0 q.1 rows ∙ (by (nat_cmp q.0 n) ∙ sym (find-keys n q.0 q.1 others))
  where
    by : (r : Ordering) → is_some (cond (is_eq r) (dict.find row_cmp q.1 (map fact_row rows)) None) ≡
        is_some (cond (is_eq r) (dict.find row_cmp q.1 (map fact_row others)) None)
    by Less = refl
    by Equal = h q.1
    by Greater = refl

-- and places that are found alike have the same values
places-alike : (n : ℕ) (rows others : List PlaceRow) → ((a : List Value) → dict.find row_cmp a (map place_row rows) ≡
    dict.find row_cmp a (map place_row others)) → ArePlacesBeside [] n rows others
places-alike n rows others h q _ =
    find-keyed q.0 n q.1 (map place_row rows)
    ∙ (ap (λ o. cond (is_eq (nat_cmp q.0 n)) o None) (h q.1) ∙ sym (find-keyed q.0 n q.1 (map place_row others)))

-- a value is told by the tests of it
same-value : (o r : Option Value) → ((u : Value) → is_value o u ≡ is_value r u) → o ≡ r
same-value None None h = refl
same-value None (Some x) h = absurd (true≢false (sym (h x ∙ (Equal-is (value_cmp x x)).1 (tied_itself value_total x))))
same-value (Some x) r h = sym (there r x (sym (h x) ∙ (Equal-is (value_cmp x x)).1 (tied_itself value_total x)))

module _ (ts rs : List (Named (List (List Value)))) (us qs : List (Named (List PlaceRow))) (w v : World)
    (h : InOrder (fact_tables ts) × InOrder (place_tables us)) (g : InOrder (fact_tables rs) × InOrder (place_tables qs))
    (e : whole (fact_tables ts) (place_tables us) ≡ w) (d : whole (fact_tables rs) (place_tables qs) ≡ v) (ks ls : List ℕ)
    (tell : TellAlike w ks v ls) where
  -- what numbers tell of worlds they tell of their tables of facts
  pub tell-rows : TellRows ts ks rs ls
  tell-rows i j k t u p q is it same m n =
      rows-alike t.name t.rows.value u.rows.value (λ a.
      sym (facts-at ts us w h e i t p is a)
      ∙ (tell i j (Pred t.name) k (pred-at ts us w h e i t p is) (subst (λ x. slice_get (tables_in v) j ≡ Some (Pred x)) (sym same)
      (pred-at rs qs v g d j u q it)) m n a (Sym 0)
      ∙ (ap (λ x. has_fact v (x, a)) same ∙ facts-at rs qs v g d j u q it a)))

  -- and of those of places, whose numbers stand after them
  pub tell-places : TellPlaces us (drop (length ts) ks) qs (drop (length rs) ls)
  tell-places i j k t u p q is it same m n =
      places-alike t.name t.rows.value u.rows.value (λ a.
      sym (values-at ts us w h e i t p is a)
      ∙ (same-value (value_at w (t.name, a)) (value_at v (t.name, a)) (tell (length ts + i) (length rs + j) (Fun t.name) k
      (fun-at ts us w h e i t p is)
      (subst (λ x. slice_get (tables_in v) (length rs + j) ≡ Some (Fun x)) (sym same) (fun-at rs qs v g d j u q it))
      (sym (get-dropped (length ts) ks i) ∙ m) (sym (get-dropped (length rs) ls j) ∙ n) a)
      ∙ (ap (λ x. value_at v (x, a)) same ∙ values-at rs qs v g d j u q it a)))

  -- so they do of lists that are these
  pub tell-those : (xs ys : List (Named (List PlaceRow))) (ms ns : List ℕ) → xs ≡ us → ys ≡ qs → ms ≡ drop (length ts) ks → ns ≡
      drop (length rs) ls → TellPlaces xs ms ys ns
  tell-those xs ys ms ns a b m n =
      subst (λ x. TellPlaces x ms ys ns) (sym a) (subst (λ x. TellPlaces us x ys ns) (sym m)
      (subst (λ x. TellPlaces us (drop (length ts) ks) x ns) (sym b)
      (subst (TellPlaces us (drop (length ts) ks) qs) (sym n) tell-places)))

-- the same places have the same values
pub same-values : (v w : World) (f : ℕ) (rows others : List PlaceRow) → ArePlacesOf v f rows → ArePlacesOf w f others → rows ≡ others →
    AreAlikeOf (Fun f) v w
same-values v w f rows others p q same a u = ap (λ o. is_value o u) (told (value_at v (f, a)) (value_at w (f, a))
    (λ x is. (q a x).0 (subst (λ rs. Among (a, x) (map place_row rs)) same ((p a x).1 is)))
    (λ x is. (p a x).0 (subst (λ rs. Among (a, x) (map place_row rs)) (sym same) ((q a x).1 is))))
  where
    told : (o r : Option Value) → ((x : Value) → o ≡ Some x → r ≡ Some x) → ((x : Value) → r ≡ Some x → o ≡ Some x) → o ≡ r
    told None None left right = refl
    told None (Some x) left right = right x refl
    told (Some x) r left right = sym (left x refl)

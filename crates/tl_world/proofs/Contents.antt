-- What stands in the tables of a world is what the world has.
use Rattle.std.proofs.Common.{◌≡◌, ◌↔◌, ℕ, List, [], ◌∷◌, ◌++◌, map, Bool, true, false, ◌&&◌, refl, sym, ap, ◌∙◌}
use Rattle.std.proofs.lemmas.Bool.Decides.{same_from_decides}
use Rattle.std.specs.List.{list_all}
use Rattle.std.specs.Prelude.{Result, Ok, Err, IfOk}
use Rattle.std.specs.FinSet as set
use Rattle.std.specs.FinMap as dict
use Rattle.tl_syntax.specs.declared.fact.Fact.{Fact}
use Rattle.tl_syntax.specs.declared.memory.NoMemory.{NoMemory}
use Rattle.tl_syntax.specs.declared.place_value.PlaceValue.{PlaceValue}
use Rattle.tl_syntax.specs.declared.value.Value.{Value}
use Rattle.tl_syntax.specs.Keys.{Key, key_cmp, fact_key, place_entry}
use Rattle.tl_syntax.specs.Lists.{Among}
use Rattle.tl_syntax.proofs.TotalOrders.{key_total, key_ties}
use Rattle.tl_syntax.proofs.ListLaws.{iff-trans, iff-sym, iff-path, all-iff, Each-Among}
use Rattle.tl_terms.specs.ProblemMeaning.{world_of}
use Rattle.tl_terms.specs.Step.{with_all, overwritten}
use Rattle.tl_terms.specs.World.{World}
use Rattle.tl_rows.specs.declared.named.Named.{Named}
use Rattle.tl_rows.specs.declared.table.PlaceRow.{PlaceRow}
use Rattle.tl_rows.specs.Tables.{keyed, entries_of, InOrder, set_of, map_of, fact_row, place_row, fact_tables, place_tables}
use Rattle.tl_rows.proofs.Lookup.{entries-rise}
use Rattle.tl_rows.proofs.Lent.{any-among}

-- a test passes on all of two lists alike where they have the same members
same-members : {A : Type 0} (p : A → Bool) (xs ys : List A) → ((x : A) → Among x xs ↔ Among x ys) → list_all p xs ≡ list_all p ys
same-members {A} p xs ys same =
    let P : A → Type 0 = λ x. p x ≡ true in
    let all : (zs : List A) → ((x : A) → Among x zs → P x) ↔ (list_all p zs ≡ true) = λ zs.
    iff-trans (iff-sym (Each-Among P zs)) (all-iff P p (λ x. (λ h. h, λ h. h)) zs) in
    same_from_decides {P = (x : A) → Among x xs → P x} _ _ ((all xs).1, (all xs).0) (
      λ h x m. (all ys).1 h x ((same x).0 m),
      λ h. (all ys).0 (λ x m. h x ((same x).1 m)),
    )

all-append : {A : Type 0} (p : A → Bool) (xs ys : List A) → list_all p (xs ++ ys) ≡ (list_all p xs && list_all p ys)
all-append p [] ys = refl
all-append p (x ∷ xs) ys = ap (λ b. p x && b) (all-append p xs ys) ∙ sym (and-assoc (p x) (list_all p xs) (list_all p ys))
  where
    and-assoc : (a b c : Bool) → ((a && b) && c) ≡ (a && (b && c))
    and-assoc true b c = refl
    and-assoc false b c = refl

module _ {R X : Type 0} (g : R → List Value × X) (p : Key × X → Bool) where
  rows-all : (n : ℕ) (rs : List R) → list_all (λ r. p ((n, (g r).0), (g r).1)) rs ≡ list_all p (keyed n (map g rs))
  rows-all n [] = refl
  rows-all n (r ∷ rs) = ap (λ b. p ((n, (g r).0), (g r).1) && b) (rows-all n rs)

  -- row by row, or entry by entry
  tables-all : (ts : List (Named (List R))) → list_all (λ t. list_all (λ r. p ((t.name, (g r).0), (g r).1)) t.rows.value) ts ≡
      list_all p (entries_of (map (λ t. (t.name, map g t.rows.value)) ts))
  tables-all [] = refl
  tables-all (t ∷ ts) =
      (λ i. rows-all t.name t.rows.value i && tables-all ts i)
      ∙ sym (all-append p (keyed t.name (map g t.rows.value)) (entries_of (map (λ u. (u.name, map g u.rows.value)) ts)))

keys-all : (p : Key → Bool) (es : List (Key × Unit {0})) → list_all (λ e. p e.0) es ≡ list_all p (map (λ e. e.0) es)
keys-all p [] = refl
keys-all p (e ∷ es) = ap (λ b. p e.0 && b) (keys-all p es)

-- the facts in the tables are the facts of the world
pub facts-all : (p : Key → Bool) (ts : List (Named (List (List Value)))) (w : World) → set_of (fact_tables ts) ≡ w.facts →
    list_all (λ t. list_all (λ a. p (t.name, a)) t.rows.value) ts ≡ list_all p (set.items w.facts)
facts-all p ts w is =
    let keys : List Key = map (λ e. e.0) (entries_of (fact_tables ts)) in
    tables-all fact_row (λ e. p e.0) ts
    ∙ (keys-all p (entries_of (fact_tables ts))
    ∙ (same-members p keys (set.items (set_of (fact_tables ts))) (λ k.
    iff-trans (any-among key_total key_ties k keys) (iff-trans (iff-path (λ b. b ≡ true)
    (sym (set.contains-from_list key_total keys k) ∙ set.contains-items (set_of (fact_tables ts)) k))
    (iff-sym (any-among key_total key_ties k (set.items (set_of (fact_tables ts)))))))
    ∙ ap (λ s. list_all p (set.items s)) is))

-- the places in the tables are the places of the world
pub places-all : (p : Key × Value → Bool) (ts : List (Named (List PlaceRow))) (w : World) → InOrder (place_tables ts) →
    map_of (place_tables ts) ≡ w.places → list_all (λ t. list_all (λ r. p ((t.name, r.args), r.value)) t.rows.value) ts ≡
    list_all p (dict.entries w.places)
places-all p ts w order is =
    tables-all place_row p ts
    ∙ (ap (list_all p) (sym (dict.entries-from_sorted key_cmp (entries_of (place_tables ts)) (entries-rise (place_tables ts) order)))
    ∙ ap (λ m. list_all p (dict.entries m)) is)

all-added : (ks : List Key) → with_all set.empty ks ≡ set.from_list ks
all-added [] = refl
all-added (k ∷ ks) = ap (λ s. set.insert s k) (all-added ks)

all-given : (es : List (Key × Value)) → overwritten dict.empty es ≡ dict.from_entries es
all-given [] = refl
all-given (e ∷ es) = ap (λ m. dict.insert m e.0 e.1) (all-given es)

-- a world of facts and places, from the empty one
pub made-of : (facts : List Fact) (places : List PlaceValue) (new : World) (r : Result World NoMemory) → new ≡ world_of [] [] →
    IfOk r (λ w. w.facts ≡ with_all new.facts (map fact_key facts)) → IfOk r
    (λ w. w.places ≡ overwritten new.places (map place_entry places)) → IfOk r (λ w. w ≡ world_of facts places)
unfolding world_of
made-of facts places new (Err e) is f p = f
made-of facts places new (Ok w) is f p =
    let a = f ∙ (ap (λ (v : World). with_all v.facts (map fact_key facts)) is ∙ all-added (map fact_key facts)) in
    let b = p ∙ (ap (λ (v : World). overwritten v.places (map place_entry places)) is ∙ all-given (map place_entry places)) in
    λ i. record { facts = a i; places = b i }

-- Tests of tables, and what tables feed a hasher.
use Rattle.std.proofs.Common.{◌≡◌, ℕ, Bool, false, ◌&&◌, true, true≢false, ◌≢◌, List, [], ◌∷◌, ◌++◌, map, refl, sym, ap, ap₂, ◌∙◌, Decides}
use Rattle.std.proofs.Common.{eqb-true, eq-eqb}
use Rattle.std.specs.Prelude.{nat_eq}
use Rattle.std.specs.Hash as fed
use Rattle.std.specs.Hash.{HashWrites}
use Rattle.std.specs.List.{flat_map, fold}
use Rattle.std.proofs.lemmas.List.{length-map}
use lib.Pointwise.{pointwise}
use Rattle.tl_syntax.specs.declared.value.Value.{Value}
use Rattle.tl_terms.specs.World.{World}
use Rattle.tl_syntax.proofs.Plain.{value-tells, list-tells, both, with_both}
use Rattle.tl_syntax.specs.contracts.value.ValuePartialEq.TheImpl as value_impl
use Rattle.tl_rows.specs.declared.named.Named.{Named}
use Rattle.tl_rows.specs.declared.table.PlaceRow.{PlaceRow}
use Rattle.tl_rows.specs.Tables.{PlainRows, InOrder, fact_row, place_row, fact_table, place_table, fact_tables, place_tables}
use Rattle.std.specs.Hash.FoldHasher as folding
use Rattle.std.specs.declared.hash.FoldHasher.{FoldHasher}
use Rattle.tl_rows.specs.Codes.{rows_code, places_code, row_of, fact_table_fed, place_table_fed, tables_code}
use Rattle.tl_syntax.proofs.Telling.{told_alike}
use Rattle.tl_terms.proofs.SameWorlds.{world-tells}
use Rattle.tl_terms.specs.SameWorlds.{world_eq}
use Rattle.tl_world.specs.WorldCode.{world_fed}
use Rattle.tl_rows.proofs.Lent.{bare}
use Rattle.tl_world.proofs.Group.{whole, same-facts, same-places, facts-back, places-back}

abbrev pub values_eq : List Value → List Value → Bool
values_eq = pointwise (value_impl.ghosts).eq

pub values-tell : (xs ys : List Value) → Decides (values_eq xs ys) (xs ≡ ys)
values-tell xs ys = list-tells (value_impl.ghosts).eq value-tells xs ys

-- a test by element of what f makes of it
pub mapped-tells : {A B : Type 0} (f : A → B) (e : A → A → Bool) → ((x y : A) → Decides (e x y) (f x ≡ f y)) → (xs ys : List A) →
    Decides (pointwise e xs ys) (map f xs ≡ map f ys)
mapped-tells f e t [] [] = (λ _. refl, λ _. refl)
mapped-tells f e t [] (y ∷ ys) = (λ h. absurd (true≢false (sym h)), λ e. absurd (let k : ⊥ = cc in k))
mapped-tells f e t (x ∷ xs) [] = (λ h. absurd (true≢false (sym h)), λ e. absurd (let k : ⊥ = cc in k))
mapped-tells f e t (x ∷ xs) (y ∷ ys) = (
  λ h. let k = both (e x y) (pointwise e xs ys) h in ap₂ ◌∷◌ ((t x y).0 k.0) ((mapped-tells f e t xs ys).0 k.1),
  λ h. let p : f x ≡ f y = cc in let q : map f xs ≡ map f ys = cc in with_both ((t x y).1 p) ((mapped-tells f e t xs ys).1 q),
)

fact_row-tells : (xs ys : List Value) → Decides (values_eq xs ys) (fact_row xs ≡ fact_row ys)
fact_row-tells xs ys = (λ h. ap fact_row ((values-tell xs ys).0 h), λ e. (values-tell xs ys).1 (ap (λ (r : List Value × Unit {0}). r.0) e))

abbrev pub place_row_eq : PlaceRow → PlaceRow → Bool
place_row_eq x y = values_eq x.args y.args && (value_impl.ghosts).eq x.value y.value

place_row-tells : (x y : PlaceRow) → Decides (place_row_eq x y) (place_row x ≡ place_row y)
place_row-tells x y = (
  λ h. let k = both (values_eq x.args y.args) ((value_impl.ghosts).eq x.value y.value) h in
      let p = (values-tell x.args y.args).0 k.0 in let q = (value-tells x.value y.value).0 k.1 in λ i. (p i, q i),
  λ e. with_both ((values-tell x.args y.args).1 (ap (λ (r : List Value × Value). r.0) e))
      ((value-tells x.value y.value).1 (ap (λ (r : List Value × Value). r.1) e)),
)

abbrev pub fact_table_eq : Named (List (List Value)) → Named (List (List Value)) → Bool
fact_table_eq x y = nat_eq x.name y.name && pointwise values_eq x.rows.value y.rows.value

abbrev pub place_table_eq : Named (List PlaceRow) → Named (List PlaceRow) → Bool
place_table_eq x y = nat_eq x.name y.name && pointwise place_row_eq x.rows.value y.rows.value

fact_table-tells : (x y : Named (List (List Value))) → Decides (fact_table_eq x y) (fact_table x ≡ fact_table y)
fact_table-tells x y =
    let rows = mapped-tells fact_row values_eq fact_row-tells x.rows.value y.rows.value in (
      λ h. let k = both (nat_eq x.name y.name) (pointwise values_eq x.rows.value y.rows.value) h in
          let p = eqb-true x.name y.name k.0 in let q = rows.0 k.1 in λ i. (p i, q i),
      λ e. with_both (eq-eqb x.name y.name (ap (λ (t : ℕ × PlainRows (Unit {0})). t.0) e))
          (rows.1 (ap (λ (t : ℕ × PlainRows (Unit {0})). t.1) e)),
    )

place_table-tells : (x y : Named (List PlaceRow)) → Decides (place_table_eq x y) (place_table x ≡ place_table y)
place_table-tells x y =
    let rows = mapped-tells place_row place_row_eq place_row-tells x.rows.value y.rows.value in (
      λ h. let k = both (nat_eq x.name y.name) (pointwise place_row_eq x.rows.value y.rows.value) h in
          let p = eqb-true x.name y.name k.0 in let q = rows.0 k.1 in λ i. (p i, q i),
      λ e. with_both (eq-eqb x.name y.name (ap (λ (t : ℕ × PlainRows Value). t.0) e)) (rows.1 (ap (λ (t : ℕ × PlainRows Value). t.1) e)),
    )

-- what the code compares is whether the worlds are the same
pub tables_eq : (fs gs : List (Named (List (List Value)))) (ps qs : List (Named (List PlaceRow))) → InOrder (fact_tables fs) →
    InOrder (fact_tables gs) → InOrder (place_tables ps) → InOrder (place_tables qs)
    → (pointwise fact_table_eq fs gs && pointwise place_table_eq ps qs) ≡
    world_eq (whole (fact_tables fs) (place_tables ps)) (whole (fact_tables gs) (place_tables qs))
tables_eq fs gs ps qs hf hg hp hq = told_alike _ _ (
  λ h. let k = both (pointwise fact_table_eq fs gs) (pointwise place_table_eq ps qs) h in
      let a = (mapped-tells fact_table fact_table_eq fact_table-tells fs gs).0 k.0 in
      let b = (mapped-tells place_table place_table_eq place_table-tells ps qs).0 k.1 in λ i. whole (a i) (b i),
  λ e. with_both
      ((mapped-tells fact_table fact_table_eq fact_table-tells fs gs).1 (same-facts _ _ hf hg (ap (λ (w : World). w.facts) e)))
      ((mapped-tells place_table place_table_eq place_table-tells ps qs).1 (same-places _ _ hp hq (ap (λ (w : World). w.places) e))),
) (world-tells _ _)

pub eq_whole : (fs gs : List (Named (List (List Value)))) (ps qs : List (Named (List PlaceRow))) (a b : Bool) (v w : World)
    → InOrder (fact_tables fs) × InOrder (place_tables ps) → InOrder (fact_tables gs) × InOrder (place_tables qs)
    → a ≡ pointwise fact_table_eq fs gs → b ≡ pointwise place_table_eq ps qs
    → whole (fact_tables fs) (place_tables ps) ≡ v → whole (fact_tables gs) (place_tables qs) ≡ w
    → (a && b) ≡ world_eq v w
eq_whole fs gs ps qs a b v w h k p q e d = (λ i. p i && q i) ∙ (tables_eq fs gs ps qs h.0 k.0 h.1 k.1 ∙ λ i. world_eq (e i) (d i))

pub eq_first : (fs gs : List (Named (List (List Value)))) (ps qs : List (Named (List PlaceRow))) (a : Bool) (v w : World)
    → InOrder (fact_tables fs) × InOrder (place_tables ps) → InOrder (fact_tables gs) × InOrder (place_tables qs)
    → a ≡ pointwise fact_table_eq fs gs → a ≡ false
    → whole (fact_tables fs) (place_tables ps) ≡ v → whole (fact_tables gs) (place_tables qs) ≡ w
    → a ≡ world_eq v w
eq_first fs gs ps qs a v w h k p n e d = (n ∙ ap (λ x. x && pointwise place_table_eq ps qs) (sym n)) ∙
    eq_whole fs gs ps qs a (pointwise place_table_eq ps qs) v w h k p refl e d

-- what the tables feed
flat_map-map : {A B : Type 0} (f : A → B) (F : B → HashWrites) (xs : List A) → flat_map F (map f xs) ≡ flat_map (λ x. F (f x)) xs
flat_map-map f F [] = refl
flat_map-map f F (x ∷ xs) = ap (λ w. F (f x) ++ w) (flat_map-map f F xs)

fed-map : {A B : Type 0} (f : A → B) (F : B → HashWrites) (xs : List A) → fed.slice F (map f xs) ≡ fed.slice (λ x. F (f x)) xs
fed-map f F xs = λ i. fed.usize (length-map xs f i) ++ flat_map-map f F xs i

abbrev pub fact_named_fed : Named (List (List Value)) → HashWrites
fact_named_fed t = fed.u32 t.name ++ fed.u64 (rows_code t.rows.value)

abbrev pub place_named_fed : Named (List PlaceRow) → HashWrites
place_named_fed t = fed.u32 t.name ++ fed.u64 (places_code t.rows.value)

-- the rows of a table again
rows-again : (rows : List PlaceRow) → map row_of (map place_row rows) ≡ rows
rows-again [] = refl
rows-again (r ∷ rs) = ap (λ x. r ∷ x) (rows-again rs)

facts_fed : (fs : List (Named (List (List Value)))) → fed.slice fact_table_fed (fact_tables fs) ≡ fed.slice fact_named_fed fs
facts_fed fs = fed-map fact_table fact_table_fed fs
    ∙ (λ i. fed.slice (λ (t : Named (List (List Value))). fed.u32 t.name ++ fed.u64 (rows_code (bare t.rows.value i))) fs)

places_fed : (ps : List (Named (List PlaceRow))) → fed.slice place_table_fed (place_tables ps) ≡ fed.slice place_named_fed ps
places_fed ps = fed-map place_table place_table_fed ps
    ∙ (λ i. fed.slice (λ (t : Named (List PlaceRow)). fed.u32 t.name ++ fed.u64 (places_code (rows-again t.rows.value i))) ps)

pub fold-two : {S : Type 0} (f : S → List ℕ → S) (s : S) (xs ys : HashWrites) → fold f s (xs ++ ys) ≡ fold f (fold f s xs) ys
fold-two f s [] ys = refl
fold-two f s (x ∷ xs) ys = fold-two f (f s x) xs ys

-- what a hasher makes of the tables is their code
pub tables-coded : (s t u : FoldHasher) (fs : List (Named (List (List Value)))) (ps : List (Named (List PlaceRow)))
    → s ≡ folding.initial → t ≡ fold folding.write s (fed.slice fact_named_fed fs) → u ≡
    fold folding.write t (fed.slice place_named_fed ps) → folding.finish u ≡ tables_code (fact_tables fs) (place_tables ps)
unfolding tables_code
tables-coded s t u fs ps is p q =
    ap folding.finish (q ∙ (ap (λ x. fold folding.write x (fed.slice place_named_fed ps))
    (p ∙ ap (λ x. fold folding.write x (fed.slice fact_named_fed fs)) is)
    ∙ (sym (fold-two folding.write folding.initial (fed.slice fact_named_fed fs) (fed.slice place_named_fed ps))
    ∙ λ i. fold folding.write folding.initial (sym (facts_fed fs) i ++ sym (places_fed ps) i))))

-- a world feeds the code that it keeps
pub hashed : {S : Type 0} (f : S → List ℕ → S) (s u : S) (code : ℕ) (fs : List (Named (List (List Value))))
    (ps : List (Named (List PlaceRow))) (w : World)
    → (InOrder (fact_tables fs) × InOrder (place_tables ps)) × (code ≡ tables_code (fact_tables fs) (place_tables ps)) →
    whole (fact_tables fs) (place_tables ps) ≡ w → u ≡ fold f s (fed.u64 code) → u ≡ fold f s (world_fed w)
unfolding world_fed
hashed f s u code fs ps w h e p =
    p ∙ ((λ i. fold f s (fed.u64 ((h.1 ∙ λ j. tables_code (sym (facts-back (fact_tables fs) h.0.0) j)
    (sym (places-back (place_tables ps) h.0.1) j)) i)))
    ∙ ap (λ v. fold f s (world_fed v)) e)

-- worlds with different codes differ
pub eq_codes : (fs gs : List (Named (List (List Value)))) (ps qs : List (Named (List PlaceRow))) (a b : ℕ) (v w : World)
    → (InOrder (fact_tables fs) × InOrder (place_tables ps)) × (a ≡ tables_code (fact_tables fs) (place_tables ps)) →
    (InOrder (fact_tables gs) × InOrder (place_tables qs)) × (b ≡ tables_code (fact_tables gs) (place_tables qs))
    → whole (fact_tables fs) (place_tables ps) ≡ v → whole (fact_tables gs) (place_tables qs) ≡ w → a ≢ b → false ≡ world_eq v w
eq_codes fs gs ps qs a b v w h k e d other = (elim (world_eq v w) as (λ c. world_eq v w ≡ c → false ≡ c) [
  | false ↦ λ _. refl
  | true ↦ λ t.
      let same : whole (fact_tables fs) (place_tables ps) ≡ whole (fact_tables gs) (place_tables qs) = e ∙
      ((world-tells v w).0 t ∙ sym d) in
      let p = same-facts (fact_tables fs) (fact_tables gs) h.0.0 k.0.0 (ap (λ (u : World). u.facts) same) in
      let q = same-places (place_tables ps) (place_tables qs) h.0.1 k.0.1 (ap (λ (u : World). u.places) same) in
      absurd (other (h.1 ∙ ((λ i. tables_code (p i) (q i)) ∙ sym k.1)))
]) refl

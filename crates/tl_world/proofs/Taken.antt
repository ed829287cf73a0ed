-- Tables of facts of which one row is taken out.
use Rattle.std.proofs.Common.{◌≡◌, ℕ, zero, suc, ◌<◌, List, [], ◌∷◌, map, length, sym, ap, ◌∙◌, refl, arith, Equal}
use Rattle.std.proofs.lemmas.List.{nil_from_length}
use Rattle.std.proofs.lemmas.List.Edits.{length-remove}
use Rattle.std.proofs.Math.ListN as put-at
use Rattle.std.specs.FinSet as set
use Rattle.std.specs.FinMap.Entries.{where_key}
use Rattle.std.specs.List.{insert, remove, HoldsAt}
use Rattle.tl_syntax.specs.declared.value.Value.{Value}
use Rattle.tl_rows.specs.declared.named.Named.{Named}
use Rattle.tl_rows.specs.Plain.{HasItem}
use Rattle.tl_rows.specs.Tables.{row_cmp, InOrder, fact_row, fact_tables, set_of}
use Rattle.tl_world.proofs.Change as change
use Rattle.tl_world.proofs.Edits.{other_than}
use Rattle.tl_world.proofs.Step.{set-taken}

-- an item in place of another, as a removal and an insertion
pub set-edit : {A : Type 0} (xs : List A) (i : ℕ) (y : A) → i < length xs → put-at.set xs i y ≡ insert (remove xs i) i y
set-edit [] i y p = absurd (let no : i < 0 = p in omega arith)
set-edit (x ∷ xs) zero y p = refl
set-edit (x ∷ xs) (suc i) y p = ap (λ zs. x ∷ zs) (set-edit xs i y (let m : suc i < suc (length xs) = p in omega arith))

-- rows are left
some-left : (rows : List (List Value)) → 0 < length rows → HasItem (map fact_row rows)
some-left [] p = absurd (omega (arith, p))
some-left (r ∷ rows) p = tt

module _ (ts : List (Named (List (List Value)))) (n i : ℕ) (old : Named (List (List Value))) (k : ℕ) (a : List Value)
    (f : change.Found fact_row ts n i old) (p : k < length old.rows.value)
    (t : HoldsAt (λ (r : List Value). row_cmp r a ≡ Equal) old.rows.value k) where
  only-out : map fact_row (remove old.rows.value k) ≡ where_key row_cmp (other_than row_cmp a) (map fact_row old.rows.value)
  only-out = change.row-taken fact_row ts n i old f a k old.rows.value refl p t

  -- the table has other rows
  module _ (fresh : Named (List (List Value))) (e : fresh.name ≡ n) (is : fresh.rows.value ≡ remove old.rows.value k) where
    pub order-out : 1 < length old.rows.value → InOrder (fact_tables (insert (remove ts i) i fresh))
    order-out two =
        let l = length-remove old.rows.value k p in
        let m = ap length is in
        change.order-taken fact_row ts n i old f fresh e a (ap (map fact_row) is ∙ only-out)
        (some-left fresh.rows.value (omega (arith, l, m, two)))

    pub facts-out : set_of (fact_tables (insert (remove ts i) i fresh)) ≡ set.remove (set_of (fact_tables ts)) (n, a)
    facts-out = set-taken (fact_tables ts) (fact_tables (insert (remove ts i) i fresh)) (n, a)
        (λ q. change.find-taken-out fact_row ts n i old f fresh e a (ap (map fact_row) is ∙ only-out) q)

  -- it has no other
  pub facts-emptied : 1 ≡ length old.rows.value → set_of (fact_tables (remove ts i)) ≡ set.remove (set_of (fact_tables ts)) (n, a)
  facts-emptied one =
      let l = length-remove old.rows.value k p in
      let none : remove old.rows.value k ≡ [] = nil_from_length (remove old.rows.value k) (omega (arith, l, one)) in
      set-taken (fact_tables ts) (fact_tables (remove ts i)) (n, a) (λ q.
      change.find-emptied-out fact_row ts n i old f a (sym only-out ∙ ap (map fact_row) none) q)

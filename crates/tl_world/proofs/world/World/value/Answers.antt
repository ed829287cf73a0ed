use Rattle.std.proofs.Common.{◌≡◌, ℕ, ◌<◌, List, map, length, get_or, T, Some, None, Err, [], sym, ap, ◌∙◌, subst, Equal}
use Rattle.std.specs.FinMap as dict
use Rattle.std.specs.List.{HoldsAt}
use Rattle.std.specs.List.Sorted.{IsBinarySearchResult}
use Rattle.std.specs.Ordering.{nat_cmp}
use Rattle.std.specs.Prelude.{pos}
use Rattle.tl_syntax.specs.declared.value.Value.{Value}
use Rattle.tl_syntax.specs.declared.value.Value.TheVariants.{Int}
use Rattle.tl_terms.specs.World.{value_at, World}
use Rattle.tl_rows.specs.Tables.{row_cmp, InOrder, place_row, place_table, place_tables, map_of}
use Rattle.tl_rows.specs.declared.named.Named.{Named}
use Rattle.tl_rows.specs.declared.table.PlaceRow.{PlaceRow}
use Rattle.tl_rows.proofs.Search.{search-ok, search-err}
use Rattle.tl_rows.proofs.Lookup.{get-map_of, at-table, no-table, each-at, row_total}
use Rattle.tl_world.proofs.world.World.value.Goals as goal

-- in the table that the search found
inside : (s ts : List (Named (List PlaceRow))) (n : ℕ) (a : List Value) (i : ℕ) (t : Named (List PlaceRow)) (rows : List PlaceRow)
    → s ≡ ts → t ≡ get_or ts i t → rows ≡ t.rows.value → InOrder (place_tables ts)
    → i < length s → HoldsAt (λ (u : Named (List PlaceRow)). nat_cmp u.name n ≡ Equal) s i
    → T (dict.is_sorted row_cmp (map place_row rows)) × (dict.find row_cmp a (map place_row rows) ≡
    dict.get (map_of (place_tables ts)) (n, a))
inside s ts n a i t rows same is held h p e =
    let below : i < length ts = subst (λ x. i < length x) same p in
    let at : rows ≡ (get_or ts i t).rows.value = held ∙ ap (λ (u : Named (List PlaceRow)). u.rows.value) is in (
      subst (λ x. T (dict.is_sorted row_cmp (map place_row x))) (sym at) (each-at place_table ts i t below h.1),
      ap (λ x. dict.find row_cmp a (map place_row x)) at
          ∙ (sym (at-table place_table ts n a i t h below (subst (λ x.
          HoldsAt (λ (u : Named (List PlaceRow)). nat_cmp u.name n ≡ Equal) x i) same e t))
          ∙ sym (get-map_of (place_tables ts) (n, a) h)),
    )

missed : (s ts : List (Named (List PlaceRow))) (n : ℕ) (a : List Value) (i : ℕ) → s ≡ ts → InOrder (place_tables ts) →
    IsBinarySearchResult (λ (t : Named (List PlaceRow)). nat_cmp t.name n) s (Err i) → None ≡ dict.get (map_of (place_tables ts)) (n, a)
missed s ts n a i same h place =
    sym (get-map_of (place_tables ts) (n, a) h ∙ no-table place_table ts n a i h
    (subst (λ x. IsBinarySearchResult (λ (t : Named (List PlaceRow)). nat_cmp t.name n) x (Err i)) same place))

pub returns-in-Ok-find_place : goal.returns-in-Ok-find_place
returns-in-Ok-find_place c =
    let d : PlaceRow = record { args = []; value = Int (pos 0) } in
    let k = inside _ _ c.args.fun c.args.args.now c.in-Ok.i c.index-t.result.now _ c.as_slice.ensures.value c.index-t.ensures
    c.as_ref.ensures c.self.invariant.0.1 c.in-Ok.ensures.range c.in-Ok.ensures.place in
    sym (search-ok row_total place_row c.args.args.now c.as_ref.result.now c.in-Ok-find_place.k k.0 c.in-Ok-find_place.ensures.range
    c.in-Ok-find_place.ensures.place d ∙ ap (λ (v : Value). Some v)
    (ap (λ (rs : List PlaceRow). (get_or rs c.in-Ok-find_place.k d).value) (c.as_ref.ensures ∙ sym c.deref.ensures) ∙
    sym (c.value.ensures d)))
    ∙ (k.1 ∙ ap (λ (w : World). value_at w (c.args.fun, c.args.args.now)) c.self.view_is)

pub returns-in-Err-find_place : goal.returns-in-Err-find_place
returns-in-Err-find_place c =
    let k = inside _ _ c.args.fun c.args.args.now c.in-Ok.i c.index-t.result.now _ c.as_slice.ensures.value c.index-t.ensures
    c.as_ref.ensures c.self.invariant.0.1 c.in-Ok.ensures.range c.in-Ok.ensures.place in
    sym (search-err row_total place_row c.args.args.now c.as_ref.result.now c.in-Err-find_place.field-0 k.0
    c.in-Err-find_place.ensures.place)
    ∙ (k.1 ∙ ap (λ (w : World). value_at w (c.args.fun, c.args.args.now)) c.self.view_is)

pub returns-in-Err : goal.returns-in-Err
returns-in-Err c =
    missed _ _ c.args.fun c.args.args.now c.in-Err.field-0 c.as_slice.ensures.value c.self.invariant.0.1 c.in-Err.ensures.place
    ∙ ap (λ (w : World). value_at w (c.args.fun, c.args.args.now)) c.self.view_is

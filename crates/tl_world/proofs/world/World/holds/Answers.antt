use Rattle.std.proofs.Common.{◌≡◌, ℕ, ◌<◌, List, [], map, length, get_or, T, false, Result, Ok, Err, is_ok, is_some, sym, ap, ◌∙◌, subst}
use Rattle.std.proofs.Common.{Equal}
use Rattle.std.specs.FinMap as dict
use Rattle.std.specs.FinSet as set
use Rattle.std.specs.List.{HoldsAt}
use Rattle.std.specs.List.Sorted.{IsBinarySearchResult, IsSearchInRange}
use Rattle.std.specs.Ordering.{nat_cmp}
use Rattle.tl_syntax.specs.declared.value.Value.{Value}
use Rattle.tl_terms.specs.World.{has_fact, World}
use Rattle.tl_rows.specs.Tables.{row_cmp, InOrder, fact_row, fact_table, fact_tables, set_of}
use Rattle.tl_rows.specs.declared.named.Named.{Named}
use Rattle.tl_rows.proofs.Search.{search-ok, search-err}
use Rattle.tl_rows.proofs.Lookup.{contains-set_of, at-table, no-table, each-at, row_total}
use Rattle.tl_world.proofs.world.World.holds.Goals as goal

in-row : (rows : List (List Value)) (a : List Value) (r : Result ℕ ℕ) → T (dict.is_sorted row_cmp (map fact_row rows)) →
    IsSearchInRange r (length rows) → IsBinarySearchResult (λ x. row_cmp x a) rows r → is_ok r ≡
    is_some (dict.find row_cmp a (map fact_row rows))
in-row rows a (Ok k) s p h = sym (ap is_some (search-ok row_total fact_row a rows k s p h []))
in-row rows a (Err k) s p h = sym (ap is_some (search-err row_total fact_row a rows k s h))

found : (s ts : List (Named (List (List Value)))) (n : ℕ) (a : List Value) (i : ℕ) (t : Named (List (List Value)))
    (rows : List (List Value)) (r : Result ℕ ℕ)
    → s ≡ ts → t ≡ get_or ts i t → rows ≡ t.rows.value → InOrder (fact_tables ts)
    → i < length s → HoldsAt (λ (u : Named (List (List Value))). nat_cmp u.name n ≡ Equal) s i
    → IsSearchInRange r (length rows) → IsBinarySearchResult (λ x. row_cmp x a) rows r
    → is_ok r ≡ set.contains (set_of (fact_tables ts)) (n, a)
found s ts n a i t rows r same is held h p e range place =
    let below : i < length ts = subst (λ x. i < length x) same p in
    let at : rows ≡ (get_or ts i t).rows.value = held ∙ ap (λ (u : Named (List (List Value))). u.rows.value) is in
    let rise = subst (λ x. T (dict.is_sorted row_cmp (map fact_row x))) (sym at) (each-at fact_table ts i t below h.1) in
    in-row rows a r rise range place
    ∙ (ap is_some (ap (λ x. dict.find row_cmp a (map fact_row x)) at ∙
    sym (at-table fact_table ts n a i t h below (subst (λ x. HoldsAt (λ (u : Named (List (List Value))). nat_cmp u.name n ≡ Equal) x i)
    same e t)))
    ∙ sym (contains-set_of (fact_tables ts) (n, a)))

missed : (s ts : List (Named (List (List Value)))) (n : ℕ) (a : List Value) (i : ℕ) → s ≡ ts → InOrder (fact_tables ts) →
    IsBinarySearchResult (λ (t : Named (List (List Value))). nat_cmp t.name n) s (Err i) → false ≡
    set.contains (set_of (fact_tables ts)) (n, a)
missed s ts n a i same h place =
    sym (contains-set_of (fact_tables ts) (n, a) ∙ ap is_some (no-table fact_table ts n a i h
    (subst (λ x. IsBinarySearchResult (λ (t : Named (List (List Value))). nat_cmp t.name n) x (Err i)) same place)))

pub returns-in-Ok : goal.returns-in-Ok
returns-in-Ok c =
    c.is_ok.ensures.value
    ∙ (found _ _ c.args.pred c.args.args.now c.in-Ok.i c.index-t.result.now _ _ c.as_slice.ensures.value c.index-t.ensures
    (c.runs.ensures ∙ c.deref.ensures) c.self.invariant.0.0
    c.in-Ok.ensures.range c.in-Ok.ensures.place c.find_row-found.ensures.range c.find_row-found.ensures.place
    ∙ ap (λ (w : World). has_fact w (c.args.pred, c.args.args.now)) c.self.view_is)

pub returns-in-Err : goal.returns-in-Err
returns-in-Err c =
    missed _ _ c.args.pred c.args.args.now c.in-Err.field-0 c.as_slice.ensures.value c.self.invariant.0.0 c.in-Err.ensures.place
    ∙ ap (λ (w : World). has_fact w (c.args.pred, c.args.args.now)) c.self.view_is

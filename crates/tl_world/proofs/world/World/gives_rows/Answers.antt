use Rattle.std.proofs.Common.{◌≡◌, ℕ, suc, ◌+◌, ◌<◌, Bool, ◌&&◌, List, ◌∷◌, length, get_or, drop, drop-cons, sym, ap, ◌∙◌, arith}
use Rattle.std.specs.List.{list_all}
use Rattle.tl_rows.specs.declared.table.PlaceRow.{PlaceRow}
use Rattle.tl_world.specs.Calls.{gives_row}
use Rattle.tl_world.proofs.world.World.gives_rows.Goals as goal

-- the test of the places from k on
from : (test : PlaceRow → Bool) (rows : List PlaceRow) (k : ℕ) (row : PlaceRow) (b : Bool) → k < length rows → row ≡ get_or rows k row → b ≡
    test row → list_all test (drop k rows) ≡ (b && list_all test (drop (k + 1) rows))
from test rows k row b p is e =
    ap (list_all test) (drop-cons rows k row p ∙ λ i. sym is i ∷ drop ((let m : suc k ≡ k + 1 = omega arith in m) i) rows)
    ∙ ap (λ t. t && list_all test (drop (k + 1) rows)) (sym e)

pub returns-then-not-gives_place : goal.returns-then-not-gives_place
returns-then-not-gives_place c =
    let test = gives_row c.args.self.now c.args.fun in
    let low : c.loop-k.k < length c.args.rows.now = omega (arith, c.loop-k-test.true, c.len.ensures) in
    sym (c.loop-k.invariant.left ∙ (from test c.args.rows.now c.loop-k.k c.place-row.result c.gives_place.result low
    (c.place-row.ensures _) c.gives_place.ensures ∙ ap (λ t. t && list_all test (drop (c.loop-k.k + 1) c.args.rows.now))
    c.if-not-gives_place.true))

pub loop-k-preserved : goal.loop-k-preserved
loop-k-preserved c =
    let test = gives_row c.args.self.now c.args.fun in
    let low : c.loop-k.k < length c.args.rows.now = omega (arith, c.loop-k-test.true, c.len.ensures) in
    record {
      within = omega (arith, low);
      left = c.loop-k.invariant.left ∙ (from test c.args.rows.now c.loop-k.k c.place-row.result c.gives_place.result low
          (c.place-row.ensures _) c.gives_place.ensures ∙ ap (λ t. t && list_all test (drop (c.loop-k.k + 1) c.args.rows.now))
          c.if-not-gives_place.false);
    }

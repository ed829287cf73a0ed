use Rattle.std.proofs.Common.{◌≡◌, ◌<◌, ◌-◌, List, length-take-le, length, map, take, drop, get_or, [], Some, true, refl, sym, ap, ◌∙◌}
use Rattle.std.proofs.Common.{subst, arith}
use Rattle.std.proofs.lemmas.List.{drop_all, get_or-map, length-map}
use Rattle.std.specs.Ordering.{is_lt}
use Rattle.tl_syntax.specs.declared.value.Value.{Value}
use Rattle.tl_match.specs.declared.pattern.Match.{Match}
use Rattle.tl_rows.specs.declared.table.PlaceRow.{PlaceRow}
use Rattle.tl_match.specs.Fits.{fits_all}
use Rattle.tl_match.specs.Front.{front, front_cmp}
use Rattle.tl_match.specs.Least.{IsLeast, fits_some}
use Rattle.tl_rows.specs.Tables.{whole_row}
use Rattle.tl_match.proofs.Least.{least-same}
use Rattle.tl_match.proofs.RowsAlike.{alike-whole}
use Rattle.tl_match.proofs.Skipping.{none-past}
use Rattle.tl_match.proofs.Snoc.{lead-last}
use Rattle.tl_match.proofs.Turns.{least-first, one-less}
use Rattle.tl_match.proofs.WholeRows.{leading-fits}
use Rattle.tl_match.proofs.first_place.put_first_place.Goals as goal

here : (rows : List PlaceRow) (k : _) (row : PlaceRow) → k < length rows → row ≡ get_or rows k row → whole_row row ≡
    get_or (map whole_row rows) k (whole_row row)
here rows k row p is = ap whole_row is ∙ sym (get_or-map whole_row rows k row (whole_row row) p)

inside : (rows : List PlaceRow) (k : _) → k < length rows → k < length (map whole_row rows)
inside rows k p = subst (λ n. k < n) (sym (length-map rows whole_row)) p

pub returns-then-put_place : goal.returns-then-put_place
returns-then-put_place c =
    let parts = c.args.parts.now in
    let rows = c.args.rows.now in
    let k = c.loop-k.k in
    let row = c.place-row.result in
    let new = c.put_place.new.values in
    let m : Match = record { values = new; len = c.args.free } in
    let size = length-take-le c.args.free new (omega (arith, c.put_place.array_long, c.requires.few)) in
    let fit = subst (λ ps. fits_all ps (whole_row row) (take c.args.free new) ≡ true) (lead-last parts _ c.requires.some)
    (c.put_place.ensures.fits c.if-put_place.true) in
    least-same c.args.free (Some m) (λ t. fits_some parts (drop k (map whole_row rows)) t)
    (λ t. fits_some parts (drop c.args.from (map whole_row rows)) t) (λ t st. sym (c.loop-k.invariant.same t))
    (least-first parts c.args.free c.requires.turn c.requires.each c.requires.slots m (map whole_row rows) k (whole_row row)
    (inside rows k (omega (arith, c.loop-k-test.true, c.len.ensures)))
    (here rows k row (omega (arith, c.loop-k-test.true, c.len.ensures)) (c.place-row.ensures _))
    (alike-whole rows c.requires.order) refl size fit)

pub returns-then-is_lt : goal.returns-then-is_lt
unfolding IsLeast
returns-then-is_lt c t size =
    let key : PlaceRow → List Value = λ r. r.args in
    let parts = c.args.parts.now in
    let rows = c.args.rows.now in
    let row = c.place-row.result in
    let lead = take (length parts - 1) parts in
    let less : is_lt (front_cmp (front 0 lead []) row.args) ≡ true = ap (λ r. is_lt (front_cmp (front 0 lead []) r))
    (sym c.place_args.ensures) ∙ (ap is_lt (sym c.order_of_front.ensures) ∙ (sym c.is_lt.ensures ∙ c.if-is_lt.true)) in
    c.loop-k.invariant.same t
    ∙ none-past key whole_row lead parts (leading-fits parts) rows c.loop-k.k row
    (omega (arith, c.loop-k-test.true, c.len.ensures)) c.requires.order
    (subst (λ (r : PlaceRow). is_lt (front_cmp (front 0 lead []) r.args) ≡ true) (c.place-row.ensures _) less) t

pub loop-k-preserved : goal.loop-k-preserved
loop-k-preserved c =
    let parts = c.args.parts.now in
    let rows = c.args.rows.now in
    let k = c.loop-k.k in
    let row = c.place-row.result in
    record {
      within = omega (arith, c.loop-k-test.true, c.len.ensures);
      same = λ t.
          let miss = subst (λ ps. fits_all ps (whole_row row) t ≡ _) (lead-last parts _ c.requires.some)
          (c.put_place.ensures.none c.if-put_place.false t) in
          c.loop-k.invariant.same t
          ∙ one-less parts c.args.free c.requires.turn c.requires.each c.requires.slots (map whole_row rows) k (whole_row row)
          (inside rows k (omega (arith, c.loop-k-test.true, c.len.ensures)))
          (here rows k row (omega (arith, c.loop-k-test.true, c.len.ensures)) (c.place-row.ensures _)) t miss;
    }

pub returns : goal.returns
unfolding IsLeast
returns c t size =
    let rows = c.args.rows.now in
    let l = length-map rows whole_row in
    c.loop-k.invariant.same t ∙ ap (λ ws. fits_some c.args.parts.now ws t)
    (drop_all c.loop-k.k (map whole_row rows) (omega (arith, c.loop-k-test.false, c.len.ensures, l)))

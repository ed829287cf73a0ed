use Rattle.std.proofs.Common.{◌≡◌, ◌+◌, ◌-◌, ◌<◌, List, length, map, take, ap, refl, sym, ◌∙◌, subst, arith, ◌&&◌}
use Rattle.std.proofs.lemmas.List.{get_or-map}
use Rattle.std.proofs.lemmas.List.{length-map}
use Rattle.std.specs.Ordering.{is_lt}
use Rattle.std.specs.declared.cmp.Ordering.TheVariants.{Greater}
use Rattle.tl_syntax.specs.declared.value.Value.{Value}
use Rattle.tl_syntax.specs.Lists.{Each}
use Rattle.tl_rows.specs.declared.table.PlaceRow.{PlaceRow}
use Rattle.tl_rows.specs.Tables.{whole_row}
use Rattle.tl_match.specs.Least.{IsLeast, fits_some, above}
use Rattle.tl_match.specs.Front.{front, front_cmp, known_of}
use Rattle.tl_match.proofs.Least.{least-step}
use Rattle.tl_match.proofs.Skipping.{least-skipped, least-past}
use Rattle.tl_match.proofs.WholeRows.{leading-fits}
use Rattle.tl_match.proofs.next.next_in_places.Goals as goal

pub loop-k-init : goal.loop-k-init
loop-k-init c =
    let key : PlaceRow → List Value = λ r. r.args in
    let parts = c.args.parts.now in
    let lead = take (length parts - 1) parts in
    let rows = c.args.rows.now in
    let before = subst (λ f. Each (λ r. front_cmp f (key r) ≡ Greater) (take c.places_before-k.result rows))
    (ap (front 0 lead) c.values_of.ensures.value) c.places_before-k.ensures.before in
    record {
      within = c.places_before-k.ensures.bound;
      leading = refl;
      least = least-skipped key whole_row lead parts (leading-fits parts) c.args.after.now c.args.free rows c.places_before-k.result before;
    }

pub returns-then-is_past : goal.returns-then-is_past
returns-then-is_past c =
    let key : PlaceRow → List Value = λ r. r.args in
    let parts = c.args.parts.now in
    let lead = take (length parts - 1) parts in
    let rows = c.args.rows.now in
    let best = c.loop-k.best in
    let row = c.place-row.result in
    let past = subst (λ r. is_lt (front_cmp (front 0 lead (known_of best c.args.free)) r) ≡ _)
    (c.place_args.ensures ∙ ap key (c.place-row.ensures _)) (sym c.is_past.ensures ∙ c.if-is_past.true) in
    least-past key whole_row lead parts (leading-fits parts) c.args.after.now best c.args.free rows c.loop-k.k row
    (omega (arith, c.loop-k-test.true, c.len.ensures)) c.requires.order past c.loop-k.invariant.least

pub loop-k-preserved : goal.loop-k-preserved
loop-k-preserved c =
    let parts = c.args.parts.now in
    let rows = c.args.rows.now in
    let row = c.place-row.result in
    let below = subst (λ n. c.loop-k.k < n) (sym (length-map rows whole_row)) (omega (arith, c.loop-k-test.true, c.len.ensures)) in
    let here = get_or-map whole_row rows c.loop-k.k row (whole_row row) (omega (arith, c.loop-k-test.true, c.len.ensures)) ∙
    ap whole_row (sym (c.place-row.ensures _)) in
    record {
      within = omega (arith, c.loop-k-test.true, c.len.ensures);
      leading = refl;
      least = subst (λ b. IsLeast c.args.free (λ t. fits_some parts (take (c.loop-k.k + 1) (map whole_row rows)) t && above c.args.after.now
          c.args.free t) b) (sym c.lesser-best.ensures)
          (least-step parts c.args.free c.args.after.now (map whole_row rows) c.loop-k.k below
          (whole_row row) here c.loop-k.best c.match_place.result c.match_place.ensures c.loop-k.invariant.least);
    }

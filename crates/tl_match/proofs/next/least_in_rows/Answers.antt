use Rattle.std.proofs.Common.{◌≡◌, ◌+◌, ◌<◌, List, length, take, ap, sym, ◌∙◌, subst, arith, ◌&&◌}
use Rattle.std.proofs.lemmas.List.{map-id}
use Rattle.std.specs.Ordering.{is_lt}
use Rattle.std.specs.declared.cmp.Ordering.TheVariants.{Greater}
use Rattle.tl_syntax.specs.declared.value.Value.{Value}
use Rattle.tl_syntax.specs.Lists.{Each, Rises}
use Rattle.tl_rows.specs.Plain.{row_cmp}
use Rattle.tl_match.specs.Least.{IsLeast, fits_some, above}
use Rattle.tl_match.specs.Front.{front, front_cmp, known_of}
use Rattle.tl_match.proofs.Least.{least-step}
use Rattle.tl_match.proofs.Halves.{passed-greater}
use Rattle.tl_match.proofs.Skipping.{least-skipped, least-past}
use Rattle.tl_match.proofs.next.least_in_rows.Goals as goal

pub loop-k-init : goal.loop-k-init
loop-k-init c =
    let same : List Value → List Value = λ r. r in
    let parts = c.args.parts.now in
    let rows = c.args.rows.now in
    let f = front 0 parts c.values_of.result.now in
    let before = subst (λ f. Each (λ r. front_cmp f r ≡ Greater) (take c.rows_before-k.result rows))
    (ap (front 0 parts) c.values_of.ensures.value) (passed-greater f (take c.rows_before-k.result rows) c.rows_before-k.ensures.before)
    in
    record {
      within = c.rows_before-k.ensures.bound;
      least = subst (λ ws. IsLeast c.args.free (λ t. fits_some parts (take c.rows_before-k.result ws) t && above c.args.after.now
          c.args.free t) _) (map-id rows)
          (least-skipped same same parts parts (λ a t h. h) c.args.after.now c.args.free rows c.rows_before-k.result before);
    }

pub returns-then-is_past : goal.returns-then-is_past
returns-then-is_past c =
    let same : List Value → List Value = λ r. r in
    let parts = c.args.parts.now in
    let rows = c.args.rows.now in
    let best = c.loop-k.best in
    let row = c.row-row.result.now in
    let inside : c.loop-k.k < length rows = omega (arith, c.loop-k-test.true, c.len.ensures) in
    let past = subst (λ r. is_lt (front_cmp (front 0 parts (known_of best c.args.free)) r) ≡ _) c.row-row.ensures
    (sym c.is_past.ensures ∙ c.if-is_past.true) in
    subst (λ ws. IsLeast c.args.free (λ t. fits_some parts ws t && above c.args.after.now c.args.free t) best) (map-id rows)
    (least-past same same parts parts (λ a t h. h) c.args.after.now best c.args.free rows c.loop-k.k row inside
    (subst (Rises row_cmp) (sym (map-id rows)) c.requires.order) past
    (subst (λ ws. IsLeast c.args.free (λ t. fits_some parts (take c.loop-k.k ws) t && above c.args.after.now c.args.free t) best)
    (sym (map-id rows)) c.loop-k.invariant.least))

pub loop-k-preserved : goal.loop-k-preserved
loop-k-preserved c =
    let parts = c.args.parts.now in
    let rows = c.args.rows.now in
    let row = c.row-row.result.now in
    let inside : c.loop-k.k < length rows = omega (arith, c.loop-k-test.true, c.len.ensures) in
    record {
      within = omega (arith, inside);
      least = subst (λ b. IsLeast c.args.free (λ t. fits_some parts (take (c.loop-k.k + 1) rows) t && above c.args.after.now c.args.free t)
          b) (sym c.lesser-best.ensures)
          (least-step parts c.args.free c.args.after.now rows c.loop-k.k inside row
          (sym c.row-row.ensures) c.loop-k.best c.match_row.result c.match_row.ensures c.loop-k.invariant.least);
    }

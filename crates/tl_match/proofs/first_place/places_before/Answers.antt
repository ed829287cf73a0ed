use Rattle.std.proofs.Common.{◌≡◌, ◌<◌, ◌+◌, ◌-◌, ◌/◌, List, length, get_or, true, sym, ap, ◌∙◌, arith}
use Rattle.std.specs.Ordering.{is_gt}
use Rattle.tl_syntax.specs.declared.value.Value.{Value}
use Rattle.tl_rows.specs.declared.table.PlaceRow.{PlaceRow}
use Rattle.tl_match.specs.Front.{front, front_cmp}
use Rattle.tl_match.proofs.Skipping.{parted, each-before}
use Rattle.tl_match.proofs.first_place.places_before.Goals as goal

pub loop-low-preserved-then-is_gt : goal.loop-low-preserved-then-is_gt
loop-low-preserved-then-is_gt c =
    let key : PlaceRow → List Value = λ r. r.args in
    let f = front 0 c.args.lead.now c.args.known.now in
    let rows = c.args.rows.now in
    let middle = c.loop-low.low + (c.loop-low.high - c.loop-low.low) / 2 in
    let below : middle < c.loop-low.high = omega (arith, c.loop-low-test.true, c.loop-low.invariant.order) in
    let inside : middle < length rows = omega (arith, c.loop-low.invariant.within, below) in
    record {
      order = omega (arith, below);
      within = c.loop-low.invariant.within;
      before = λ j d p q.
          let here : is_gt (front_cmp f (get_or rows middle d).args) ≡ true =
          ap (λ a. is_gt (front_cmp f a)) (sym (c.args-in-loop-low.ensures d)) ∙
          (ap is_gt (sym c.order_of_front.ensures) ∙ (sym c.is_gt.ensures ∙ c.if-is_gt.true)) in
          parted key f rows c.requires j middle d (omega (arith, q)) inside here;
    }

pub returns-clause-before : goal.returns-clause-before
returns-clause-before c =
    let key : PlaceRow → List Value = λ r. r.args in
    each-before key (front 0 c.args.lead.now c.args.known.now) c.args.rows.now c.loop-low.low
    (omega (arith, c.loop-low.invariant.order, c.loop-low.invariant.within)) c.loop-low.invariant.before

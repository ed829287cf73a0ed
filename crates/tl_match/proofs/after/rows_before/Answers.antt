use Rattle.std.proofs.Common.{◌<◌, ◌+◌, ◌-◌, ◌/◌, ap, sym, ◌∙◌, refl, length, arith}
use Rattle.tl_match.specs.Front.{front, is_passed}
use Rattle.tl_match.proofs.Halves.{passed-up-to, kept-from}
use Rattle.tl_match.proofs.after.rows_before.Goals as goal

pub loop-low-preserved-then-is_passed : goal.loop-low-preserved-then-is_passed
loop-low-preserved-then-is_passed c =
    let middle = c.loop-low.low + (c.loop-low.high - c.loop-low.low) / 2 in
    let below : middle < c.loop-low.high = omega (arith, c.loop-low-test.true, c.loop-low.invariant.order) in
    let inside : middle < length c.args.rows.now = omega (arith, c.loop-low.invariant.within, below) in
    record {
      order = omega (arith, below);
      within = c.loop-low.invariant.within;
      before = passed-up-to c.args.ties (front 0 c.args.lead.now c.args.known.now) c.args.rows.now middle
          (middle + 1) c.row.result.now refl inside c.row.ensures c.requires
          (ap (is_passed c.args.ties) (sym c.order_of_front.ensures) ∙ (sym c.is_passed.ensures ∙ c.if-is_passed.true));
      after = c.loop-low.invariant.after;
    }

pub loop-low-preserved : goal.loop-low-preserved
loop-low-preserved c =
    let middle = c.loop-low.low + (c.loop-low.high - c.loop-low.low) / 2 in
    let below : middle < c.loop-low.high = omega (arith, c.loop-low-test.true, c.loop-low.invariant.order) in
    let inside : middle < length c.args.rows.now = omega (arith, c.loop-low.invariant.within, below) in
    record {
      order = omega arith;
      within = omega (arith, inside);
      before = c.loop-low.invariant.before;
      after = kept-from c.args.ties (front 0 c.args.lead.now c.args.known.now) c.args.rows.now middle c.row.result.now inside c.row.ensures
          c.requires (ap (is_passed c.args.ties) (sym c.order_of_front.ensures) ∙ (sym c.is_passed.ensures ∙ c.if-is_passed.false));
    }

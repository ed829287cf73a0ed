use Rattle.std.proofs.Common.{◌<◌, ◌+◌, ◌-◌, ◌/◌, length, refl, sym, ◌∙◌, arith}
use Rattle.tl_rows.specs.Plain.{row_cmp}
use Rattle.tl_rows.proofs.Narrowing.{all-less, all-greater}
use Rattle.tl_rows.proofs.row_search.find_in.Goals as goal

pub loop-low-preserved-in-Less : goal.loop-low-preserved-in-Less
loop-low-preserved-in-Less c =
    let middle = c.loop-low.low + (c.loop-low.high - c.loop-low.low) / 2 in
    let below : middle < c.loop-low.high = omega (arith, c.loop-low-test.true, c.loop-low.invariant.order) in
    let inside : middle < length c.args.rows.now = omega (arith, c.loop-low.invariant.within, below) in
    record {
      order = omega (arith, below);
      within = c.loop-low.invariant.within;
      before = all-less (λ r. row_cmp r c.args.args.now) c.args.rows.now middle c.row.result.now inside c.row.ensures (middle + 1) refl
          (sym c.order_of.ensures ∙ c.in-Less.is);
      after = c.loop-low.invariant.after;
    }

pub loop-low-preserved : goal.loop-low-preserved
loop-low-preserved c =
    let middle = c.loop-low.low + (c.loop-low.high - c.loop-low.low) / 2 in
    let below : middle < c.loop-low.high = omega (arith, c.loop-low-test.true, c.loop-low.invariant.order) in
    let inside : middle < length c.args.rows.now = omega (arith, c.loop-low.invariant.within, below) in
    record {
      order = omega arith;
      within = omega (arith, inside);
      before = c.loop-low.invariant.before;
      after = all-greater (λ r. row_cmp r c.args.args.now) c.args.rows.now middle c.row.result.now inside c.row.ensures
          (sym c.order_of.ensures ∙ c.in-Greater.is);
    }

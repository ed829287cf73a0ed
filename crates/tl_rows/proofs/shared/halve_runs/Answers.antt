use Rattle.std.proofs.Common.{◌<◌, ◌+◌, ◌-◌, ◌/◌, length, arith}
use Rattle.tl_rows.proofs.Joined.{end-is-place}
use Rattle.tl_rows.proofs.shared.halve_runs.Goals as goal

pub loop-low-preserved-then-runs-middle : goal.loop-low-preserved-then-runs-middle
loop-low-preserved-then-runs-middle c =
    let middle = c.loop-low.low + (c.loop-low.high - c.loop-low.low) / 2 in
    let below : middle < c.loop-low.high = omega (arith, c.loop-low-test.true, c.loop-low.invariant.order) in
    let inside : middle < length c.args.runs.now = omega (arith, c.loop-low.invariant.within, below) in
    let e = end-is-place c.args.runs.now middle c.index-runs-middle.result c.requires.counted inside in
    let t = c.if-runs-middle.true in
    record {
      order = omega (arith, below);
      within = c.loop-low.invariant.within;
      from = omega (arith, e, t);
      to = c.loop-low.invariant.to;
    }

pub loop-low-preserved : goal.loop-low-preserved
loop-low-preserved c =
    let middle = c.loop-low.low + (c.loop-low.high - c.loop-low.low) / 2 in
    let below : middle < c.loop-low.high = omega (arith, c.loop-low-test.true, c.loop-low.invariant.order) in
    let inside : middle < length c.args.runs.now = omega (arith, c.loop-low.invariant.within, below) in
    let e = end-is-place c.args.runs.now middle c.index-runs-middle.result c.requires.counted inside in
    let t = c.if-runs-middle.false in
    record {
      order = omega arith;
      within = omega (arith, inside);
      from = c.loop-low.invariant.from;
      to = omega (arith, e, t);
    }

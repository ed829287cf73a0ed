use Rattle.std.proofs.Common.{◌<◌, ◌+◌, length, true≢false, refl, sym, arith}
use Rattle.tl_rows.proofs.SameParts.{one-differs, one-more-same}
use Rattle.tl_rows.proofs.runs.Runs.has_each_at.Goals as goal

pub returns-then-not-is_same_row : goal.returns-then-not-is_same_row
returns-then-not-is_same_row c =
    let low : c.loop-i.i < length c.args.rows.now = omega (arith, c.loop-i-test.true, c.len.ensures.len) in (
      λ h. absurd (true≢false (sym h)),
      λ same. absurd (one-differs c.args.self.now c.args.rows.now c.args.at c.loop-i.i c.row.result.now c.row-in-loop-i.result.now
          c.is_same_row.result low c.row.ensures c.row-in-loop-i.ensures c.is_same_row.ensures c.if-not-is_same_row.true same),
    )

pub loop-i-preserved : goal.loop-i-preserved
loop-i-preserved c =
    let low : c.loop-i.i < length c.args.rows.now = omega (arith, c.loop-i-test.true, c.len.ensures.len) in
    record {
      within = omega (arith, low);
      same = one-more-same c.args.self.now c.args.rows.now c.args.at c.loop-i.i
          (c.loop-i.i + 1) c.row.result.now c.row-in-loop-i.result.now c.is_same_row.result refl c.requires.bound low c.row.ensures
          c.row-in-loop-i.ensures c.is_same_row.ensures c.if-not-is_same_row.false c.loop-i.invariant.same;
    }

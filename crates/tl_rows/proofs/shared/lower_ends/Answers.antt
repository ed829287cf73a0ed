use Rattle.std.proofs.Common.{◌≡◌, ℕ, ◌-◌, ◌<◌, ◌++◌, suc, map, length, take, drop, get_or, sym, ap, ◌∙◌, arith}
use Rattle.std.proofs.Math.ListN.{set}
use Rattle.std.proofs.lemmas.List.{get_or_default}
use Rattle.tl_rows.specs.declared.shared.Run.{Run}
use Rattle.tl_rows.specs.Runs.{lowered}
use Rattle.tl_rows.proofs.RunEdits.{one-more, not-yet, same-length}
use Rattle.tl_rows.proofs.shared.lower_ends.Goals as goal

pub loop-j-preserved : goal.loop-j-preserved
loop-j-preserved c =
    let xs = c.args.runs.now.items in
    let here = c.loop-j.runs.items in
    let m = c.loop-j.j - 1 in
    let d = c.index_mut.result.now in
    let next : c.loop-j.j ≡ suc m = omega (arith, c.loop-j-test.true) in
    let below : m < length xs = omega (arith, next, c.loop-j.invariant.within) in
    let made : here ≡ take (suc m) xs ++ map lowered (drop (suc m) xs) = c.loop-j.invariant.made ∙
    ap (λ n. take n xs ++ map lowered (drop n xs)) next in
    let inside : m < length here = omega (arith, below, ap length made, same-length lowered xs (suc m)) in
    let old : d ≡ get_or xs m d = c.index_mut.ensures.value ∙ (ap (λ ys. get_or ys m d) made ∙ not-yet lowered xs m d below) in
    let read : c.index.result.now ≡ d = c.index.ensures ∙ (get_or_default here m c.index.result.now d inside ∙
    sym c.index_mut.ensures.value) in
    let with_end : ℕ → Run = λ n. record { rows = d.rows; end = n } in
    let new = ap with_end (c.saturating_sub.ensures ∙ ap (λ (r : Run). r.end - 1) read) ∙ ap lowered old in
    record {
      low = omega (arith, c.loop-j-test.true);
      within = omega (arith, below);
      made = (λ i. set (made i) m (new i)) ∙ one-more lowered xs m d below;
    }

use Rattle.std.proofs.Common.{◌≡◌, ◌+◌, ◌<◌, ◌≤◌, ◌++◌, length, get_or, refl, sym, ap, ◌∙◌, subst, arith, rules}
use Rattle.tl_rows.specs.declared.shared.Run.{Run}
use Rattle.tl_rows.specs.Runs.{between, rows_in, run_place, AreCounted}
use Rattle.tl_rows.proofs.Joined.{run-part, end-is-place, found-end}
use Rattle.tl_rows.proofs.Parts.{grown-between}
use Rattle.tl_rows.proofs.shared.Shared.push_runs.Goals as goal

pub returns-then-not-is_whole-clause-range : goal.returns-then-not-is_whole-clause-range
returns-then-not-is_whole-clause-range c =
    let runs = c.as_slice-runs.result.now in
    let place : c.begin-then-not-is_whole.result ≡ run_place runs c.loop-i.i = c.begin-then-not-is_whole.ensures.place in
    let low : c.args.k ≤ run_place runs c.loop-i.i = c.loop-i.invariant.low in
    let high : run_place runs c.loop-i.i ≤ c.args.to = c.loop-i.invariant.high in
    let within = (run-part runs c.loop-i.i c.index-runs-i.result c.loop-i-test.true).within in
    let all : length (rows_in runs) ≡ length c.args.other.now = ap (λ rs. length (rows_in rs)) c.as_slice-runs.ensures.value ∙
    ap length c.other.view_is in
    (omega (arith, place, low), omega (arith, place, high), omega (arith, place, within, all))

pub loop-i-preserved : goal.loop-i-preserved
loop-i-preserved c =
    let runs = c.as_slice-runs.result.now in
    let all = rows_in runs in
    let i = c.loop-i.i in
    let r : Run = c.index-runs-i-in-loop-i.result in
    let below : i < length runs = c.loop-i-test.true in
    let counted : AreCounted 0 runs = subst (AreCounted 0) (sym c.as_slice-runs.ensures.value) c.other.invariant in
    let far = found-end runs runs i (run_place runs i) r refl counted below refl in
    let end : (get_or runs i c.index-runs-i.result).end ≡ run_place runs (i + 1) =
    end-is-place runs i c.index-runs-i.result counted below in
    let last : c.index-runs-i.result.end ≡ (get_or runs i c.index-runs-i.result).end = ap (λ x. x.end) c.index-runs-i.is in
    let up = c.is_whole.ensures c.if-not-is_whole.false in
    let part = run-part runs i r below in
    let on : run_place runs i ≤ run_place runs (i + 1) = omega (arith, far) in
    let rows : c.in_ok-rows.rows.value ≡ r.rows.value = search rules in
    let run : c.in_ok-rows.rows.value ≡ between all (run_place runs i) (run_place runs (i + 1)) =
    rows ∙ (ap (λ x. x.rows.value) c.index-runs-i-in-loop-i.is ∙ (part.are ∙ ap (between all (run_place runs i)) (sym far))) in
    record {
      within = omega (arith, below);
      low = let low = c.loop-i.invariant.low in omega (arith, low, on);
      high = omega (arith, up, last, end);
      rows = grown-between c.args.self.now c.loop-i.self c.push.new.self all c.args.k (run_place runs i)
          (run_place runs (i + 1)) c.loop-i.invariant.low on c.loop-i.invariant.rows
          (c.in_ok-push.ensures ∙ ap (λ xs. c.loop-i.self ++ xs) run);
    }

use Rattle.std.proofs.Common.{◌≡◌, ◌<◌, ◌+◌, ◌-◌, ◌/◌, [], length, get_or, refl, sym, ap, ◌∙◌, subst, arith, Greater}
use Rattle.tl_rows.specs.Plain.{row_cmp}
use Rattle.tl_rows.specs.Runs.{rows_in, run_place}
use Rattle.tl_rows.proofs.Joined.{found-some, first-of-run}
use Rattle.tl_rows.proofs.PartSearch.{is-after, not-after}
use Rattle.tl_rows.proofs.shared.find_run_for.Goals as goal

pub begins_after-requires : goal.begins_after-requires
begins_after-requires c =
    let at = c.loop-low.low + (c.loop-low.high - c.loop-low.low) / 2 in
    let inside : at < length c.args.runs.now = omega (arith, c.loop-low.invariant.within, c.loop-low-test.true) in
    subst (λ xs. 0 < length xs) (sym c.as_ref.ensures) (found-some c.args.runs.now c.args.runs.now at c.index-runs-middle.result refl
    c.requires.counted inside)

pub loop-low-preserved-then-begins_after : goal.loop-low-preserved-then-begins_after
loop-low-preserved-then-begins_after c =
    let at = c.loop-low.low + (c.loop-low.high - c.loop-low.low) / 2 in
    let inside : at < length c.args.runs.now = omega (arith, c.loop-low.invariant.within, c.loop-low-test.true) in
    let some = found-some c.args.runs.now c.args.runs.now at c.index-runs-middle.result refl c.requires.counted inside in
    let first : get_or (rows_in c.args.runs.now) (run_place c.args.runs.now at) [] ≡ get_or c.as_ref.result.now 0 [] =
    first-of-run c.args.runs.now at c.index-runs-middle.result [] inside some ∙ ap (λ rs. get_or rs 0 []) (sym c.as_ref.ensures) in
    record {
      order = omega (arith, c.loop-low-test.true);
      within = omega (arith, inside);
      before = c.loop-low.invariant.before;
      after = λ _. subst (λ r. row_cmp r c.args.args.now ≡ Greater) (sym first)
          (is-after _ (sym c.begins_after.ensures ∙ c.if-begins_after.true));
    }

pub loop-low-preserved : goal.loop-low-preserved
loop-low-preserved c =
    let at = c.loop-low.low + (c.loop-low.high - c.loop-low.low) / 2 in
    let inside : at < length c.args.runs.now = omega (arith, c.loop-low.invariant.within, c.loop-low-test.true) in
    let some = found-some c.args.runs.now c.args.runs.now at c.index-runs-middle.result refl c.requires.counted inside in
    let first : get_or (rows_in c.args.runs.now) (run_place c.args.runs.now at) [] ≡ get_or c.as_ref.result.now 0 [] =
    first-of-run c.args.runs.now at c.index-runs-middle.result [] inside some ∙ ap (λ rs. get_or rs 0 []) (sym c.as_ref.ensures) in
    record {
      order = omega (arith, c.loop-low-test.true);
      within = c.loop-low.invariant.within;
      before = λ _ g. not-after _ (sym c.begins_after.ensures ∙ c.if-begins_after.false)
          (subst (λ r. row_cmp r c.args.args.now ≡ Greater) first g);
      after = c.loop-low.invariant.after;
    }

use Rattle.std.proofs.Common.{◌∙◌, ◌<◌, ◌≤◌, sym, ap, arith, refl, subst, List}
use Rattle.tl_check.proofs.RunLaws.{kept-part}
use Rattle.tl_check.specs.Kept.{HasPart}
use Rattle.tl_check.specs.Runs.{spread}
use Rattle.tl_check.specs.declared.run.Run.{Run}
use Rattle.tl_check.proofs.runs.truncate.Goals as goal

pub returns : goal.returns
returns c =
    let part = subst (λ (xs : List Run). HasPart xs c.kept_of-kept.result) c.as_slice.ensures.value c.kept_of-kept.ensures.part in
    let some : 0 < c.kept_of-kept.result.part = omega arith in
    ap spread c.truncate-2.ensures.items
    ∙ kept-part c.as_slice.result.now c.args.runs.now.items c.kept_of-kept.result.whole c.kept_of-kept.result.part c.args.count
    c.index-run.result.now _ c.as_slice.ensures.value
    (part some).0 c.index-run.ensures refl refl (subst (λ (r : Run). c.kept_of-kept.result.part ≤ r.count) (sym c.index-run.ensures)
    ((part some).1 c.index-run.result.now)) c.kept_of-kept.ensures.taken

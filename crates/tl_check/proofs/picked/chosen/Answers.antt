use Rattle.std.proofs.Common.{◌+◌, ◌∙◌, ◌++◌, sym, ap, ap₂, drop, replicate, Bool}
use Rattle.tl_check.proofs.CutLaws.{lefts-at, rights-at}
use Rattle.tl_check.proofs.PickedLaws.{chosen-run}
use Rattle.tl_check.proofs.WaitLaws.{step-on}
use Rattle.tl_check.specs.Cuts.{lefts, rights}
use Rattle.tl_check.specs.Picked.{chosen_labels}
use Rattle.tl_check.specs.Runs.{spread}
use Rattle.tl_check.proofs.picked.chosen.Goals as goal

pub loop-cut-preserved : goal.loop-cut-preserved
loop-cut-preserved c =
    let e = c.args.elsewhere in
    let cs = c.args.cuts.now in
    let i = c.loop-cut.cut-index in
    let x = c.cut-item.result in
    step-on (spread c.loop-cut.made.items) (replicate x.count c.choice-truth.result) (spread c.add.new.runs.items)
    (chosen_labels e (lefts (drop i cs)) (rights (drop i cs))) (chosen_labels e (lefts (drop (i + 1) cs)) (rights (drop (i + 1) cs)))
    (chosen_labels e (lefts cs) (rights cs)) c.loop-cut.invariant
    (ap₂ (chosen_labels e) (lefts-at cs i x c.loop-cut-test.true c.cut-item.is) (rights-at cs i x c.loop-cut-test.true c.cut-item.is)
    ∙ (chosen-run e x.count x.left x.right (lefts (drop (i + 1) cs)) (rights (drop (i + 1) cs)) ∙
    ap (λ (b : Bool). replicate x.count b ++ chosen_labels e (lefts (drop (i + 1) cs)) (rights (drop (i + 1) cs)))
    (sym c.choice-truth.ensures)))
    c.in_ok-add.ensures.added

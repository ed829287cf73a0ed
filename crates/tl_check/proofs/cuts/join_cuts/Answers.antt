use Rattle.std.proofs.Common.{◌+◌, ◌∙◌, ◌++◌, sym, ap, ap₂, drop, replicate, Bool}
use Rattle.tl_check.proofs.CutLaws.{lefts-at, rights-at}
use Rattle.tl_check.proofs.WaitLaws.{joined-run, step-on}
use Rattle.tl_check.specs.Cuts.{lefts, rights}
use Rattle.tl_check.specs.Passes.{joined_labels}
use Rattle.tl_check.specs.Runs.{spread}
use Rattle.tl_check.proofs.cuts.join_cuts.Goals as goal

pub loop-cut-preserved : goal.loop-cut-preserved
loop-cut-preserved c =
    let j = c.args.junction in
    let cs = c.args.cuts.now in
    let i = c.loop-cut.cut-index in
    let x = c.cut-item.result in
    step-on (spread c.loop-cut.runs.items) (replicate x.count c.join-truth.result) (spread c.add.new.runs.items)
    (joined_labels j (lefts (drop i cs)) (rights (drop i cs))) (joined_labels j (lefts (drop (i + 1) cs)) (rights (drop (i + 1) cs)))
    (joined_labels j (lefts cs) (rights cs)) c.loop-cut.invariant
    (ap₂ (joined_labels j) (lefts-at cs i x c.loop-cut-test.true c.cut-item.is) (rights-at cs i x c.loop-cut-test.true c.cut-item.is)
    ∙ (joined-run j x.count x.left x.right (lefts (drop (i + 1) cs)) (rights (drop (i + 1) cs)) ∙
    ap (λ (b : Bool). replicate x.count b ++ joined_labels j (lefts (drop (i + 1) cs)) (rights (drop (i + 1) cs)))
    (sym c.join-truth.ensures)))
    c.in_ok-add.ensures.added

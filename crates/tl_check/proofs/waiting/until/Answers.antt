use Rattle.std.proofs.Common.{drop}
use Rattle.tl_check.proofs.CutLaws.{lefts-end, rights-end}
use Rattle.tl_check.proofs.WaitLaws.{until-done}
use Rattle.tl_check.specs.Cuts.{lefts, rights}
use Rattle.tl_check.specs.Passes.{until_labels}
use Rattle.tl_check.specs.Runs.{spread}
use Rattle.tl_check.proofs.waiting.until.Goals as goal

pub returns : goal.returns
returns c =
    let cs = c.args.cuts.now in
    let i = c.loop-cut.cut-index in
    until-done c.loop-cut.waiting (spread c.loop-cut.made.items) (spread c.add.new.runs.items) (lefts (drop i cs)) (rights (drop i cs))
    (until_labels (lefts cs) (rights cs)) c.in_ok-add.ensures.added (lefts-end cs i c.loop-cut-test.false)
    (rights-end cs i c.loop-cut-test.false) c.loop-cut.invariant

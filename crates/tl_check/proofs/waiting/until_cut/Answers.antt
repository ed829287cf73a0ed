use Rattle.std.proofs.Common.{◌∙◌, sym}
use Rattle.tl_check.proofs.WaitLaws.{until-came, until-waited}
use Rattle.tl_check.specs.Runs.{spread}
use Rattle.tl_check.proofs.waiting.until_cut.Goals as goal

pub returns-then-is_decided : goal.returns-then-is_decided
returns-then-is_decided c = λ bs cs. until-came c.args.waiting c.args.cut.count c.args.cut.left c.args.cut.right bs cs
    (spread c.args.made.now.items) (spread c.add.new.runs.items) (spread c.add-then-is_decided.new.runs.items) c.args.cut.some
    (sym c.is_decided.ensures ∙ c.if-is_decided.true) c.in_ok-add.ensures.added c.in_ok-add-2.ensures.added

pub returns : goal.returns
returns c = λ bs cs. until-waited c.args.waiting c.args.cut.count c.args.cut.left c.args.cut.right bs cs (spread c.args.made.now.items)
    (sym c.is_decided.ensures ∙ c.if-is_decided.false)

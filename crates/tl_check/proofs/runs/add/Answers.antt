use Rattle.std.proofs.Common.{◌-◌, ◌∙◌, ap, arith, rules, refl}
use Rattle.tl_check.proofs.RunLaws.{lengthened, spread-push}
use Rattle.tl_check.specs.Runs.{spread}
use Rattle.tl_check.proofs.runs.add.Goals as goal

pub returns-then-count-last-clause-added : goal.returns-then-count-last-clause-added
returns-then-count-last-clause-added c = lengthened c.args.runs.now.items (c.len-len.result - 1) c.args.count c.index-last.result.now _
    (omega (arith, c.len-len.ensures, c.args.runs.now.ok)) c.index-last.ensures (search (rules, c.if-last-truth.true)) refl

pub returns-clause-added : goal.returns-clause-added
returns-clause-added c = ap spread c.in_ok-push.ensures.items ∙ spread-push c.args.runs.now.items _

use Rattle.std.proofs.Common.{◌-◌, length, refl, arith}
use Rattle.tl_lasso.proofs.LoopForms.{split-at}
use Rattle.tl_lasso.proofs.read.split_last.Goals as goal

pub returns-in-len1-up : goal.returns-in-len1-up
returns-in-len1-up c = split-at c.args.forms.now c.last-item.result (length c.args.forms.now - 1)
    (omega (arith, c.in-len1-up.len_at_least)) refl c.last-item.is

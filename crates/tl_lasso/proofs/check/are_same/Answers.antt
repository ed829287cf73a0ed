use Rattle.std.proofs.Common.{sym, ◌∙◌}
use Rattle.tl_terms.proofs.SameWorlds.{world-tells}
use Rattle.tl_lasso.proofs.check.are_same.Goals as goal

pub returns : goal.returns
returns c =
    let tells = world-tells c.args.left.now c.args.right.now in
    (λ h. tells.0 (sym c.eq.ensures ∙ h), λ h. c.eq.ensures ∙ tells.1 h)

use Rattle.std.proofs.Common.{sym, ◌∙◌}
use Rattle.tl_syntax.proofs.Plain.{value-tells}
use Rattle.tl_check.proofs.same_places.is_same.Goals as goal

pub returns : goal.returns
returns c =
    let tells = value-tells c.args.left c.args.right in
    (λ h. tells.0 (sym c.eq.ensures ∙ h), λ h. c.eq.ensures ∙ tells.1 h)

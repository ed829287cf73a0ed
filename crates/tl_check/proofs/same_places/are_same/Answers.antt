use Rattle.std.proofs.Common.{sym, ◌∙◌}
use Rattle.tl_syntax.proofs.Plain.{list-tells, value-tells}
use Rattle.tl_syntax.specs.DerivedTests.{value_eq}
use Rattle.tl_check.proofs.same_places.are_same.Goals as goal

pub returns : goal.returns
returns c =
    let tells = list-tells value_eq value-tells c.args.left.now c.args.right.now in
    (λ h. tells.0 (sym c.eq.ensures ∙ h), λ h. c.eq.ensures ∙ tells.1 h)

use Rattle.std.proofs.Common.{◌∙◌, sym}
use Rattle.tl_syntax.proofs.FormulaSame.{formulas-same, formulas_eq}
use Rattle.tl_syntax.proofs.formula.Formulas.is_same.Goals as goal

pub returns : goal.returns
unfolding formulas_eq
returns c =
    let same = formulas-same c.args.self.now c.args.list.now in record
    { same = (λ h. same.0 (sym c.eq.ensures ∙ h), λ e. c.eq.ensures ∙ same.1 e) }

use Rattle.std.proofs.Common.{◌∙◌, sym}
use Rattle.tl_syntax.proofs.FormulaSame.{formula-same, formula_eq}
use Rattle.tl_syntax.proofs.formula.Formula.is_same.Goals as goal

pub returns : goal.returns
unfolding formula_eq
returns c =
    let same = formula-same c.args.self.now c.args.other.now in record
    { same = (λ h. same.0 (sym c.eq.ensures ∙ h), λ e. c.eq.ensures ∙ same.1 e) }

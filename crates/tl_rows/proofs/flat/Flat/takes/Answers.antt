use Rattle.std.proofs.Common.{List, ◌*◌, eqb-true, sym, ap, ◌∙◌, subst}
use Rattle.tl_syntax.specs.declared.value.Value.{Value}
use Rattle.tl_rows.specs.Cuts.{even_rows, HaveWidth}
use Rattle.tl_rows.proofs.EvenRows.{have-width}
use Rattle.tl_rows.proofs.flat.Flat.takes.Goals as goal

pub returns-else-self-eq0 : goal.returns-else-self-eq0
returns-else-self-eq0 c e =
    let is = eqb-true c.self.inside.width c.args.width e in
    let P : List (List Value) → Type 0 = HaveWidth c.args.width in
    subst P (ap (λ w. even_rows w c.self.inside.count c.self.inside.values.items) (sym is) ∙ c.self.view_is)
    (have-width c.args.width c.self.inside.count c.self.inside.values.items
    (ap (λ w. w * c.self.inside.count) (sym is) ∙ c.self.invariant.0))

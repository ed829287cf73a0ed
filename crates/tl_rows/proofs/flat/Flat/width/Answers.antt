use Rattle.std.proofs.Common.{List, subst}
use Rattle.tl_syntax.specs.declared.value.Value.{Value}
use Rattle.tl_rows.specs.Cuts.{HaveWidth}
use Rattle.tl_rows.proofs.EvenRows.{have-width}
use Rattle.tl_rows.proofs.flat.Flat.width.Goals as goal

pub returns : goal.returns
returns c =
    let P : List (List Value) → Type 0 = HaveWidth c.self.inside.width in
    subst P c.self.view_is (have-width c.self.inside.width c.self.inside.count c.self.inside.values.items c.self.invariant.0)

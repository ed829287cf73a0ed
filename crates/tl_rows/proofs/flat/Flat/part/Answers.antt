use Rattle.std.proofs.Common.{◌-◌, List, length, sym, ap, ◌∙◌, subst, arith}
use Rattle.tl_syntax.specs.declared.value.Value.{Value}
use Rattle.tl_rows.specs.Cuts.{even_rows, HaveWidth}
use Rattle.tl_rows.proofs.EvenRows.{have-width, many}
use Rattle.tl_rows.proofs.flat.Flat.part.Goals as goal

pub invariant_of-result : goal.invariant_of-result
invariant_of-result c =
    let w = c.self.inside.width in
    let n = c.self.inside.count in
    let xs = c.self.inside.values.items in
    let P : List (List Value) → Type 0 = HaveWidth w in
    let wide : HaveWidth w c.args.self.now = subst P c.self.view_is (have-width w n xs c.self.invariant.0) in
    let all = many w n xs c.args.self.now c.self.invariant.0 c.self.view_is in (
      c.values_of.ensures.size w wide ∙ sym (ap length c.in_ok-from_slice.ensures.items),
      omega (arith, all, c.requires.bound, c.self.invariant.1),
    )

pub returns : goal.returns
returns c =
    let w = c.self.inside.width in
    let P : List (List Value) → Type 0 = HaveWidth w in
    let wide : HaveWidth w c.args.self.now = subst P c.self.view_is (have-width w c.self.inside.count c.self.inside.values.items
    c.self.invariant.0) in
    ap (even_rows w (c.args.to - c.args.from)) c.in_ok-from_slice.ensures.items ∙ c.values_of.ensures.rows w wide

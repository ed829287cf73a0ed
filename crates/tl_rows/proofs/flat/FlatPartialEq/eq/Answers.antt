use Rattle.std.proofs.Common.{◌≡◌, ◌<◌, ◌*◌, List, length, sym, ap, ◌∙◌, subst, arith}
use lib.Pointwise.{pointwise}
use Rattle.tl_syntax.specs.declared.value.Value.{Value}
use Rattle.tl_syntax.specs.DerivedTests.{value_eq}
use Rattle.tl_syntax.proofs.Plain.{list-tells, value-tells}
use Rattle.tl_syntax.proofs.Telling.{told_alike}
use Rattle.tl_rows.specs.Cuts.{even_rows, HaveWidth}
use Rattle.tl_rows.specs.RowTests.{rows_eq, rows-tell}
use Rattle.tl_rows.proofs.EvenRows.{aligned, cuts-back, have-width, many, width-of}
use Rattle.tl_rows.proofs.SameParts.{rows-differ}
use Rattle.tl_rows.proofs.flat.FlatPartialEq.eq.Goals as goal
use Rattle.tl_rows.proofs.flat.FlatPartialEq.eq.Goals.{else-self-gt0-via-then-self-gt0+else-self-other-2, else-self-gt0-via-else-self-gt0}

pub returns-then-self-other : goal.returns-then-self-other
returns-then-self-other c =
    let n = many c.self.inside.width c.self.inside.count c.self.inside.values.items c.args.self.now c.self.invariant.0 c.self.view_is in
    let m = many c.other.inside.width c.other.inside.count c.other.inside.values.items c.args.other.now c.other.invariant.0 c.other.view_is
    in
    rows-differ c.args.self.now c.args.other.now (λ is. c.if-self-other.true (n ∙ (ap length is ∙ sym m)))

pub returns-then-self-other-2 : goal.returns-then-self-other-2
returns-then-self-other-2 c =
    let P : List (List Value) → Type 0 = HaveWidth c.other.inside.width in
    let wide : HaveWidth c.other.inside.width c.args.other.now = subst P c.other.view_is
    (have-width c.other.inside.width c.other.inside.count c.other.inside.values.items c.other.invariant.0) in
    rows-differ c.args.self.now c.args.other.now (λ is.
    c.if-self-other-2.true (width-of c.self.inside.width c.self.inside.count c.self.inside.values.items c.args.self.now c.self.invariant.0
    c.self.view_is c.other.inside.width (subst P (sym is) wide) (omega arith)))

pub returns : goal.returns
returns c =
    let w = c.self.inside.width in
    let u = c.other.inside.width in
    let n = c.self.inside.count in
    let m = c.other.inside.count in
    let xs = c.self.inside.values.items in
    let ys = c.other.inside.values.items in
    let few : n ≡ m = omega (arith, c.if-self-other.false) in
    let same : 0 < n → w ≡ u = elim c.else-self-gt0.branch [
      | else-self-gt0-via-then-self-gt0+else-self-other-2 b ↦ λ p. omega (arith, b.if-self-other-2.false)
      | else-self-gt0-via-else-self-gt0 b ↦ λ p. absurd (omega (arith, b.if-self-gt0.false, p))
    ] in
    let a = aligned w u n xs c.self.invariant.0 same in
    let size : u * n ≡ length ys = ap (λ k. u * k) few ∙ c.other.invariant.0 in
    let test : c.is_same_row.result ≡ pointwise value_eq xs ys = c.is_same_row.ensures ∙ λ i.
    pointwise value_eq (c.as_slice.ensures.value i) (c.as_slice-2.ensures.value i) in
    told_alike {P = c.args.self.now ≡ c.args.other.now} c.is_same_row.result (rows_eq c.args.self.now c.args.other.now) (
      λ t. let values = (list-tells value_eq value-tells xs ys).0 (sym test ∙ t) in
          sym c.self.view_is ∙ (a.0 ∙ ((λ i. even_rows u (few i) (values i)) ∙ c.other.view_is)),
      λ is. let rows : even_rows u n xs ≡ even_rows u n ys = sym a.0 ∙
          (c.self.view_is ∙ (is ∙ (sym c.other.view_is ∙ ap (λ k. even_rows u k ys) (sym few)))) in
          test ∙ (list-tells value_eq value-tells xs ys).1 (cuts-back u n xs ys a.1 size rows),
    ) (rows-tell c.args.self.now c.args.other.now)

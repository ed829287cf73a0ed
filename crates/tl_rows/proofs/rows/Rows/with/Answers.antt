use Rattle.std.proofs.Common.{sym, ap, ◌∙◌, subst}
use Rattle.std.specs.List.{insert}
use Rattle.tl_rows.proofs.RowCodes.{code-added}
use Rattle.tl_rows.specs.Second.{IsKept}
use Rattle.tl_rows.proofs.rows.Rows.with.Goals as goal

pub invariant_of-result : goal.invariant_of-result
invariant_of-result c = (
  code-added c.self.inside.code c.code_of_row.result c.args.k c.self.inside.runs c.in_ok-with.field-0 c.args.row.now c.self.invariant.0
      c.code_of_row.ensures c.in_ok-with.ensures,
  subst (λ rows. IsKept rows c.in_ok-with-2.field-0) (sym c.in_ok-with.ensures)
      (c.in_ok-with-2.ensures c.self.inside.runs c.args.k c.self.invariant.1),
)

pub returns : goal.returns
returns c = c.in_ok-with.ensures ∙ ap (λ xs. insert xs c.args.k c.args.row.now) c.self.view_is

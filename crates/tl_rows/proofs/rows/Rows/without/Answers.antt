use Rattle.std.proofs.Common.{◌<◌, ◌≤◌, ◌^◌, length, sym, ap, ◌∙◌, subst, arith, rules}
use Rattle.std.specs.List.{remove}
use Rattle.tl_rows.proofs.RowCodes.{code-removed}
use Rattle.tl_rows.specs.Second.{IsKept}
use Rattle.tl_rows.proofs.rows.Rows.without.Goals as goal

pub invariant_of-result : goal.invariant_of-result
invariant_of-result c =
    let fits : c.code_of_row.result ≤ 2 ^ 64 = first_of (omega arith, search rules) in
    let within = subst (λ xs. c.args.k < length xs) (sym c.self.view_is) c.requires in (
      code-removed c.self.inside.code c.code_of_row.result c.args.k c.self.inside.runs c.in_ok-without.field-0 c.row-2.result.now
          c.self.invariant.0 c.code_of_row.ensures fits c.row-2.ensures within c.in_ok-without.ensures,
      subst (λ rows. IsKept rows c.in_ok-without-2.field-0) (sym c.in_ok-without.ensures)
          (c.in_ok-without-2.ensures c.self.inside.runs c.args.k within c.row.ensures c.self.invariant.1),
    )

pub returns : goal.returns
returns c = c.in_ok-without.ensures ∙ ap (λ xs. remove xs c.args.k) c.self.view_is

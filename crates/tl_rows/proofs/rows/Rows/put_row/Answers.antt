use Rattle.std.proofs.Common.{sym, subst}
use Rattle.tl_rows.proofs.RowCodes.{code-added}
use Rattle.tl_rows.specs.Second.{IsKept}
use Rattle.tl_rows.proofs.rows.Rows.put_row.Goals as goal

pub invariant_of-self-2 : goal.invariant_of-self-2
invariant_of-self-2 c =
    let kept = subst (IsKept c.self.inside.runs) (sym c.replace.ensures.value) c.self.invariant.1 in (
      code-added c.self.inside.code c.code_of_row.result c.args.k c.self.inside.runs c.put_row-2.new.self c.args.row.now c.self.invariant.0
          c.code_of_row.ensures c.in_ok-put_row.ensures.all,
      subst (λ rows. IsKept rows c.in_ok-second.second) (sym c.in_ok-put_row.ensures.all)
          (c.in_ok-second.ensures c.self.inside.runs c.args.k kept),
    )

use Rattle.std.proofs.Common.{◌++◌, sym, ap, ◌∙◌}
use Rattle.tl_rows.specs.RowTests.{rows-tell}
use Rattle.tl_known.specs.Unchanged.{row_keys}
use Rattle.tl_known.proofs.Unchanged.{same-alike}
use Rattle.tl_known.proofs.tables_beside.is_table_beside.Goals as goal

pub returns-else-has_pred-2 : goal.returns-else-has_pred-2
returns-else-has_pred-2 c = λ t. same-alike (c.args.dels.now ++ c.args.adds.now) _ _
    (ap (row_keys c.args.pred) ((rows-tell c.args.rows.now c.args.others.now).0 (sym c.eq.ensures ∙ t)))

use Rattle.std.proofs.Common.{List, map, ap, ◌∙◌}
use Rattle.std.specs.List.{insert}
use Rattle.tl_syntax.specs.declared.value.Value.{Value}
use Rattle.tl_rows.specs.declared.named.Named.{Named}
use Rattle.tl_rows.specs.Tables.{fact_row, fact_table, fact_tables}
use Rattle.tl_rows.proofs.Exchanged.{map-same-at}
use Rattle.tl_rows.proofs.kept.keep_in_table.Goals as goal

pub returns : goal.returns
returns c =
    let old = c.remove-old.result in
    let fresh : Named (List (List Value)) = record { name = old.name; rows = c.in_ok-rows.rows } in
    ap fact_tables (c.in_ok-insert.ensures.items ∙ ap (λ ts. insert ts c.args.i fresh) c.remove-old.ensures.items)
    ∙ map-same-at fact_table c.args.tables.now.items c.args.i fresh old c.requires
    ((λ j. (old.name, map fact_row (c.in_ok-rows.ensures j))) ∙ ap fact_table c.remove-old.ensures.value)

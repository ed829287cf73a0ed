-- The rows of a table rise.
use Rattle.std.proofs.Common.{List, map, T, subst}
use Rattle.std.specs.FinMap as dict
use Rattle.tl_syntax.specs.declared.value.Value.{Value}
use Rattle.tl_syntax.specs.Lists.{Rises}
use Rattle.tl_terms.proofs.TuplesRise.{keys-rise}
use Rattle.tl_rows.specs.declared.table.PlaceRow.{PlaceRow}
use Rattle.tl_rows.specs.Plain.{row_cmp}
use Rattle.tl_rows.specs.Tables.{fact_row, place_row}
use Rattle.tl_rows.proofs.Lent.{args-of, bare}

pub fact-rows-rise : (rows : List (List Value)) → T (dict.is_sorted row_cmp (map fact_row rows)) → Rises row_cmp rows
fact-rows-rise rows h = subst (Rises row_cmp) (bare rows) (keys-rise row_cmp (map fact_row rows) h)

pub place-rows-rise : (rows : List PlaceRow) → T (dict.is_sorted row_cmp (map place_row rows)) → Rises row_cmp (map (λ r. r.args) rows)
place-rows-rise rows h = subst (Rises row_cmp) (args-of rows) (keys-rise row_cmp (map place_row rows) h)

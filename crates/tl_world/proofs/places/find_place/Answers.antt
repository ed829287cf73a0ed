use Rattle.std.proofs.Common.{subst}
use Rattle.std.specs.List.Sorted.{IsBinarySearchResult}
use Rattle.tl_rows.specs.declared.table.PlaceRow.{PlaceRow}
use Rattle.tl_rows.specs.Tables.{row_cmp}
use Rattle.tl_rows.proofs.PlaceLists.{search-mapped}
use Rattle.tl_world.proofs.places.find_place.Goals as goal

pub returns-clause-place : goal.returns-clause-place
returns-clause-place c = search-mapped (λ (r : PlaceRow). r.args) c.args.args.now c.args.rows.now c.find_row.result
    (subst (λ xs. IsBinarySearchResult (λ r. row_cmp r c.args.args.now) xs c.find_row.result) c.all_args.ensures c.find_row.ensures.place)

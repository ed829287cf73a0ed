use Rattle.std.proofs.Common.{map, ap, ◌∙◌}
use Rattle.tl_rows.specs.declared.table.PlaceRow.{PlaceRow}
use Rattle.tl_rows.proofs.PlaceLists.{all-args}
use Rattle.tl_rows.proofs.table.PlaceRows.all_args.Goals as goal

pub returns : goal.returns
returns c = c.as_ref.ensures ∙ (all-args c.self.inside.args.value c.self.inside.values.items c.self.invariant.0 ∙
    ap (map (λ (r : PlaceRow). r.args)) c.self.view_is)

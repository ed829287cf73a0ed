use Rattle.std.proofs.Common.{[], List, ap, sym, ◌∙◌}
use Rattle.std.specs.FinMap as dict
use Rattle.tl_syntax.specs.declared.value.Value.{Value}
use Rattle.tl_syntax.specs.Keys.{key_cmp}
use Rattle.tl_syntax.proofs.TotalOrders.{key_total, key_ties}
use Rattle.tl_terms.specs.ProblemMeaning.{world_of}
use Rattle.tl_rows.specs.declared.named.Named.{Named}
use Rattle.tl_rows.specs.declared.table.PlaceRow.{PlaceRow}
use Rattle.tl_rows.specs.Tables.{fact_tables, place_tables, set_of, map_of}
use Rattle.tl_rows.proofs.Lookup.{get-map_of}
use Rattle.tl_world.proofs.world.World.new.Goals as goal

pub returns : goal.returns
unfolding world_of
returns c =
    let facts = ap (λ (ts : List (Named (List (List Value)))). set_of (fact_tables ts)) c.new.ensures.items in
    let places = ap (λ (ts : List (Named (List PlaceRow))). map_of (place_tables ts)) c.new-2.ensures.items
    ∙ dict.same_map key_total key_ties (map_of []) dict.empty (λ k. get-map_of [] k (tt, tt) ∙ sym (dict.get-empty key_cmp k)) in
    λ i. record { facts = (c.whole.ensures.facts ∙ facts) i; places = (c.whole.ensures.places ∙ places) i }

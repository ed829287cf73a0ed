use Rattle.std.proofs.Common.{◌≡◌, map, ap, ◌∙◌, subst}
use Rattle.std.specs.Prelude.{OnOk}
use Rattle.tl_syntax.specs.Keys.{place_entry}
use Rattle.tl_terms.specs.Step.{overwritten}
use Rattle.tl_rows.specs.Tables.{place_tables, map_of}
use Rattle.tl_world.proofs.Falling.{overwritten-stable}
use Rattle.tl_world.proofs.places.change_places.Goals as goal

pub returns-in_ok-sorted-clause-places : goal.returns-in_ok-sorted-clause-places
returns-in_ok-sorted-clause-places c =
    let m = map_of (place_tables c.args.tables.now.items) in
    let same = ap (λ ps. overwritten m (map place_entry ps)) c.as_slice.ensures.value ∙
    overwritten-stable m c.args.sets.now c.in_ok-sorted.sorted.items c.in_ok-sorted.ensures in
    subst (λ t. OnOk c.with_places-else-sets-lt-MANY.result (map_of (place_tables c.with_places-else-sets-lt-MANY.new.tables.items) ≡ t))
    same c.with_places-else-sets-lt-MANY.ensures.places

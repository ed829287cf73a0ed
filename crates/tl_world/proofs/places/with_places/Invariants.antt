use Rattle.std.proofs.Common.{◌≡◌, ◌≤◌, length, drop, map}
use Rattle.tl_terms.specs.Step.{overwritten}
use Rattle.tl_rows.specs.Tables.{InOrder, place_tables, map_of}
use Rattle.tl_syntax.specs.Keys.{place_entry}
use Rattle.tl_world.proofs.places.with_places.Given as goal

abbrev pub invariant-loop-k : goal.invariant-loop-k
invariant-loop-k l = record {
  within : l.k ≤ length l.sets;
  order : InOrder (place_tables l.tables.items);
  now : map_of (place_tables l.tables.items) ≡ overwritten (map_of (place_tables l.initial.tables.items))
      (map place_entry (drop l.k l.sets));
}

abbrev pub decreases-loop-k : goal.decreases-loop-k
decreases-loop-k l = l.k

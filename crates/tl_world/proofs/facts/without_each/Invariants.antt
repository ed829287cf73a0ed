use Rattle.std.proofs.Common.{◌≡◌, ◌≤◌, length, drop, map}
use Rattle.tl_terms.specs.Step.{without_all}
use Rattle.tl_rows.specs.Tables.{InOrder, fact_tables, set_of}
use Rattle.tl_syntax.specs.Keys.{fact_key}
use Rattle.tl_world.proofs.facts.without_each.Given as goal

abbrev pub invariant-loop-i : goal.invariant-loop-i
invariant-loop-i l = record {
  within : l.i ≤ length l.dels;
  order : InOrder (fact_tables l.tables.items);
  now : set_of (fact_tables l.tables.items) ≡ without_all (set_of (fact_tables l.initial.tables.items)) (map fact_key (drop l.i l.dels));
}

abbrev pub decreases-loop-i : goal.decreases-loop-i
decreases-loop-i l = l.i

use Rattle.std.proofs.Common.{◌≡◌, ◌≤◌, length, drop, map}
use Rattle.tl_terms.specs.Step.{with_all}
use Rattle.tl_rows.specs.Tables.{InOrder, fact_tables, set_of}
use Rattle.tl_syntax.specs.Keys.{fact_key}
use Rattle.tl_world.proofs.facts.with_each.Given as goal

abbrev pub invariant-loop-j : goal.invariant-loop-j
invariant-loop-j l = record {
  within : l.j ≤ length l.adds;
  order : InOrder (fact_tables l.tables.items);
  now : set_of (fact_tables l.tables.items) ≡ with_all (set_of (fact_tables l.initial.tables.items)) (map fact_key (drop l.j l.adds));
}

abbrev pub decreases-loop-j : goal.decreases-loop-j
decreases-loop-j l = l.j

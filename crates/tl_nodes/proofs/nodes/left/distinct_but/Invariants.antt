use Rattle.std.proofs.Common.{◌≡◌, [], filter, not, nat_eq, take}
use Rattle.indexmap.specs.IndexSet.{insert_all}
use Rattle.tl_nodes.proofs.nodes.left.distinct_but.Given as goal

abbrev pub invariant-loop-id : goal.invariant-loop-id
invariant-loop-id l = l.kept.keys ≡ insert_all nat_eq [] (filter (λ i. not (nat_eq i l.unit)) (take l.id-index l.ids))

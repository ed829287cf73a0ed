use Rattle.tl_run.proofs.TrueTraces.{breadth_told, depth_told}
use Rattle.tl_run.proofs.commands.searching.searched.Goals as goal

pub search-requires : goal.search-requires
search-requires g c =
    let limits = c.requires.limits in
    record { empty = c.requires.empty; within = limits.within; some_nodes = limits.some; nodes = limits.nodes }

pub returns-in-Breadth-clause-trace : goal.returns-in-Breadth-clause-trace
returns-in-Breadth-clause-trace g c =
    let told = c.search.ensures in
    breadth_told c.kept_pairs_have_events.ensures c.pair_goes_on.ensures c.false_residual_begins_no_satisfying_run.ensures c.args.search _
    c.args.watch _ _ _ c.search.result c.in-Breadth.is told.outcome told.reported told.first told.pruned told.ends

pub returns-clause-trace : goal.returns-clause-trace
returns-clause-trace g c =
    let told = c.search-in-Depth.ensures in
    depth_told c.kept_pairs_have_events.ensures c.false_residual_begins_no_satisfying_run.ensures c.args.search _ c.args.watch _
    c.search-in-Depth.result c.in-Depth.is told.outcome told.reported told.told told.first told.pruned told.ends

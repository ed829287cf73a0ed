use Rattle.tl_breadth.proofs.Reporting.{ticked-whole}
use Rattle.tl_search.proofs.HistoryLaws.{history-prunes-rightly, history-begins}
use Rattle.tl_breadth.proofs.Calm.{reported-history, calm-fault}
use Rattle.tl_breadth.proofs.breadth.search.Goals as goal

pub returns-in-Ok-clause-pruned : goal.returns-in-Ok-clause-pruned
returns-in-Ok-clause-pruned g c = history-prunes-rightly _ c.args.watch _ _
    (reported-history _ c.args.within _ c.args.steps.now _ _ c.outcome.new.steps c.in-Ok.outcome c.in-Ok.ensures.reported)

pub returns-in-Ok-clause-first : goal.returns-in-Ok-clause-first
returns-in-Ok-clause-first g c = history-begins _ c.args.watch _ _ (reported-history _ c.args.within _ c.args.steps.now _ _
    c.outcome.new.steps c.in-Ok.outcome c.in-Ok.ensures.reported)

pub returns-in-Err-clause-calm : goal.returns-in-Err-clause-calm
returns-in-Err-clause-calm g c calm few = calm-fault _ c.args.within _ calm c.in-Err.ensures.fault

pub returns-in-Ok-clause-steps : goal.returns-in-Ok-clause-steps
returns-in-Ok-clause-steps g c = ticked-whole _ _ c.args.watch _ _ _ _ c.in-Ok.outcome c.in-Ok.ensures.reported

pub returns-in-Ok-clause-named : goal.returns-in-Ok-clause-named
returns-in-Ok-clause-named g c = record { plan = c.in-Ok.ensures.plan_named; events = c.in-Ok.ensures.events_named }

pub outcome-requires-clause-nodes : goal.outcome-requires-clause-nodes
outcome-requires-clause-nodes g c = c.requires.some_nodes

pub returns-in-Ok-clause-outcome : goal.returns-in-Ok-clause-outcome
returns-in-Ok-clause-outcome g c = c.in-Ok.ensures.outcome

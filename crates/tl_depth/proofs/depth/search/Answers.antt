use Rattle.tl_search.proofs.HistoryLaws.{history-prunes-rightly, history-begins}
use Rattle.tl_depth.proofs.Histories.{calm-fault}
use Rattle.tl_depth.proofs.depth.search.Goals as goal

pub returns-in-Ok-clause-first : goal.returns-in-Ok-clause-first
returns-in-Ok-clause-first g c = history-begins _ c.args.watch _ _ c.in-Ok.ensures.history

pub returns-in-Ok-clause-pruned : goal.returns-in-Ok-clause-pruned
returns-in-Ok-clause-pruned g c = history-prunes-rightly _ c.args.watch _ _ c.in-Ok.ensures.history

pub returns-in-Err-clause-calm : goal.returns-in-Err-clause-calm
returns-in-Err-clause-calm g c calm few = calm-fault _ c.args.within _ calm c.in-Err.ensures.fault

pub returns-in-Ok-clause-named : goal.returns-in-Ok-clause-named
returns-in-Ok-clause-named g c = record { plan = c.in-Ok.ensures.plan_named; events = c.in-Ok.ensures.events_named }

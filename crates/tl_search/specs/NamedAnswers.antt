-- The actions that a search gives out are named in the problem of its task.
use Rattle.std.specs.Prelude.{List, length, Option, Some, None}
use Rattle.tl_syntax.specs.Lists.{Each}
use Rattle.tl_syntax.specs.Named.{ValueIsNamed}
use Rattle.tl_syntax.specs.declared.action.Action.{Action}
use Rattle.tl_world.specs.declared.task.Task.{Task}
use Rattle.tl_search.specs.Calls.{AreNamedIn}
use Rattle.tl_search.specs.declared.event.Event.{Event}
use Rattle.tl_search.specs.declared.event.Event.TheVariants as event
use Rattle.tl_search.specs.declared.fault.SearchFault.{SearchFault}
use Rattle.tl_search.specs.declared.fault.SearchFault.TheVariants as fault
use Rattle.tl_search.specs.declared.outcome.Outcome.{Outcome}
use Rattle.tl_search.specs.declared.outcome.Outcome.TheVariants as outcome

-- the arguments of the action are
abbrev pub IsNamedIn : Task → Action → Type 0
IsNamedIn task a = Each (ValueIsNamed (length task.problem.names)) a.args

-- those of the plan are, where there is one
abbrev pub OutcomeIsNamed : Task → Outcome → Type 0
OutcomeIsNamed task (outcome.Plan plan) = AreNamedIn task plan
OutcomeIsNamed task outcome.NoPlan = Unit {0}
OutcomeIsNamed task outcome.NoneWithin = Unit {0}
OutcomeIsNamed task outcome.Spent = Unit {0}

-- and so, where the search ends now
abbrev pub EndIsNamed : Task → Option Outcome → Type 0
EndIsNamed task None = Unit {0}
EndIsNamed task (Some o) = OutcomeIsNamed task o

-- those of the path to an operation past range are
abbrev pub FaultIsNamed : Task → SearchFault → Type 0
FaultIsNamed task (fault.Range path note) = AreNamedIn task path
FaultIsNamed task fault.NoMemory = Unit {0}

-- the action of the event is
abbrev pub EventIsNamed : Task → Event → Type 0
EventIsNamed task event.RootKept = Unit {0}
EventIsNamed task event.RootPruned = Unit {0}
EventIsNamed task (event.Kept j a k) = IsNamedIn task a
EventIsNamed task (event.Seen j a k) = IsNamedIn task a
EventIsNamed task (event.Pruned j a) = IsNamedIn task a

-- those of all events are
abbrev pub EventsAreNamed : Task → List Event → Type 0
EventsAreNamed task events = Each (EventIsNamed task) events

-- Actions that are given out stay named.
use Rattle.std.proofs.Common.{◌≡◌, ℕ, List, [], ◌∷◌, ◌++◌, Bool, true, false, sym, subst}
use Rattle.tl_syntax.specs.declared.action.Action.{Action}
use Rattle.tl_syntax.proofs.ListLaws.{Each-append}
use Rattle.tl_world.specs.declared.task.Task.{Task}
use Rattle.tl_search.specs.Calls.{AreNamedIn}
use Rattle.tl_search.specs.Events.{event_of, events_after}
use Rattle.tl_search.specs.NamedAnswers.{IsNamedIn, EventIsNamed, EventsAreNamed}
use Rattle.tl_search.specs.declared.arrival.Arrival.{Arrival}
use Rattle.tl_search.specs.declared.arrival.Arrival.TheVariants as arrival
use Rattle.tl_search.specs.declared.event.Event.{Event}

pub event-named : (task : Task) (at : ℕ) (a : Action) (r : Arrival) → IsNamedIn task a → EventIsNamed task (event_of at a r)
event-named task at a arrival.Pruned h = h
event-named task at a (arrival.Seen k) h = h
event-named task at a (arrival.Fresh k) h = h

-- one more event, where events are watched
pub events-named : (task : Task) (watch : Bool) (events later : List Event) (e : Event) → EventsAreNamed task events → EventIsNamed task e →
    later ≡ events_after watch events e → EventsAreNamed task later
events-named task true events later e h k is = subst (EventsAreNamed task) (sym is)
    ((Each-append (EventIsNamed task) events (e ∷ [])).1 (h, (k, tt)))
events-named task false events later e h k is = subst (EventsAreNamed task) (sym is) h

-- one more action
pub path-named : (task : Task) (path : List Action) (a : Action) → AreNamedIn task path → IsNamedIn task a →
    AreNamedIn task (path ++ a ∷ [])
path-named task path a h k = (Each-append (IsNamedIn task) path (a ∷ [])).1 (h, (k, tt))

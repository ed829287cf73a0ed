-- What the parts of a step do to the stack and to the events.
use Rattle.std.specs.Prelude.{◌≡◌, ◌<◌, ◌^◌, ℕ, List, [], ◌∷◌, ◌++◌, length, slice_get, Bool, true, false, Some}
use Rattle.tl_syntax.specs.declared.action.Action.{Action}
use Rattle.tl_syntax.specs.Lists.{Each}
use Rattle.tl_depth.specs.Levels.{stepped}
use Rattle.tl_depth.specs.declared.level.Level.{Level}
use Rattle.tl_depth.specs.declared.stack.DepthFirst.{DepthFirst}
use Rattle.tl_search.specs.Events.{event_of, events_after}
use Rattle.tl_search.specs.declared.arrival.Arrival.{Arrival}
use Rattle.tl_search.specs.declared.event.Event.{Event}
use Rattle.tl_search.specs.declared.event.Event.TheVariants as event

-- the last level has an action that it is not done with
abbrev pub IsStepped : List Level → Type 0
IsStepped levels = (front : List Level) × (c : Level) × (levels ≡ front ++ c ∷ []) × (c.tried < length c.actions) ×
    (length c.actions < 2 ^ 64)

-- there is a last level, and each level below it has an action that it is not done with
abbrev pub IsUnfinished : List Level → Type 0
IsUnfinished levels = (front : List Level) × (c : Level) × (levels ≡ front ++ c ∷ []) ×
    Each (λ (h : Level). (h.tried < length h.actions) × (length h.actions < 2 ^ 64)) front

-- the last level is done with its next action
abbrev pub PassesTop : List Level → List Level → Type 0
PassesTop old new = (front : List Level) (c : Level) → old ≡ front ++ c ∷ [] → new ≡ front ++ stepped c ∷ []

-- the last level is gone
abbrev pub LosesTop : List Level → List Level → Type 0
LosesTop old new = (front : List Level) (c : Level) → old ≡ front ++ c ∷ [] → new ≡ front

-- the last level is gone, and the one below it is done with its next action
abbrev pub LeavesTop : List Level → List Level → Type 0
LeavesTop old new = (front : List Level) (h c : Level) → old ≡ (front ++ h ∷ []) ++ c ∷ [] → new ≡ front ++ stepped h ∷ []

-- where events are wanted, what came of the last level's next action is told
abbrev pub TellsTop : DepthFirst → DepthFirst → Arrival → Type 0
TellsTop old new r = (front : List Level) (c : Level) (a : Action) → old.stack.items ≡ front ++ c ∷ [] → slice_get c.actions c.tried ≡
    Some a → new.events ≡ events_after old.watch old.events (event_of c.at a r)

-- the event is of the action at the pair of the number
abbrev pub IsEventOf : ℕ → Action → Event → Type 0
IsEventOf j a event.RootKept = ⊥
IsEventOf j a event.RootPruned = ⊥
IsEventOf j a (event.Kept i b k) = (i ≡ j) × (b ≡ a)
IsEventOf j a (event.Seen i b k) = (i ≡ j) × (b ≡ a)
IsEventOf j a (event.Pruned i b) = (i ≡ j) × (b ≡ a)

-- where events are wanted, one more is there, of the level's next action
abbrev pub IsToldOf : Bool → List Event → List Event → Level → Type 0
IsToldOf false before after c = after ≡ before
IsToldOf true before after c = (e : Event) × (after ≡ before ++ e ∷ []) ×
    ((a : Action) → slice_get c.actions c.tried ≡ Some a → IsEventOf c.at a e)

-- In which order a depth-first search has its arrivals, and when it enters a search node again.
use Rattle.std.specs.Prelude.{◌≡◌, ◌<◌, ◌⊎◌, ℕ, zero, suc, List, [], ◌∷◌, slice_get, Bool, Some, IsTrue}
use Rattle.tl_syntax.specs.declared.action.Action.{Action}
use Rattle.tl_syntax.specs.Lists.{Among}
use Rattle.tl_terms.specs.Problem.{PlainProblem}
use Rattle.tl_terms.specs.Pairs.{Pair}
use Rattle.tl_search.specs.ListedActions.{ListsActions}
use Rattle.tl_search.specs.declared.event.Event.{Event}
use Rattle.tl_search.specs.declared.event.Event.TheVariants as event
use Rattle.tl_depth.specs.Stacks.{IsEventOf}

-- a pair was met: its number, and with how many remaining actions
abbrev pub Meeting : Type 0
Meeting = ℕ × ℕ

-- the pair is met with more remaining actions than ever before
abbrev pub IsMore : List Meeting → ℕ → ℕ → Type 0
IsMore met k left = (l : ℕ) → Among (k, l) met → l < left

-- a part of a search: the meetings before it, the events from its first one on, the meetings when
-- it is done, and the events after it
abbrev pub Part : Type 1
Part = List Meeting → List Event → List Meeting → List Event → Type 0

-- nothing is told, and these are the meetings
abbrev pub Passes : Part
Passes met events after later = (after ≡ met) × (later ≡ events)

-- a search that is cut short ends here
abbrev pub Stops : Bool → Part
Stops cut met events after later = IsTrue cut × (events ≡ []) × (later ≡ [])

-- after its event a pair that is not pruned is met
abbrev pub Follows : (ℕ → Part) → Event → Part
Follows meets (event.Kept j a k) = meets k
Follows meets (event.Seen j a k) = meets k
Follows meets e = Passes

-- the actions of the pair `at` are tried in turn: each has its event, and then what is told of the
-- pair that it leads to
unfoldable pub AreTried : Bool → (ℕ → Part) → ℕ → List Action → Part
AreTried cut meets at [] met events after later = Passes met events after later
AreTried cut meets at (a ∷ actions) met events after later =
    Stops cut met events after later
    ⊎ ((e : Event) × (rest : List Event) × (mid : List Meeting) × (next : List Event) × (events ≡ e ∷ rest) × IsEventOf at a e ×
    Follows meets e met rest mid next × AreTried cut meets at actions mid next after later)

-- pair k is met with so many remaining actions: where they are more than ever before it is entered,
-- and all its executable actions are tried with one less; elsewhere it is passed
unfoldable pub Meets : PlainProblem → List Pair → Bool → ℕ → ℕ → Part
Meets p kept cut zero k met events after later = Passes ((k, 0) ∷ met) events after later
Meets p kept cut (suc left) k met events after later =
    Stops cut met events after later
    ⊎ ((IsMore met k (suc left) × ((x : Pair) × (actions : List Action) × (slice_get kept k ≡ Some x) × ListsActions p x.world actions ×
    AreTried cut (Meets p kept cut left) k actions ((k, suc left) ∷ met) events after later))
    ⊎ ((IsMore met k (suc left) → ⊥) × Passes ((k, suc left) ∷ met) events after later))

-- the events are those of a depth-first search of at most n actions: the root's, and what is told
-- of the root where it is kept; or a front part of them, where the search is cut short
unfoldable pub AreInDepth : PlainProblem → ℕ → List Pair → Bool → List Event → Type 0
AreInDepth p n kept cut (event.RootPruned ∷ rest) = rest ≡ []
AreInDepth p n kept cut (event.RootKept ∷ rest) = (after : List Meeting) × Meets p kept cut n 0 [] rest after []
AreInDepth p n kept cut events = ⊥

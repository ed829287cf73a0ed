-- What the search remembers of the kept pairs' actions, and of what came of these.
use Rattle.std.specs.Prelude.{◌≡◌, ◌⊎◌, ℕ, List, [], ◌∷◌, ◌++◌, length, slice_get, Some, IfSome}
use Rattle.tl_syntax.specs.declared.action.Action.{Action}
use Rattle.tl_terms.specs.Problem.{PlainProblem}
use Rattle.tl_world.specs.declared.task.Task.{Task}
use Rattle.tl_search.specs.Calls.{AreNamedIn, ChildArrives}
use Rattle.tl_search.specs.Kept.{AreKept}
use Rattle.tl_search.specs.KeptPairs.{KeptPair}
use Rattle.tl_search.specs.ListedActions.{ListsActions}
use Rattle.tl_search.specs.PairGraph.{pair_graph}
use Rattle.tl_search.specs.declared.arrival.Arrival.{Arrival}
use Rattle.tl_search.specs.declared.arrival.Arrival.TheVariants as arrival
use Rattle.tl_depth.specs.declared.expansions.Expansion.{Expansion}
use Rattle.tl_depth.specs.declared.expansions.Expansions.{Expansions}
use Rattle.tl_depth.specs.declared.level.Level.{Level}

-- these are the executable actions of the pair of the number, and named
abbrev pub IsListed : PlainProblem → Task → List KeptPair → ℕ → List Action → Type 0
IsListed p task kept at listed = (x : KeptPair) × (slice_get kept at ≡ Some x) × ListsActions p x.node.world listed × AreNamedIn task listed

-- the i-th executable action of the pair of the number brings no pair that is not kept: this
-- arrives
abbrev pub CameOf : PlainProblem → List KeptPair → ℕ → ℕ → Arrival → Type 0
CameOf p kept at i r = (x : KeptPair) × (slice_get kept at ≡ Some x) × (listed : List Action) × ListsActions p x.node.world listed ×
    (a : Action) × (slice_get listed i ≡ Some a) × ChildArrives p kept kept at a r

-- what is remembered of the pair of the number is right
pub record IsExpansion (p : PlainProblem) (task : Task) (kept : List KeptPair) (at : ℕ) (e : Expansion) : Type 0 where
  pub actions : IfSome e.actions (IsListed p task kept at)
  pub arrivals : (i : ℕ) (r : Arrival) → slice_get e.arrivals.items i ≡ Some r → CameOf p kept at i r

-- what is remembered of each pair is
abbrev pub AreExpansions : PlainProblem → Task → List KeptPair → Expansions → Type 0
AreExpansions p task kept known = (at : ℕ) (e : Expansion) → slice_get known.entries.items at ≡ Some e → IsExpansion p task kept at e

-- the kept pairs are as they should be, and what is remembered of them is right
pub record Remembers (p : PlainProblem) (task : Task) (kept : List KeptPair) (known : Expansions) : Type 0 where
  pub kept_rightly : AreKept (pair_graph p) kept
  pub expansions : AreExpansions p task kept known

-- where what is remembered was right, it is so still
abbrev pub StayExpansions : Expansions → Expansions → Type 0
StayExpansions old new = (p : PlainProblem) (task : Task) (kept : List KeptPair) → AreExpansions p task kept old →
    AreExpansions p task kept new

-- nothing is remembered
abbrev pub KnowsNothing : Expansions → Type 0
KnowsNothing known = known.entries.items ≡ []

-- if what is remembered is right, these are the actions of the pair of the number
abbrev pub KnowsActions : Expansions → ℕ → List Action → Type 0
KnowsActions known at listed = (p : PlainProblem) (task : Task) (kept : List KeptPair) → AreExpansions p task kept known →
    IsListed p task kept at listed

-- if what is remembered is right, this came of the pair's i-th action
abbrev pub KnowsArrival : Expansions → ℕ → ℕ → Arrival → Type 0
KnowsArrival known at i r = (p : PlainProblem) (task : Task) (kept : List KeptPair) → AreExpansions p task kept known → CameOf p kept at i r

-- where what is remembered was right, and these are the actions of the pair of the number, it is so
-- still
abbrev pub GainsActions : Expansions → Expansions → ℕ → List Action → Type 0
GainsActions old new at listed = (p : PlainProblem) (task : Task) (kept : List KeptPair) → AreExpansions p task kept old →
    IsListed p task kept at listed → AreExpansions p task kept new

-- a pair that was fresh is seen when the action is replayed
abbrev pub as_seen : Arrival → Arrival
as_seen arrival.Pruned = arrival.Pruned
as_seen (arrival.Seen k) = arrival.Seen k
as_seen (arrival.Fresh k) = arrival.Seen k

-- the list is the same, or it ended before the place, where this is now
abbrev pub AddsAt : List Arrival → List Arrival → ℕ → Arrival → Type 0
AddsAt old new i r = (new ≡ old) ⊎ ((length old ≡ i) × (new ≡ old ++ r ∷ []))

-- where what is remembered was right, and this came of the pair's i-th action, it is so still
abbrev pub GainsArrival : Expansions → Expansions → ℕ → ℕ → Arrival → Type 0
GainsArrival old new at i r = (p : PlainProblem) (task : Task) (kept : List KeptPair) → AreExpansions p task kept old →
    CameOf p kept at i (as_seen r) → AreExpansions p task kept new

-- this came of the last level's next action
abbrev pub CameOfTop : PlainProblem → List KeptPair → List Level → Arrival → Type 0
CameOfTop p kept levels r = (front : List Level) (c : Level) → levels ≡ front ++ c ∷ [] → CameOf p kept c.at c.tried (as_seen r)

-- if what is remembered was right, and the last level's actions are its pair's, what is remembered
-- is right still
abbrev pub GainsTop : List Level → Expansions → Expansions → Type 0
GainsTop levels old new = (front : List Level) (c : Level) → levels ≡ front ++ c ∷ [] → GainsActions old new c.at c.actions

-- if what is remembered was right, and this came of the last level's next action, what is
-- remembered is right still
abbrev pub LearnsTop : List Level → Expansions → Expansions → Arrival → Type 0
LearnsTop levels old new r = (front : List Level) (c : Level) → levels ≡ front ++ c ∷ [] → GainsArrival old new c.at c.tried r

-- no pair gets another number
abbrev pub KeepNumbers : List KeptPair → List KeptPair → Type 0
KeepNumbers old new = (k : ℕ) (x : KeptPair) → slice_get old k ≡ Some x → slice_get new k ≡ Some x

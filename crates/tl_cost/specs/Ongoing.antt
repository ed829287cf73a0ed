-- What is known of the kept pairs while a search for a cheapest plan goes on.
use Rattle.std.specs.Prelude.{◌≡◌, ◌≤◌, ◌<◌, ℕ, ◌+◌, ◌*◌, Bool, true, false, List, [], ◌∷◌, length, slice_get, Option, Some, None}
use Rattle.tl_syntax.specs.declared.action.Action.{Action}
use Rattle.tl_syntax.specs.Lists.{Among}
use Rattle.tl_terms.specs.Acceptance.{IsAccepted}
use Rattle.tl_terms.specs.Pairs.{Pair, IsPairAccepted}
use Rattle.tl_terms.specs.Problem.{PlainProblem}
use Rattle.tl_world.specs.declared.task.Task.{Task}
use Rattle.tl_search.specs.Graphs.{walk}
use Rattle.tl_search.specs.Kept.{AreKept}
use Rattle.tl_search.specs.KeptPairs.{KeptPair}
use Rattle.tl_search.specs.NamedAnswers.{IsNamedIn}
use Rattle.tl_search.specs.PairGraph.{pair_graph}
use Rattle.tl_cost.specs.PlanCosts.{action_cost, plan_cost}
use Rattle.tl_cost.specs.Ways.{ComesNoLater, entry_of, is_listed, listed_len}
use Rattle.tl_cost.specs.declared.open_list.Entry.{Entry}
use Rattle.tl_cost.specs.declared.ways.Way.{Way}
use Rattle.tl_cost.specs.declared.ways.LastStep.{LastStep}
use Rattle.tl_cost.specs.declared.ways.Found.{Found}

-- the kept pair of this number, and its way
pub record IsAt (kept : List KeptPair) (ways : List Way) (k : ℕ) (x : KeptPair) (w : Way) : Type 0 where
  pub pair : slice_get kept k ≡ Some x
  pub way : slice_get ways k ≡ Some w

-- some path leads to the pair, costs as much and has as many actions as the way
pub record IsWayTo (p : PlainProblem) (costs : List ℕ) (x : Pair) (w : Way) : Type 0 where
  pub path : List Action
  pub walks : walk (pair_graph p) path ≡ Some x
  pub its_cost : plan_cost costs path ≡ w.cost
  pub its_length : length path ≡ w.length

-- the way is that of a settled pair with one more action, which leads to the pair
pub record IsStepFrom (p : PlainProblem) (costs : List ℕ) (kept : List KeptPair) (ways : List Way) (open_ : Entry → Bool) (x : Pair)
    (w : Way) (last : LastStep) : Type 0 where
  pub before : KeptPair
  pub its_way : Way
  pub is_at : IsAt kept ways last.from before its_way
  pub settled : open_ (entry_of its_way last.from) ≡ false
  pub leads : (pair_graph p).after before.node last.action ≡ Some x
  pub cost : w.cost ≡ its_way.cost + action_cost costs last.action
  pub longer : w.length ≡ its_way.length + 1

-- the last step of a way, where there is one; else it is the empty way to the root
abbrev pub IsLinked : PlainProblem → List ℕ → List KeptPair → List Way → (Entry → Bool) → ℕ → Pair → Way → Option LastStep → Type 0
IsLinked p costs kept ways open_ k x w None = k ≡ 0
IsLinked p costs kept ways open_ k x w (Some last) = IsStepFrom p costs kept ways open_ x w last

-- a kept pair is this one, with a way that comes no later
pub record HasWay (kept : List KeptPair) (ways : List Way) (x : Pair) (cost length_ : ℕ) : Type 0 where
  pub number : ℕ
  pub pair : KeptPair
  pub way : Way
  pub is_at : IsAt kept ways number pair way
  pub same : pair.node ≡ x
  pub upto : ComesNoLater way.cost way.length cost length_

-- the action is still to be tried at the pair: at the one whose turn it is, all of them or those of
-- a list
abbrev pub IsUntried : ℕ → Option (List Action) → ℕ → Action → Type 0
IsUntried at None j a = j ≡ at
IsUntried at (Some rest) j a = (j ≡ at) × Among a rest

-- the pair was tested for acceptance: all but the one whose turn has just begun
abbrev pub IsTested : ℕ → Option (List Action) → ℕ → Type 0
IsTested at None k = k ≡ at → ⊥
IsTested at (Some rest) k = Unit {0}

-- uniform-cost search (Dijkstra 1959): the pairs that are not in the open list are settled, each at
-- its least cost and there with the fewest actions, the last at this cost and length; no pair of
-- the open list comes before it, and what was tried leads to ways that come no later
pub record IsOngoing (p : PlainProblem) (task : Task) (costs : List ℕ) (b : ℕ) (kept : List KeptPair) (ways : List Way)
    (open_ : Entry → Bool) (opened cost length_ at : ℕ) (rest : Option (List Action)) : Type 0 where
  pub are_kept : AreKept (pair_graph p) kept
  pub as_many : length ways ≡ length kept
  pub some : 0 < length kept
  pub few : length kept ≤ b
  pub root : (x : KeptPair) (w : Way) → IsAt kept ways 0 x w → (w.cost ≡ 0) × (w.length ≡ 0)
  pub reached : (k : ℕ) (x : KeptPair) (w : Way) → IsAt kept ways k x w → IsWayTo p costs x.node w
  pub linked : (k : ℕ) (x : KeptPair) (w : Way) → IsAt kept ways k x w → IsLinked p costs kept ways open_ k x.node w w.last
  pub named : (k : ℕ) (w : Way) (last : LastStep) → slice_get ways k ≡ Some w → w.last ≡ Some last → IsNamedIn task last.action
  pub small : (k : ℕ) (w : Way) → slice_get ways k ≡ Some w → w.cost ≤ 4294967296 * w.length
  pub short : (k : ℕ) (w : Way) → slice_get ways k ≡ Some w → w.length + opened ≤ length kept
  pub settled_short : (k : ℕ) (w : Way) → slice_get ways k ≡ Some w → open_ (entry_of w k) ≡ false → w.length + opened < length kept
  pub exact : (e : Entry) → open_ e ≡ true → (x : KeptPair) × (w : Way) × IsAt kept ways e.number x w × (e ≡ entry_of w e.number)
  pub least : (k : ℕ) (x : KeptPair) (w : Way) → IsAt kept ways k x w → open_ (entry_of w k) ≡ false → (path : List Action) →
      walk (pair_graph p) path ≡ Some x.node → ComesNoLater w.cost w.length (plan_cost costs path) (length path)
  pub below : (k : ℕ) (x : KeptPair) (w : Way) → IsAt kept ways k x w → open_ (entry_of w k) ≡ false →
      ComesNoLater w.cost w.length cost length_
  pub above : (k : ℕ) (x : KeptPair) (w : Way) → IsAt kept ways k x w → open_ (entry_of w k) ≡ true →
      ComesNoLater cost length_ w.cost w.length
  pub closed : (k : ℕ) (x : KeptPair) (w : Way) (a : Action) (y : Pair) → IsAt kept ways k x w → open_ (entry_of w k) ≡ false →
      (IsUntried at rest k a → ⊥) → (pair_graph p).after x.node a ≡ Some y →
      HasWay kept ways y (w.cost + action_cost costs a) (w.length + 1)
  pub none : (k : ℕ) (x : KeptPair) (w : Way) → IsAt kept ways k x w → open_ (entry_of w k) ≡ false → IsTested at rest k →
      IsPairAccepted p x.node → ⊥
  pub cheap : (plan : List Action) → IsAccepted p plan → ComesNoLater cost length_ (plan_cost costs plan) (length plan)

-- the search is between two turns
pub record IsBetweenTurns (p : PlainProblem) (task : Task) (costs : List ℕ) (b : ℕ) (kept : List KeptPair) (found : Found) : Type 0 where
  pub cost : ℕ
  pub length_ : ℕ
  pub at : ℕ
  pub ongoing : IsOngoing p task costs b kept found.ways.items (is_listed found.open_list) (listed_len found.open_list) cost length_ at
      (Some [])

-- it is the turn of the pair of this number, which is the last that was settled, and these actions
-- are still to be tried there
pub record IsInTurn (p : PlainProblem) (task : Task) (costs : List ℕ) (b : ℕ) (kept : List KeptPair) (found : Found) (at : ℕ)
    (rest : Option (List Action)) : Type 0 where
  pub pair : KeptPair
  pub way : Way
  pub is_at : IsAt kept found.ways.items at pair way
  pub settled : is_listed found.open_list (entry_of way at) ≡ false
  pub ongoing : IsOngoing p task costs b kept found.ways.items (is_listed found.open_list)
      (listed_len found.open_list) way.cost way.length at rest

-- it is the turn of the pair of this number, and this action is to be tried there next
pub record HasAction (p : PlainProblem) (task : Task) (costs : List ℕ) (b : ℕ) (kept : List KeptPair) (found : Found) (at : ℕ)
    (a : Action) : Type 0 where
  pub rest : List Action
  pub turn : IsInTurn p task costs b kept found at (Some (a ∷ rest))

-- the action was tried, whichever are still to be tried after it
abbrev pub IsTriedAt : PlainProblem → Task → List ℕ → ℕ → List KeptPair → List KeptPair → Found → Found → ℕ → Action → Type 0
IsTriedAt p task costs b old new was is at a = (rest : List Action) → IsInTurn p task costs b old was at (Some (a ∷ rest)) →
    IsInTurn p task costs b new is at (Some rest)

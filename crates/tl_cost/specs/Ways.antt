-- The ways that a search has found, and its open list.
use Rattle.std.specs.Prelude.{◌≡◌, ◌≤◌, ◌<◌, ◌⊎◌, ◌^◌, ℕ, ◌+◌, Bool, true, false, List, [], ◌∷◌, ◌++◌, length, slice_get, Some, None}
use Rattle.std.specs.declared.cmp.Ordering.{Ordering}
use Rattle.std.specs.Ordering.{nat_cmp, ordering_then}
use Rattle.std.specs.BTreeSet.{contains}
use Rattle.std.specs.List.{slice_set}
use Rattle.tl_syntax.specs.declared.action.Action.{Action}
use Rattle.tl_cost.specs.declared.open_list.Entry.{Entry}
use Rattle.tl_cost.specs.declared.open_list.OpenList.{OpenList}
use Rattle.tl_cost.specs.declared.ways.Way.{Way}
use Rattle.tl_cost.specs.declared.ways.LastStep.{LastStep}
use Rattle.tl_cost.specs.declared.ways.Found.{Found}
use Rattle.tl_cost.specs.PlanCosts.{action_cost}

-- a cost and a length that come no later than others: less, or the same cost and no more actions
pub record ComesNoLater (cost length_ other_cost other_length : ℕ) : Type 0 where
  pub cheap : cost ≤ other_cost
  pub short : cost ≡ other_cost → length_ ≤ other_length

-- by cost, then by length, and then by number
abbrev pub entry_cmp : Entry → Entry → Ordering
entry_cmp x y = ordering_then (nat_cmp x.cost y.cost) (ordering_then (nat_cmp x.length y.length) (nat_cmp x.number y.number))

-- the pair of this number, which has this way, as the open list has it
abbrev pub entry_of : Way → ℕ → Entry
entry_of w k = record { cost = w.cost; length = w.length; number = k }

-- whether it is in the open list
abbrev pub is_listed : OpenList → Entry → Bool
is_listed list e = contains entry_cmp list.entries e

-- how many are in the open list
abbrev pub listed_len : OpenList → ℕ
listed_len list = length list.entries.keys

-- so it is for the way to the pair of the number
abbrev pub ForWay : Found → ℕ → (Way → Type 0) → Type 0
ForWay found at P = (w : Way) → slice_get found.ways.items at ≡ Some w → P w

-- the second list has this entry too
pub record Adds (old new : Entry → Bool) (e : Entry) : Type 0 where
  pub is : new e ≡ true
  pub others : (q : Entry) → (q ≡ e → ⊥) → new q ≡ old q

-- the second list has this entry no more
pub record Drops (old new : Entry → Bool) (e : Entry) : Type 0 where
  pub is : new e ≡ false
  pub others : (q : Entry) → (q ≡ e → ⊥) → new q ≡ old q

-- the entry comes no later than any in the list
abbrev pub IsFirstOf : (Entry → Bool) → Entry → Type 0
IsFirstOf list e = (q : Entry) → list q ≡ true → ComesNoLater e.cost e.length q.cost q.length

-- the last step of each way is from a pair whose way is shorter by it
abbrev pub AreLinked : List Way → Type 0
AreLinked ways = (k : ℕ) (w : Way) (last : LastStep) → slice_get ways k ≡ Some w → w.last ≡ Some last → (v : Way) ×
    (slice_get ways last.from ≡ Some v) × (w.length ≡ v.length + 1)

-- the path goes along the last steps of the ways from the root to the pair of this number
pub data Follows (ways : List Way) : ℕ → List Action → Type 0 where
  at_root : (k : ℕ) (w : Way) → slice_get ways k ≡ Some w → w.last ≡ None → Follows ways k []
  onward : (k : ℕ) (w : Way) (last : LastStep) (front path : List Action) → slice_get ways k ≡ Some w → w.last ≡ Some last →
      Follows ways last.from front → path ≡ front ++ last.action ∷ [] → Follows ways k path

-- the first entry has given way to the second
pub record Moves (old new : Entry → Bool) (from to : Entry) : Type 0 where
  pub gone : (from ≡ to → ⊥) → new from ≡ false
  pub is : new to ≡ true
  pub others : (q : Entry) → (q ≡ from → ⊥) → (q ≡ to → ⊥) → new q ≡ old q

-- what the first step of a comparison says of a way of this cost and length and another: it comes
-- before that, or not
pub record TellsOrder (before : Bool) (cost length_ : ℕ) (w : Way) : Type 0 where
  pub upto : before ≡ true → ComesNoLater cost length_ w.cost w.length
  pub falls : before ≡ true → ComesNoLater w.cost w.length cost length_ → ⊥
  pub stays : before ≡ false → ComesNoLater w.cost w.length cost length_

-- the way goes on from this way, to the pair of a number, by the action
pub record GoesOn (costs : List ℕ) (w : Way) (at : ℕ) (a : Action) (m : Way) : Type 0 where
  pub cost : m.cost ≡ w.cost + action_cost costs a
  pub longer : m.length ≡ w.length + 1
  pub last : m.last ≡ Some (record { from = at; action = a })
  pub small : action_cost costs a < 4294967296

-- there is room for one more action after the way to the pair of this number
pub record HasRoomAfter (found : Found) (at : ℕ) : Type 0 where
  pub way : Way
  pub its_way : slice_get found.ways.items at ≡ Some way
  pub cheap : way.cost + 4294967296 < 2 ^ 64
  pub short : way.length + 1 < 2 ^ 64

-- the pair of number k is met again by the action from the pair of the number before: its entry
-- alone is listed for it, and is listed where the new way comes no later
pub record IsMet (costs : List ℕ) (found : Found) (w : Way) (a : Action) (k : ℕ) : Type 0 where
  pub way : Way
  pub its_way : slice_get found.ways.items k ≡ Some way
  pub opened : ComesNoLater (w.cost + action_cost costs a) (w.length + 1) way.cost way.length → is_listed found.open_list (entry_of way k) ≡
      true
  pub exact : (e : Entry) → is_listed found.open_list e ≡ true → e.number ≡ k → e ≡ entry_of way k

-- the way to the pair of number k was replaced by one that comes no later
pub record Improves (costs : List ℕ) (old new : Found) (w : Way) (at : ℕ) (a : Action) (k : ℕ) (u : Way) : Type 0 where
  pub way : Way
  pub goes_on : GoesOn costs w at a way
  pub upto : ComesNoLater way.cost way.length u.cost u.length
  pub ways : new.ways.items ≡ slice_set old.ways.items k way
  pub moves : Moves (is_listed old.open_list) (is_listed new.open_list) (entry_of u k) (entry_of way k)
  pub len : listed_len new.open_list ≡ listed_len old.open_list

-- the pair of number k keeps its way, which comes no later than the new one, or has the new one,
-- which does
abbrev pub Meets : List ℕ → Found → Found → Way → ℕ → Action → ℕ → Way → Type 0
Meets costs old new w at a k u = ((new ≡ old) × ComesNoLater u.cost u.length (w.cost + action_cost costs a) (w.length + 1)) ⊎
    Improves costs old new w at a k u

-- so it is for the ways to the pairs of the two numbers
abbrev pub MeetsAgain : List ℕ → Found → Found → ℕ → Action → ℕ → Type 0
MeetsAgain costs old new at a k = (w u : Way) → slice_get old.ways.items at ≡ Some w → slice_get old.ways.items k ≡ Some u →
    Meets costs old new w at a k u

-- What a turn of the search takes, and what it leaves.
use Rattle.std.specs.Prelude.{◌≡◌, ◌+◌, ℕ, List, Option}
use Rattle.tl_terms.specs.Problem.{PlainProblem}
use Rattle.tl_search.specs.History.{IsHistory}
use Rattle.tl_search.specs.KeptPairs.{KeptPair, pairs_of}
use Rattle.tl_search.specs.declared.arrival.Arrival.{Arrival}
use Rattle.tl_search.specs.declared.outcome.Outcome.{Outcome}
use Rattle.tl_depth.specs.declared.stack.DepthFirst.{DepthFirst}
use Rattle.tl_depth.specs.Ongoing.{IsOngoing, IsArrived, Turned, TurnedTo}
use Rattle.tl_depth.specs.Outcomes.{AreFewCalls}

-- the search goes on, after some number of calls
abbrev pub SearchGoesOn : PlainProblem → ℕ → List KeptPair → DepthFirst → Type 0
SearchGoesOn p b kept w = (calls : ℕ) × IsOngoing p b (pairs_of kept) w calls

-- the top level's next action was tried, after some number of calls, and this arrived
abbrev pub HasArrived : PlainProblem → ℕ → List KeptPair → DepthFirst → Arrival → ℕ → Type 0
HasArrived p b kept w arrival left = (calls : ℕ) × IsArrived p b (pairs_of kept) w arrival left calls

-- a search that went on has taken a turn
abbrev pub Turns : PlainProblem → ℕ → List KeptPair → List KeptPair → DepthFirst → DepthFirst → ℕ → ℕ → Option Outcome → Type 0
Turns p b old new w v before after o = (calls : ℕ) → IsOngoing p b (pairs_of old) w calls →
    TurnedTo p b (pairs_of new) w v calls before after o

-- a search that went on has tried the top level's next action, and this arrived
abbrev pub TriesTop : PlainProblem → ℕ → List KeptPair → List KeptPair → DepthFirst → DepthFirst → ℕ → Arrival → Type 0
TriesTop p b old new w v left arrival = (calls : ℕ) → IsOngoing p b (pairs_of old) w calls →
    IsArrived p b (pairs_of new) v arrival left calls

-- a search at which this arrived has taken its turn, with one call
abbrev pub TurnsBy : PlainProblem → ℕ → List KeptPair → DepthFirst → DepthFirst → Arrival → ℕ → Option Outcome → Type 0
TurnsBy p b kept w v arrival left o = (calls : ℕ) → IsArrived p b (pairs_of kept) w arrival left calls →
    Turned p b (pairs_of kept) w v (calls + 1) o

-- the calls are few still, and those that were made are the steps that were ticked
abbrev pub CallsStayFew : PlainProblem → ℕ → List KeptPair → List KeptPair → DepthFirst → ℕ → ℕ → Type 0
CallsStayFew p b old new w before after =
    (calls : ℕ) → IsOngoing p b (pairs_of old) w calls → (made : ℕ) × (made + before ≡ calls + after) ×
    AreFewCalls p w.within (pairs_of new) made

-- with one more call the calls are few still
abbrev pub OneCallStaysFew : PlainProblem → ℕ → List KeptPair → List KeptPair → DepthFirst → Type 0
OneCallStaysFew p b old new w = (calls : ℕ) → IsOngoing p b (pairs_of old) w calls → AreFewCalls p w.within (pairs_of new) (calls + 1)

-- where the events were true, and told of all kept pairs, they are and do so still
abbrev pub KeepsHistory : PlainProblem → List KeptPair → List KeptPair → DepthFirst → DepthFirst → Type 0
KeepsHistory p old new w v = IsHistory p w.watch old w.events → IsHistory p w.watch new v.events

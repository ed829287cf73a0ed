-- What is true of a search between its steps.
use Rattle.std.specs.Prelude.{◌≡◌, ◌≢◌, ◌≤◌, ◌<◌, ◌+◌, ◌*◌, ◌^◌, ℕ, suc, List, [], ◌∷◌, ◌++◌, length, slice_get, true, false, Option, Some}
use Rattle.std.specs.Prelude.{None}
use Rattle.tl_syntax.specs.declared.action.Action.{Action}
use Rattle.tl_syntax.specs.Lists.{Each}
use Rattle.tl_syntax.specs.Trees.{falsum}
use Rattle.tl_terms.specs.Problem.{PlainProblem}
use Rattle.tl_terms.specs.Pairs.{Pair, IsPairAccepted}
use Rattle.tl_depth.specs.Tables.{IsUncut, entries_left}
use Rattle.tl_depth.specs.Levels.{IsRunning, level_height}
use Rattle.tl_depth.specs.PairGraph.{first_pair, graph_of}
use Rattle.tl_search.specs.PairGraph.{next_pair, unless_pruned}
use Rattle.tl_terms.proofs.SamePairs.{pair_discrete}
use Rattle.tl_eval.specs.Notes.{Tells}
use Rattle.tl_terms.specs.Looked.{looked_by_action}
use Rattle.tl_search.specs.ListedActions.{ListsActions}
use Rattle.tl_depth.specs.declared.level.Level.{Level}
use Rattle.tl_depth.specs.Arrivals.{ArrivesAs}
use Rattle.tl_depth.specs.Expansions.{KnowsNothing}
use Rattle.tl_depth.specs.Following.{IsFollowed}
use Rattle.tl_depth.specs.Stacks.{IsToldOf}
use Rattle.tl_search.specs.declared.arrival.Arrival.{Arrival}
use Rattle.tl_search.specs.declared.arrival.Arrival.TheVariants as arrival
use Rattle.tl_search.specs.Events.{event_of, events_after}
use Rattle.tl_search.specs.declared.event.Event.{Event}
use Rattle.tl_search.specs.declared.event.Event.TheVariants as event
use Rattle.tl_depth.specs.declared.stack.DepthFirst.{DepthFirst}
use Rattle.tl_search.specs.declared.outcome.Outcome.{Outcome}
use Rattle.tl_search.specs.declared.fault.SearchFault.{SearchFault}
use Rattle.tl_search.specs.declared.fault.SearchFault.TheVariants as fault
use Rattle.tl_depth.specs.Outcomes.{Reported, AreFewCalls, IsDepthFirstOutcome, IsToldOutcome}

-- the levels' lists of actions have lengths of 64 bits
abbrev pub AreSized : List Level → Type 0
AreSized levels = Each (λ (c : Level). length c.actions < 2 ^ 64) levels

-- the search goes on: at most b pairs are kept, so many calls were made, and no pair was met with
-- no remaining action, unless pairs are entered again; where events are wanted they are, and the
-- events go on to be those of a depth-first search
pub record IsOngoing (p : PlainProblem) (b : ℕ) (kept : List Pair) (w : DepthFirst) (calls : ℕ) : Type 0 where
  pub unpruned : (first_pair p).formula ≢ falsum
  pub running : IsRunning pair_discrete (graph_of p) w.within (Reported w.watch kept w.events) kept w.most.items w.stack.items calls
  pub few : length kept ≤ b
  pub sized : AreSized w.stack.items
  pub uncut : w.reenters ≡ false → IsUncut w.most.items
  pub enters : w.watch ≡ true → w.reenters ≡ true
  pub followed : w.watch ≡ true → IsFollowed p w.within kept w.most.items w.stack.items w.events

-- the top level's next action was tried, and reported: this arrived
pub record IsArrived (p : PlainProblem) (b : ℕ) (kept : List Pair) (w : DepthFirst) (arrival : Arrival) (left calls : ℕ) : Type 0 where
  pub old : List Pair
  pub before : List Event
  pub front : List Level
  pub top : Level
  pub action : Action
  pub from : Pair
  pub stack : w.stack.items ≡ front ++ top ∷ []
  pub at_action : slice_get top.actions top.tried ≡ Some action
  pub at_node : slice_get old top.at ≡ Some from
  pub remaining : suc left ≡ top.left
  pub unpruned : (first_pair p).formula ≢ falsum
  pub running : IsRunning pair_discrete (graph_of p) w.within (Reported w.watch old before) old w.most.items (front ++ top ∷ []) calls
  pub event : w.events ≡ events_after w.watch before (event_of top.at action arrival)
  pub told : IsToldOf w.watch before w.events top
  pub arrives : ArrivesAs old kept (next_pair p from action) arrival
  pub few : length old ≤ b
  pub sized : AreSized w.stack.items
  pub uncut : w.reenters ≡ false → IsUncut w.most.items
  pub enters : w.watch ≡ true → w.reenters ≡ true
  pub followed : w.watch ≡ true → IsFollowed p w.within old w.most.items (front ++ top ∷ []) before

-- a pair was entered: one more level is there
pub record IsEntered (p : PlainProblem) (kept : List Pair) (at left : ℕ) (before after : List Level) : Type 0 where
  pub level : Level
  pub is : after ≡ before ++ level ∷ []
  pub its_pair : level.at ≡ at
  pub its_left : level.left ≡ left
  pub its_tried : level.tried ≡ 0
  pub its_actions : (x : Pair) → slice_get kept at ≡ Some x → ListsActions p x.world level.actions
  pub sized : length level.actions < 2 ^ 64

-- what is left to do
abbrev pub to_do : ℕ → DepthFirst → ℕ
to_do b w = entries_left b w.within w.most.items * (suc w.within * 2 ^ 64) + level_height w.stack.items

-- at the path, some action looks at what is past range in the world of the pair of the number; or
-- want of memory
abbrev pub IsEntryFault : PlainProblem → List Pair → ℕ → List Action → SearchFault → Type 0
IsEntryFault p kept k at (fault.Range path note) = (path ≡ at) × ((x : Pair) → slice_get kept k ≡ Some x → (a : Action) ×
    Tells (looked_by_action p x.world a) note)
IsEntryFault p kept k at fault.NoMemory = Unit {0}

-- a step leaves less to do, or ends the search
abbrev pub Turned : PlainProblem → ℕ → List Pair → DepthFirst → DepthFirst → ℕ → Option Outcome → Type 0
Turned p b kept old new calls None = IsOngoing p b kept new calls × (to_do b new < to_do b old) × (new.within ≡ old.within) ×
    (new.watch ≡ old.watch)
Turned p b kept old new calls (Some o) = IsDepthFirstOutcome p old.within b kept o × AreFewCalls p old.within kept calls ×
    IsToldOutcome p old.within old.watch kept new.events o

-- the pair of number k, which was kept last, is too many or accepted, and ends the search; or
-- neither
abbrev pub Judged : PlainProblem → ℕ → List Pair → DepthFirst → ℕ → ℕ → Option Outcome → Type 0
Judged p b kept w k left None = (k < b) × ((x : Pair) → slice_get kept k ≡ Some x → IsPairAccepted p x → ⊥)
Judged p b kept w k left (Some o) =
    (calls : ℕ) → IsArrived p b kept w (arrival.Fresh k) left calls
    → IsDepthFirstOutcome p w.within b kept o × AreFewCalls p w.within kept (calls + 1) × IsToldOutcome p w.within w.watch kept w.events o

-- the last level has an action that it is not done with, and `left` remaining actions after it
abbrev pub IsTop : List Level → ℕ → Type 0
IsTop levels left = (front : List Level) × (c : Level) × (levels ≡ front ++ c ∷ []) × (c.tried < length c.actions) × (suc left ≡ c.left)

-- a turn of the search: it goes on with less to do, or ends; the calls that were made are the steps
-- that were ticked
abbrev pub TurnedTo : PlainProblem → ℕ → List Pair → DepthFirst → DepthFirst → ℕ → ℕ → ℕ → Option Outcome → Type 0
TurnedTo p b kept old new calls before after None = (made : ℕ) × (made + before ≡ calls + after) × Turned p b kept old new made None
TurnedTo p b kept old new calls before after (Some o) = (made : ℕ) × (made + before ≡ calls + after) × Turned p b kept old new made (Some o)

-- nothing was done yet, and pairs are entered again where events are wanted
pub record HasDoneNothing (w : DepthFirst) : Type 0 where
  pub enters : w.watch ≡ true → w.reenters ≡ true
  pub most : w.most.items ≡ []
  pub stack : w.stack.items ≡ []
  pub expansions : KnowsNothing w.expansions

-- the search began, or ended at once, with no call
abbrev pub BeginsSearch : PlainProblem → ℕ → List Pair → DepthFirst → DepthFirst → Option Outcome → Type 0
BeginsSearch p b kept old new None = IsOngoing p b kept new 0 × (new.within ≡ old.within) × (new.watch ≡ old.watch)
BeginsSearch p b kept old new (Some o) = IsDepthFirstOutcome p old.within b kept o × AreFewCalls p old.within kept 0 ×
    IsToldOutcome p old.within old.watch kept new.events o

-- the first pair alone is kept and told of, and it is not accepted
abbrev pub HasRootAlone : PlainProblem → ℕ → List Pair → DepthFirst → Type 0
HasRootAlone p b kept w = (x : Pair) × (unless_pruned (Some (first_pair p)) ≡ Some x) × (kept ≡ [] ++ x ∷ []) × (1 ≤ b) ×
    (IsPairAccepted p x → ⊥) × HasDoneNothing w × (w.events ≡ events_after w.watch [] event.RootKept)

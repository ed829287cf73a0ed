-- Reports that say that there is no plan.
use Rattle.std.specs.Prelude.{◌≡◌, ◌<◌, ◌^◌, ℕ, List, [], ◌∷◌, length, slice_get, Option, Some, None, IsTrue, is_some}
use Rattle.tl_syntax.specs.declared.action.Action.{Action}
use Rattle.tl_syntax.specs.Lists.{Among, AtLeastOne}
use Rattle.tl_terms.specs.Paths.{IsDistance}
use Rattle.tl_terms.specs.Problem.{PlainProblem}
use Rattle.tl_terms.specs.Step.{step}
use Rattle.tl_search.specs.History.{BeginsAtRoot}
use Rattle.tl_search.specs.KeptPairs.{KeptPair}
use Rattle.tl_search.specs.Plans.{HasNoPlan, HasNoPlanWithin, HasNoPairFrom}
use Rattle.tl_search.specs.TrueEvents.{AreTrueEvents}
use Rattle.tl_search.specs.declared.event.Event.{Event}
use Rattle.tl_search.specs.declared.event.Event.TheVariants as event
use Rattle.tl_search.specs.declared.outcome.Outcome.{Outcome}
use Rattle.tl_search.specs.declared.outcome.Outcome.TheVariants as outcome
use Rattle.tl_search.specs.declared.outcome.Report.{Report}
use Rattle.tl_cert.specs.declared.proof.Link.{Link}

-- the links of the pairs that the events keep after the root
abbrev pub links_of : List Event → List Link
links_of [] = []
links_of (event.RootKept ∷ es) = links_of es
links_of (event.RootPruned ∷ es) = links_of es
links_of (event.Kept j a k ∷ es) = record { from = j; action = a } ∷ links_of es
links_of (event.Seen j a k ∷ es) = links_of es
links_of (event.Pruned j a ∷ es) = links_of es

-- a proof has the bound of the search, unless it found that there is no plan of any length
abbrev pub bound_of : ℕ → Outcome → Option ℕ
bound_of n (outcome.Plan plan) = Some n
bound_of n outcome.NoPlan = None
bound_of n outcome.NoneWithin = Some n
bound_of n outcome.Spent = Some n

-- the answer is that there is no plan, and it is right: of any length, and then no pair is n
-- actions away; or of at most n actions
abbrev pub IsRightNone : PlainProblem → ℕ → Outcome → Type 0
IsRightNone p n (outcome.Plan plan) = ⊥
IsRightNone p n outcome.NoPlan = HasNoPlan p × HasNoPairFrom p n
IsRightNone p n outcome.NoneWithin = HasNoPlanWithin p n
IsRightNone p n outcome.Spent = ⊥

-- the event is of the arrival by the action of the pair of this number
abbrev pub IsOf : ℕ → Action → Event → Type 0
IsOf j a event.RootKept = ⊥
IsOf j a event.RootPruned = ⊥
IsOf j a (event.Kept i b k) = (i ≡ j) × (b ≡ a)
IsOf j a (event.Seen i b k) = (i ≡ j) × (b ≡ a)
IsOf j a (event.Pruned i b) = (i ≡ j) × (b ≡ a)

-- the number of the pair that an event which keeps one starts from has 32 bits
abbrev pub HasSmallStart : Event → Type 0
HasSmallStart event.RootKept = Unit {0}
HasSmallStart event.RootPruned = Unit {0}
HasSmallStart (event.Kept j a k) = j < 2 ^ 32
HasSmallStart (event.Seen j a k) = Unit {0}
HasSmallStart (event.Pruned j a) = Unit {0}

-- the report of a search within n actions that says that there is no plan: its events are true and
-- tell of all kept pairs, each kept pair of fewer than n actions has an event for each of its
-- executable actions, and the path of each kept pair is as long as its distance
pub record IsNoneReport (p : PlainProblem) (n : ℕ) (kept : List KeptPair) (report : Report) : Type 0 where
  pub none : IsRightNone p n report.outcome
  pub told : AreTrueEvents p [] report.events kept
  pub begins : BeginsAtRoot p report.events
  pub near : (j : ℕ) (a : Action) (k : ℕ) (x : KeptPair) → Among (event.Kept j a k) report.events → slice_get kept j ≡ Some x →
      length x.path < n
  pub shortest : (i : ℕ) (x : KeptPair) → slice_get kept i ≡ Some x → IsDistance p x.node (length x.path)
  pub arrivals : (j : ℕ) (x : KeptPair) (a : Action) → slice_get kept j ≡ Some x → length x.path < n →
      IsTrue (is_some (step p x.node.world a)) → AtLeastOne (IsOf j a) report.events

-- What a depth-first search answers, and why it gives no answer.
use Rattle.std.specs.Prelude.{◌≡◌, ◌≤◌, ◌<◌, ◌+◌, ◌*◌, ℕ, List, length, slice_get, Bool, true, false, Some, IsTrue, is_some}
use Rattle.tl_syntax.specs.declared.action.Action.{Action}
use Rattle.tl_syntax.specs.Lists.{AtLeastOne}
use Rattle.tl_terms.specs.Problem.{PlainProblem}
use Rattle.tl_terms.specs.Pairs.{Pair, pair_of}
use Rattle.tl_terms.specs.Paths.{IsDistance}
use Rattle.tl_terms.specs.Step.{step}
use Rattle.tl_search.specs.Spent.{AreNear, IsSpent, IsSpentDepthFirst}
use Rattle.tl_search.specs.Plans.{HasNoPlan, HasNoPlanWithin, HasPairAt, HasNoPairFrom, IsFirstSimplePlan}
use Rattle.tl_search.specs.RangeCauses.{IsRangeCause, HasNoSimplePlanBefore}
use Rattle.tl_eval.specs.Notes.{operation_of}
use Rattle.tl_depth.specs.Answers.{IsToldAlong, IsActionSum}
use Rattle.tl_depth.specs.Entering.{AreInDepth}
use Rattle.tl_depth.specs.Stacks.{IsEventOf}
use Rattle.tl_search.specs.declared.event.Event.{Event}
use Rattle.tl_search.specs.declared.outcome.Outcome.{Outcome}
use Rattle.tl_search.specs.declared.outcome.Outcome.TheVariants as outcome
use Rattle.tl_search.specs.declared.fault.SearchFault.{SearchFault}
use Rattle.tl_search.specs.declared.fault.SearchFault.TheVariants as fault

-- where events are wanted, one is there of the action at the pair
abbrev pub Reported : Bool → List Pair → List Event → Pair → Action → Type 0
Reported watch kept events x a = IsTrue watch → (j : ℕ) × (slice_get kept j ≡ Some x) × AtLeastOne (IsEventOf j a) events

-- the calls are at most n times the number of executable actions of kept pairs of a distance below
-- n
abbrev pub AreFewCalls : PlainProblem → ℕ → List Pair → ℕ → Type 0
AreFewCalls p n kept calls = (s : ℕ) × IsActionSum p n kept s × (calls ≤ n * s)

-- the last of the kept pairs is the plan's
abbrev pub HasLastPair : PlainProblem → List Pair → List Action → Type 0
HasLastPair p kept plan = (k : ℕ) × (x : Pair) × (length kept ≡ k + 1) × (slice_get kept k ≡ Some x) × (pair_of p plan ≡ Some x)

-- what the search answers: where it is not spent, at most b pairs are kept, which differ and each
-- have a distance of at most n
abbrev pub IsDepthFirstOutcome : PlainProblem → ℕ → ℕ → List Pair → Outcome → Type 0
IsDepthFirstOutcome p n b kept (outcome.Plan plan) = IsFirstSimplePlan p n plan × HasLastPair p kept plan × (length kept ≤ b) ×
    AreNear p n kept
IsDepthFirstOutcome p n b kept outcome.NoPlan = HasNoPlan p × HasNoPairFrom p n × (length kept ≤ b) × AreNear p n kept
IsDepthFirstOutcome p n b kept outcome.NoneWithin = HasNoPlanWithin p n × HasPairAt p n × (length kept ≤ b) × AreNear p n kept
IsDepthFirstOutcome p n b kept outcome.Spent = IsSpent p n b kept × IsSpentDepthFirst p n kept

-- past range has its cause, and no accepted plan of at most n actions that repeats no pair comes
-- before the path; want of memory has no cause
abbrev pub IsDepthFirstFault : PlainProblem → ℕ → SearchFault → Type 0
IsDepthFirstFault p n (fault.Range path note) = IsRangeCause p n path (operation_of note) × HasNoSimplePlanBefore p n path
IsDepthFirstFault p n fault.NoMemory = Unit {0}

-- each executable action of each pair of a distance below n was reported
abbrev pub AllAreReported : PlainProblem → ℕ → Bool → List Pair → List Event → Type 0
AllAreReported p n watch kept events =
    (x : Pair) (d : ℕ) → IsDistance p x d → d < n → (a : Action) → IsTrue (is_some (step p x.world a)) → Reported watch kept events x a

-- where events are wanted, they are those of a depth-first search
abbrev pub TellsInDepth : PlainProblem → ℕ → Bool → List Pair → Bool → List Event → Type 0
TellsInDepth p n watch kept cut events = watch ≡ true → AreInDepth p n kept cut events

-- what was reported, by the answer: with a plan, each executable action of the pairs of its proper
-- prefixes up to the plan's next one; where all is done, each of every pair of a distance below n;
-- in depth-first order, which a plan or too many pairs cut short
abbrev pub IsToldOutcome : PlainProblem → ℕ → Bool → List Pair → List Event → Outcome → Type 0
IsToldOutcome p n watch kept events (outcome.Plan plan) = IsToldAlong p (Reported watch kept events) plan ×
    TellsInDepth p n watch kept true events
IsToldOutcome p n watch kept events outcome.NoPlan = AllAreReported p n watch kept events × TellsInDepth p n watch kept false events
IsToldOutcome p n watch kept events outcome.NoneWithin = AllAreReported p n watch kept events × TellsInDepth p n watch kept false events
IsToldOutcome p n watch kept events outcome.Spent = TellsInDepth p n watch kept true events

-- What the command `plan` promises: the outcomes that are right of a search, the operations at
-- which it ends, and what its lines say.
use Rattle.std.specs.Prelude.{◌≡◌, ◌⊎◌, ℕ, ◌≤◌, List, length}
use Rattle.tl_syntax.specs.declared.action.Action.{Action}
use Rattle.tl_syntax.specs.declared.problem.Problem.{Problem}
use Rattle.tl_terms.specs.Acceptance.{IsAccepted}
use Rattle.tl_terms.specs.Calm as calm
use Rattle.tl_terms.specs.Pairs.{Pair}
use Rattle.tl_terms.specs.Problem.{PlainProblem}
use Rattle.tl_terms.specs.ProblemMeaning.{plain_problem}
use Rattle.tl_eval.specs.Notes.{operation_of}
use Rattle.tl_eval.specs.declared.range.RangeNote.{RangeNote}
use Rattle.tl_search.specs.Plans.{HasNoPlan, HasNoPlanWithin, HasNoPlanBelow, HasPairAt, HasNoPairFrom, IsFirstShortestPlan}
use Rattle.tl_search.specs.Plans.{IsFirstSimplePlan}
use Rattle.tl_search.specs.RangeCauses.{IsRangeCause, HasNoSimplePlanBefore}
use Rattle.tl_search.specs.Spent.{HasFewPairs, IsSpent, IsSpentBreadthFirst, IsSpentDepthFirst}
use Rattle.tl_search.specs.declared.outcome.Outcome.{Outcome}
use Rattle.tl_search.specs.declared.outcome.Outcome.TheVariants as outcome
use Rattle.tl_text.specs.Outcomes.{plan_text, none_text, none_within_text}
use Rattle.tl_run.specs.declared.search.Mode.{Mode}
use Rattle.tl_run.specs.declared.search.Mode.TheVariants.{Breadth, Depth}
use Rattle.tl_run.specs.declared.search.Search.{Search}

-- the outcome is right of a search for plans of at most n actions among b search nodes, which gives
-- plans of this kind and is spent in this way: that there is none, or none within n and some search
-- node at n actions, or b + 1 search nodes
abbrev pub IsRightOutcome : (List Action → Type 0) → (List Pair → Type 0) → ℕ → ℕ → PlainProblem → Outcome → Type 0
IsRightOutcome GivesPlan SpendsPairs n b p (outcome.Plan plan) = GivesPlan plan
IsRightOutcome GivesPlan SpendsPairs n b p outcome.NoPlan = HasNoPlan p × HasNoPairFrom p n
IsRightOutcome GivesPlan SpendsPairs n b p outcome.NoneWithin = HasNoPlanWithin p n × HasPairAt p n
IsRightOutcome GivesPlan SpendsPairs n b p outcome.Spent = (xs : List Pair) × IsSpent p n b xs × SpendsPairs xs

-- the outcome that is right in a mode: breadth-first, the first in action order of the shortest
-- accepted plans; depth-first, the first in action order of those that repeat no search node; and
-- where it is spent, what was met comes before all that was not
abbrev pub IsOutcomeIn : Mode → ℕ → ℕ → PlainProblem → Outcome → Type 0
IsOutcomeIn Breadth n b p o = IsRightOutcome (IsFirstShortestPlan p n) (IsSpentBreadthFirst p b) n b p o
IsOutcomeIn Depth n b p o = IsRightOutcome (IsFirstSimplePlan p n) (IsSpentDepthFirst p n) n b p o

-- the outcome is right of the search
abbrev pub IsOutcome : Search → PlainProblem → Outcome → Type 0
IsOutcome s p o = IsOutcomeIn s.mode s.within s.nodes p o

-- what more is known of a path at whose end an operation is past range, in a search for plans of at
-- most n actions, one line for each mode: breadth-first no accepted plan is shorter, depth-first no
-- accepted plan that repeats no search node comes before it
abbrev pub ComesFirst : Mode → ℕ → PlainProblem → List Action → Type 0
ComesFirst Breadth n p path = HasNoPlanBelow p (length path)
ComesFirst Depth n p path = HasNoSimplePlanBefore p n path

-- the path executes and has at most as many actions as a plan may have, and in its last state the
-- operation is looked at and is past range
abbrev pub EndsPastRange : Search → PlainProblem → List Action → RangeNote → Type 0
EndsPastRange s p path note = IsRangeCause p s.within path (operation_of note) × ComesFirst s.mode s.within p path

-- the lines are those of a plan that is accepted and has at most so many actions, and breadth-first
-- no accepted plan is shorter
pub record PrintsPlan (s : Search) (text : List ℕ) (problem : Problem) : Type 0 where
  pub plan : List Action
  pub lines : text ≡ plan_text problem.names problem.domain.operators plan
  pub short : length plan ≤ s.within
  pub accepted : IsAccepted (plain_problem problem) plan
  pub shortest : s.mode ≡ Breadth → HasNoPlanBelow (plain_problem problem) (length plan)

-- the line says that there is no plan, and no plan is accepted; or it says so of plans of at most n
-- actions, and none of those is
abbrev pub SaysNone : ℕ → List ℕ → Problem → Type 0
SaysNone n text problem =
    ((text ≡ none_text) × HasNoPlan (plain_problem problem)) ⊎ ((text ≡ none_within_text n) × HasNoPlanWithin (plain_problem problem) n)

-- nothing past range is looked at by the search, and no more search nodes are near enough than it
-- may keep
pub record HasCalmSearch (s : Search) (problem : Problem) : Type 0 where
  pub calm : calm.IsCalm (plain_problem problem) s.within
  pub few : HasFewPairs (plain_problem problem) s.within s.nodes

-- One outcome is right of a search, unless it was spent.
use Rattle.std.proofs.Common.{◌≡◌, ◌⊎◌, inl, inr, ℕ, ◌≤◌, List, length, Ordering, Less, Equal, Greater, refl, sym, ap, ◌∙◌, arith}
use Rattle.std.specs.Ordering.{ordering_reverse}
use Rattle.tl_search.specs.Plans.{HasNoPlan, HasNoPlanWithin, HasNoPlanBelow, IsPlanWithin, IsFirstShortestPlan, IsFirstSimplePlan}
use Rattle.tl_search.specs.LawsOutcomes.{AnswersExclude}
use Rattle.tl_search.specs.Spent.{HasFewPairs, IsSpentBreadthFirst, IsSpentDepthFirst}
use Rattle.tl_search.specs.declared.outcome.Outcome.{Outcome}
use Rattle.tl_search.specs.declared.outcome.Outcome.TheVariants as outcome
use Rattle.tl_syntax.specs.declared.action.Action.{Action}
use Rattle.tl_terms.specs.LawsOrders.{PlanOrderIsTotal}
use Rattle.tl_terms.specs.Orders.{plan_cmp}
use Rattle.tl_terms.specs.Pairs.{Pair}
use Rattle.tl_terms.specs.Paths.{IsLeading}
use Rattle.tl_terms.specs.Problem.{PlainProblem}
use Rattle.tl_run.specs.declared.search.Mode.{Mode}
use Rattle.tl_run.specs.declared.search.Mode.TheVariants.{Breadth, Depth}
use Rattle.tl_run.specs.Answers.{outcome_status}
use Rattle.tl_run.specs.Laws.{Laws}
use Rattle.tl_run.specs.Plan.{IsRightOutcome, IsOutcomeIn}
use Rattle.tl_run.specs.Promises.{GivesWay, IsOwn}

-- of the shortest accepted plans one is the first
one_plan : PlanOrderIsTotal → (p : PlainProblem) (n : ℕ) (u v : List Action) → IsFirstShortestPlan p n u → IsFirstShortestPlan p n v → v ≡ u
one_plan law p n u v h k = by_order (plan_cmp v u) refl
  where
    first : IsPlanWithin p n u
    first = h.within

    second : IsPlanWithin p n v
    second = k.within

    alike : length u ≡ length v
    alike =
        let a : length u ≤ length v = h.least v second.accepted in
        let b : length v ≤ length u = k.least u first.accepted in
        omega (arith, a, b)

    by_order : (r : Ordering) → plan_cmp v u ≡ r → v ≡ u
    by_order Less e = absurd (h.first v second.accepted (sym alike) e)
    by_order Equal e = law.ties v u e
    by_order Greater e = let total = law.total in absurd (k.first u first.accepted alike (total.antisymm u v ∙ ap ordering_reverse e))

-- of the accepted plans that repeat no search node one is the first
one_simple_plan : PlanOrderIsTotal → (p : PlainProblem) (n : ℕ) (u v : List Action) → IsFirstSimplePlan p n u → IsFirstSimplePlan p n v →
    v ≡ u
one_simple_plan law p n u v h k = by_order (plan_cmp v u) refl
  where
    first : IsLeading p n u
    first = h.leading

    second : IsLeading p n v
    second = k.leading

    by_order : (r : Ordering) → plan_cmp v u ≡ r → v ≡ u
    by_order Less e = absurd (first.first v second.short second.simple k.accepted e)
    by_order Equal e = law.ties v u e
    by_order Greater e = let total = law.total in absurd (second.first u first.short first.simple h.accepted
        (total.antisymm u v ∙ ap ordering_reverse e))

simple_plan_within : (p : PlainProblem) (n : ℕ) (plan : List Action) → IsFirstSimplePlan p n plan → IsPlanWithin p n plan
simple_plan_within p n plan h = let leading = h.leading in record { short = leading.short; accepted = h.accepted }

-- the second outcome is the first, or this gives way to it
abbrev pub IsOneOrYields : Outcome → Outcome → Type 0
IsOneOrYields o u = (u ≡ o) ⊎ GivesWay (outcome_status o) (outcome_status u)

module _ (laws : Laws) (GivesPlan : List Action → Type 0) (SpendsPairs : List Pair → Type 0) (n b : ℕ) (p : PlainProblem)
    (one : (u v : List Action) → GivesPlan u → GivesPlan v → v ≡ u) (within : (u : List Action) → GivesPlan u → IsPlanWithin p n u) where
  excluded : AnswersExclude p n
  excluded = laws.exclusions p n

  one_right : (o u : Outcome) → IsRightOutcome GivesPlan SpendsPairs n b p o → IsRightOutcome GivesPlan SpendsPairs n b p u →
      IsOneOrYields o u
  one_right (outcome.Plan x) (outcome.Plan y) h k = inl (ap outcome.Plan (one x y h k))
  one_right (outcome.Plan x) outcome.NoPlan h k = let e = excluded in absurd (e.plan_or_none x (within x h) k.0)
  one_right (outcome.Plan x) outcome.NoneWithin h k = let e = excluded in absurd (e.plan_or_none_within x (within x h) k.0)
  one_right (outcome.Plan x) outcome.Spent h k = inr tt
  one_right outcome.NoPlan (outcome.Plan y) h k = let e = excluded in absurd (e.plan_or_none y (within y k) h.0)
  one_right outcome.NoPlan outcome.NoPlan h k = inl refl
  one_right outcome.NoPlan outcome.NoneWithin h k = let e = excluded in absurd (e.none_or_none_within h.1 k.1)
  one_right outcome.NoPlan outcome.Spent h k = inr tt
  one_right outcome.NoneWithin (outcome.Plan y) h k = let e = excluded in absurd (e.plan_or_none_within y (within y k) h.0)
  one_right outcome.NoneWithin outcome.NoPlan h k = let e = excluded in absurd (e.none_or_none_within k.1 h.1)
  one_right outcome.NoneWithin outcome.NoneWithin h k = inl refl
  one_right outcome.NoneWithin outcome.Spent h k = inr tt
  one_right outcome.Spent (outcome.Plan y) h k = inr tt
  one_right outcome.Spent outcome.NoPlan h k = inr tt
  one_right outcome.Spent outcome.NoneWithin h k = inr tt
  one_right outcome.Spent outcome.Spent h k = inr tt

-- one line for each mode
pub one_outcome : Laws → (m : Mode) (n b : ℕ) (p : PlainProblem) (o u : Outcome) → IsOutcomeIn m n b p o → IsOutcomeIn m n b p u →
    IsOneOrYields o u
one_outcome laws Breadth n b p o u h k = one_right laws (IsFirstShortestPlan p n) (IsSpentBreadthFirst p b) n b p (one_plan laws.orders p n)
    (λ plan f. f.within) o u h k
one_outcome laws Depth n b p o u h k = one_right laws (IsFirstSimplePlan p n) (IsSpentDepthFirst p n) n b p
    (one_simple_plan laws.orders p n) (simple_plan_within p n) o u h k

calm_right : Laws → (GivesPlan : List Action → Type 0) (SpendsPairs : List Pair → Type 0) (n b : ℕ) (p : PlainProblem) (o : Outcome) →
    HasFewPairs p n b → IsRightOutcome GivesPlan SpendsPairs n b p o → IsOwn (outcome_status o)
calm_right laws GivesPlan SpendsPairs n b p (outcome.Plan plan) few h = tt
calm_right laws GivesPlan SpendsPairs n b p outcome.NoPlan few h = tt
calm_right laws GivesPlan SpendsPairs n b p outcome.NoneWithin few h = tt
calm_right laws GivesPlan SpendsPairs n b p outcome.Spent few h = absurd (laws.few_pairs p n b h.0 few h.1)

-- with few search nodes the search is not spent: one line for each mode
pub calm_outcome : Laws → (m : Mode) (n b : ℕ) (p : PlainProblem) (o : Outcome) → HasFewPairs p n b → IsOutcomeIn m n b p o →
    IsOwn (outcome_status o)
calm_outcome laws Breadth n b p o few h = calm_right laws (IsFirstShortestPlan p n) (IsSpentBreadthFirst p b) n b p o few h
calm_outcome laws Depth n b p o few h = calm_right laws (IsFirstSimplePlan p n) (IsSpentDepthFirst p n) n b p o few h

-- what outcomes say of plans: one line for each mode

pub plan_within : (m : Mode) (n b : ℕ) (p : PlainProblem) (plan : List Action) → IsOutcomeIn m n b p (outcome.Plan plan) →
    IsPlanWithin p n plan
plan_within Breadth n b p plan h = h.within
plan_within Depth n b p plan h = simple_plan_within p n plan h

pub plan_shortest : (m : Mode) (n b : ℕ) (p : PlainProblem) (plan : List Action) → IsOutcomeIn m n b p (outcome.Plan plan) → m ≡ Breadth →
    HasNoPlanBelow p (length plan)
plan_shortest Breadth n b p plan h is = h.least
plan_shortest Depth n b p plan h is = absurd (let z : ⊥ = cc in z)

pub no_plan : (m : Mode) (n b : ℕ) (p : PlainProblem) → IsOutcomeIn m n b p outcome.NoPlan → HasNoPlan p
no_plan Breadth n b p h = h.0
no_plan Depth n b p h = h.0

pub no_plan_within : (m : Mode) (n b : ℕ) (p : PlainProblem) → IsOutcomeIn m n b p outcome.NoneWithin → HasNoPlanWithin p n
no_plan_within Breadth n b p h = h.0
no_plan_within Depth n b p h = h.0

-- Laws of the right answers of `cheapest`.
use Rattle.std.proofs.Common.{◌≡◌, inl, inr, ℕ, ◌≤◌, List, ◌++◌, length, sym, ◌∙◌, subst, arith}
use Rattle.std.specs.Prelude.{Option, Result, Ok, Err, IfOk}
use Rattle.tl_cost.specs.CostTexts.{cheapest_line, cost_text, plan_lines}
use Rattle.tl_cost.specs.LeastCosts.{HasFewNearPairs, IsCalmAtLeastCost, IsCheapestCause, IsCheapestPlan}
use Rattle.tl_cost.specs.Outcomes.{IsCheapestOutcome}
use Rattle.tl_cost.specs.PlanCosts.{plan_cost}
use Rattle.tl_cost.specs.declared.outcome.CostOutcome.{CostOutcome}
use Rattle.tl_cost.specs.declared.outcome.CostOutcome.TheVariants as outcome
use Rattle.tl_eval.specs.Notes.{operation_of}
use Rattle.tl_outside.specs.Told.{Files}
use Rattle.tl_search.specs.KeptPairs.{KeptPair, pairs_of}
use Rattle.tl_search.proofs.KeptLaws.{length-pairs}
use Rattle.tl_syntax.specs.declared.action.Action.{Action}
use Rattle.tl_syntax.specs.declared.problem.Problem.{Problem}
use Rattle.tl_terms.specs.Problem.{PlainProblem}
use Rattle.tl_terms.specs.ProblemMeaning.{plain_problem}
use Rattle.tl_run.specs.declared.status.Status.{Status}
use Rattle.tl_run.specs.declared.status.Status.TheVariants.{Yes, No, Spent}
use Rattle.tl_run.specs.Answers.{FindsCheapest}
use Rattle.tl_run.specs.Cheapest.{IsCostOutcome, cost_status}
use Rattle.tl_run.specs.Commands.{cheapest}
use Rattle.tl_run.specs.Promises.{Agrees, Headline, IsOwn}
use Rattle.tl_run.proofs.Agreement.{IsDone, from_range, gives_way, to_range}
use Rattle.tl_run.proofs.Meant.{HoldCosts}
use Rattle.tl_run.proofs.OneProblem.{SameProblem}

-- what the search answers over its kept pairs is a right outcome
right_outcome : (b : ℕ) (p : PlainProblem) (costs : List ℕ) (kept : List KeptPair) (o : CostOutcome) → IsCheapestOutcome p costs b kept o →
    IsCostOutcome b p costs o
right_outcome b p costs kept (outcome.Plan plan cost) h = h.0
right_outcome b p costs kept outcome.NoPlan h = h.0
right_outcome b p costs kept outcome.Spent h = (pairs_of kept, record { many = length-pairs kept ∙ h.many; near = h.near })

pub right_outcomes : {E : Type 0} (b : ℕ) (p : PlainProblem) (costs : List ℕ) (kept : List KeptPair) (r : Result CostOutcome E) →
    IfOk r (IsCheapestOutcome p costs b kept) → IfOk r (IsCostOutcome b p costs)
right_outcomes b p costs kept (Ok o) h = right_outcome b p costs kept o h
right_outcomes b p costs kept (Err e) h = tt

-- cheapest plans cost the same

same_cost : (p : PlainProblem) (costs : List ℕ) (plan other : List Action) (cost price : ℕ) → IsCheapestPlan p costs plan cost →
    IsCheapestPlan p costs other price → price ≡ cost
same_cost p costs plan other cost price h k =
    let a : cost ≤ plan_cost costs other = h.least other k.accepted in
    let c : price ≤ plan_cost costs plan = k.least plan h.accepted in
    omega (arith, a, c, h.its_cost, k.its_cost)

-- and have as many actions
same_length : (p : PlainProblem) (costs : List ℕ) (plan other : List Action) (cost price : ℕ) → IsCheapestPlan p costs plan cost →
    IsCheapestPlan p costs other price → length other ≡ length plan
same_length p costs plan other cost price h k =
    let e = same_cost p costs plan other cost price h k in
    let a : length plan ≤ length other = h.shortest other k.accepted (k.its_cost ∙ e) in
    let c : length other ≤ length plan = k.shortest plan h.accepted (h.its_cost ∙ sym e) in
    omega (arith, a, c)

cost_done : (o : CostOutcome) → IsDone (cost_status o)
cost_done (outcome.Plan plan cost) = tt
cost_done outcome.NoPlan = tt
cost_done outcome.Spent = tt

pub cheapest_done : (b : ℕ) (status : Status) (text : List ℕ) (m : Problem) (costs : List ℕ) → FindsCheapest b status text m costs →
    IsDone status
cheapest_done b status text m costs (inl h) = subst IsDone (sym h.status_is) (cost_done h.what)
cheapest_done b status text m costs (inr h) = subst IsDone (sym h.3) tt

-- an outcome that is right over one of two same inputs is right over the other
moved : (b : ℕ) (m q : Problem) (costs others : List ℕ) (u : CostOutcome) → SameProblem m q → costs ≡ others →
    IsCostOutcome b (plain_problem q) others u → IsCostOutcome b (plain_problem m) costs u
moved b m q costs others u same e right =
    subst (λ (c : List ℕ). IsCostOutcome b (plain_problem m) c u) (sym e)
    (subst (λ (x : PlainProblem). IsCostOutcome b x others u) (sym same.meaning) right)

module _ (b : ℕ) (d p k : List ℕ) (status given : Status) (text lines : List ℕ) (m q : Problem) (costs : List ℕ) where
  -- two right outcomes, by their statuses and lines
  outcomes_agree : (o u : CostOutcome) → IsCostOutcome b (plain_problem m) costs o → IsCostOutcome b (plain_problem m) costs u → status ≡
      cost_status o → given ≡ cost_status u → text ≡ cost_text m.names m.domain.operators b o → lines ≡
      cost_text q.names q.domain.operators b u → Agrees (cheapest b d p k) status text given lines
  outcomes_agree (outcome.Plan plan cost) (outcome.Plan other price) h i s g t l =
      let cost_is = same_cost (plain_problem m) costs plan other cost price h i in
      let length_is = same_length (plain_problem m) costs plan other cost price h i in
      inl (
        g ∙ sym s,
        inr (
          length plan,
          cost,
          (plan_lines m.names m.domain.operators plan, t),
          (
            plan_lines q.names q.domain.operators other,
            l ∙ (λ j. cheapest_line (length_is j) (cost_is j) ++
                plan_lines q.names q.domain.operators other),
          ),
        ),
      )
  outcomes_agree (outcome.Plan plan cost) outcome.NoPlan h i s g t l = absurd (i plan h.accepted)
  outcomes_agree (outcome.Plan plan cost) outcome.Spent h i s g t l = gives_way (cheapest b d p k) status given Yes Spent text lines s g tt
  outcomes_agree outcome.NoPlan (outcome.Plan other price) h i s g t l = absurd (h other i.accepted)
  outcomes_agree outcome.NoPlan outcome.NoPlan h i s g t l = inl (g ∙ sym s, inl (l ∙ sym t))
  outcomes_agree outcome.NoPlan outcome.Spent h i s g t l = gives_way (cheapest b d p k) status given No Spent text lines s g tt
  outcomes_agree outcome.Spent (outcome.Plan other price) h i s g t l =
      gives_way (cheapest b d p k) status given Spent Yes text lines s g tt
  outcomes_agree outcome.Spent outcome.NoPlan h i s g t l = gives_way (cheapest b d p k) status given Spent No text lines s g tt
  outcomes_agree outcome.Spent outcome.Spent h i s g t l = inl (g ∙ sym s, inl (l ∙ sym t))

-- of two right answers over the same costs each agrees with the other
pub cheapest_agrees : (b : ℕ) (d p k : List ℕ) (status given : Status) (text lines : List ℕ) (m q : Problem) (costs others : List ℕ) →
    SameProblem m q → costs ≡ others → FindsCheapest b status text m costs → FindsCheapest b given lines q others →
    Agrees (cheapest b d p k) status text given lines
cheapest_agrees b d p k status given text lines m q costs others same e (inl h) (inl i) =
    outcomes_agree b d p k status given text lines m q costs h.what i.what h.right
    (moved b m q costs others i.what same e i.right) h.status_is i.status_is h.text_is i.text_is
cheapest_agrees b d p k status given text lines m q costs others same e h (inr i) =
    to_range (cheapest b d p k) status given text lines (cheapest_done b status text m costs h) i.3
cheapest_agrees b d p k status given text lines m q costs others same e (inr h) i =
    from_range (cheapest b d p k) status given text lines h.3 (cheapest_done b given lines q others i)

outcome_says : (files : Option Files) (b : ℕ) (d p k : List ℕ) (m : Problem) (costs : List ℕ) (o : CostOutcome) (text : List ℕ) →
    HoldCosts files d p k m costs → IsCostOutcome b (plain_problem m) costs o → text ≡ cost_text m.names m.domain.operators b o →
    Headline files (cheapest b d p k) (cost_status o) text
outcome_says files b d p k m costs (outcome.Plan plan cost) text stand right line =
    (m, costs, stand, record { plan = plan; cost = cost; lines = line; cheapest = right })
outcome_says files b d p k m costs outcome.NoPlan text stand right line = (m, costs, stand, (right, line))
outcome_says files b d p k m costs outcome.Spent text stand right line = tt

-- what the headline says of a right answer
pub cheapest_says : (files : Option Files) (b : ℕ) (d p k : List ℕ) (status : Status) (text : List ℕ) (m : Problem) (costs : List ℕ) →
    HoldCosts files d p k m costs → FindsCheapest b status text m costs → Headline files (cheapest b d p k) status text
cheapest_says files b d p k status text m costs stand (inl h) =
    subst (λ (x : Status). Headline files (cheapest b d p k) x text) (sym h.status_is)
    (outcome_says files b d p k m costs h.what text stand h.right h.text_is)
cheapest_says files b d p k status text m costs stand (inr h) = subst (λ (x : Status). Headline files (cheapest b d p k) x text)
    (sym h.3) tt

own_outcome : (b : ℕ) (p : PlainProblem) (costs : List ℕ) (o : CostOutcome) → HasFewNearPairs p costs b → IsCostOutcome b p costs o →
    IsOwn (cost_status o)
own_outcome b p costs (outcome.Plan plan cost) few right = tt
own_outcome b p costs outcome.NoPlan few right = tt
own_outcome b p costs outcome.Spent few right =
    let nodes = right.0 in
    let spent = right.1 in
    let most : length nodes ≤ b = few nodes spent.near in
    absurd (omega (arith, most, spent.many))

-- where nothing past range is looked at, and few search nodes are near, every right answer is a plan or none
pub cheapest_calm : (b : ℕ) (status : Status) (text : List ℕ) (m q : Problem) (costs others : List ℕ) → SameProblem m q → costs ≡ others →
    IsCalmAtLeastCost (plain_problem m) costs b → HasFewNearPairs (plain_problem m) costs b → FindsCheapest b status text q others →
    IsOwn status
cheapest_calm b status text m q costs others same e calm few (inl h) =
    subst IsOwn (sym h.status_is) (own_outcome b (plain_problem m) costs h.what few (moved b m q costs others h.what same e h.right))
cheapest_calm b status text m q costs others same e calm few (inr h) =
    absurd (calm h.0 (operation_of h.1) (subst (λ (c : List ℕ). IsCheapestCause (plain_problem m) c b h.0 (operation_of h.1)) (sym e)
    (subst (λ (x : PlainProblem). IsCheapestCause x others b h.0 (operation_of h.1)) (sym same.meaning) h.2)))

-- The answers of commands: the statuses and lines that are right over what the files stand for.
use Rattle.std.specs.Prelude.{◌≡◌, ◌⊎◌, ℕ, Bool, List, [], ◌++◌, length, Option, IsTrue}
use Rattle.tl_action.specs.declared.check_fault.CheckFault.TheVariants as fault
use Rattle.tl_cert.specs.Causes.{IsNoneCause}
use Rattle.tl_cert.specs.ProofTexts.{LinksFit, proof_verdict_text, proof_text}
use Rattle.tl_cert.specs.Verdicts.{IsNoneVerdict}
use Rattle.tl_cert.specs.declared.proof.Proof.{Proof}
use Rattle.tl_check.specs.Verdicts.{IsVerdict, IsCause}
use Rattle.tl_check.specs.declared.verdict.Verdict.{Verdict}
use Rattle.tl_check.specs.declared.verdict.Verdict.TheVariants.{Valid, NotExecutable, GoalUnmet, Disobeys}
use Rattle.tl_cost.specs.CostTexts.{cost_text}
use Rattle.tl_eval.specs.Notes.{operation_of}
use Rattle.tl_eval.specs.declared.range.RangeNote.{RangeNote}
use Rattle.tl_explain.specs.Causes.{IsPastInExplanation}
use Rattle.tl_explain.specs.Explain.{explain_text}
use Rattle.tl_lasso.specs.LoopTexts.{loop_text}
use Rattle.tl_lasso.specs.Verdicts.{IsLoopVerdict, IsLoopCause}
use Rattle.tl_lasso.specs.declared.plan.LoopPlan.{LoopPlan}
use Rattle.tl_outside.specs.Told.{Files}
use Rattle.tl_search.specs.KeptPairs.{KeptPair}
use Rattle.tl_search.specs.declared.event.Event.{Event}
use Rattle.tl_search.specs.declared.outcome.Outcome.{Outcome}
use Rattle.tl_search.specs.declared.outcome.Outcome.TheVariants as outcome
use Rattle.tl_syntax.specs.declared.action.Action.{Action}
use Rattle.tl_syntax.specs.declared.problem.Problem.{Problem}
use Rattle.tl_terms.specs.ProblemMeaning.{plain_problem}
use Rattle.tl_text.specs.Outcomes.{PlanFits, outcome_text}
use Rattle.tl_text.specs.Ranges.{range_text}
use Rattle.tl_text.specs.Traces.{trace_text}
use Rattle.tl_text.specs.Verdicts.{verdict_text}
use Rattle.tl_run.specs.declared.search.Search.{Search}
use Rattle.tl_run.specs.declared.status.Status.{Status}
use Rattle.tl_run.specs.declared.status.Status.TheVariants.{Yes, No, Spent, Range}
use Rattle.tl_run.specs.CheckLoop.{loop_status}
use Rattle.tl_run.specs.CheckNone.{none_status}
use Rattle.tl_run.specs.Cheapest.{IsCostOutcome, CheapestEndsPastRange, cost_status}
use Rattle.tl_run.specs.Commands.{Command, check, search, trace, explain, prove_none, check_none, sample, cheapest, check_loop}
use Rattle.tl_run.specs.Over.{OverCosts, OverLoop, OverPlan, OverProblem, OverProof, OverSample}
use Rattle.tl_run.specs.Plan.{IsOutcome, EndsPastRange}
use Rattle.tl_run.specs.ProveNone.{IsCertificate, LeavesNoProof, unproved_status}
use Rattle.tl_run.specs.Sample.{CheckEndsPastRange, IsSummary, sample_search, sample_text}
use Rattle.tl_run.specs.Trace.{IsTrace}

-- the status with a verdict
abbrev pub verdict_status : Verdict → Status
verdict_status Valid = Yes
verdict_status (NotExecutable number) = No
verdict_status GoalUnmet = No
verdict_status Disobeys = No

-- the status with an outcome
abbrev pub outcome_status : Outcome → Status
outcome_status (outcome.Plan plan) = Yes
outcome_status outcome.NoPlan = No
outcome_status outcome.NoneWithin = No
outcome_status outcome.Spent = Spent

-- the status and the lines of a thing that is right
pub record Gives {A : Type 0} (IsRight : A → Type 0) (status_of : A → Status) (text_of : A → List ℕ) (status : Status)
    (text : List ℕ) : Type 0 where
  pub what : A
  pub right : IsRight what
  pub status_is : status ≡ status_of what
  pub text_is : text ≡ text_of what

-- the status and the lines of an operation past range, of which P holds: after so many actions of a
-- plan; or after the actions of a path, which are shown
abbrev pub PastRangeAfter : (ℕ → RangeNote → Type 0) → Problem → Status → List ℕ → Type 0
PastRangeAfter P m status text =
    (after : ℕ) × (note : RangeNote) × P after note × (status ≡ Range)
    × (text ≡ range_text m.names m.domain.operators note after [])

abbrev pub PastRangeAt : (List Action → RangeNote → Type 0) → Problem → Status → List ℕ → Type 0
PastRangeAt P m status text =
    (path : List Action) × (note : RangeNote) × P path note × (status ≡ Range)
    × (text ≡ range_text m.names m.domain.operators note (length path) path)

-- the right verdict on a plan, on a proof, or on a plan with a repeated part; or an operation past
-- range that its check looks at
abbrev pub JudgesPlan : Status → List ℕ → Problem → List Action → Type 0
JudgesPlan status text m plan =
    Gives (IsVerdict (plain_problem m) plan) verdict_status verdict_text status text
    ⊎ PastRangeAfter (λ after note. IsCause (plain_problem m) plan (fault.Range after note)) m status text

abbrev pub JudgesProof : Status → List ℕ → Problem → Proof → Type 0
JudgesProof status text m proof =
    Gives (IsNoneVerdict (plain_problem m) proof) none_status (proof_verdict_text m.names m.domain.operators proof.bound) status text
    ⊎ PastRangeAt (λ path note. IsNoneCause (plain_problem m) proof.bound proof.links path (operation_of note)) m status text

abbrev pub JudgesLoop : Status → List ℕ → Problem → LoopPlan → Type 0
JudgesLoop status text m plan =
    Gives (IsLoopVerdict (plain_problem m) plan.stem plan.cycle) loop_status loop_text status text
    ⊎ PastRangeAfter (λ after note. IsLoopCause (plain_problem m) plan.stem plan.cycle (fault.Range after note)) m status text

-- the residuals along a plan; or an operation past range that is looked at along it
abbrev pub ExplainsPlan : Status → List ℕ → Problem → List Action → Type 0
ExplainsPlan status text m plan =
    ((status ≡ Yes) × (text ≡ explain_text m plan)) ⊎ PastRangeAfter (IsPastInExplanation (plain_problem m) plan) m status text

-- the right outcome of a search, where asked with a plan whose integers have 64 bits; or an
-- operation past range at which the search ends
abbrev pub Searches : Bool → Search → Status → List ℕ → Problem → Type 0
Searches fits s status text m =
    Gives (λ (o : Outcome). IsOutcome s (plain_problem m) o × (IsTrue fits → PlanFits o)) outcome_status
    (outcome_text m.names m.domain.operators s.within s.nodes) status text
    ⊎ PastRangeAt (EndsPastRange s (plain_problem m)) m status text

-- the events and the outcome that are right of a search, with the search nodes that it keeps
pub record GivesTrace (fits : Bool) (s : Search) (status : Status) (text : List ℕ) (m : Problem) : Type 0 where
  pub kept : List KeptPair
  pub events : List Event
  pub ended : Outcome
  pub right : IsTrace s (plain_problem m) kept events ended
  pub fit : IsTrue fits → PlanFits ended
  pub status_is : status ≡ outcome_status ended
  pub text_is : text ≡ trace_text m.names m.domain kept events ++ outcome_text m.names m.domain.operators s.within s.nodes ended

abbrev pub Traces : Bool → Search → Status → List ℕ → Problem → Type 0
Traces fits s status text m = GivesTrace fits s status text m ⊎ PastRangeAt (EndsPastRange s (plain_problem m)) m status text

-- a proof that is right of a search, where asked with actions whose integers have 64 bits; or the
-- right outcome, where it leaves none
abbrev pub GivesProof : Bool → Search → Status → List ℕ → Problem → Type 0
GivesProof fits s status text m =
    Gives (λ (proof : Proof). IsCertificate s (plain_problem m) proof × (IsTrue fits → LinksFit proof.links)) (λ (proof : Proof). Yes)
    (proof_text m.names m.domain.operators) status text

abbrev pub GivesNoProof : Bool → Search → Status → List ℕ → Problem → Type 0
GivesNoProof fits s status text m =
    Gives (λ (o : Outcome). IsOutcome s (plain_problem m) o × LeavesNoProof o × (IsTrue fits → PlanFits o)) unproved_status
    (outcome_text m.names m.domain.operators s.within s.nodes) status text

abbrev pub ProvesNone : Bool → Search → Status → List ℕ → Problem → Type 0
ProvesNone fits s status text m =
    GivesProof fits s status text m
    ⊎ (GivesNoProof fits s status text m ⊎ PastRangeAt (EndsPastRange s (plain_problem m)) m status text)

-- what is right of the search of a sample, and of the check of its plan
pub record GivesSummary (balls : ℕ) (status : Status) (text : List ℕ) (m : Problem) : Type 0 where
  pub kept : ℕ
  pub ended : Outcome
  pub verdict : Option Verdict
  pub right : IsSummary balls (plain_problem m) kept ended verdict
  pub status_is : status ≡ Yes
  pub text_is : text ≡ sample_text balls kept ended verdict

abbrev pub Samples : ℕ → Status → List ℕ → Problem → Type 0
Samples balls status text m =
    GivesSummary balls status text m
    ⊎ (PastRangeAt (EndsPastRange (sample_search balls) (plain_problem m)) m status text
    ⊎ PastRangeAfter (CheckEndsPastRange balls (plain_problem m)) m status text)

-- the right outcome of a search for a cheapest plan, or an operation past range at which it ends
abbrev pub FindsCheapest : ℕ → Status → List ℕ → Problem → List ℕ → Type 0
FindsCheapest b status text m costs =
    Gives (IsCostOutcome b (plain_problem m) costs) cost_status (cost_text m.names m.domain.operators b) status text
    ⊎ PastRangeAt (CheapestEndsPastRange b (plain_problem m) costs) m status text

-- the files pass, and of what they stand for this answer is right, where asked with integers of 64
-- bits in its lines: a row for each command
abbrev pub Answers : Bool → Option Files → Command → Status → List ℕ → Type 0
Answers fits files (check d p q) status text = OverPlan files d p q (JudgesPlan status text)
Answers fits files (search s d p) status text = OverProblem files d p (Searches fits s status text)
Answers fits files (trace s d p) status text = OverProblem files d p (Traces fits s status text)
Answers fits files (explain d p q) status text = OverPlan files d p q (ExplainsPlan status text)
Answers fits files (prove_none s d p) status text = OverProblem files d p (ProvesNone fits s status text)
Answers fits files (check_none d p q) status text = OverProof files d p q (JudgesProof status text)
Answers fits files (sample balls) status text = OverSample balls (Samples balls status text)
Answers fits files (cheapest b d p k) status text = OverCosts files d p k (FindsCheapest b status text)
Answers fits files (check_loop d p q) status text = OverLoop files d p q (JudgesLoop status text)

-- What a run promises.
use Rattle.std.specs.Prelude.{◌≡◌, ◌⊎◌, ℕ, ◌++◌, true, false, List, Option, IsSome, codes, ⊤}
use Rattle.tl_action.specs.declared.check_fault.CheckFault.TheVariants as fault
use Rattle.tl_cert.specs.Causes.{IsNoneCause}
use Rattle.tl_cert.specs.ProofTexts.{head_line}
use Rattle.tl_check.specs.Verdicts.{IsCause}
use Rattle.tl_check.specs.declared.verdict.Verdict.{Verdict}
use Rattle.tl_cost.specs.CostTexts.{cheapest_line}
use Rattle.tl_cost.specs.LeastCosts.{HasFewNearPairs, IsCalmAtLeastCost}
use Rattle.tl_eval.specs.Notes.{operation_of}
use Rattle.tl_eval.specs.declared.range.RangeNote.{RangeNote}
use Rattle.tl_explain.specs.Causes.{IsPastInExplanation}
use Rattle.tl_explain.specs.LawsExplain.{Explains}
use Rattle.tl_lasso.specs.Verdicts.{IsAcceptedForEver, IsLoopCause}
use Rattle.tl_outside.specs.Told.{Files}
use Rattle.tl_search.specs.Plans.{HasNoPlan}
use Rattle.tl_search.specs.declared.outcome.Outcome.{Outcome}
use Rattle.tl_syntax.specs.declared.action.Action.{Action}
use Rattle.tl_terms.specs.Acceptance.{IsAccepted}
use Rattle.tl_terms.specs.Arithmetic.{ProblemHasNoArithmetic}
use Rattle.tl_terms.specs.ProblemMeaning.{plain_problem}
use Rattle.tl_text.specs.Outcomes.{none_text, spent_text}
use Rattle.tl_run.specs.declared.status.Status.{Status}
use Rattle.tl_run.specs.declared.status.Status.TheVariants.{Yes, No, Spent, Refused, Range, ReadFault, WriteFault, NoMemory, Usage}
use Rattle.tl_run.specs.declared.stop.Broken.{Broken}
use Rattle.tl_run.specs.Answers.{Answers, outcome_status}
use Rattle.tl_run.specs.CheckNone.{SaysProved}
use Rattle.tl_run.specs.Cheapest.{PrintsCheapestPlan}
use Rattle.tl_run.specs.Commands.{Command, check, search, trace, explain, prove_none, check_none, sample, cheapest, check_loop}
use Rattle.tl_run.specs.Over.{OverCosts, OverLoop, OverPlan, OverProblem, OverProof, OverSample}
use Rattle.tl_run.specs.Plan.{PrintsPlan, SaysNone, HasCalmSearch}
use Rattle.tl_run.specs.ProveNone.{PrintsProof}
use Rattle.tl_run.specs.Refusals.{refusal_text}
use Rattle.tl_run.specs.Sample.{SaysSummary, sample_text}
use Rattle.tl_run.specs.Sent.{SendsAll, SendsPart, SinkTold}
use Rattle.tl_run.specs.Trace.{TellsEvents}
use Rattle.tl_run.specs.Turns.{BeginsFirst, CallsTold, IsRefused}

-- the file of this number is refused in its turn, by this rule, with this status and line
abbrev pub Refuses : Option Files → Command → ℕ → Broken → Status → List ℕ → Type 0
Refuses files c number broken status text = IsRefused files c number broken × (status ≡ Refused) × (text ≡ refusal_text number broken)

-- the files allow this answer to the command: what is right over all of them, or the refusal of one
abbrev pub Allows : Option Files → Command → Status → List ℕ → Type 0
Allows files c status text =
    Answers false files c status text ⊎ ((number : ℕ) × (broken : Broken) × Refuses files c number broken status text)

-- and all integers of a plan or a proof have 64 bits; and after a refusal no file was begun that
-- comes after the refused one, and no call failed
abbrev pub IsAnswer : Option Files → Command → CallsTold → Status → List ℕ → Type 0
IsAnswer files c told status text =
    Answers true files c status text
    ⊎ ((number : ℕ) × (broken : Broken) × Refuses files c number broken status text × BeginsFirst c told number false)

-- what is written: all of an answer of which P holds; a front part of one, where a call failed,
-- which is then the last; or nothing, without a call
abbrev pub Writes : (Status → List ℕ → Type 0) → SinkTold → SinkTold → Status → Type 0
Writes P old new Usage = new ≡ old
Writes P old new ReadFault = new ≡ old
Writes P old new NoMemory = new ≡ old
Writes P old new WriteFault = (status : Status) × (text : List ℕ) × P status text × SendsPart old new text
Writes P old new status = (text : List ℕ) × P status text × SendsAll old new text

-- an answer with the first status may give way to one with the second, each by its cause: all but a
-- refusal to an operation past range and to a search that was spent, and these two to each other
-- answer, since to have met too many search nodes excludes none
abbrev pub GivesWay : Status → Status → Type 0
GivesWay Refused given = ⊥
GivesWay status Refused = ⊥
GivesWay Range given = ⊤
GivesWay Spent given = ⊤
GivesWay status Range = ⊤
GivesWay status Spent = ⊤
GivesWay status given = ⊥

-- the text has these lines first
abbrev pub BeginsWith : List ℕ → List ℕ → Type 0
BeginsWith first text = (rest : List ℕ) × (text ≡ first ++ rest)

-- both are the lines of a sample of so many balls, with one outcome, or one of them was spent
pub record SummarizeAlike (balls : ℕ) (text given : List ℕ) : Type 0 where
  pub kept : ℕ
  pub ended : Outcome
  pub verdict : Option Verdict
  pub text_is : text ≡ sample_text balls kept ended verdict
  pub other_kept : ℕ
  pub other_ended : Outcome
  pub other_verdict : Option Verdict
  pub given_is : given ≡ sample_text balls other_kept other_ended other_verdict
  pub alike : (other_ended ≡ ended) ⊎ GivesWay (outcome_status ended) (outcome_status other_ended)

-- where several answers are right: two proofs with one bound, two summaries of a sample, two plans
-- of one cost with as many actions
abbrev pub AreAlike : Command → List ℕ → List ℕ → Type 0
AreAlike (prove_none s d p) text given = (bound : Option ℕ) × BeginsWith (head_line bound) text × BeginsWith (head_line bound) given
AreAlike (sample balls) text given = SummarizeAlike balls text given
AreAlike (cheapest b d p k) text given = (n cost : ℕ) × BeginsWith (cheapest_line n cost) text × BeginsWith (cheapest_line n cost) given
AreAlike c text given = ⊥

-- the given answer is the right one or one like it, or this gives way to it
abbrev pub Agrees : Command → Status → List ℕ → Status → List ℕ → Type 0
Agrees c status text given lines =
    ((given ≡ status) × ((lines ≡ text) ⊎ AreAlike c text lines)) ⊎ GivesWay status given

-- with every answer that the files allow this one agrees
abbrev pub IsOnlyAnswer : Option Files → Command → Status → List ℕ → Type 0
IsOnlyAnswer files c given lines = (status : Status) (text : List ℕ) → Allows files c status text → Agrees c status text given lines

-- what a reader of the lines may rely on, over what the files stand for: a row for each command and
-- each status that says something of plans
abbrev pub Headline : Option Files → Command → Status → List ℕ → Type 0
Headline files (check d p q) Yes text =
    OverPlan files d p q (λ m plan. IsAccepted (plain_problem m) plan × (text ≡ codes "; valid\n"))
Headline files (search s d p) Yes text = OverProblem files d p (PrintsPlan s text)
Headline files (search s d p) No text = OverProblem files d p (SaysNone s.within text)
Headline files (trace s d p) Yes text = OverProblem files d p (TellsEvents (PrintsPlan s) text)
Headline files (trace s d p) No text = OverProblem files d p (TellsEvents (SaysNone s.within) text)
Headline files (trace s d p) Spent text = OverProblem files d p (TellsEvents (λ rest m. rest ≡ spent_text s.nodes) text)
Headline files (explain d p q) Yes text = OverPlan files d p q (λ m plan. Explains m plan text)
Headline files (prove_none s d p) Yes text = OverProblem files d p (PrintsProof text)
Headline files (prove_none s d p) No text = OverProblem files d p (PrintsPlan s text)
Headline files (check_none d p q) Yes text = OverProof files d p q (SaysProved text)
Headline files (sample balls) Yes text = OverSample balls (SaysSummary balls text)
Headline files (sample balls) No text = ⊥
Headline files (sample balls) Spent text = ⊥
Headline files (cheapest b d p k) Yes text = OverCosts files d p k (PrintsCheapestPlan text)
Headline files (cheapest b d p k) No text = OverCosts files d p k (λ m prices. HasNoPlan (plain_problem m) × (text ≡ none_text))
Headline files (check_loop d p q) Yes text =
    OverLoop files d p q (λ m plan. IsAcceptedForEver (plain_problem m) plan.stem plan.cycle × (text ≡ codes "; valid for ever\n"))
Headline files c status text = ⊤

-- the store tells its files; a sample reads none
abbrev pub AreTold : Option Files → Command → Type 0
AreTold files (sample balls) = ⊤
AreTold files c = IsSome files

-- nothing past range is looked at, and a search has room for the search nodes that it meets: those
-- of at most so many actions, or after paths that cost no more without their last action than any
-- accepted plan; of a sample, no arithmetic term stands in its texts
abbrev pub IsCalmCommand : Option Files → Command → Type 0
IsCalmCommand files (check d p q) =
    OverPlan files d p q (λ m plan. (after : ℕ) (note : RangeNote) → ¬ IsCause (plain_problem m) plan (fault.Range after note))
IsCalmCommand files (search s d p) = OverProblem files d p (HasCalmSearch s)
IsCalmCommand files (trace s d p) = OverProblem files d p (HasCalmSearch s)
IsCalmCommand files (explain d p q) =
    OverPlan files d p q (λ m plan. (after : ℕ) (note : RangeNote) → ¬ IsPastInExplanation (plain_problem m) plan after note)
IsCalmCommand files (prove_none s d p) = OverProblem files d p (HasCalmSearch s)
IsCalmCommand files (check_none d p q) =
    OverProof files d p q
    (λ m proof. (path : List Action) (note : RangeNote) → ¬ IsNoneCause (plain_problem m) proof.bound proof.links path (operation_of note))
IsCalmCommand files (sample balls) = OverSample balls (λ m. ProblemHasNoArithmetic (plain_problem m))
IsCalmCommand files (cheapest b d p k) =
    OverCosts files d p k (λ m prices. IsCalmAtLeastCost (plain_problem m) prices b × HasFewNearPairs (plain_problem m) prices b)
IsCalmCommand files (check_loop d p q) =
    OverLoop files d p q
    (λ m plan. (after : ℕ) (note : RangeNote) → ¬ IsLoopCause (plain_problem m) plan.stem plan.cycle (fault.Range after note))

-- what a command finds: no refusal, no operation past range and no search that was spent
abbrev pub IsOwn : Status → Type 0
IsOwn Yes = ⊤
IsOwn No = ⊤
IsOwn status = ⊥

-- an answer that the files allow, and what a reader of its lines may rely on. Where the store tells
-- its files, every answer that they allow agrees with it; and where they are calm besides, it is
-- what the command finds
pub record AnswersRightly (files : Option Files) (c : Command) (told : CallsTold) (status : Status) (text : List ℕ) : Type 0 where
  pub allowed : IsAnswer files c told status text
  pub headline : Headline files c status text
  pub exact : AreTold files c → IsOnlyAnswer files c status text
  pub calm : AreTold files c → IsCalmCommand files c → IsOwn status

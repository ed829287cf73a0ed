-- What the command `sample` promises: what is right of the search of a sample and of the check of
-- its plan, and what its lines say.
use Rattle.std.specs.Prelude.{◌≡◌, ℕ, ◌*◌, List, [], ◌++◌, length, Option, Some, None, codes, ⊤}
use Rattle.std.specs.Fmt.{decimal}
use Rattle.tl_syntax.specs.Lists.{Among}
use Rattle.tl_syntax.specs.declared.action.Action.{Action}
use Rattle.tl_syntax.specs.declared.problem.Problem.{Problem}
use Rattle.tl_terms.specs.Pairs.{Pair, pair_of}
use Rattle.tl_terms.specs.Problem.{PlainProblem}
use Rattle.tl_terms.specs.ProblemMeaning.{plain_problem}
use Rattle.tl_eval.specs.declared.range.RangeNote.{RangeNote}
use Rattle.tl_check.specs.Verdicts.{IsVerdict, IsCause}
use Rattle.tl_action.specs.declared.check_fault.CheckFault.TheVariants as fault
use Rattle.tl_check.specs.declared.verdict.Verdict.{Verdict}
use Rattle.tl_check.specs.declared.verdict.Verdict.TheVariants.{Valid}
use Rattle.tl_search.specs.Plans.{HasNoPlan, HasNoPlanWithin, IsPlanWithin}
use Rattle.tl_search.specs.Spent.{AreNear}
use Rattle.tl_search.specs.declared.outcome.Outcome.{Outcome}
use Rattle.tl_search.specs.declared.outcome.Outcome.TheVariants as outcome
use Rattle.tl_text.specs.Outcomes.{plan_line, none_text, none_within_text, spent_text}
use Rattle.tl_text.specs.Verdicts.{verdict_text}
use Rattle.tl_run.specs.declared.search.Mode.TheVariants.{Depth}
use Rattle.tl_run.specs.declared.search.Search.{Search}
use Rattle.tl_run.specs.Plan.{IsOutcome}

-- the search of the sample of so many balls: depth-first, for plans of at most three actions for
-- each ball, among at most 20,000 search nodes
abbrev pub sample_search : ℕ → Search
sample_search balls = record { mode = Depth; within = 3 * balls; nodes = 20000 }

-- the search nodes of all prefixes of the plan, where there is one, are among these
abbrev pub HasPrefixes : PlainProblem → List Pair → Outcome → Type 0
HasPrefixes p nodes (outcome.Plan plan) =
    (front rest : List Action) → front ++ rest ≡ plan → (x : Pair) × (pair_of p front ≡ Some x) × Among x nodes
HasPrefixes p nodes o = ⊤

-- so many different search nodes of a distance of at most n, among them those of all prefixes of
-- the plan, where there is one
pub record KeepsNodes (p : PlainProblem) (n : ℕ) (o : Outcome) (count : ℕ) : Type 0 where
  pub nodes : List Pair
  pub many : length nodes ≡ count
  pub near : AreNear p n nodes
  pub prefixes : HasPrefixes p nodes o

-- where there is a plan, the verdict is right of it, and elsewhere there is none
abbrev pub IsJudged : PlainProblem → Outcome → Option Verdict → Type 0
IsJudged p (outcome.Plan plan) (Some v) = IsVerdict p plan v
IsJudged p (outcome.Plan plan) None = ⊥
IsJudged p o (Some v) = ⊥
IsJudged p o None = ⊤

-- the number of kept search nodes, the outcome and the verdict are right of the sample
pub record IsSummary (balls : ℕ) (p : PlainProblem) (kept : ℕ) (o : Outcome) (v : Option Verdict) : Type 0 where
  pub ended : IsOutcome (sample_search balls) p o
  pub keeps : KeepsNodes p (3 * balls) o kept
  pub judged : IsJudged p o v

-- the check of the plan that the search gives ends at an operation past range
pub record CheckEndsPastRange (balls : ℕ) (p : PlainProblem) (after : ℕ) (note : RangeNote) : Type 0 where
  pub plan : List Action
  pub found : IsOutcome (sample_search balls) p (outcome.Plan plan)
  pub cause : IsCause p plan (fault.Range after note)

-- the first line of an outcome
abbrev pub first_line : Search → Outcome → List ℕ
first_line s (outcome.Plan plan) = plan_line (length plan)
first_line s outcome.NoPlan = none_text
first_line s outcome.NoneWithin = none_within_text s.within
first_line s outcome.Spent = spent_text s.nodes

-- the line of a verdict, where there is one
abbrev pub verdict_line : Option Verdict → List ℕ
verdict_line None = []
verdict_line (Some v) = verdict_text v

-- the line that says how many search nodes were kept
abbrev pub kept_line : ℕ → List ℕ
kept_line count = codes "; kept " ++ (decimal count ++ codes " pairs\n")

-- the lines of a sample: the number of balls, the outcome, the number of kept search nodes, and the
-- verdict
abbrev pub sample_text : ℕ → ℕ → Outcome → Option Verdict → List ℕ
sample_text balls kept o v =
    codes "; sample " ++ (decimal balls ++ (codes "\n" ++ (first_line (sample_search balls) o ++ (kept_line kept ++ verdict_line v))))

-- what the lines of an outcome say: a plan, with the line `; valid`, is accepted and has at most
-- three actions for each ball; `; none` says that no plan is accepted, and `; none within N` that
-- none of at most N actions is
abbrev pub Summarizes : ℕ → PlainProblem → ℕ → Outcome → List ℕ → Type 0
Summarizes balls p kept (outcome.Plan plan) text =
    (text ≡ sample_text balls kept (outcome.Plan plan) (Some Valid)) × IsPlanWithin p (3 * balls) plan
Summarizes balls p kept outcome.NoPlan text = (text ≡ sample_text balls kept outcome.NoPlan None) × HasNoPlan p
Summarizes balls p kept outcome.NoneWithin text = (text ≡ sample_text balls kept outcome.NoneWithin None) × HasNoPlanWithin p (3 * balls)
Summarizes balls p kept outcome.Spent text = text ≡ sample_text balls kept outcome.Spent None

-- the lines say what the search of the sample ended with, and of how many search nodes that it kept
pub record SaysSummary (balls : ℕ) (text : List ℕ) (problem : Problem) : Type 0 where
  pub kept : ℕ
  pub ended : Outcome
  pub keeps : KeepsNodes (plain_problem problem) (3 * balls) ended kept
  pub says : Summarizes balls (plain_problem problem) kept ended text

-- Laws of the right answers of `sample`.
use Rattle.std.proofs.Common.{◌≡◌, inl, inr, ℕ, ◌*◌, List, [], ◌∷◌, Some, None, sym, ap, ◌∙◌, subst}
use Rattle.std.specs.Prelude.{Option}
use Rattle.tl_check.specs.LawsVerdict.{OneVerdict}
use Rattle.tl_check.specs.Verdicts.{IsCause}
use Rattle.tl_action.specs.declared.check_fault.CheckFault.TheVariants as fault
use Rattle.tl_check.specs.declared.verdict.Verdict.{Verdict}
use Rattle.tl_check.specs.declared.verdict.Verdict.TheVariants.{Valid}
use Rattle.tl_eval.specs.Notes.{operation_of, Tells}
use Rattle.tl_eval.specs.declared.range.RangeNote.{RangeNote}
use Rattle.tl_gen.specs.Samples.{domain_text, problem_text}
use Rattle.tl_outside.specs.Told.{Files}
use Rattle.tl_search.specs.declared.outcome.Outcome.{Outcome}
use Rattle.tl_search.specs.declared.outcome.Outcome.TheVariants as outcome
use Rattle.tl_syntax.specs.declared.action.Action.{Action}
use Rattle.tl_syntax.specs.declared.problem.Problem.{Problem}
use Rattle.tl_syntax.specs.Lists.{Among}
use Rattle.tl_terms.specs.Acceptance.{IsAccepted, last_of}
use Rattle.tl_terms.specs.Arithmetic.{ProblemHasNoArithmetic}
use Rattle.tl_terms.specs.LawsCalm.{LooksAtNothing}
use Rattle.tl_terms.specs.Operations.{Operation}
use Rattle.tl_terms.specs.Problem.{PlainProblem}
use Rattle.tl_terms.specs.ProblemMeaning.{plain_problem}
use Rattle.tl_run.specs.declared.search.Mode.TheVariants.{Depth}
use Rattle.tl_run.specs.declared.status.Status.{Status}
use Rattle.tl_run.specs.Answers.{GivesSummary, Samples}
use Rattle.tl_run.specs.Commands.{sample}
use Rattle.tl_run.specs.Laws.{Laws}
use Rattle.tl_run.specs.Over.{StandForProblem}
use Rattle.tl_run.specs.Plan.{EndsPastRange}
use Rattle.tl_run.specs.Promises.{Agrees, Headline, IsOwn}
use Rattle.tl_run.specs.Sample.{CheckEndsPastRange, IsJudged, IsSummary, Summarizes, sample_search, sample_text}
use Rattle.tl_run.proofs.Agreement.{IsDone, from_range, to_range}
use Rattle.tl_run.proofs.OneOutcome.{plan_within, no_plan, no_plan_within}
use Rattle.tl_run.proofs.OneProblem.{SameProblem}
use Rattle.tl_run.proofs.SearchLaws.{outcomes_of_one}

pub sample_done : (m : ℕ) (status : Status) (text : List ℕ) (p : Problem) → Samples m status text p → IsDone status
sample_done m status text p (inl h) = subst IsDone (sym h.status_is) tt
sample_done m status text p (inr (inl h)) = subst IsDone (sym h.3) tt
sample_done m status text p (inr (inr h)) = subst IsDone (sym h.3) tt

-- two right summaries are alike
summaries_agree : Laws → (m : ℕ) (status given : Status) (text lines : List ℕ) (p q : Problem) → SameProblem p q →
    GivesSummary m status text p → GivesSummary m given lines q → Agrees (sample m) status text given lines
summaries_agree laws m status given text lines p q same h k =
    let here : IsSummary m (plain_problem p) h.kept h.ended h.verdict = h.right in
    let there : IsSummary m (plain_problem q) k.kept k.ended k.verdict = k.right in
    inl (
      k.status_is ∙ sym h.status_is,
      inr (record {
        kept = h.kept;
        ended = h.ended;
        verdict = h.verdict;
        text_is = h.text_is;
        other_kept = k.kept;
        other_ended = k.ended;
        other_verdict = k.verdict;
        given_is = k.text_is;
        alike = outcomes_of_one laws (sample_search m) p q h.ended k.ended same here.ended there.ended;
      }),
    )

-- of two right answers over the same problem each agrees with the other
pub sample_agrees : Laws → (m : ℕ) (status given : Status) (text lines : List ℕ) (p q : Problem) → SameProblem p q →
    Samples m status text p → Samples m given lines q → Agrees (sample m) status text given lines
sample_agrees laws m status given text lines p q same (inl h) (inl k) = summaries_agree laws m status given text lines p q same h k
sample_agrees laws m status given text lines p q same h (inr (inl k)) =
    to_range (sample m) status given text lines (sample_done m status text p h) k.3
sample_agrees laws m status given text lines p q same h (inr (inr k)) =
    to_range (sample m) status given text lines (sample_done m status text p h) k.3
sample_agrees laws m status given text lines p q same (inr (inl h)) k =
    from_range (sample m) status given text lines h.3 (sample_done m given lines q k)
sample_agrees laws m status given text lines p q same (inr (inr h)) k =
    from_range (sample m) status given text lines h.3 (sample_done m given lines q k)

-- the verdict on an accepted plan is that it is valid
valid_verdict : OneVerdict → (p : PlainProblem) (plan : List Action) (v : Option Verdict) → IsAccepted p plan →
    IsJudged p (outcome.Plan plan) v → v ≡ Some Valid
valid_verdict law p plan (Some v) accepted h = ap (λ (w : Verdict). Some w) (law p plan v Valid h accepted)
valid_verdict law p plan None accepted h = absurd h

summarizes : Laws → (m : ℕ) (p : PlainProblem) (kept : ℕ) (o : Outcome) (v : Option Verdict) (text : List ℕ) → IsSummary m p kept o v →
    text ≡ sample_text m kept o v → Summarizes m p kept o text
summarizes laws m p kept (outcome.Plan plan) v text h line =
    let within = plan_within Depth (3 * m) 20000 p plan h.ended in (
      line ∙ ap (λ (w : Option Verdict). sample_text m kept (outcome.Plan plan) w)
          (valid_verdict laws.verdicts p plan v within.accepted h.judged),
      within,
    )
summarizes laws m p kept outcome.NoPlan None text h line = (line, no_plan Depth (3 * m) 20000 p h.ended)
summarizes laws m p kept outcome.NoPlan (Some v) text h line = absurd h.judged
summarizes laws m p kept outcome.NoneWithin None text h line = (line, no_plan_within Depth (3 * m) 20000 p h.ended)
summarizes laws m p kept outcome.NoneWithin (Some v) text h line = absurd h.judged
summarizes laws m p kept outcome.Spent None text h line = line
summarizes laws m p kept outcome.Spent (Some v) text h line = absurd h.judged

-- what the headline says of a right answer
pub sample_says : Laws → (files : Option Files) (m : ℕ) (status : Status) (text : List ℕ) (p : Problem) →
    StandForProblem domain_text (problem_text m) p → Samples m status text p → Headline files (sample m) status text
sample_says laws files m status text p stand (inl h) =
    let summary : IsSummary m (plain_problem p) h.kept h.ended h.verdict = h.right in
    subst (λ (x : Status). Headline files (sample m) x text) (sym h.status_is) (
      p,
      stand,
      record {
        kept = h.kept;
        ended = h.ended;
        keeps = summary.keeps;
        says = summarizes laws m (plain_problem p) h.kept h.ended h.verdict text summary h.text_is;
      },
    )
sample_says laws files m status text p stand (inr (inl h)) = subst (λ (x : Status). Headline files (sample m) x text) (sym h.3) tt
sample_says laws files m status text p stand (inr (inr h)) = subst (λ (x : Status). Headline files (sample m) x text) (sym h.3) tt

-- no note tells an operation of an empty list
none_told : {os : List Operation} {note : RangeNote} → os ≡ [] → Tells os note → ⊥
none_told {note = note} e h = subst (Among (operation_of note)) e h.0

-- where nothing is looked at, no check ends past range
no_cause : (p : PlainProblem) → LooksAtNothing p → (plan : List Action) (after : ℕ) (note : RangeNote)
    → IsCause p plan (fault.Range after note) → ⊥
no_cause p quiet plan after note (inl h) = none_told (quiet.acting (last_of h.from h.after) h.action) h.told
no_cause p quiet plan after note (inr h) = none_told (quiet.along (h.from ∷ h.after) after) h.told

-- where no arithmetic term stands in the texts, no right answer has the status Range
pub sample_calm : Laws → (m : ℕ) (status : Status) (text : List ℕ) (p q : Problem) → SameProblem p q →
    ProblemHasNoArithmetic (plain_problem p) → Samples m status text q → IsOwn status
sample_calm laws m status text p q same plain (inl h) = subst IsOwn (sym h.status_is) tt
sample_calm laws m status text p q same plain (inr (inl h)) =
    let quiet = laws.quiet (plain_problem p) plain in
    let ends = subst (λ (u : PlainProblem). EndsPastRange (sample_search m) u h.0 h.1) (sym same.meaning) h.2 in
    absurd (laws.calm (plain_problem p) (3 * m) h.0 (operation_of h.1) (quiet.searching (3 * m)) ends.0)
sample_calm laws m status text p q same plain (inr (inr h)) =
    let c : CheckEndsPastRange m (plain_problem p) h.0 h.1 = subst (λ (u : PlainProblem). CheckEndsPastRange m u h.0 h.1)
    (sym same.meaning) h.2 in
    absurd (no_cause (plain_problem p) (laws.quiet (plain_problem p) plain) c.plan h.0 h.1 c.cause)

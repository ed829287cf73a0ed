-- Laws of the right answers of `explain`.
use Rattle.std.proofs.Common.{◌≡◌, inl, inr, ℕ, List, sym, ap, ◌∙◌, subst}
use Rattle.std.specs.Prelude.{Option}
use Rattle.tl_eval.specs.declared.range.RangeNote.{RangeNote}
use Rattle.tl_explain.specs.Causes.{IsPastInExplanation}
use Rattle.tl_explain.specs.Explain.{explain_text}
use Rattle.tl_explain.specs.LawsExplain.{Explains}
use Rattle.tl_explain.proofs.ExplainLaws.{text-explains}
use Rattle.tl_outside.specs.Told.{Files}
use Rattle.tl_syntax.specs.declared.action.Action.{Action}
use Rattle.tl_syntax.specs.declared.problem.Problem.{Problem}
use Rattle.tl_terms.specs.Problem.{PlainProblem}
use Rattle.tl_terms.specs.ProblemMeaning.{plain_problem}
use Rattle.tl_run.specs.declared.status.Status.{Status}
use Rattle.tl_run.specs.Answers.{ExplainsPlan}
use Rattle.tl_run.specs.Commands.{Command, explain}
use Rattle.tl_run.specs.Promises.{Agrees, Headline, IsOwn}
use Rattle.tl_run.proofs.Agreement.{IsDone, from_range, to_range}
use Rattle.tl_run.proofs.Meant.{HoldPlan}
use Rattle.tl_run.proofs.OneProblem.{SameProblem}
use Rattle.tl_run.proofs.SameExplanation.{same_explanation}

pub explain_done : (status : Status) (text : List ℕ) (m : Problem) (plan : List Action) → ExplainsPlan status text m plan → IsDone status
explain_done status text m plan (inl h) = subst IsDone (sym h.0) tt
explain_done status text m plan (inr h) = subst IsDone (sym h.3) tt

-- of two right answers over the same plan each agrees with the other
pub explain_agrees : (c : Command) (status given : Status) (text lines : List ℕ) (m n : Problem) (plan other : List Action) →
    SameProblem m n → plan ≡ other → ExplainsPlan status text m plan → ExplainsPlan given lines n other → Agrees c status text given lines
explain_agrees c status given text lines m n plan other same e (inl h) (inl k) =
    inl (k.0 ∙ sym h.0, inl (k.1 ∙ ap (explain_text n) (sym e) ∙ sym (same_explanation m n same plan) ∙ sym h.1))
explain_agrees c status given text lines m n plan other same e h (inr k) =
    to_range c status given text lines (explain_done status text m plan h) k.3
explain_agrees c status given text lines m n plan other same e (inr h) k =
    from_range c status given text lines h.3 (explain_done given lines n other k)

-- what the headline says of a right answer
pub explain_says : (files : Option Files) (d p q : List ℕ) (status : Status) (text : List ℕ) (m : Problem) (plan : List Action) →
    HoldPlan files d p q m plan → ExplainsPlan status text m plan → Headline files (explain d p q) status text
explain_says files d p q status text m plan stand (inl h) =
    subst (λ (s : Status). Headline files (explain d p q) s text) (sym h.0)
    (m, plan, stand, subst (Explains m plan) (sym h.1) (text-explains m plan))
explain_says files d p q status text m plan stand (inr h) = subst (λ (s : Status). Headline files (explain d p q) s text) (sym h.3) tt

-- where nothing past range is looked at, no right answer has the status Range
pub explain_calm : (status : Status) (text : List ℕ) (m n : Problem) (plan other : List Action) → SameProblem m n → plan ≡ other →
    ((after : ℕ) (note : RangeNote) → ¬ IsPastInExplanation (plain_problem m) plan after note) → ExplainsPlan status text n other →
    IsOwn status
explain_calm status text m n plan other same e calm (inl h) = subst IsOwn (sym h.0) tt
explain_calm status text m n plan other same e calm (inr h) =
    absurd (calm h.0 h.1 (subst (λ (u : PlainProblem). IsPastInExplanation u plan h.0 h.1) (sym same.meaning)
    (subst (λ (u : List Action). IsPastInExplanation (plain_problem n) u h.0 h.1) (sym e) h.2)))

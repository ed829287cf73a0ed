-- Laws of the right answers of `check`.
use Rattle.std.proofs.Common.{◌≡◌, inl, inr, ℕ, List, refl, sym, subst}
use Rattle.std.specs.Prelude.{Option}
use Rattle.tl_check.specs.LawsVerdict.{OneVerdict}
use Rattle.tl_check.specs.Verdicts.{IsVerdict, IsCause}
use Rattle.tl_action.specs.declared.check_fault.CheckFault.TheVariants as fault
use Rattle.tl_check.specs.declared.verdict.Verdict.{Verdict}
use Rattle.tl_check.specs.declared.verdict.Verdict.TheVariants.{Valid, NotExecutable, GoalUnmet, Disobeys}
use Rattle.tl_eval.specs.declared.range.RangeNote.{RangeNote}
use Rattle.tl_outside.specs.Told.{Files}
use Rattle.tl_syntax.specs.declared.action.Action.{Action}
use Rattle.tl_syntax.specs.declared.problem.Problem.{Problem}
use Rattle.tl_terms.specs.Problem.{PlainProblem}
use Rattle.tl_terms.specs.ProblemMeaning.{plain_problem}
use Rattle.tl_text.specs.Verdicts.{verdict_text}
use Rattle.tl_run.specs.declared.status.Status.{Status}
use Rattle.tl_run.specs.Answers.{JudgesPlan, verdict_status}
use Rattle.tl_run.specs.Commands.{Command, check}
use Rattle.tl_run.specs.Promises.{Agrees, Headline, IsOwn}
use Rattle.tl_run.proofs.Agreement.{IsDone, from_range, same_given, to_range}
use Rattle.tl_run.proofs.Meant.{HoldPlan}
use Rattle.tl_run.proofs.OneProblem.{SameProblem}

-- of the plan of one problem, one verdict is right
one_verdict : OneVerdict → (p q : Problem) (plan other : List Action) (v w : Verdict) → SameProblem p q → plan ≡ other →
    IsVerdict (plain_problem p) plan v → IsVerdict (plain_problem q) other w → w ≡ v
one_verdict law p q plan other v w same e h k =
    sym (law (plain_problem q) other v w (subst (λ (x : PlainProblem). IsVerdict x other v) same.meaning
    (subst (λ (x : List Action). IsVerdict (plain_problem p) x v) e h)) k)

verdict_done : (v : Verdict) → IsDone (verdict_status v)
verdict_done Valid = tt
verdict_done (NotExecutable n) = tt
verdict_done GoalUnmet = tt
verdict_done Disobeys = tt

pub check_done : (status : Status) (text : List ℕ) (m : Problem) (plan : List Action) → JudgesPlan status text m plan → IsDone status
check_done status text m plan (inl h) = subst IsDone (sym h.status_is) (verdict_done h.what)
check_done status text m plan (inr h) = subst IsDone (sym h.3) tt

-- of two right answers over the same plan each agrees with the other
pub check_agrees : OneVerdict → (c : Command) (status given : Status) (text lines : List ℕ) (m n : Problem) (plan other : List Action) →
    SameProblem m n → plan ≡ other → JudgesPlan status text m plan → JudgesPlan given lines n other → Agrees c status text given lines
check_agrees law c status given text lines m n plan other same e (inl h) (inl k) =
    same_given c (IsVerdict (plain_problem m) plan) (IsVerdict (plain_problem n) other) verdict_status verdict_text verdict_text status
    given text lines h k
    (one_verdict law m n plan other h.what k.what same e h.right k.right) refl
check_agrees law c status given text lines m n plan other same e h (inr k) =
    to_range c status given text lines (check_done status text m plan h) k.3
check_agrees law c status given text lines m n plan other same e (inr h) k =
    from_range c status given text lines h.3 (check_done given lines n other k)

verdict_says : (files : Option Files) (d p q : List ℕ) (problem : Problem) (plan : List Action) (v : Verdict) (text : List ℕ) →
    HoldPlan files d p q problem plan → IsVerdict (plain_problem problem) plan v → text ≡ verdict_text v →
    Headline files (check d p q) (verdict_status v) text
verdict_says files d p q problem plan Valid text stand right line = (problem, plan, stand, (right, line))
verdict_says files d p q problem plan (NotExecutable n) text stand right line = tt
verdict_says files d p q problem plan GoalUnmet text stand right line = tt
verdict_says files d p q problem plan Disobeys text stand right line = tt

-- what the headline says of a right answer
pub check_says : (files : Option Files) (d p q : List ℕ) (status : Status) (text : List ℕ) (m : Problem) (plan : List Action) →
    HoldPlan files d p q m plan → JudgesPlan status text m plan → Headline files (check d p q) status text
check_says files d p q status text m plan stand (inl h) =
    subst (λ (s : Status). Headline files (check d p q) s text) (sym h.status_is)
    (verdict_says files d p q m plan h.what text stand h.right h.text_is)
check_says files d p q status text m plan stand (inr h) = subst (λ (s : Status). Headline files (check d p q) s text) (sym h.3) tt

verdict_is_own : (v : Verdict) → IsOwn (verdict_status v)
verdict_is_own Valid = tt
verdict_is_own (NotExecutable n) = tt
verdict_is_own GoalUnmet = tt
verdict_is_own Disobeys = tt

-- where nothing past range is looked at, no right answer has the status Range
pub check_calm : (status : Status) (text : List ℕ) (m n : Problem) (plan other : List Action) → SameProblem m n → plan ≡ other →
    ((after : ℕ) (note : RangeNote) → ¬ IsCause (plain_problem m) plan (fault.Range after note)) → JudgesPlan status text n other →
    IsOwn status
check_calm status text m n plan other same e calm (inl h) = subst IsOwn (sym h.status_is) (verdict_is_own h.what)
check_calm status text m n plan other same e calm (inr h) =
    absurd (calm h.0 h.1 (subst (λ (u : PlainProblem). IsCause u plan (fault.Range h.0 h.1)) (sym same.meaning)
    (subst (λ (u : List Action). IsCause (plain_problem n) u (fault.Range h.0 h.1)) (sym e) h.2)))

-- Laws of the right answers of `check-loop`.
use Rattle.std.proofs.Common.{◌≡◌, inl, inr, ℕ, List, refl, sym, subst}
use Rattle.std.specs.Prelude.{Option}
use Rattle.tl_action.specs.declared.check_fault.CheckFault.TheVariants as fault
use Rattle.tl_eval.specs.declared.range.RangeNote.{RangeNote}
use Rattle.tl_lasso.specs.Laws.{OneLoopVerdict}
use Rattle.tl_lasso.specs.LoopTexts.{loop_text}
use Rattle.tl_lasso.specs.Verdicts.{IsLoopVerdict, IsLoopCause}
use Rattle.tl_lasso.specs.declared.plan.LoopPlan.{LoopPlan}
use Rattle.tl_lasso.specs.declared.verdict.LoopVerdict.{LoopVerdict}
use Rattle.tl_lasso.specs.declared.verdict.LoopVerdict.TheVariants.{Valid, NotExecutable, NotClosed, GoalUnmet, Disobeys}
use Rattle.tl_outside.specs.Told.{Files}
use Rattle.tl_syntax.specs.declared.problem.Problem.{Problem}
use Rattle.tl_terms.specs.Problem.{PlainProblem}
use Rattle.tl_terms.specs.ProblemMeaning.{plain_problem}
use Rattle.tl_run.specs.declared.status.Status.{Status}
use Rattle.tl_run.specs.Answers.{JudgesLoop}
use Rattle.tl_run.specs.CheckLoop.{loop_status}
use Rattle.tl_run.specs.Commands.{Command, check_loop}
use Rattle.tl_run.specs.Promises.{Agrees, Headline, IsOwn}
use Rattle.tl_run.proofs.Agreement.{IsDone, from_range, same_given, to_range}
use Rattle.tl_run.proofs.Meant.{HoldLoop}
use Rattle.tl_run.proofs.OneProblem.{SameProblem}

-- of the plan of one problem, one verdict is right
one_verdict : OneLoopVerdict → (p q : Problem) (plan other : LoopPlan) (v w : LoopVerdict) → SameProblem p q → plan ≡ other →
    IsLoopVerdict (plain_problem p) plan.stem plan.cycle v → IsLoopVerdict (plain_problem q) other.stem other.cycle w → w ≡ v
one_verdict law p q plan other v w same e h k =
    sym (law (plain_problem q) other.stem other.cycle v w (subst (λ (x : PlainProblem). IsLoopVerdict x other.stem other.cycle v)
    same.meaning (subst (λ (x : LoopPlan). IsLoopVerdict (plain_problem p) x.stem x.cycle v) e h)) k)

verdict_done : (v : LoopVerdict) → IsDone (loop_status v)
verdict_done Valid = tt
verdict_done (NotExecutable n) = tt
verdict_done NotClosed = tt
verdict_done GoalUnmet = tt
verdict_done Disobeys = tt

pub check_loop_done : (status : Status) (text : List ℕ) (m : Problem) (plan : LoopPlan) → JudgesLoop status text m plan → IsDone status
check_loop_done status text m plan (inl h) = subst IsDone (sym h.status_is) (verdict_done h.what)
check_loop_done status text m plan (inr h) = subst IsDone (sym h.3) tt

-- of two right answers over the same plan each agrees with the other
pub check_loop_agrees : OneLoopVerdict → (c : Command) (status given : Status) (text lines : List ℕ) (m n : Problem)
    (plan other : LoopPlan) → SameProblem m n → plan ≡ other → JudgesLoop status text m plan → JudgesLoop given lines n other →
    Agrees c status text given lines
check_loop_agrees law c status given text lines m n plan other same e (inl h) (inl k) =
    same_given c (IsLoopVerdict (plain_problem m) plan.stem plan.cycle)
    (IsLoopVerdict (plain_problem n) other.stem other.cycle) loop_status loop_text loop_text status given text lines h k
    (one_verdict law m n plan other h.what k.what same e h.right k.right) refl
check_loop_agrees law c status given text lines m n plan other same e h (inr k) =
    to_range c status given text lines (check_loop_done status text m plan h) k.3
check_loop_agrees law c status given text lines m n plan other same e (inr h) k =
    from_range c status given text lines h.3 (check_loop_done given lines n other k)

verdict_says : (files : Option Files) (d p q : List ℕ) (problem : Problem) (plan : LoopPlan) (v : LoopVerdict) (text : List ℕ) →
    HoldLoop files d p q problem plan → IsLoopVerdict (plain_problem problem) plan.stem plan.cycle v → text ≡ loop_text v →
    Headline files (check_loop d p q) (loop_status v) text
verdict_says files d p q problem plan Valid text stand right line = (problem, plan, stand, (right, line))
verdict_says files d p q problem plan (NotExecutable n) text stand right line = tt
verdict_says files d p q problem plan NotClosed text stand right line = tt
verdict_says files d p q problem plan GoalUnmet text stand right line = tt
verdict_says files d p q problem plan Disobeys text stand right line = tt

-- what the headline says of a right answer
pub check_loop_says : (files : Option Files) (d p q : List ℕ) (status : Status) (text : List ℕ) (m : Problem) (plan : LoopPlan) →
    HoldLoop files d p q m plan → JudgesLoop status text m plan → Headline files (check_loop d p q) status text
check_loop_says files d p q status text m plan stand (inl h) =
    subst (λ (s : Status). Headline files (check_loop d p q) s text) (sym h.status_is)
    (verdict_says files d p q m plan h.what text stand h.right h.text_is)
check_loop_says files d p q status text m plan stand (inr h) = subst (λ (s : Status). Headline files (check_loop d p q) s text) (sym h.3) tt

verdict_is_own : (v : LoopVerdict) → IsOwn (loop_status v)
verdict_is_own Valid = tt
verdict_is_own (NotExecutable n) = tt
verdict_is_own NotClosed = tt
verdict_is_own GoalUnmet = tt
verdict_is_own Disobeys = tt

-- where nothing past range is looked at, no right answer has the status Range
pub check_loop_calm : (status : Status) (text : List ℕ) (m n : Problem) (plan other : LoopPlan) → SameProblem m n → plan ≡ other →
    ((after : ℕ) (note : RangeNote) → ¬ IsLoopCause (plain_problem m) plan.stem plan.cycle (fault.Range after note)) →
    JudgesLoop status text n other → IsOwn status
check_loop_calm status text m n plan other same e calm (inl h) = subst IsOwn (sym h.status_is) (verdict_is_own h.what)
check_loop_calm status text m n plan other same e calm (inr h) =
    absurd (calm h.0 h.1 (subst (λ (u : PlainProblem). IsLoopCause u plan.stem plan.cycle (fault.Range h.0 h.1)) (sym same.meaning)
    (subst (λ (u : LoopPlan). IsLoopCause (plain_problem n) u.stem u.cycle (fault.Range h.0 h.1)) (sym e) h.2)))

-- The verdict on a plan, and why a check gives none.
use Rattle.std.specs.Prelude.{◌≡◌, ◌↔◌, ◌+◌, ◌≤◌, ◌⊎◌, ℕ, List, ◌∷◌, ◌++◌, length, false, Some, None, IsTrue}
use Rattle.tl_action.specs.declared.check_fault.CheckFault.{CheckFault}
use Rattle.tl_action.specs.declared.check_fault.CheckFault.TheVariants as fault
use Rattle.tl_check.specs.declared.verdict.Verdict.{Verdict}
use Rattle.tl_check.specs.declared.verdict.Verdict.TheVariants as verdict
use Rattle.tl_eval.specs.Notes.{Tells}
use Rattle.tl_eval.specs.declared.range.RangeNote.{RangeNote}
use Rattle.tl_syntax.specs.declared.action.Action.{Action}
use Rattle.tl_terms.specs.Acceptance.{IsAccepted, states, meets_goal, last_of, run_of}
use Rattle.tl_terms.specs.Looked.{looked_by_action, looked_along}
use Rattle.tl_terms.specs.Problem.{PlainProblem}
use Rattle.tl_terms.specs.Run.{Satisfies}
use Rattle.tl_terms.specs.Step.{step}
use Rattle.tl_terms.specs.World.{World}

-- the actions before the k-th execute, and it has no step in the world after them; actions are
-- counted from 1
pub record StopsAt (p : PlainProblem) (plan : List Action) (k : ℕ) : Type 0 where
  pub front : List Action
  pub action : Action
  pub rest : List Action
  pub whole : plan ≡ front ++ action ∷ rest
  pub place : k ≡ length front + 1
  pub from : World
  pub after : List World
  pub executes : states p front ≡ Some (from ∷ after)
  pub stuck : step p (last_of from after) action ≡ None

-- all actions execute, and an element of the goal is false in the last state
pub record MissesGoal (p : PlainProblem) (plan : List Action) : Type 0 where
  pub from : World
  pub after : List World
  pub executes : states p plan ≡ Some (from ∷ after)
  pub misses : meets_goal (last_of from after) p.goal p.avoid ≡ false

-- all actions execute and the goal is met in the last state, and the control formula does not hold
-- at the first position of the run of the states
pub record BreaksControl (p : PlainProblem) (plan : List Action) : Type 0 where
  pub from : World
  pub after : List World
  pub executes : states p plan ≡ Some (from ∷ after)
  pub reaches : IsTrue (meets_goal (last_of from after) p.goal p.avoid)
  pub breaks : Satisfies p (run_of from after) 0 p.control → ⊥

-- what a verdict says of a plan (plan validation, Howey and Long 2003)
abbrev pub IsVerdict : PlainProblem → List Action → Verdict → Type 0
IsVerdict p plan verdict.Valid = IsAccepted p plan
IsVerdict p plan (verdict.NotExecutable k) = StopsAt p plan k
IsVerdict p plan verdict.GoalUnmet = MissesGoal p plan
IsVerdict p plan verdict.Disobeys = BreaksControl p plan

-- it is Valid exactly where the plan is accepted
abbrev pub AcceptsRightly : PlainProblem → List Action → Verdict → Type 0
AcceptsRightly p plan v = (v ≡ verdict.Valid) ↔ IsAccepted p plan

-- the first k actions execute, and the next one looks at the noted operation in the world after
-- them, where it is past range
pub record IsPastInAction (p : PlainProblem) (plan : List Action) (k : ℕ) (note : RangeNote) : Type 0 where
  pub front : List Action
  pub action : Action
  pub rest : List Action
  pub whole : plan ≡ front ++ action ∷ rest
  pub place : k ≡ length front
  pub from : World
  pub after : List World
  pub executes : states p front ≡ Some (from ∷ after)
  pub told : Tells (looked_by_action p (last_of from after) action) note

-- all actions execute and the goal is met in the last state, and the control formula along the
-- states looks at the noted operation in the world after the first k actions, where it is past
-- range
pub record IsPastInControl (p : PlainProblem) (plan : List Action) (k : ℕ) (note : RangeNote) : Type 0 where
  pub from : World
  pub after : List World
  pub executes : states p plan ≡ Some (from ∷ after)
  pub reaches : IsTrue (meets_goal (last_of from after) p.goal p.avoid)
  pub within : k ≤ length plan
  pub told : Tells (looked_along p (from ∷ after) k p.control) note

-- why a check gives no verdict; want of memory has no cause
abbrev pub IsCause : PlainProblem → List Action → CheckFault → Type 0
IsCause p plan (fault.Range k note) = IsPastInAction p plan k note ⊎ IsPastInControl p plan k note
IsCause p plan fault.NoMemory = Unit {0}

-- Plans with a repeated part: when one is accepted for ever, which verdict is right of it, and why
-- a check gives none.
use Rattle.std.specs.Prelude.{◌≡◌, ◌≢◌, ◌<◌, ◌+◌, ◌⊎◌, ℕ, List, [], ◌∷◌, ◌++◌, length, false, Some, IsTrue, slice_get}
use Rattle.tl_action.specs.declared.check_fault.CheckFault.{CheckFault}
use Rattle.tl_action.specs.declared.check_fault.CheckFault.TheVariants as fault
use Rattle.tl_check.specs.Verdicts.{StopsAt, IsPastInAction}
use Rattle.tl_eval.specs.Notes.{Tells}
use Rattle.tl_eval.specs.declared.range.RangeNote.{RangeNote}
use Rattle.tl_lasso.specs.declared.verdict.LoopVerdict.{LoopVerdict}
use Rattle.tl_lasso.specs.declared.verdict.LoopVerdict.TheVariants as verdict
use Rattle.tl_syntax.specs.declared.action.Action.{Action}
use Rattle.tl_terms.specs.Acceptance.{states, meets_goal}
use Rattle.tl_terms.specs.Looked.{looked_after}
use Rattle.tl_terms.specs.Operations.{Operation}
use Rattle.tl_terms.specs.Problem.{PlainProblem}
use Rattle.tl_terms.specs.Run.{Run, Satisfies}
use Rattle.tl_syntax.specs.Trees.{FormulaTree}
use Rattle.tl_terms.specs.World.{World}

-- the states of a plan with a repeated part, each action done once: those before the repeated part
-- begins, the one in which it begins, those between its actions, and the one after the last of them
pub record LoopStates (p : PlainProblem) (stem cycle : List Action) : Type 0 where
  pub before : List World
  pub first : World
  pub between : List World
  pub last : World
  pub count : length before ≡ length stem
  pub executes : states p (stem ++ cycle) ≡ Some (before ++ (first ∷ (between ++ last ∷ [])))

-- the run that it makes, where the repeated part ends in the state in which it began: a stem, and a
-- loop that is repeated for ever (Sistla and Clarke 1985)
abbrev pub loop_run : {p : PlainProblem} {stem cycle : List Action} → LoopStates p stem cycle → Run
loop_run s = record { stem = s.before; first = s.first; rest = s.between }

-- the states of that run, each once
abbrev pub states_once : {p : PlainProblem} {stem cycle : List Action} → LoopStates p stem cycle → List World
states_once s = s.before ++ (s.first ∷ s.between)

-- the plan is accepted for ever: it executes, the repeated part ends in the state in which it
-- began, the goal is met there, and the control formula holds at the first position of the run
pub record IsAcceptedForEver (p : PlainProblem) (stem cycle : List Action) : Type 0 where
  pub states : LoopStates p stem cycle
  pub closes : states.last ≡ states.first
  pub reaches : IsTrue (meets_goal states.first p.goal p.avoid)
  pub obeys : Satisfies p (loop_run states) 0 p.control

-- the plan executes, and the repeated part ends in another state than it began in
pub record StaysOpen (p : PlainProblem) (stem cycle : List Action) : Type 0 where
  pub states : LoopStates p stem cycle
  pub opens : states.last ≢ states.first

-- the repeated part ends in the state in which it began, and an element of the goal is false there
pub record LoopMissesGoal (p : PlainProblem) (stem cycle : List Action) : Type 0 where
  pub states : LoopStates p stem cycle
  pub closes : states.last ≡ states.first
  pub misses : meets_goal states.first p.goal p.avoid ≡ false

-- the goal is met there, and the control formula does not hold at the first position of the run
pub record LoopBreaksControl (p : PlainProblem) (stem cycle : List Action) : Type 0 where
  pub states : LoopStates p stem cycle
  pub closes : states.last ≡ states.first
  pub reaches : IsTrue (meets_goal states.first p.goal p.avoid)
  pub breaks : Satisfies p (loop_run states) 0 p.control → ⊥

-- what a verdict says of a plan with a repeated part
abbrev pub IsLoopVerdict : PlainProblem → List Action → List Action → LoopVerdict → Type 0
IsLoopVerdict p stem cycle verdict.Valid = IsAcceptedForEver p stem cycle
IsLoopVerdict p stem cycle (verdict.NotExecutable k) = StopsAt p (stem ++ cycle) k
IsLoopVerdict p stem cycle verdict.NotClosed = StaysOpen p stem cycle
IsLoopVerdict p stem cycle verdict.GoalUnmet = LoopMissesGoal p stem cycle
IsLoopVerdict p stem cycle verdict.Disobeys = LoopBreaksControl p stem cycle

-- looked at by the formula along some states, in state k: its basic formulas, for all values of the
-- variables quantified around them, each tuple making its bound true in one of the states
abbrev pub looked_round : PlainProblem → List World → ℕ → FormulaTree → List Operation
looked_round p ws k f = looked_after p ws (slice_get ws k) f

-- the goal is met where the repeated part begins and ends, and the control formula along the states
-- looks at the noted operation in the world after the first k actions, where it is past range
pub record IsPastInLoop (p : PlainProblem) (stem cycle : List Action) (k : ℕ) (note : RangeNote) : Type 0 where
  pub states : LoopStates p stem cycle
  pub closes : states.last ≡ states.first
  pub reaches : IsTrue (meets_goal states.first p.goal p.avoid)
  pub within : k < length stem + length cycle
  pub told : Tells (looked_round p (states_once states) k p.control) note

-- why a check gives no verdict; want of memory has no cause
abbrev pub IsLoopCause : PlainProblem → List Action → List Action → CheckFault → Type 0
IsLoopCause p stem cycle (fault.Range k note) = IsPastInAction p (stem ++ cycle) k note ⊎ IsPastInLoop p stem cycle k note
IsLoopCause p stem cycle fault.NoMemory = Unit {0}

-- Why a plan is not explained: an operation past range.
use Rattle.std.specs.Prelude.{◌≡◌, ◌⊎◌, ℕ, List, ◌∷◌, ◌++◌, length, Some}
use Rattle.tl_syntax.specs.declared.action.Action.{Action}
use Rattle.tl_terms.specs.Acceptance.{states, last_of, all_but_last}
use Rattle.tl_terms.specs.Looked.{looked_by_progressing}
use Rattle.tl_terms.specs.Pairs.{residual}
use Rattle.tl_terms.specs.Problem.{PlainProblem}
use Rattle.tl_terms.specs.World.{World}
use Rattle.tl_eval.specs.Notes.{Tells}
use Rattle.tl_eval.specs.declared.range.RangeNote.{RangeNote}
use Rattle.tl_check.specs.Verdicts.{IsPastInAction}
use Rattle.tl_explain.specs.declared.fault.ExplainFault.{ExplainFault}
use Rattle.tl_explain.specs.declared.fault.ExplainFault.TheVariants as fault

-- the first k actions execute, and progressing the formula that comes in after them looks at the
-- noted operation in the world after them, where it is past range
pub record IsPastInProgression (p : PlainProblem) (plan : List Action) (k : ℕ) (note : RangeNote) : Type 0 where
  pub front : List Action
  pub rest : List Action
  pub whole : plan ≡ front ++ rest
  pub place : k ≡ length front
  pub from : World
  pub after : List World
  pub executes : states p front ≡ Some (from ∷ after)
  pub told : Tells (looked_by_progressing p (last_of from after) (residual p (all_but_last from after) p.control)) note

-- after the first k actions the noted operation is past range, and the next action looks at it or
-- progressing does
abbrev pub IsPastInExplanation : PlainProblem → List Action → ℕ → RangeNote → Type 0
IsPastInExplanation p plan k note = IsPastInAction p plan k note ⊎ IsPastInProgression p plan k note

-- why a plan is not explained; want of memory has no cause
abbrev pub IsExplainCause : PlainProblem → List Action → ExplainFault → Type 0
IsExplainCause p plan (fault.Range k note) = IsPastInExplanation p plan k note
IsExplainCause p plan fault.NoMemory = Unit {0}

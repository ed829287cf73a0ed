-- The verdict on a plan with known states.
use Rattle.std.specs.Prelude.{◌≡◌, ◌++◌, ℕ, List, length, Result, Some, IfOk, IfErr}
use Rattle.tl_action.specs.declared.check_fault.CheckFault.{CheckFault}
use Rattle.tl_check.specs.StatesAlong.{states_of}
use Rattle.tl_check.specs.declared.rounds.Round.{Round}
use Rattle.tl_lasso.specs.Verdicts.{IsLoopVerdict, IsLoopCause}
use Rattle.tl_lasso.specs.declared.verdict.LoopVerdict.{LoopVerdict}
use Rattle.tl_syntax.specs.declared.action.Action.{Action}
use Rattle.tl_terms.specs.Acceptance.{states}
use Rattle.tl_terms.specs.Problem.{PlainProblem}
use Rattle.tl_terms.specs.World.{World}

-- what is answered is right of each plan with these states whose first part has n actions
pub record IsJudgementOn (p : PlainProblem) (ws : List World) (n : ℕ) (r : Result LoopVerdict CheckFault) : Type 0 where
  pub verdict : (stem cycle : List Action) → length stem ≡ n → states p (stem ++ cycle) ≡ Some ws → IfOk r (IsLoopVerdict p stem cycle)
  pub cause : (stem cycle : List Action) → length stem ≡ n → states p (stem ++ cycle) ≡ Some ws → IfErr r (IsLoopCause p stem cycle)

-- so it is with the states of this one
abbrev pub IsJudgement : PlainProblem → Round → Result LoopVerdict CheckFault → Type 0
IsJudgement p round r = IsJudgementOn p (states_of p round.plan.now) round.again r

-- What the lines that explain a plan say.
use Rattle.std.specs.Prelude.{◌≡◌, ◌⊎◌, ℕ, List, ◌++◌, length, Some, IsSome}
use Rattle.tl_syntax.specs.declared.action.Action.{Action}
use Rattle.tl_syntax.specs.declared.problem.Problem.{Problem}
use Rattle.tl_terms.specs.Acceptance.{states}
use Rattle.tl_terms.specs.Pairs.{residual}
use Rattle.tl_terms.specs.ProblemMeaning.{plain_problem}
use Rattle.tl_terms.specs.World.{World}
use Rattle.tl_check.specs.Verdicts.{StopsAt}
use Rattle.tl_explain.specs.Explain.{end_line, explain_text, state_line, stopped_line}

-- the lines have one for the last of these states, with the label of the control formula progressed
-- through all of them; so many actions come before it
pub record ShowsState (p : Problem) (text : List ℕ) (k : ℕ) (ws : List World) : Type 0 where
  pub before : List ℕ
  pub behind : List ℕ
  pub whole : text ≡ before ++ (state_line p k (residual (plain_problem p) ws (plain_problem p).control) ++ behind)

-- for each front of the plan that executes, the lines show the state after it
abbrev pub ShowsStates : Problem → List Action → List ℕ → Type 0
ShowsStates p plan text =
    (front rest : List Action) (ws : List World) → plan ≡ front ++ rest → states (plain_problem p) front ≡ Some ws →
    ShowsState p text (length front) ws

-- the last line is `; end`, and all actions execute
pub record EndsWithAll (p : Problem) (plan : List Action) (text : List ℕ) : Type 0 where
  pub before : List ℕ
  pub whole : text ≡ before ++ end_line
  pub executes : IsSome (states (plain_problem p) plan)

-- the last line is `; not executable k`, and the k-th action is the first without a step
pub record EndsStopped (p : Problem) (plan : List Action) (text : List ℕ) : Type 0 where
  pub before : List ℕ
  pub number : ℕ
  pub whole : text ≡ before ++ stopped_line number
  pub stops : StopsAt (plain_problem p) plan number

-- the lines show the states of the plan up to the first action that has no step, and say whether
-- there is such an action
pub record Explains (p : Problem) (plan : List Action) (text : List ℕ) : Type 0 where
  pub shows : ShowsStates p plan text
  pub ends : EndsWithAll p plan text ⊎ EndsStopped p plan text

-- the lines that explain a plan do so
abbrev pub TextExplains : Type 0
TextExplains = (p : Problem) (plan : List Action) → Explains p plan (explain_text p plan)

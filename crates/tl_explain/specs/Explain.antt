-- The text that explains a plan: the residual of the control formula in each of its states.
use Rattle.std.specs.Prelude.{ℕ, ◌+◌, List, [], ◌∷◌, ◌++◌, Option, Some, None, codes}
use Rattle.std.specs.Fmt.{decimal}
use Rattle.tl_syntax.specs.declared.action.Action.{Action}
use Rattle.tl_syntax.specs.declared.problem.Problem.{Problem}
use Rattle.tl_syntax.specs.Assignment.{no_values}
use Rattle.tl_syntax.specs.Trees.{FormulaTree}
use Rattle.tl_terms.specs.Definitions.{situation_of}
use Rattle.tl_terms.specs.ProblemMeaning.{plain_problem}
use Rattle.tl_terms.specs.Progression.{progressed}
use Rattle.tl_terms.specs.Step.{step}
use Rattle.tl_terms.specs.World.{World}
use Rattle.tl_line.specs.ActionTexts.{action_text}
use Rattle.tl_label.specs.Labels.{label_text}

-- the line of a state: how many actions come before it, and the label of the residual in it
abbrev pub state_line : Problem → ℕ → FormulaTree → List ℕ
state_line p k f = codes "; state " ++ (decimal k ++ (codes ": " ++ (label_text p.names p.domain f ++ codes "\n")))

-- the line of an action
abbrev pub action_line : Problem → Action → List ℕ
action_line p a = action_text p.names p.domain.operators a ++ codes "\n"

-- the last line where all actions execute
abbrev pub end_line : List ℕ
end_line = codes "; end\n"

-- the last line where the action of this number, counted from 1, has no step
abbrev pub stopped_line : ℕ → List ℕ
stopped_line number = codes "; not executable " ++ (decimal number ++ codes "\n")

-- what has to hold after this world of the problem, for the formula to hold in it and on
abbrev pub progressed_in : Problem → World → FormulaTree → FormulaTree
progressed_in p w f = progressed (situation_of (plain_problem p) w) no_values f

-- the first lines where an action has no step, and else those for the world after it
abbrev pub by_step : List ℕ → (World → List ℕ) → Option World → List ℕ
by_step stopped onward None = stopped
by_step stopped onward (Some w) = onward w

-- the lines after that of a state, which k actions come before, from its world and the residual in
-- it: the last line, or the next action with the line of the state after it and what follows there
unfoldable pub lines_after : Problem → ℕ → World → FormulaTree → List Action → List ℕ
lines_after p k w f [] = end_line
lines_after p k w f (a ∷ plan) =
    by_step (stopped_line (k + 1))
    (λ v. action_line p a ++ (state_line p (k + 1) (progressed_in p v f) ++ lines_after p (k + 1) v (progressed_in p v f) plan))
    (step (plain_problem p) w a)

-- the lines from the first state on, in which this is the residual
abbrev pub lines_from_first : Problem → FormulaTree → List Action → List ℕ
lines_from_first p f plan = state_line p 0 f ++ lines_after p 0 (plain_problem p).first f plan

-- the lines that explain a plan (residuals by progression, Bacchus and Kabanza 2000)
abbrev pub explain_text : Problem → List Action → List ℕ
explain_text p plan = lines_from_first p (progressed_in p (plain_problem p).first (plain_problem p).control) plan

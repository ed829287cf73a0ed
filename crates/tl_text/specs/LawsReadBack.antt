-- Laws of the lines of actions and of plans.
use Rattle.std.specs.Prelude.{◌≡◌, ℕ, ◌≤◌, List, [], length, map}
use Rattle.tl_sexpr.specs.Spelling.{Spells}
use Rattle.tl_sexpr.specs.Tree.{FormTrees}
use Rattle.tl_syntax.specs.declared.action.Action.{Action}
use Rattle.tl_syntax.specs.declared.operator.Operator.{Operator}
use Rattle.tl_syntax.specs.Lists.{Each}
use Rattle.tl_syntax.specs.Settled.{Differ}
use Rattle.tl_syntax.specs.Texts.{AreDistinct}
use Rattle.tl_line.specs.WritableActions.{IsWritable}
use Rattle.tl_text.specs.Plans.{plan_breaks}
use Rattle.tl_text.specs.MeaningOfPlans.{plan_meant}
use Rattle.tl_text.specs.Outcomes.{plan_text}
use Rattle.tl_line.specs.AnswerLines.{action_lines}

-- the bytes spell forms that break no rule of plan files and stand for this plan
pub record AreReadAsPlan (names : List (List ℕ)) (operators : List Operator) (bytes : List ℕ) (plan : List Action) : Type 0 where
  pub forms : FormTrees
  pub spelled : Spells bytes forms
  pub unbroken : plan_breaks names operators forms ≡ []
  pub meant : plan_meant names operators forms ≡ plan

-- where operators have different names, the lines of at most 100000 actions that can be written are
-- a plan file of these actions
abbrev pub LinesAreReadBack : Type 0
LinesAreReadBack =
    (names : List (List ℕ)) (operators : List Operator) (plan : List Action) →
    AreDistinct names → Differ (map (λ o. o.name) operators) → Each (IsWritable names operators) plan → length plan ≤ 100000 →
    AreReadAsPlan names operators (action_lines names operators plan) plan

-- so are the lines of a printed plan, of which the first is a comment
abbrev pub PlansAreReadBack : Type 0
PlansAreReadBack =
    (names : List (List ℕ)) (operators : List Operator) (plan : List Action) →
    AreDistinct names → Differ (map (λ o. o.name) operators) → Each (IsWritable names operators) plan → length plan ≤ 100000 →
    AreReadAsPlan names operators (plan_text names operators plan) plan

-- Laws of the texts of actions.
use Rattle.std.specs.Prelude.{◌≡◌, ℕ, List, [], map}
use Rattle.tl_sexpr.specs.Spelling.{Spells}
use Rattle.tl_sexpr.specs.Tree.{FormTree, no_form, more_forms}
use Rattle.tl_syntax.specs.declared.action.Action.{Action}
use Rattle.tl_syntax.specs.declared.operator.Operator.{Operator}
use Rattle.tl_syntax.specs.Settled.{Differ}
use Rattle.tl_syntax.specs.Texts.{AreDistinct}
use Rattle.tl_line.specs.Actions.{action_breaks}
use Rattle.tl_line.specs.MeaningOfActions.{action_meant}
use Rattle.tl_line.specs.ActionTexts.{action_text}
use Rattle.tl_line.specs.WritableActions.{IsWritable}

-- the bytes spell one form, which breaks no rule in the role of an action and stands for this one
pub record IsReadAs (names : List (List ℕ)) (operators : List Operator) (bytes : List ℕ) (a : Action) : Type 0 where
  pub form : FormTree
  pub spelled : Spells bytes (more_forms form no_form)
  pub unbroken : action_breaks names operators form ≡ []
  pub meant : action_meant names operators form ≡ a

-- where operators have different names, the text of an action that can be written is read as that
-- action
abbrev pub TextIsReadBack : Type 0
TextIsReadBack =
    (names : List (List ℕ)) (operators : List Operator) (a : Action) →
    AreDistinct names → Differ (map (λ o. o.name) operators) → IsWritable names operators a →
    IsReadAs names operators (action_text names operators a) a

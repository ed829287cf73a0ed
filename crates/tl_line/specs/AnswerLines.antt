-- Lines that several answers have.
use Rattle.std.specs.Prelude.{ℕ, List, [], ◌∷◌, ◌++◌, codes}
use Rattle.std.specs.Fmt.{decimal}
use Rattle.tl_syntax.specs.declared.action.Action.{Action}
use Rattle.tl_syntax.specs.declared.operator.Operator.{Operator}
use Rattle.tl_line.specs.ActionTexts.{action_text}

-- a line for each action
abbrev pub action_lines : List (List ℕ) → List Operator → List Action → List ℕ
action_lines names operators [] = []
action_lines names operators (a ∷ actions) = action_text names operators a ++ (codes "\n" ++ action_lines names operators actions)

-- the line that says that there is no plan
abbrev pub none_text : List ℕ
none_text = codes "; none\n"

-- the line that says that a search met more than b search nodes
abbrev pub spent_text : ℕ → List ℕ
spent_text b = codes "; spent " ++ (decimal b ++ codes "\n")

-- the line that says that the action of this number, counted from 1, is not executable in its turn
abbrev pub not_executable_text : ℕ → List ℕ
not_executable_text number = codes "; not executable " ++ (decimal number ++ codes "\n")

-- The text of an action, which is how a plan file writes it.
use Rattle.std.specs.Prelude.{ℕ, List, [], ◌∷◌, ◌++◌, slice_get, option_and_then, unwrap_or, codes}
use Rattle.std.specs.Fmt.{signed_decimal}
use Rattle.tl_syntax.specs.declared.action.Action.{Action}
use Rattle.tl_syntax.specs.declared.operator.Operator.{Operator}
use Rattle.tl_syntax.specs.declared.value.Value.{Value}
use Rattle.tl_syntax.specs.declared.value.Value.TheVariants.{Int, Sym}

-- the text of a name's number
abbrev pub name_text : List (List ℕ) → ℕ → List ℕ
name_text names n = unwrap_or (slice_get names n) []

-- an integer in decimal, or the text of a symbol
abbrev pub value_text : List (List ℕ) → Value → List ℕ
value_text names (Int z) = signed_decimal z
value_text names (Sym n) = name_text names n

-- each value after a space
abbrev pub values_text : List (List ℕ) → List Value → List ℕ
values_text names [] = []
values_text names (v ∷ vs) = codes " " ++ (value_text names v ++ values_text names vs)

-- the name of the operator at this position
abbrev pub operator_text : List (List ℕ) → List Operator → ℕ → List ℕ
operator_text names operators op = unwrap_or (option_and_then (λ o. slice_get names o.name) (slice_get operators op)) []

-- the operator's name and the arguments, in parentheses
abbrev pub action_text : List (List ℕ) → List Operator → Action → List ℕ
action_text names operators a = codes "(" ++ (operator_text names operators a.op ++ (values_text names a.args ++ codes ")"))

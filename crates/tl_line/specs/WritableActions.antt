-- Which actions are read back from their text.
use Rattle.std.specs.Prelude.{◌≡◌, ℕ, ◌<◌, List, length, Some, false, FitsSigned, slice_get}
use Rattle.std.specs.Int.{w64}
pub use Rattle.tl_sexpr.specs.Symbols.{IsSymbolText}
use Rattle.tl_syntax.specs.declared.action.Action.{Action}
use Rattle.tl_syntax.specs.declared.operator.Operator.{Operator}
use Rattle.tl_syntax.specs.declared.value.Value.{Value}
use Rattle.tl_syntax.specs.declared.value.Value.TheVariants.{Int, Sym}
use Rattle.tl_syntax.specs.Lists.{Each}
use Rattle.tl_rules.specs.Parts.{is_variable}
use Rattle.tl_line.specs.ActionTexts.{name_text}

-- the number of a name, whose text is that of a symbol
pub record IsWritableName (names : List (List ℕ)) (n : ℕ) : Type 0 where
  pub within : n < length names
  pub symbol : IsSymbolText (name_text names n)

-- an integer of 64 bits, or a name that is no variable
abbrev pub IsWritableValue : List (List ℕ) → Value → Type 0
IsWritableValue names (Int z) = FitsSigned w64 z
IsWritableValue names (Sym n) = IsWritableName names n × (is_variable (name_text names n) ≡ false)

-- the operator is there and takes as many arguments as the action has, and its name and the
-- arguments can be written
pub record IsWritable (names : List (List ℕ)) (operators : List Operator) (a : Action) : Type 0 where
  pub operator : Operator
  pub is : slice_get operators a.op ≡ Some operator
  pub name : IsWritableName names operator.name
  pub counted : length a.args ≡ length operator.params
  pub args : Each (IsWritableValue names) a.args

-- an integer of 64 bits, as the program has them, or a symbol
abbrev pub ValueFits : Value → Type 0
ValueFits (Int z) = FitsSigned w64 z
ValueFits (Sym n) = Unit {0}

-- the arguments of the action are such values
abbrev pub ArgumentsFit : Action → Type 0
ArgumentsFit a = Each ValueFits a.args

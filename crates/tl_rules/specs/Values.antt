-- The values that forms stand for.
--
-- What is said of the value of a form that breaks a rule does not matter.
use Rattle.std.specs.Prelude.{ℕ, pos, List, [], ◌∷◌}
use Rattle.tl_sexpr.specs.Tree.{FormTree, FormTrees, symbol, integer, list, no_form, more_forms}
use Rattle.tl_syntax.specs.declared.value.Value.{Value}
use Rattle.tl_syntax.specs.declared.value.Value.TheVariants.{Int, Sym}
use Rattle.tl_rules.specs.Symbols.{number_in}

-- a value: an integer, or a name by its number
abbrev pub value_meant : List (List ℕ) → FormTree → Value
value_meant names (symbol text at) = Sym (number_in names text)
value_meant names (integer z at) = Int z
value_meant names (list fs at) = Int (pos 0)

-- values
abbrev pub values_meant : List (List ℕ) → FormTrees → List Value
values_meant names no_form = []
values_meant names (more_forms f fs) = value_meant names f ∷ values_meant names fs

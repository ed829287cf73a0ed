-- What is declared before a form, and what is in scope there.
--
-- A table has a name and a number of arguments for each item, in the order of the items. Names are
-- compared by their texts. Predicates, functions and definitions share one set of names.
use Rattle.std.specs.Prelude.{ℕ, List, [], ◌∷◌, Bool, false, ◌&&◌, ◌||◌, ◌==◌, not, Option, Some, None, slice_get, is_some}
use Rattle.std.specs.List.{position, list_any}
use Rattle.std.specs.Option.{option_map_or}
use Rattle.std.specs.Str.{bytes_eq}
use Rattle.tl_sexpr.specs.Tree.{FormTree, symbol, integer, list}
use Rattle.tl_rules.specs.declared.rule.Rule.TheVariants.{Unknown, Arity, Unbound}
use Rattle.tl_rules.specs.Parts.{is_variable}
use Rattle.tl_formulas.specs.declared.signature.NameSignature.{NameSignature}
use Rattle.tl_rules.specs.Rules.{Break, breaks_if}
use Rattle.tl_formulas.specs.Words.{reserved_words}

abbrev pub Table : Type 0
Table = List (List ℕ × ℕ)

-- the texts of the variables in scope, each at its slot
abbrev pub Scope : Type 0
Scope = List (List ℕ)

-- the position of a name in a table
abbrev pub place_of : Table → List ℕ → Option ℕ
place_of table text = position (λ e. bytes_eq text e.0) table

-- what stands at this place has so many arguments
abbrev pub has_arity : Table → ℕ → ℕ → Bool
has_arity table i n = option_map_or (λ e. e.1 == n) (slice_get table i) false

-- the name is in the table
abbrev pub is_in : Table → List ℕ → Bool
is_in table text = is_some (place_of table text)

-- the name is a word of the language, or that of an earlier predicate, function or definition
abbrev pub is_taken : NameSignature → List ℕ → Bool
is_taken g text = list_any (bytes_eq text) reserved_words || is_in g.predicates text || is_in g.functions text || is_in g.definitions text

-- the slot of a variable
abbrev pub slot_of : Scope → List ℕ → Option ℕ
slot_of scope text = position (bytes_eq text) scope

-- what a list breaks that calls what stands at this place of the table with so many arguments
abbrev pub call_breaks_at : Table → Option ℕ → ℕ → ℕ → List Break
call_breaks_at table None n at = (Unknown, at) ∷ []
call_breaks_at table (Some i) n at = breaks_if (not (has_arity table i n)) Arity at

-- what a list breaks that calls a name with so many arguments
abbrev pub call_breaks : Table → List ℕ → ℕ → ℕ → List Break
call_breaks table text n at = call_breaks_at table (place_of table text) n at

-- a variable that is not in scope
abbrev pub unbound_breaks : Scope → FormTree → List Break
unbound_breaks scope (symbol text at) = breaks_if (is_variable text && not (is_some (slot_of scope text))) Unbound at
unbound_breaks scope (integer z at) = []
unbound_breaks scope (list fs at) = []

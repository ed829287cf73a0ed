-- What the domain declares, by the texts of the names.
use Rattle.std.specs.Prelude.{ℕ, List, [], ◌∷◌, Bool, false, ◌==◌, not, Option, Some, None, slice_get, unwrap_or}
use Rattle.std.specs.List.{position}
use Rattle.std.specs.Option.{option_map_or}
use Rattle.tl_syntax.specs.declared.declared.Declared.{Declared}
use Rattle.tl_rules.specs.declared.rule.Rule.TheVariants.{Unknown, Arity}
use Rattle.tl_rules.specs.Parts.{count}
use Rattle.tl_rules.specs.Rules.{Break, breaks_if}
use Rattle.tl_rules.specs.Symbols.{number_in}
use Rattle.tl_rules.specs.Calls.{CallTree}

-- the position of the declaration with this text as its name; no two texts have one number
abbrev pub position_of : List (List ℕ) → List Declared → List ℕ → Option ℕ
position_of names declared text = position (λ d. d.name == number_in names text) declared

-- the same, where there is one
abbrev pub position_meant : List (List ℕ) → List Declared → List ℕ → ℕ
position_meant names declared text = unwrap_or (position_of names declared text) 0

-- what is declared at this position takes so many arguments
abbrev pub has_declared_arity : List Declared → ℕ → ℕ → Bool
has_declared_arity declared i n = option_map_or (λ d. d.arity == n) (slice_get declared i) false

-- what a list breaks that calls what is declared at this position with so many arguments
abbrev pub declared_call_breaks_at : List Declared → Option ℕ → ℕ → ℕ → List Break
declared_call_breaks_at declared None n at = (Unknown, at) ∷ []
declared_call_breaks_at declared (Some i) n at =
    breaks_if (not (has_declared_arity declared i n)) Arity at

-- what a list breaks by what it calls
abbrev pub declared_call_breaks : List (List ℕ) → List Declared → CallTree → List Break
declared_call_breaks names declared c = declared_call_breaks_at declared (position_of names declared c.word) (count c.rest) c.at

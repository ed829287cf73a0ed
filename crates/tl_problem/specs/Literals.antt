-- What the elements of `init` or of `goal` say together: facts, places with values, and negated
-- facts.
--
-- A fact that is written twice counts once, where it stands first; so does a place that is written
-- twice with one value.
use Rattle.std.specs.Prelude.{ℕ, List, [], ◌∷◌, ◌++◌, Bool, false, ◌&&◌, ◌==◌, not, Option, if◌then◌else◌, is_some, map}
use Rattle.std.specs.List.{list_any}
use Rattle.std.specs.Map.{lookup}
use Rattle.std.specs.Option.{option_map_or}
use Rattle.tl_syntax.specs.declared.fact.Fact.{Fact}
use Rattle.tl_syntax.specs.declared.place_value.PlaceValue.{PlaceValue}
use Rattle.tl_syntax.specs.declared.value.Value.{Value}
use Rattle.tl_syntax.specs.DerivedTests.{value_eq, values_eq, fact_eq}
use Rattle.tl_syntax.specs.Keys.{Key, place_entry}
use Rattle.tl_rules.specs.declared.rule.Rule.TheVariants.{TwoValues}
use Rattle.tl_rules.specs.Rules.{Break, breaks_if}

-- what elements say: facts, places with values, and facts that are to be false
pub record Literals : Type 0 where
  pub facts : List Fact
  pub values : List PlaceValue
  pub nots : List Fact

-- the facts with this one, at the end where it is new
abbrev pub with_fact : List Fact → Fact → List Fact
with_fact facts f = if list_any (fact_eq f) facts then facts else facts ++ f ∷ []

-- the two places are the same: one function of the same values
abbrev pub same_place : Key → Key → Bool
same_place p q = (p.0 == q.0) && values_eq p.1 q.1

-- the value that a place has among places with values
abbrev pub value_among : List PlaceValue → Key → Option Value
value_among values place = lookup (same_place place) (map place_entry values)

-- the places with values with this one, at the end where the place has none yet
abbrev pub with_value : List PlaceValue → PlaceValue → List PlaceValue
with_value values x = if is_some (value_among values (x.fun, x.args)) then values else values ++ x ∷ []

-- the place has another value already
abbrev pub has_other_value : List PlaceValue → PlaceValue → Bool
has_other_value values x = option_map_or (λ v. not (value_eq v x.value)) (value_among values (x.fun, x.args)) false

-- nothing is said yet
abbrev pub no_literal : Literals
no_literal = record { facts = []; values = []; nots = [] }

-- a fact more, a place with a value more, a negated fact more
abbrev pub and_fact : Literals → Fact → Literals
and_fact l f = record { facts = with_fact l.facts f; values = l.values; nots = l.nots }

abbrev pub and_value : Literals → PlaceValue → Literals
and_value l x = record { facts = l.facts; values = with_value l.values x; nots = l.nots }

abbrev pub and_not : Literals → Fact → Literals
and_not l f = record { facts = l.facts; values = l.values; nots = with_fact l.nots f }

-- what an element at an offset breaks beside what is said: its fact is negated there, the fact that
-- it negates is said there, or its place has another value there
abbrev pub fact_denied : Literals → Fact → ℕ → List Break
fact_denied l f at = breaks_if (list_any (fact_eq f) l.nots) TwoValues at

abbrev pub fact_said : Literals → Fact → ℕ → List Break
fact_said l f at = breaks_if (list_any (fact_eq f) l.facts) TwoValues at

abbrev pub value_differs : Literals → PlaceValue → ℕ → List Break
value_differs l x at = breaks_if (has_other_value l.values x) TwoValues at

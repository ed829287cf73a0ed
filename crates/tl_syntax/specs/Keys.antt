-- Facts and places as keys, and the orders of values and of keys.
use Rattle.std.specs.Prelude.{ℕ, List, Bool, not, ◌||◌}
use Rattle.std.specs.List.{list_all, list_any}
use Rattle.std.specs.declared.cmp.Ordering.{Ordering}
use Rattle.std.specs.declared.cmp.Ordering.TheVariants.{Less, Greater}
use Rattle.std.specs.Ordering.{nat_cmp, int_cmp, on, then_cmp, is_eq}
use Rattle.std.specs.Cmp.Lexicographic.{slice_cmp}
use Rattle.tl_syntax.specs.declared.value.Value.{Value}
use Rattle.tl_syntax.specs.declared.value.Value.TheVariants.{Int, Sym}
use Rattle.tl_syntax.specs.declared.fact.Fact.{Fact}
use Rattle.tl_syntax.specs.declared.place_value.PlaceValue.{PlaceValue}

-- a predicate with its values, or a function with its values, each by its position in the domain's
-- list
abbrev pub Key : Type 0
Key = ℕ × List Value

-- the order of values: integers first, by value, and then symbols, by number
abbrev pub value_cmp : Value → Value → Ordering
value_cmp (Int a) (Int b) = int_cmp a b
value_cmp (Int a) (Sym b) = Less
value_cmp (Sym a) (Int b) = Greater
value_cmp (Sym a) (Sym b) = nat_cmp a b

-- by predicate or function, and then by the values from left to right
abbrev pub key_cmp : Key → Key → Ordering
key_cmp = then_cmp (on (λ k. k.0) nat_cmp) (on (λ k. k.1) (slice_cmp value_cmp))

-- a fact as a key
abbrev pub fact_key : Fact → Key
fact_key f = (f.pred, f.args)

-- by predicate, and then by the arguments from left to right
abbrev pub fact_cmp : Fact → Fact → Ordering
fact_cmp = on fact_key key_cmp

-- a place, and its value
abbrev pub place_entry : PlaceValue → Key × Value
place_entry x = ((x.fun, x.args), x.value)

-- the two do not give one place different values
abbrev pub agree : Key × Value → Key × Value → Bool
agree a b = not (is_eq (key_cmp a.0 b.0)) || is_eq (value_cmp a.1 b.1)

-- no two of them give one place different values
abbrev pub no_clash : List (Key × Value) → Bool
no_clash ps = list_all (λ a. list_all (agree a) ps) ps

-- some key is one of both lists
abbrev pub share_key : List Key → List Key → Bool
share_key js ks = list_any (λ j. list_any (λ k. is_eq (key_cmp j k)) ks) js

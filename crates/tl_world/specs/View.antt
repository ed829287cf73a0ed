-- The code of a world as a value.
use Rattle.std.specs.Prelude.{◌≡◌, ℕ, ◌⊎◌, refl}
use mathlib.Core.Logic.{inl, inr}
use Rattle.std.specs.FinSet as set
use Rattle.std.specs.FinMap as dict
use Rattle.std.specs.Coded.{Coded, code_by, coded×, coded⊎, coded_ℕ, coded_ℤ, coded_list}
use Rattle.tl_syntax.specs.declared.value.Value.{Value}
use Rattle.tl_syntax.specs.declared.value.Value.TheVariants.{Int, Sym}
use Rattle.tl_syntax.specs.Keys.{Key, key_cmp}
use Rattle.tl_terms.specs.World.{World}
use lib.IntN.{ℤ}

-- a value as one of two plain things
abbrev value_to : Value → ℤ ⊎ ℕ
value_to (Int z) = inl z
value_to (Sym n) = inr n

-- and back
abbrev value_from : ℤ ⊎ ℕ → Value
value_from (inl z) = Int z
value_from (inr n) = Sym n

-- which changes nothing
pub value_back : (v : Value) → value_from (value_to v) ≡ v
value_back (Int z) = refl
value_back (Sym n) = refl

-- values have a code
abbrev pub coded_value : Coded Value
coded_value = code_by (ℤ ⊎ ℕ) (coded⊎ coded_ℤ coded_ℕ) value_to value_from value_back

-- so have facts and places
abbrev pub coded_key : Coded Key
coded_key = coded× coded_ℕ (coded_list coded_value)

-- and worlds, by their facts and their places
abbrev pub coded_world : Coded World
coded_world = code_by (set.FinSet key_cmp × dict.FinMap key_cmp Value) (coded× (set.code coded_key) (dict.code coded_key coded_value))
    (λ w. (w.facts, w.places)) (λ p. record { facts = p.0; places = p.1 }) (λ w. refl)

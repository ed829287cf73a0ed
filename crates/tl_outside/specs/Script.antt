-- Calls that are numbered from 0, some of which fail.
use Rattle.std.specs.Prelude.{ℕ, ◌+◌, ◌-◌, ◌^◌, min, Bool, List, nat_eq}
use Rattle.std.specs.List.{list_any}

-- whether the call of this number is among those that fail
abbrev pub fails_at : List ℕ → ℕ → Bool
fails_at fails number = list_any (λ x. nat_eq x number) fails

-- one more, by a counter of 64 bits that stays at its last value
abbrev pub counted : ℕ → ℕ
counted count = min (count + 1) (2 ^ 64 - 1)

-- What is remembered of arrivals, as a list.
use Rattle.std.specs.Prelude.{◌≡◌, ℕ, suc, List, [], ◌∷◌, ◌⊎◌}
use Rattle.tl_search.specs.declared.arrival.Arrival.{Arrival}
use Rattle.tl_space.specs.declared.arrivals.FirstArrival.{FirstArrival}
use Rattle.tl_space.specs.declared.numbers.Numbers.{Numbers}
use Rattle.tl_syntax.specs.Lists.{Among, Each}

-- the first arrivals in worlds, from the world of a number on
abbrev pub entries_from : ℕ → List FirstArrival → List (Numbers × Arrival)
entries_from n [] = []
entries_from n (x ∷ xs) = (record { world = n; label = x.label }, x.arrival) ∷ entries_from (suc n) xs

-- all of the second list are of the first, but for one
abbrev pub HasOneMore : {A : Type 0} → List A → A → List A → Type 0
HasOneMore xs x ys = Each (λ y. Among y xs ⊎ (y ≡ x)) ys

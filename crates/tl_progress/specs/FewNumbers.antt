-- Numbers of which a few stand in place.
use Rattle.std.specs.Prelude.{ℕ, List, [], ◌∷◌, take}

-- the first of those in place, where none is in the list
abbrev pub numbers_of : List ℕ → ℕ → List ℕ → List ℕ
numbers_of few count [] = take count few
numbers_of few count (i ∷ is) = i ∷ is

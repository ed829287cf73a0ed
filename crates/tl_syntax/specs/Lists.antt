-- What holds of each item of a list, and of one of them.
use Rattle.std.specs.Prelude.{◌≡◌, List, [], ◌∷◌, ◌⊎◌}
use Rattle.std.specs.declared.cmp.Ordering.{Ordering}
use Rattle.std.specs.declared.cmp.Ordering.TheVariants.{Less}

-- P holds of each of the list
abbrev pub Each : {A : Type 0} → (A → Type 0) → List A → Type 0
Each P [] = Unit {0}
Each P (x ∷ xs) = P x × Each P xs

-- P holds of one of the list
abbrev pub AtLeastOne : {A : Type 0} → (A → Type 0) → List A → Type 0
AtLeastOne P [] = ⊥
AtLeastOne P (x ∷ xs) = P x ⊎ AtLeastOne P xs

-- x is in the list
abbrev pub Among : {A : Type 0} → A → List A → Type 0
Among x xs = AtLeastOne (λ y. y ≡ x) xs

-- each comes before all after it
abbrev pub Rises : {A : Type 0} → (A → A → Ordering) → List A → Type 0
Rises R [] = Unit {0}
Rises R (x ∷ xs) = Each (λ y. R x y ≡ Less) xs × Rises R xs

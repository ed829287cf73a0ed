-- Lists that are seen in two steps.
use Rattle.std.proofs.Common.{◌≡◌, List, [], ◌∷◌, map, refl, ap}

-- what is seen of items that were seen before
pub map_seen : {A B C : Type 0} (g : B → C) (f : A → B) (xs : List A) → map g (map f xs) ≡ map (λ x. g (f x)) xs
map_seen g f [] = refl
map_seen g f (x ∷ xs) = ap (λ ys. g (f x) ∷ ys) (map_seen g f xs)

-- One that fails a test is enough for a list to fail it.
use Rattle.std.proofs.Common.{◌≡◌, ◌<◌, ◌&&◌, ℕ, zero, suc, Bool, true, false, List, [], ◌∷◌, length, get_or, refl, ap, arith}
use Rattle.std.specs.List.{list_all}

both-fail : (a : Bool) {b : Bool} → b ≡ false → (a && b) ≡ false
both-fail true h = h
both-fail false h = refl

pub one-fails : {X : Type 0} (p : X → Bool) (xs : List X) (k : ℕ) (d : X) → k < length xs → p (get_or xs k d) ≡ false → list_all p xs ≡
    false
one-fails p [] k d l h = absurd (omega arith)
one-fails p (x ∷ xs) zero d l h = ap (λ b. b && list_all p xs) h
one-fails p (x ∷ xs) (suc k) d l h = both-fail (p x) (one-fails p xs k d (omega arith) h)

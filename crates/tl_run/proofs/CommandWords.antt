-- How many words a command has.
use Rattle.std.proofs.Common.{◌≡◌, ℕ, ◌<◌, List, [], ◌∷◌, length, map, None, refl, arith}
use Rattle.tl_run.specs.Commands.{command_in}

pub few_words : {W : Type 0} (f : W → List ℕ) (ws : List W) → length ws < 2 → None ≡ command_in (map f ws)
few_words f [] h = refl
few_words f (a ∷ []) h = refl
few_words f (a ∷ b ∷ ws) h = absurd (omega (arith, h))

pub three_words : {W : Type 0} (f : W → List ℕ) (ws : List W) → 2 < length ws → length ws < 4 → None ≡ command_in (map f ws)
three_words f [] h k = absurd (omega (arith, h))
three_words f (a ∷ []) h k = absurd (omega (arith, h))
three_words f (a ∷ b ∷ []) h k = absurd (omega (arith, h))
three_words f (a ∷ b ∷ c ∷ []) h k = refl
three_words f (a ∷ b ∷ c ∷ d ∷ ws) h k = absurd (omega (arith, k))

pub many_words : {W : Type 0} (f : W → List ℕ) (ws : List W) → 6 < length ws → None ≡ command_in (map f ws)
many_words f [] h = absurd (omega (arith, h))
many_words f (a ∷ []) h = absurd (omega (arith, h))
many_words f (a ∷ b ∷ []) h = absurd (omega (arith, h))
many_words f (a ∷ b ∷ c ∷ []) h = absurd (omega (arith, h))
many_words f (a ∷ b ∷ c ∷ d ∷ []) h = absurd (omega (arith, h))
many_words f (a ∷ b ∷ c ∷ d ∷ e ∷ []) h = absurd (omega (arith, h))
many_words f (a ∷ b ∷ c ∷ d ∷ e ∷ g ∷ []) h = absurd (omega (arith, h))
many_words f (a ∷ b ∷ c ∷ d ∷ e ∷ g ∷ i ∷ ws) h = refl

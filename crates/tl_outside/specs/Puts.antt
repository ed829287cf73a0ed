-- The calls of `put`, and how they hand bytes over.
use Rattle.std.specs.Prelude.{◌≡◌, ℕ, ◌<◌, Bool, true, false, List, [], ◌∷◌, ◌++◌, length, drop, Option, option_map, Result, Ok, Err}

-- a call of put: of this piece it took over so many bytes, or it failed
pub data Put : Type 0 where
  takes_over : List ℕ → ℕ → Put
  fails : List ℕ → Put

-- the call of this piece, by its answer
abbrev pub put_of : {E : Type 0} → List ℕ → Result ℕ E → Put
put_of piece (Ok n) = takes_over piece n
put_of piece (Err e) = fails piece

-- the calls with these after them, where they are told
abbrev pub with_puts : Option (List Put) → List Put → Option (List Put)
with_puts told puts = option_map (λ all. all ++ puts) told

-- each call is given all that is left, and is made only where something is; a failed one is the
-- last; whether all was taken over
abbrev pub HandsOver : List ℕ → List Put → Bool → Type 0
HandsOver left [] all = (left ≡ []) × (all ≡ true)
HandsOver left (takes_over piece n ∷ puts) all = (0 < length left) × (piece ≡ left) × HandsOver (drop n left) puts all
HandsOver left (fails piece ∷ puts) all = (0 < length left) × (piece ≡ left) × (puts ≡ []) × (all ≡ false)

-- where they are told, the calls that came hand these bytes over so
abbrev pub WritesBy : Option (List Put) → Option (List Put) → List ℕ → Bool → Type 0
WritesBy old new bytes all = (puts : List Put) × HandsOver bytes puts all × (new ≡ with_puts old puts)

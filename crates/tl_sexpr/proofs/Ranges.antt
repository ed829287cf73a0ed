-- A fact that holds of each number of a range.
use Rattle.std.proofs.Common.{◌≡◌, ℕ, ◌+◌, ◌-◌, ◌<◌, ◌≤◌, List, [], ◌∷◌, length, slice_index, slice_range, slice_get, Some, inl, inr, sym}
use Rattle.std.proofs.Common.{subst, arith}
use Rattle.std.proofs.lemmas.Bool.{cases_lt}
use Rattle.std.proofs.lemmas.List.Edits.{length-between, get_or-between}

-- a range of one number
pub one_in_range : (P : ℕ → Type 0) (from : ℕ) → P from → (k : ℕ) → from ≤ k → k < from + 1 → P k
one_in_range P from here k low high = let e : from ≡ k = omega arith in subst P e here

-- a range with one more number at its end
pub more_in_range : (P : ℕ → Type 0) (from to : ℕ) → ((k : ℕ) → from ≤ k → k < to → P k) → P to → (k : ℕ) → from ≤ k → k < to + 1 → P k
more_in_range P from to below here k low high =
    elim (cases_lt k to) [ inl h ↦ below k low h | inr h ↦ (let e : to ≡ k = omega arith in subst P e here) ]

-- what holds of each byte of a range holds of each byte of that part
pub each_of_part : (P : ℕ → Type 0) (xs : List ℕ) (from to : ℕ) → to ≤ length xs → ((k : ℕ) → from ≤ k → k < to → P (slice_index xs k)) →
    (k : ℕ) → k < length (slice_range xs from to) → P (slice_index (slice_range xs from to) k)
each_of_part P xs from to bounded each k h =
    let long : length (slice_range xs from to) ≡ to - from = length-between xs from to bounded in
    subst P (sym (get_or-between xs from to k 0 (omega arith))) (each (from + k) (omega arith) (omega arith))

-- the first of a list
pub first_is : {X : Type 0} (xs : List X) (x : X) → Some x ≡ slice_get xs 0 → (rest : List X) × (xs ≡ x ∷ rest)
first_is [] x e = absurd (cc)
first_is (y ∷ ys) x e = (ys, cc)

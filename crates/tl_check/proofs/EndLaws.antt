-- Where a label is true for the first time, and for the last time.
use Rattle.std.proofs.Common.{◌≡◌, ◌≤◌, ◌<◌, ◌+◌, ◌-◌, inl, inr, ℕ, List, ◌++◌, drop, length, replicate, get_or, Bool, true, false, refl}
use Rattle.std.proofs.Common.{sym, ap, ◌∙◌, arith, length-append}
use Rattle.std.proofs.lemmas.Bool.{cases_lt}
use Rattle.std.proofs.lemmas.List.{length-replicate, get_or-drop, drop-drop, get_or_past}
use Rattle.tl_check.proofs.CutLaws.{drop-whole_run}
use Rattle.tl_check.proofs.RunLaws.{at-in, spread-at, spread-end}
use Rattle.tl_check.specs.Ends.{IsFalse, IsFalseBefore, IsFalseFrom}
use Rattle.tl_check.specs.Runs.{spread}
use Rattle.tl_check.specs.declared.run.Run.{Run}

-- so many runs have so many positions
pub record Passed (xs : List Run) (i at : ℕ) : Type 0 where
  pub rest : drop at (spread xs) ≡ spread (drop i xs)
  pub size : at + length (spread (drop i xs)) ≡ length (spread xs)

module _ (xs : List Run) (i at : ℕ) (r : Run) (h : i < length xs) (q : r ≡ get_or xs i r) (passed : Passed xs i at) where
  opened : drop at (spread xs) ≡ replicate r.count r.truth ++ spread (drop (i + 1) xs)
  opened = passed.rest ∙ spread-at xs i r h q

  pub label-in : (k : ℕ) → at ≤ k → k < at + r.count → get_or (spread xs) k false ≡ r.truth
  label-in k l m =
      ap (λ (j : ℕ). get_or (spread xs) j false) (let e : k ≡ at + (k - at) = omega arith in e)
      ∙ (sym (get_or-drop at (spread xs) (k - at) false)
      ∙ (ap (λ (us : List Bool). get_or us (k - at) false) opened ∙ at-in r.count (k - at) r.truth (spread (drop (i + 1) xs))
      (omega arith)))

  pub passed-on : Passed xs (i + 1) (at + r.count)
  passed-on = record {
    rest = sym (drop-drop r.count at (spread xs)) ∙ (ap (drop r.count) opened ∙
        drop-whole_run r.count r.count r.truth (spread (drop (i + 1) xs)) refl);
    size = omega (
      arith,
      passed.size,
      ap length (spread-at xs i r h q),
      length-append (replicate r.count r.truth) (spread (drop (i + 1) xs)),
      length-replicate r.count r.truth,
    );
  }

  pub fits : at + r.count ≤ length (spread xs)
  fits = omega (arith, passed-on.size)

  pub false-before_more : IsFalseBefore (spread xs) at → r.truth ≡ false → IsFalseBefore (spread xs) (at + r.count)
  false-before_more none f k l = elim (cases_lt k at) [ inl m ↦ none k m | inr m ↦ label-in k m l ∙ f ]

  pub true-here : r.truth ≡ true → get_or (spread xs) at false ≡ true
  true-here t = label-in at (omega arith) (let some = r.some in omega arith) ∙ t

  up-to_by : (t : Bool) (end next : ℕ) → r.truth ≡ t → end ≤ at → ((k : ℕ) → end ≤ k → k < at → get_or (spread xs) k false ≡ false) →
      (r.truth ≡ true → next ≡ at + r.count) → (r.truth ≡ false → next ≡ end)
      → (next ≤ at + r.count) × ((k : ℕ) → next ≤ k → k < at + r.count → get_or (spread xs) k false ≡ false)
  up-to_by true end next e order none moved stays = let m = moved e in (omega (arith, m), λ k l n. absurd (omega (arith, m)))
  up-to_by false end next e order none moved stays =
      let m = stays e in
      (omega (arith, m), λ k l n. elim (cases_lt k at) [ inl s ↦ none k (omega (arith, m)) s | inr s ↦ label-in k s n ∙ e ])

  pub up-to_more : (end next : ℕ) → end ≤ at → ((k : ℕ) → end ≤ k → k < at → get_or (spread xs) k false ≡ false) →
      (r.truth ≡ true → next ≡ at + r.count) → (r.truth ≡ false → next ≡ end)
      → (next ≤ at + r.count) × ((k : ℕ) → next ≤ k → k < at + r.count → get_or (spread xs) k false ≡ false)
  up-to_more end next order none moved stays = up-to_by r.truth end next refl order none moved stays

module _ (xs : List Run) (i at : ℕ) (h : length xs ≤ i) (passed : Passed xs i at) where
  pub all-passed : at ≡ length (spread xs)
  all-passed = omega (arith, passed.size, ap length (spread-end xs i h))

  pub false-everywhere : IsFalseBefore (spread xs) at → IsFalse (spread xs)
  false-everywhere none k = elim (cases_lt k at) [ inl l ↦ none k l | inr l ↦ get_or_past (spread xs) k false (omega (arith, all-passed)) ]

  pub false-from : (end : ℕ) → ((k : ℕ) → end ≤ k → k < at → get_or (spread xs) k false ≡ false) → IsFalseFrom (spread xs) end
  false-from end none k m = elim (cases_lt k at) [
    | inl l ↦ none k m l
    | inr l ↦ get_or_past (spread xs) k false
        (omega (arith, all-passed))
  ]

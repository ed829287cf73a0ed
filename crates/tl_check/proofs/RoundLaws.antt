-- Labels that go round a loop once more, so that each position sees all that comes after it.
use Rattle.std.proofs.Common.{◌≡◌, ◌≤◌, ◌<◌, ◌+◌, ◌-◌, ◌↔◌, ℕ, zero, suc, List, [], ◌∷◌, ◌++◌, map, take, drop, length, get_or, Bool, true}
use Rattle.std.proofs.Common.{false, not, refl, sym, ap, ◌∙◌, arith, length-append, length-drop}
use Rattle.std.proofs.lemmas.List.{get_or-take, get_or-drop, get_or_append_left, get_or-append_right, length-take}
use native.Mathlib.Decide.{dec_lt}
use Rattle.tl_check.specs.Passes.{next_labels, always_labels, eventually_labels, until_labels, within_labels}
use Rattle.tl_check.proofs.PassLabels.{IsMarked, next-at, eventually-at, always-at, until-at, within-at, during-at, marked-within}
use Rattle.tl_check.proofs.PassLabels.{not-length}
use Rattle.tl_syntax.proofs.ListLaws.{iff-trans, iff-path}

-- the labels tell at which positions it holds, as far as they go
pub record Marks (Q : ℕ → Type 0) (bs : List Bool) : Type 0 where
  pub at : (i : ℕ) → i < length bs → Q i ↔ IsMarked bs i

-- ---- as many labels as before

pub next-length : (bs : List Bool) → length (next_labels bs) ≡ length bs
next-length [] = refl
next-length (b ∷ bs) = ap suc (next-length bs)

pub always-length : (bs : List Bool) → length (always_labels bs) ≡ length bs
always-length [] = refl
always-length (b ∷ bs) = ap suc (always-length bs)

pub eventually-length : (bs : List Bool) → length (eventually_labels bs) ≡ length bs
eventually-length [] = refl
eventually-length (b ∷ bs) = ap suc (eventually-length bs)

pub until-length : (bs cs : List Bool) → length bs ≡ length cs → length (until_labels bs cs) ≡ length bs
until-length [] cs e = refl
until-length (b ∷ bs) [] e = absurd (omega arith)
until-length (b ∷ bs) (c ∷ cs) e = ap suc (until-length bs cs (omega arith))

pub within-length : (n : ℕ) (bs : List Bool) → length (within_labels n bs) ≡ length bs
within-length n [] = refl
within-length n (b ∷ bs) = ap suc (within-length n bs)

-- ---- round the loop

module _ (from period : ℕ) (rises : 0 < period) where
  -- past the stem it holds at a position where it holds one round later
  abbrev pub Repeats : (ℕ → Type 0) → Type 0
  Repeats Q = (j : ℕ) → from ≤ j → Q j ↔ Q (j + period)

  back-to : (Q : ℕ → Type 0) → Repeats Q → (j : ℕ) → from + period ≤ j → Q j ↔ Q (j - period)
  back-to Q again j h = iff-trans (iff-path Q (let e : j ≡ j - period + period = omega arith in e))
      (let k = again (j - period) (omega arith) in (k.1, k.0))

  -- where it holds at a later position, it holds at one that is no later and within the next round
  near : (Q : ℕ → Type 0) → Repeats Q → (i : ℕ) → i < from + period → (fuel j : ℕ) → j < fuel → i ≤ j → Q j → (k : ℕ) × (i ≤ k) × (k ≤ j) ×
      (k < from + period + period) × Q k
  near Q again i l zero j f h q = absurd (omega arith)
  near Q again i l (suc fuel) j f h q = elim (dec_lt j (from + period + period)) [
    | yes s ↦ (j, h, omega arith, s, q)
    | no s ↦ (let found = near Q again i l fuel (j - period) (omega arith) (omega arith) ((back-to Q again j (omega arith)).0 q) in
        (found.0, found.1, omega (arith, found.2), found.3, found.4))
  ]

  -- where it holds at all positions that are no later and within the next round, it holds at the later one
  far : (Q : ℕ → Type 0) → Repeats Q → (i : ℕ) → i < from + period → (fuel j : ℕ) → j < fuel → i ≤ j →
      ((k : ℕ) → i ≤ k → k ≤ j → k < from + period + period → Q k) → Q j
  far Q again i l zero j f h all = absurd (omega arith)
  far Q again i l (suc fuel) j f h all = elim (dec_lt j (from + period + period)) [
    | yes s ↦ all j h (omega arith) s
    | no s ↦ (back-to Q again j (omega arith)).1 (far Q again i l fuel (j - period) (omega arith) (omega arith)
        (λ k a b c. all k a (omega arith) c))
  ]

  module _ (bs : List Bool) (size : length bs ≡ from + period) where
    abbrev pub round : List Bool
    round = bs ++ drop from bs

    pub round-length : length round ≡ from + period + period
    round-length = omega (arith, length-append bs (drop from bs), length-drop from bs)

    pub round-marks : (Q : ℕ → Type 0) → Repeats Q → Marks Q bs → Marks Q round
    round-marks Q again marks = record { at = λ i h. by i h (dec_lt i (length bs)) }
      where
        by : (i : ℕ) → i < length round → Dec (i < length bs) → Q i ↔ IsMarked round i
        by i h (yes l) = iff-trans (marks.at i l) (iff-path (λ (b : Bool). b ≡ true) (sym (get_or_append_left bs (drop from bs) false i l)))
        by i h (no l) =
            let n = round-length in
            let place : from + (i - length bs) ≡ i - period = omega arith in
            iff-trans (back-to Q again i (omega arith))
            (iff-trans (marks.at (i - period) (omega arith))
            (iff-path (λ (b : Bool). b ≡ true) (sym (get_or-append_right bs (drop from bs) (length bs) i false refl (omega arith) ∙
            (get_or-drop from bs (i - length bs) false ∙ ap (λ (k : ℕ). get_or bs k false) place)))))

    -- labels of the round, back at the positions
    front : (Q : ℕ → Type 0) (cs : List Bool) → length cs ≡ length round → ((i : ℕ) → i < from + period → Q i ↔ IsMarked cs i) →
        Marks Q (take (from + period) cs)
    front Q cs same tells = record {
      at = λ i h. (
          let n = length-take (from + period) cs in
          let l : i < from + period = omega (arith, round-length) in
          iff-trans (tells i l) (iff-path (λ (b : Bool). b ≡ true) (sym (get_or-take (from + period) cs i false l)))
          );
    }

    module _ (Q : ℕ → Type 0) (again : Repeats Q) (marks : Marks Q bs) where
      here : (i : ℕ) → i < from + period + period → Q i ↔ IsMarked round i
      here i h = (round-marks Q again marks).at i (omega (arith, round-length))

      within-round : (i : ℕ) → IsMarked round i → i < from + period + period
      within-round i h = omega (arith, marked-within round i h, round-length)

      pub next-round : Marks (λ i. Q (suc i)) (take (from + period) (next_labels round))
      next-round = front (λ i. Q (suc i)) (next_labels round) (next-length round)
          (λ i l. iff-trans (here (suc i) (omega arith)) (iff-path (λ (b : Bool). b ≡ true)
          (sym (next-at round i (omega (arith, round-length))))))

      pub eventually-round : Marks (λ i. (j : ℕ) × (i ≤ j) × Q j) (take (from + period) (eventually_labels round))
      eventually-round = front (λ i. (j : ℕ) × (i ≤ j) × Q j) (eventually_labels round) (eventually-length round)
          (λ i l. iff-trans (
            λ h. (let k = near Q again i l (suc h.0) h.0 (omega arith) h.1 h.2 in (k.0, k.1, (here k.0 k.3).0 k.4)),
            λ h. (h.0, h.1, (here h.0 (within-round h.0 h.2)).1 h.2),
          )
          (eventually-at round i))

      pub always-round : Marks (λ i. (j : ℕ) → i ≤ j → Q j) (take (from + period) (always_labels round))
      always-round = front (λ i. (j : ℕ) → i ≤ j → Q j) (always_labels round) (always-length round)
          (λ i l. iff-trans (
            λ h j m n. (here j (omega (arith, round-length))).0 (h j m),
            λ h j m. far Q again i l (suc j) j (omega arith) m (λ k a b c. (here k c).1 (h k a (omega (arith, round-length)))),
          )
          (always-at round i (omega (arith, round-length))))

      pub within-round_of : (n : ℕ) → Marks (λ i. (j : ℕ) × (i ≤ j) × (j ≤ i + n) × Q j) (take (from + period) (within_labels n round))
      within-round_of n = front (λ i. (j : ℕ) × (i ≤ j) × (j ≤ i + n) × Q j) (within_labels n round) (within-length n round)
          (λ i l. iff-trans (
            λ h. (let k = near Q again i l (suc h.0) h.0 (omega arith) h.1 h.3 in
                (k.0, k.1, omega (arith, k.2, h.2), (here k.0 k.3).0 k.4)),
            λ h. (h.0, h.1, h.2, (here h.0 (within-round h.0 h.3)).1 h.3),
          )
          (within-at n round i))

      pub during-round : (n : ℕ) → Marks (λ i. (j : ℕ) → i ≤ j → j ≤ i + n → Q j)
          (take (from + period) (map not (within_labels n (map not round))))
      during-round n = front (λ i. (j : ℕ) → i ≤ j → j ≤ i + n → Q j) (map not (within_labels n (map not round)))
          (not-length (within_labels n (map not round)) ∙ (within-length n (map not round) ∙ not-length round))
          (λ i l. iff-trans (
            λ h j m o r. (here j (omega (arith, round-length))).0 (h j m o),
            λ h j m o. far Q again i l (suc j) j (omega arith) m (λ k a b c.
                (here k c).1 (h k a (omega arith) (omega (arith, round-length)))),
          )
          (during-at n round i (omega (arith, round-length))))

-- ---- until

module _ (from period : ℕ) (rises : 0 < period) (bs cs : List Bool) (size : length bs ≡ from + period) (other : length cs ≡ from + period)
    (P Q : ℕ → Type 0) (p-again : Repeats from period rises P) (q-again : Repeats from period rises Q) (p-marks : Marks P bs)
    (q-marks : Marks Q cs) where
  p-here : (i : ℕ) → i < from + period + period → P i ↔ IsMarked (round from period rises bs size) i
  p-here i h = (round-marks from period rises bs size P p-again p-marks).at i (omega (arith, round-length from period rises bs size))

  q-here : (i : ℕ) → i < from + period + period → Q i ↔ IsMarked (round from period rises cs other) i
  q-here i h = (round-marks from period rises cs other Q q-again q-marks).at i (omega (arith, round-length from period rises cs other))

  q-within : (i : ℕ) → IsMarked (round from period rises cs other) i → i < from + period + period
  q-within i h = omega (arith, marked-within (round from period rises cs other) i h, round-length from period rises cs other)

  same : length (round from period rises bs size) ≡ length (round from period rises cs other)
  same = round-length from period rises bs size ∙ sym (round-length from period rises cs other)

  pub until-round : Marks (λ i. (j : ℕ) × (i ≤ j) × Q j × ((k : ℕ) → i ≤ k → k < j → P k))
      (take (from + period) (until_labels (round from period rises bs size) (round from period rises cs other)))
  until-round = front from period rises bs size (λ i. (j : ℕ) × (i ≤ j) × Q j × ((k : ℕ) → i ≤ k → k < j → P k))
      (until_labels (round from period rises bs size) (round from period rises cs other))
      (until-length (round from period rises bs size) (round from period rises cs other) same)
      (λ i l. iff-trans (
        λ h. (
            let k = near from period rises Q q-again i l (suc h.0) h.0 (omega arith) h.1 h.2 in
            (k.0, k.1, (q-here k.0 k.3).0 k.4, λ m a b. (p-here m (omega (arith, k.3))).0 (h.3 m a (omega (arith, k.2))))
            ),
        λ h. (
            let r = q-within h.0 h.2 in
            (h.0, h.1, (q-here h.0 r).1 h.2, λ m a b. (p-here m (omega arith)).1 (h.3 m a b))
            ),
      )
      (until-at (round from period rises bs size) (round from period rises cs other) i same))

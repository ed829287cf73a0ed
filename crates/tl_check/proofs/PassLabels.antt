-- What the labels of a pass say, position by position.
use Rattle.std.proofs.Common.{◌≡◌, ◌≤◌, ◌<◌, ◌+◌, ◌↔◌, ◌⊎◌, ℕ, zero, suc, List, [], ◌∷◌, map, length, get_or, Bool, true, false, not}
use Rattle.std.proofs.Common.{true≢false, refl, sym, ap, ◌∙◌, inl, inr, arith}
use Rattle.tl_check.specs.Passes.{first_or, next_labels, always_labels, eventually_labels, until_labels, one_within, within_labels}
use Rattle.tl_syntax.proofs.ListLaws.{iff-trans, iff-path, and-iff, or-iff, not-iff}

-- the label at a position is true; there is none past the end
abbrev pub IsMarked : List Bool → ℕ → Type 0
IsMarked bs i = get_or bs i false ≡ true

unmarked : (i : ℕ) → IsMarked [] i → ⊥
unmarked zero h = true≢false (sym h)
unmarked (suc i) h = true≢false (sym h)

pub marked-within : (bs : List Bool) (i : ℕ) → IsMarked bs i → i < length bs
marked-within [] i h = absurd (unmarked i h)
marked-within (b ∷ bs) zero h = omega arith
marked-within (b ∷ bs) (suc i) h = let k = marked-within bs i h in omega arith

first-is : (bs : List Bool) → first_or false bs ≡ get_or bs 0 false
first-is [] = refl
first-is (b ∷ bs) = refl

-- ---- the next position

pub next-at : (bs : List Bool) (i : ℕ) → suc i < length bs → get_or (next_labels bs) i false ≡ get_or bs (suc i) false
next-at [] i h = absurd (omega arith)
next-at (b ∷ []) i h = absurd (omega arith)
next-at (b ∷ c ∷ bs) zero h = refl
next-at (b ∷ c ∷ bs) (suc i) h = next-at (c ∷ bs) i (omega arith)

-- ---- one later position

abbrev pub Later : List Bool → ℕ → Type 0
Later bs i = (j : ℕ) × (i ≤ j) × IsMarked bs j

later-shift : (b : Bool) (bs : List Bool) (i : ℕ) → Later bs i ↔ Later (b ∷ bs) (suc i)
later-shift b bs i = (λ h. (suc h.0, omega (arith, h.1), h.2), λ h. back h.0 h.1 h.2)
  where
    back : (j : ℕ) → suc i ≤ j → IsMarked (b ∷ bs) j → Later bs i
    back zero l m = absurd (omega arith)
    back (suc j) l m = (j, omega arith, m)

later-here : (b : Bool) (bs : List Bool) → ((b ≡ true) ⊎ Later bs 0) ↔ Later (b ∷ bs) 0
later-here b bs = (elim [ inl q ↦ (0, omega arith, q) | inr k ↦ (suc k.0, omega arith, k.2) ], λ h. out h.0 h.2)
  where
    out : (j : ℕ) → IsMarked (b ∷ bs) j → (b ≡ true) ⊎ Later bs 0
    out zero m = inl m
    out (suc j) m = inr (j, omega arith, m)

pub eventually-at : (bs : List Bool) (i : ℕ) → Later bs i ↔ IsMarked (eventually_labels bs) i
eventually-at [] i = (λ h. absurd (unmarked h.0 h.2), λ h. absurd (unmarked i h))
eventually-at (b ∷ bs) zero =
    let rest : Later bs 0 ↔ (first_or false (eventually_labels bs) ≡ true) =
    iff-trans (eventually-at bs 0) (iff-path (λ (c : Bool). c ≡ true) (sym (first-is (eventually_labels bs)))) in
    iff-trans ((later-here b bs).1, (later-here b bs).0) (or-iff (λ h. h, λ h. h) rest)
eventually-at (b ∷ bs) (suc i) = iff-trans ((later-shift b bs i).1, (later-shift b bs i).0) (eventually-at bs i)

-- ---- all later positions

abbrev pub AllLater : List Bool → ℕ → Type 0
AllLater bs i = (j : ℕ) → i ≤ j → j < length bs → IsMarked bs j

all-shift : (b : Bool) (bs : List Bool) (i : ℕ) → AllLater (b ∷ bs) (suc i) ↔ AllLater bs i
all-shift b bs i = (λ h j l m. h (suc j) (omega arith) (omega arith), λ h j l m. by h j l m)
  where
    by : AllLater bs i → (j : ℕ) → suc i ≤ j → j < length (b ∷ bs) → IsMarked (b ∷ bs) j
    by h zero l m = absurd (omega arith)
    by h (suc j) l m = h j (omega arith) (omega arith)

all-here : (b : Bool) (bs : List Bool) → AllLater (b ∷ bs) 0 ↔ ((b ≡ true) × AllLater bs 0)
all-here b bs = (λ h. (h 0 (omega arith) (omega arith), λ j l m. h (suc j) (omega arith) (omega arith)), λ h j l m. by h j m)
  where
    by : (b ≡ true) × AllLater bs 0 → (j : ℕ) → j < length (b ∷ bs) → IsMarked (b ∷ bs) j
    by h zero m = h.0
    by h (suc j) m = h.1 j (omega arith) (omega arith)

pub always-at : (bs : List Bool) (i : ℕ) → i < length bs → AllLater bs i ↔ IsMarked (always_labels bs) i
always-at [] i h = absurd (omega arith)
always-at (b ∷ []) zero h = iff-trans (all-here b []) (and-iff (λ k. k, λ k. k) (λ k. refl, λ k j l m. absurd (omega arith)))
always-at (b ∷ c ∷ bs) zero h = iff-trans (all-here b (c ∷ bs)) (and-iff (λ k. k, λ k. k) (always-at (c ∷ bs) 0 (omega arith)))
always-at (b ∷ bs) (suc i) h = iff-trans (all-shift b bs i) (always-at bs i (omega arith))

-- ---- until

abbrev pub Reaches : List Bool → List Bool → ℕ → Type 0
Reaches bs cs i = (j : ℕ) × (i ≤ j) × IsMarked cs j × ((k : ℕ) → i ≤ k → k < j → IsMarked bs k)

reaches-shift : (b c : Bool) (bs cs : List Bool) (i : ℕ) → Reaches (b ∷ bs) (c ∷ cs) (suc i) ↔ Reaches bs cs i
reaches-shift b c bs cs i = (λ h. back h.0 h.1 h.2 h.3, λ h. (suc h.0, omega (arith, h.1), h.2, λ k l m. forth h k l m))
  where
    back : (j : ℕ) → suc i ≤ j → IsMarked (c ∷ cs) j → ((k : ℕ) → suc i ≤ k → k < j → IsMarked (b ∷ bs) k) → Reaches bs cs i
    back zero l m all = absurd (omega arith)
    back (suc j) l m all = (j, omega arith, m, λ k p q. all (suc k) (omega arith) (omega arith))

    forth : (h : Reaches bs cs i) (k : ℕ) → suc i ≤ k → k < suc h.0 → IsMarked (b ∷ bs) k
    forth h zero l m = absurd (omega arith)
    forth h (suc k) l m = h.3 k (omega arith) (omega arith)

reaches-here : (b c : Bool) (bs cs : List Bool) → Reaches (b ∷ bs) (c ∷ cs) 0 ↔ ((c ≡ true) ⊎ ((b ≡ true) × Reaches bs cs 0))
reaches-here b c bs cs = (
  λ h. out h.0 h.2 h.3,
  elim [
    | inl q ↦ (0, omega arith, q, λ k l m. absurd (omega arith))
    | inr k ↦
        (suc k.1.0, omega arith, k.1.2, λ n l m. into k n m)
  ],
)
  where
    out : (j : ℕ) → IsMarked (c ∷ cs) j → ((k : ℕ) → 0 ≤ k → k < j → IsMarked (b ∷ bs) k) → (c ≡ true) ⊎ ((b ≡ true) × Reaches bs cs 0)
    out zero m all = inl m
    out (suc j) m all = inr (all 0 (omega arith) (omega arith), (j, omega arith, m, λ k p q. all (suc k) (omega arith) (omega arith)))

    into : (k : (b ≡ true) × Reaches bs cs 0) (n : ℕ) → n < suc k.1.0 → IsMarked (b ∷ bs) n
    into k zero m = k.0
    into k (suc n) m = k.1.3 n (omega arith) (omega arith)

pub until-at : (bs cs : List Bool) (i : ℕ) → length bs ≡ length cs → Reaches bs cs i ↔ IsMarked (until_labels bs cs) i
until-at [] [] i e = (λ h. absurd (unmarked h.0 h.2), λ h. absurd (unmarked i h))
until-at [] (c ∷ cs) i e = absurd (omega arith)
until-at (b ∷ bs) [] i e = absurd (omega arith)
until-at (b ∷ bs) (c ∷ cs) zero e =
    let rest : Reaches bs cs 0 ↔ (first_or false (until_labels bs cs) ≡ true) =
    iff-trans (until-at bs cs 0 (omega arith)) (iff-path (λ (d : Bool). d ≡ true) (sym (first-is (until_labels bs cs)))) in
    iff-trans (reaches-here b c bs cs) (or-iff (λ h. h, λ h. h) (and-iff (λ h. h, λ h. h) rest))
until-at (b ∷ bs) (c ∷ cs) (suc i) e = iff-trans (reaches-shift b c bs cs i) (until-at bs cs i (omega arith))

-- ---- within some steps

abbrev pub Near : ℕ → List Bool → ℕ → Type 0
Near n bs i = (j : ℕ) × (i ≤ j) × (j ≤ i + n) × IsMarked bs j

near-shift : (n : ℕ) (b : Bool) (bs : List Bool) (i : ℕ) → Near n (b ∷ bs) (suc i) ↔ Near n bs i
near-shift n b bs i = (λ h. back h.0 h.1 h.2 h.3, λ h. (suc h.0, omega (arith, h.1), omega (arith, h.2), h.3))
  where
    back : (j : ℕ) → suc i ≤ j → j ≤ suc i + n → IsMarked (b ∷ bs) j → Near n bs i
    back zero l m k = absurd (omega arith)
    back (suc j) l m k = (j, omega arith, omega arith, k)

near-one : (n : ℕ) (bs : List Bool) → Near n bs 0 ↔ (one_within n bs ≡ true)
near-one n [] = (λ h. absurd (unmarked h.0 h.3), λ h. absurd (true≢false (sym h)))
near-one zero (b ∷ bs) = (λ h. by h.0 h.2 h.3, λ q. (0, omega arith, omega arith, q))
  where
    by : (j : ℕ) → j ≤ 0 + 0 → IsMarked (b ∷ bs) j → b ≡ true
    by zero l m = m
    by (suc j) l m = absurd (omega arith)
near-one (suc n) (b ∷ bs) = iff-trans (
  λ h. out h.0 h.2 h.3,
  elim [
    | inl q ↦ (0, omega arith, omega arith, q)
    | inr k ↦
        (suc k.0, omega arith, omega (arith, k.2), k.3)
  ],
) (or-iff (λ h. h, λ h. h) (near-one n bs))
  where
    out : (j : ℕ) → j ≤ 0 + suc n → IsMarked (b ∷ bs) j → (b ≡ true) ⊎ Near n bs 0
    out zero l m = inl m
    out (suc j) l m = inr (j, omega arith, omega arith, m)

pub within-at : (n : ℕ) (bs : List Bool) (i : ℕ) → Near n bs i ↔ IsMarked (within_labels n bs) i
within-at n [] i = (λ h. absurd (unmarked h.0 h.3), λ h. absurd (unmarked i h))
within-at n (b ∷ bs) zero = near-one n (b ∷ bs)
within-at n (b ∷ bs) (suc i) = iff-trans (near-shift n b bs i) (within-at n bs i)

-- ---- throughout some steps

pub not-at : (bs : List Bool) (i : ℕ) → i < length bs → get_or (map not bs) i false ≡ not (get_or bs i false)
not-at [] i h = absurd (omega arith)
not-at (b ∷ bs) zero h = refl
not-at (b ∷ bs) (suc i) h = not-at bs i (omega arith)

pub not-length : (bs : List Bool) → length (map not bs) ≡ length bs
not-length [] = refl
not-length (b ∷ bs) = ap suc (not-length bs)

abbrev pub AllNear : ℕ → List Bool → ℕ → Type 0
AllNear n bs i = (j : ℕ) → i ≤ j → j ≤ i + n → j < length bs → IsMarked bs j

within-length : (n : ℕ) (bs : List Bool) → length (within_labels n bs) ≡ length bs
within-length n [] = refl
within-length n (b ∷ bs) = ap suc (within-length n bs)

all-near : (n : ℕ) (bs : List Bool) (i : ℕ) → AllNear n bs i ↔ (Near n (map not bs) i → ⊥)
all-near n bs i = (
  λ h k. let l : k.0 < length bs = omega (arith, marked-within (map not bs) k.0 k.3, not-length bs) in
      refute (get_or bs k.0 false) (sym (not-at bs k.0 l) ∙ k.3) (h k.0 k.1 k.2 l),
  λ h j l m r. by j l m r (get_or bs j false) refl h,
)
  where
    refute : (b : Bool) → not b ≡ true → b ≡ true → ⊥
    refute true p q = true≢false (sym p)
    refute false p q = true≢false (sym q)

    by : (j : ℕ) → i ≤ j → j ≤ i + n → j < length bs → (b : Bool) → get_or bs j false ≡ b → (Near n (map not bs) i → ⊥) → IsMarked bs j
    by j l m r true q h = q
    by j l m r false q h = absurd (h (j, l, m, not-at bs j r ∙ ap not q))

pub during-at : (n : ℕ) (bs : List Bool) (i : ℕ) → i < length bs → AllNear n bs i ↔ IsMarked (map not (within_labels n (map not bs))) i
during-at n bs i h =
    let size : length (within_labels n (map not bs)) ≡ length bs = within-length n (map not bs) ∙ not-length bs in
    iff-trans (all-near n bs i)
    (iff-trans (not-iff (within-at n (map not bs) i)) (iff-path (λ (b : Bool). b ≡ true)
    (sym (not-at (within_labels n (map not bs)) i (omega arith)))))

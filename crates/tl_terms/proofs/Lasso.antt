-- On a run that repeats itself from some position on, what a formula means is decided.
use Rattle.std.proofs.Common.{◌≡◌, ℕ, zero, suc, ◌+◌, ◌-◌, ◌≤◌, ◌<◌, ◌⊎◌, ◌↔◌, List, [], ◌∷◌, true, sym, subst, inl, inr, arith}
use native.Mathlib.Decide.{dec_lt}
use mathlib.Core.Bool.{Bool-discrete}
use Rattle.tl_syntax.specs.Assignment.{Assignment, bind}
use Rattle.tl_terms.specs.Bounds.{tuples}
use Rattle.tl_syntax.specs.Lists.{Each, AtLeastOne}
use Rattle.tl_terms.specs.Run.{Situations, Holds, HoldAll, HoldsOne}
use Rattle.tl_syntax.specs.Trees.{FormulaTree, verum, falsum, atom, defined, compare, goal_fact, goal_place, goal_not, negation}
use Rattle.tl_syntax.specs.Trees.{conjunction, disjunction, for_all, for_some, next, always, eventually, until, within, during}
use Rattle.tl_syntax.specs.Trees.{FormulaTrees, no_formula, more_formulas}
use Rattle.tl_terms.specs.Truth.{state_true}
use Rattle.tl_syntax.proofs.ListLaws.{iff-trans, iff-path, Each-map, One-map}

pub Each-dec : {A : Type 0} (P : A → Type 0) → ((x : A) → Dec (P x)) → (xs : List A) → Dec (Each P xs)
Each-dec P d [] = yes tt
Each-dec P d (x ∷ xs) = both (d x) (Each-dec P d xs)
  where
    both : Dec (P x) → Dec (Each P xs) → Dec (P x × Each P xs)
    both (yes h) (yes k) = yes (h, k)
    both (no h) e = no (λ w. h w.0)
    both (yes h) (no k) = no (λ w. k w.1)

pub One-dec : {A : Type 0} (P : A → Type 0) → ((x : A) → Dec (P x)) → (xs : List A) → Dec (AtLeastOne P xs)
One-dec P d [] = no (λ h. h)
One-dec P d (x ∷ xs) = either (d x) (One-dec P d xs)
  where
    either : Dec (P x) → Dec (AtLeastOne P xs) → Dec (P x ⊎ AtLeastOne P xs)
    either (yes h) e = yes (inl h)
    either (no h) (yes k) = yes (inr k)
    either (no h) (no k) = no (elim [ inl m ↦ h m | inr m ↦ k m ])

-- among the n numbers from i on, one at which Q holds, or no_formula
search_from : (Q : ℕ → Type 0) → ((j : ℕ) → Dec (Q j)) → (i n : ℕ) → ((j : ℕ) × (i ≤ j) × (j < i + n) × Q j) ⊎
    ((j : ℕ) → i ≤ j → j < i + n → Q j → ⊥)
search_from Q d i zero = inr (λ j p q h. omega arith)
search_from Q d i (suc n) = go (search_from Q d i n) (d (i + n))
  where
    go : ((j : ℕ) × (i ≤ j) × (j < i + n) × Q j) ⊎ ((j : ℕ) → i ≤ j → j < i + n → Q j → ⊥) → Dec (Q (i + n)) →
        ((j : ℕ) × (i ≤ j) × (j < i + suc n) × Q j) ⊎ ((j : ℕ) → i ≤ j → j < i + suc n → Q j → ⊥)
    go (inl w) e = inl (w.0, w.1, omega arith, w.3)
    go (inr not_yet) (yes h) = inl (i + n, omega arith, omega arith, h)
    go (inr not_yet) (no h) = inr (λ j p q k. elim (dec_lt j (i + n)) [
      | yes s ↦ not_yet j p s k
      | no s ↦ h
          (subst Q (let e : j ≡ i + n = omega arith in e) k)
    ])

module _ (r : Situations) (stem period : ℕ) (rises : 0 < period) (again : (j : ℕ) → stem ≤ j → r (j + period) ≡ r j) where
  -- past the stem, what holds at a position holds one period later, and the other way round
  mutual
    unfolding Holds

    pub repeats : (e : Assignment) (f : FormulaTree) (j : ℕ) → stem ≤ j → Holds r e f j ↔ Holds r e f (j + period)
    repeats e verum j s = (λ h. h, λ h. h)
    repeats e falsum j s = (λ h. h, λ h. h)
    repeats e (atom p ts) j s = iff-path (λ w. state_true w e (atom p ts) ≡ true) (sym (again j s))
    repeats e (defined p ts) j s = iff-path (λ w. state_true w e (defined p ts) ≡ true) (sym (again j s))
    repeats e (compare c x y) j s = iff-path (λ w. state_true w e (compare c x y) ≡ true) (sym (again j s))
    repeats e (goal_fact p xs) j s = iff-path (λ w. state_true w e (goal_fact p xs) ≡ true) (sym (again j s))
    repeats e (goal_place k xs x) j s = iff-path (λ w. state_true w e (goal_place k xs x) ≡ true) (sym (again j s))
    repeats e (goal_not p xs) j s = iff-path (λ w. state_true w e (goal_not p xs) ≡ true) (sym (again j s))
    repeats e (negation f) j s = (λ h k. h ((repeats e f j s).1 k), λ h k. h ((repeats e f j s).0 k))
    repeats e (conjunction fs) j s = repeats_all e fs j s
    repeats e (disjunction fs) j s = repeats_one e fs j s
    repeats e (for_all ss b f) j s =
        iff-trans
        (Each-map (λ t. repeats (bind ss t e) f j s) (tuples (r j) e ss b))
        (iff-path (λ w. Each (λ t. Holds r (bind ss t e) f (j + period)) (tuples w e ss b)) (sym (again j s)))
    repeats e (for_some ss b f) j s =
        iff-trans
        (One-map (λ t. repeats (bind ss t e) f j s) (tuples (r j) e ss b))
        (iff-path (λ w. AtLeastOne (λ t. Holds r (bind ss t e) f (j + period)) (tuples w e ss b)) (sym (again j s)))
    repeats e (next f) j s = iff-trans (repeats e f (suc j) (omega arith))
        (iff-path (Holds r e f) (let q : suc j + period ≡ suc (j + period) = omega arith in q))
    repeats e (always f) j s = (λ h k q. h k (omega arith), λ h k q. (repeats e f k (omega arith)).1 (h (k + period) (omega arith)))
    repeats e (eventually f) j s = (λ h. (h.0 + period, omega arith, (repeats e f h.0 (omega arith)).0 h.2), λ h. (h.0, omega arith, h.2))
    repeats e (until f g) j s = (
      λ h. (
        h.0 + period,
        omega arith,
        (repeats e g h.0 (omega arith)).0 h.2,
        λ k p q. subst (Holds r e f) (let m : k - period + period ≡ k = omega arith in m)
            ((repeats e f (k - period) (omega arith)).0 (h.3 (k - period) (omega arith) (omega arith))),
      ),
      λ h. (
        h.0 - period,
        omega arith,
        (repeats e g (h.0 - period) (omega arith)).1 (subst (Holds r e g) (let m : h.0 ≡ h.0 - period + period = omega arith in m) h.2),
        λ k p q. (repeats e f k (omega arith)).1 (h.3 (k + period) (omega arith) (omega arith)),
      ),
    )
    repeats e (within n f) j s = (
      λ h. (h.0 + period, omega arith, omega arith, (repeats e f h.0 (omega arith)).0 h.3),
      λ h. (
        h.0 - period,
        omega arith,
        omega arith,
        (repeats e f (h.0 - period) (omega arith)).1 (subst (Holds r e f) (let m : h.0 ≡ h.0 - period + period = omega arith in m) h.3),
      ),
    )
    repeats e (during n f) j s = (
      λ h k p q. subst (Holds r e f) (let m : k - period + period ≡ k = omega arith in m)
          ((repeats e f (k - period) (omega arith)).0 (h (k - period) (omega arith) (omega arith))),
      λ h k p q. (repeats e f k (omega arith)).1 (h (k + period) (omega arith) (omega arith)),
    )

    repeats_all : (e : Assignment) (fs : FormulaTrees) (j : ℕ) → stem ≤ j → HoldAll r e fs j ↔ HoldAll r e fs (j + period)
    repeats_all e no_formula j s = (λ h. h, λ h. h)
    repeats_all e (more_formulas f fs) j s = (
      λ h. ((repeats e f j s).0 h.0, (repeats_all e fs j s).0 h.1),
      λ h. ((repeats e f j s).1 h.0, (repeats_all e fs j s).1 h.1),
    )

    repeats_one : (e : Assignment) (fs : FormulaTrees) (j : ℕ) → stem ≤ j → HoldsOne r e fs j ↔ HoldsOne r e fs (j + period)
    repeats_one e no_formula j s = (λ h. h, λ h. h)
    repeats_one e (more_formulas f fs) j s = (
      elim [ inl h ↦ inl ((repeats e f j s).0 h) | inr h ↦ inr ((repeats_one e fs j s).0 h) ],
      elim [ inl h ↦ inl ((repeats e f j s).1 h) | inr h ↦ inr ((repeats_one e fs j s).1 h) ],
    )

  -- a position at which Q holds lies before the first period past i is over, or nowhere from i on
  nowhere : (Q : ℕ → Type 0) (i : ℕ) → ((j : ℕ) → stem ≤ j → i ≤ j → Q (j + period) → Q j) →
      ((j : ℕ) → i ≤ j → j < i + (stem + period) → Q j → ⊥) → (n j : ℕ) → j < n → i ≤ j → Q j → ⊥
  nowhere Q i back never zero j s p h = omega arith
  nowhere Q i back never (suc n) j s p h = elim (dec_lt j (i + (stem + period))) [
    | yes q ↦ never j p q h
    | no q ↦ nowhere Q i back never n (j - period) (omega arith) (omega arith)
        (back (j - period) (omega arith) (omega arith) (subst Q (let m : j ≡ j - period + period = omega arith in m) h))
  ]

  decide_some : (Q : ℕ → Type 0) (i : ℕ) → ((j : ℕ) → stem ≤ j → i ≤ j → Q (j + period) → Q j) → ((j : ℕ) → Dec (Q j)) →
      Dec ((j : ℕ) × (i ≤ j) × Q j)
  decide_some Q i back d = elim (search_from Q d i (stem + period)) [
    | inl w ↦ yes (w.0, w.1, w.3)
    | inr never ↦ no (λ w. nowhere Q i back never (suc w.0) w.0 (omega arith) w.1 w.2)
  ]

  both_dec : {A B : Type 0} → Dec A → Dec B → Dec (A × B)
  both_dec (yes a) (yes b) = yes (a, b)
  both_dec (no h) e = no (λ w. h w.0)
  both_dec (yes a) (no h) = no (λ w. h w.1)

  -- all of the n numbers from i on pass, or not
  up_to : (Q : ℕ → Type 0) → ((j : ℕ) → Dec (Q j)) → (i n : ℕ) → Dec ((k : ℕ) → i ≤ k → k < n → Q k)
  up_to Q d i zero = yes (λ k p q. absurd (omega arith))
  up_to Q d i (suc n) = go (up_to Q d i n) (d n)
    where
      go : Dec ((k : ℕ) → i ≤ k → k < n → Q k) → Dec (Q n) → Dec ((k : ℕ) → i ≤ k → k < suc n → Q k)
      go (no h) e = no (λ w. h (λ k p q. w k p (omega arith)))
      go (yes h) (yes k) = yes (λ j p q. elim (dec_lt j n) [ yes s ↦ h j p s | no s ↦ subst Q (let m : n ≡ j = omega arith in m) k ])
      go (yes h) (no k) = elim (dec_lt n i) [
        | yes s ↦ yes (λ j p q. h j p (omega arith))
        | no s ↦ no (λ w. k (w n (omega arith) (omega arith)))
      ]

  mutual
    unfolding Holds

    pub decided : (e : Assignment) (f : FormulaTree) (i : ℕ) → Dec (Holds r e f i)
    decided e verum i = yes tt
    decided e falsum i = no (λ h. h)
    decided e (atom p ts) i = Bool-discrete (state_true (r i) e (atom p ts)) true
    decided e (defined p ts) i = Bool-discrete (state_true (r i) e (defined p ts)) true
    decided e (compare c x y) i = Bool-discrete (state_true (r i) e (compare c x y)) true
    decided e (goal_fact p xs) i = Bool-discrete (state_true (r i) e (goal_fact p xs)) true
    decided e (goal_place k xs x) i = Bool-discrete (state_true (r i) e (goal_place k xs x)) true
    decided e (goal_not p xs) i = Bool-discrete (state_true (r i) e (goal_not p xs)) true
    decided e (negation f) i = elim (decided e f i) [ yes h ↦ no (λ k. k h) | no h ↦ yes h ]
    decided e (conjunction fs) i = decided_all e fs i
    decided e (disjunction fs) i = decided_one e fs i
    decided e (for_all ss b f) i = Each-dec (λ t. Holds r (bind ss t e) f i) (λ t. decided (bind ss t e) f i) (tuples (r i) e ss b)
    decided e (for_some ss b f) i = One-dec (λ t. Holds r (bind ss t e) f i) (λ t. decided (bind ss t e) f i) (tuples (r i) e ss b)
    decided e (next f) i = decided e f (suc i)
    decided e (always f) i =
        elim (decide_some (λ j. Holds r e f j → ⊥) i (λ j s p h k. h ((repeats e f j s).0 k))
        (λ j. elim (decided e f j) [ yes h ↦ no (λ k. k h) | no h ↦ yes h ])) [
          | yes w ↦ no (λ h. w.2 (h w.0 w.1))
          | no never ↦ yes (λ j p. elim (decided e f j) [ yes h ↦ h | no h ↦ absurd (never (j, p, h)) ])
        ]
    decided e (eventually f) i = decide_some (Holds r e f) i (λ j s p h. (repeats e f j s).1 h) (λ j. decided e f j)
    decided e (until f g) i =
        elim (decide_some
        (λ j. Holds r e g j × ((k : ℕ) → i ≤ k → k < j → Holds r e f k))
        i
        (λ j s p h. ((repeats e g j s).1 h.0, λ k a b. h.1 k a (omega arith)))
        (λ j. both_dec (decided e g j) (up_to (Holds r e f) (λ k. decided e f k) i j))) [
          | yes w ↦ yes (w.0, w.1, w.2.0, w.2.1)
          | no never ↦ no (λ h. never (h.0, h.1, (h.2, h.3)))
        ]
    decided e (within n f) i = elim (search_from (Holds r e f) (λ j. decided e f j) i (suc n)) [
      | inl w ↦ yes (w.0, w.1, omega arith, w.3)
      | inr never ↦ no (λ h. never h.0 h.1 (omega arith) h.3)
    ]
    decided e (during n f) i = elim (up_to (Holds r e f) (λ j. decided e f j) i (suc (i + n))) [
      | yes h ↦ yes (λ j p q. h j p (omega arith))
      | no h ↦ no (λ k. h (λ j p q. k j p (omega arith)))
    ]

    decided_all : (e : Assignment) (fs : FormulaTrees) (i : ℕ) → Dec (HoldAll r e fs i)
    decided_all e no_formula i = yes tt
    decided_all e (more_formulas f fs) i = both_dec (decided e f i) (decided_all e fs i)

    decided_one : (e : Assignment) (fs : FormulaTrees) (i : ℕ) → Dec (HoldsOne r e fs i)
    decided_one e no_formula i = no (λ h. h)
    decided_one e (more_formulas f fs) i = elim (decided e f i) [
      | yes h ↦ yes (inl h)
      | no h ↦ elim (decided_one e fs i) [ yes k ↦ yes (inr k) | no k ↦ no (elim [ inl m ↦ h m | inr m ↦ k m ]) ]
    ]

-- Rows that a search by halves passes over, and rows after which none can be less.
use Rattle.std.proofs.Common.{◌≡◌, ◌⊎◌, ◌<◌, ◌≤◌, ℕ, zero, suc, List, [], ◌∷◌, length, take, drop, map, get_or, Bool, true, false, ◌&&◌}
use Rattle.std.proofs.Common.{◌||◌, true≢false, Option, Some, None, Ordering, Less, Equal, Greater, refl, sym, ap, ◌∙◌, subst, inl, inr}
use Rattle.std.proofs.Common.{arith}
use Rattle.std.proofs.lemmas.List.{take-append-drop, take-map, drop-map, map-append}
use Rattle.std.proofs.lemmas.List.Folds.{list_any-append}
use Rattle.std.proofs.lemmas.Bool.{cases_lt}
use Rattle.std.specs.List.{AllWithin}
use Rattle.std.specs.List.Sorted.{IsPartitionedBy}
use Rattle.std.specs.Ordering.{is_lt, is_gt}
use Rattle.tl_syntax.specs.declared.value.Value.{Value}
use Rattle.tl_syntax.specs.Lists.{Each, Rises}
use Rattle.tl_syntax.proofs.Plain.{both, with_both}
use Rattle.tl_match.specs.declared.pattern.Part.{Part}
use Rattle.tl_match.specs.declared.pattern.Match.{Match}
use Rattle.tl_rows.specs.Plain.{row_cmp}
use Rattle.tl_match.specs.Fits.{fits_all}
use Rattle.tl_match.specs.Least.{fits_some, above, IsLeast}
use Rattle.tl_match.specs.Front.{front, front_cmp, known_of}
use Rattle.tl_match.proofs.Least.{NotBelow, keep}
use Rattle.tl_match.proofs.Fronts.{earlier-too, later-too, follows}

pub is_greater : (o : Ordering) → is_gt o ≡ true → o ≡ Greater
is_greater Less h = absurd (true≢false (sym h))
is_greater Equal h = absurd (true≢false (sym h))
is_greater Greater h = refl

module _ {A : Type 0} (key : A → List Value) where
  pub each-key : (P : List Value → Type 0) (xs : List A) (i : ℕ) (d : A) → i < length xs → Each P (map key xs) → P (key (get_or xs i d))
  each-key P [] i d p h = absurd (omega arith)
  each-key P (x ∷ xs) zero d p h = h.0
  each-key P (x ∷ xs) (suc i) d p h = each-key P xs i d (omega arith) h.1

  pub rises-at : (xs : List A) (i j : ℕ) (d : A) → Rises row_cmp (map key xs) → i < j → j < length xs →
      row_cmp (key (get_or xs i d)) (key (get_or xs j d)) ≡ Less
  rises-at [] i j d r p q = absurd (omega arith)
  rises-at (x ∷ xs) i zero d r p q = absurd (omega arith)
  rises-at (x ∷ xs) zero (suc j) d r p q = each-key (λ y. row_cmp (key x) y ≡ Less) xs j d (omega arith) r.0
  rises-at (x ∷ xs) (suc i) (suc j) d r p q = rises-at xs i j d r.1 (omega arith) (omega arith)

  -- rows whose leading values are below the front come first
  pub parted : (f : List Value) (xs : List A) → Rises row_cmp (map key xs) → IsPartitionedBy (λ x. is_gt (front_cmp f (key x))) xs
  parted f xs r i j d low q h = elim (cases_lt i j) [
    | inl less ↦ ap is_gt (earlier-too f (key (get_or xs i d)) (key (get_or xs j d)) (rises-at xs i j d r less q) (is_greater _ h))
    | inr same ↦ let e : j ≡ i = omega arith in subst (λ k. is_gt (front_cmp f (key (get_or xs k d))) ≡ true) e h
  ]

  pub each-before : (f : List Value) (xs : List A) (i : ℕ) → i ≤ length xs → AllWithin (λ x. is_gt (front_cmp f (key x)) ≡ true) xs 0 i →
      Each (λ x. front_cmp f (key x) ≡ Greater) (take i xs)
  each-before f xs zero p h = tt
  each-before f [] (suc i) p h = absurd (omega arith)
  each-before f (x ∷ xs) (suc i) p h = (
    is_greater _ (h 0 x (omega arith) (omega arith)),
    each-before f xs i (omega arith) (λ k d low q. h (suc k) d (omega arith) (omega arith)),
  )

  each-after : (f x : List Value) (xs : List A) → front_cmp f x ≡ Less → Each (λ y. row_cmp x y ≡ Less) (map key xs) →
      Each (λ a. front_cmp f (key a) ≡ Less) xs
  each-after f x [] less h = tt
  each-after f x (a ∷ xs) less h = (later-too f x (key a) h.0 less, each-after f x xs less h.1)

  -- from a row above the front on, all rows are
  pub each-from : (f : List Value) (xs : List A) (i : ℕ) (d : A) → i < length xs → Rises row_cmp (map key xs) →
      front_cmp f (key (get_or xs i d)) ≡ Less → Each (λ a. front_cmp f (key a) ≡ Less) (drop i xs)
  each-from f [] i d p r less = absurd (omega arith)
  each-from f (x ∷ xs) zero d p r less = (less, each-after f (key x) xs less r.0)
  each-from f (x ∷ xs) (suc i) d p r less = each-from f xs i d (omega arith) r.1 less

  module _ (whole : A → List Value) (lead parts : List Part) (leads : (a : A) (t : List Value) → fits_all parts (whole a) t ≡ true →
      fits_all lead (key a) t ≡ true) where
    none-fits : (t : List Value) (P : A → Type 0) → ((a : A) → P a → fits_all parts (whole a) t ≡ true → ⊥) → (xs : List A) → Each P xs →
        fits_some parts (map whole xs) t ≡ true → ⊥
    none-fits t P out [] e h = true≢false (sym h)
    none-fits t P out (a ∷ xs) e h = (elim (fits_all parts (whole a) t) as
        (λ b. fits_all parts (whole a) t ≡ b → (b || fits_some parts (map whole xs) t) ≡ true → ⊥) [
          | true ↦ λ q _. out a e.0 q
          | false ↦ λ _ k. none-fits t P out xs e.1 k
        ]) refl h

    not-skipped : (after : Option Match) (k : ℕ) (t : List Value) → above after k t ≡ true → (a : A) →
        front_cmp (front 0 lead (known_of after k)) (key a) ≡ Greater → fits_all parts (whole a) t ≡ true → ⊥
    not-skipped None k t up a g h = elim (follows lead (key a) [] t (leads a t h)) [
      | inl e ↦ let d : Greater ≡ Equal = sym g ∙ e in cc
      | inr e ↦ let d : 0 < 0 = e.0 in omega arith
    ]
    not-skipped (Some m) k t up a g h = elim (follows lead (key a) (take k m.values) t (leads a t h)) [
      | inl e ↦ let d : Greater ≡ Equal = sym g ∙ e in cc
      | inr e ↦ true≢false (sym up ∙ ap is_lt (sym e.1 ∙ g))
    ]

    -- no tuple of the rows that are passed over comes after the given one
    pub least-skipped : (after : Option Match) (k : ℕ) (rows : List A) (i : ℕ) →
        Each (λ a. front_cmp (front 0 lead (known_of after k)) (key a) ≡ Greater) (take i rows) →
        IsLeast k (λ t. fits_some parts (take i (map whole rows)) t && above after k t) None
    unfolding IsLeast
    least-skipped after k rows i e t size =
        subst (λ ws. (fits_some parts ws t && above after k t) ≡ false) (sym (take-map whole i rows))
        ((elim (fits_some parts (map whole (take i rows)) t && above after k t) as
        (λ b. (fits_some parts (map whole (take i rows)) t && above after k t) ≡ b → b ≡ false) [
          | false ↦ λ _. refl
          | true ↦ λ h. let p = both _ (above after k t) h in absurd (none-fits t
              (λ a. front_cmp (front 0 lead (known_of after k)) (key a) ≡ Greater) (not-skipped after k t p.1) (take i rows) e p.0)
        ]) refl)

    past-all : (best : Option Match) (k : ℕ) (t : List Value) → (NotBelow k best t → ⊥) → (a : A) →
        front_cmp (front 0 lead (known_of best k)) (key a) ≡ Less → fits_all parts (whole a) t ≡ true → ⊥
    past-all None k t no_match a l h = elim (follows lead (key a) [] t (leads a t h)) [
      | inl e ↦ let d : Less ≡ Equal = sym l ∙ e in cc
      | inr e ↦ let d : 0 < 0 = e.0 in omega arith
    ]
    past-all (Some m) k t no_match a l h = elim (follows lead (key a) (take k m.values) t (leads a t h)) [
      | inl e ↦ let d : Less ≡ Equal = sym l ∙ e in cc
      | inr e ↦ no_match (ap is_gt (sym e.1 ∙ l))
    ]

    halved : (i : ℕ) (rows : List A) (t : List Value) → fits_some parts (map whole rows) t ≡
        (fits_some parts (map whole (take i rows)) t || fits_some parts (drop i (map whole rows)) t)
    halved i rows t =
        ap (λ ws. fits_some parts ws t) (sym (take-append-drop i (map whole rows)))
        ∙ (list_any-append (λ w. fits_all parts w t) (take i (map whole rows)) (drop i (map whole rows))
        ∙ ap (λ ws. fits_some parts ws t || fits_some parts (drop i (map whole rows)) t) (take-map whole i rows))

    -- where no tuple is in place, all tuples are those of the rows that are not passed over
    pub all-kept : (rows : List A) (i : ℕ) → Each (λ a. front_cmp (front 0 lead []) (key a) ≡ Greater) (take i rows) → (t : List Value) →
        fits_some parts (drop i (map whole rows)) t ≡ (fits_some parts (map whole rows) t && true)
    all-kept rows i e t = sym (ap (λ b. b && true) (halved i rows t) ∙ only_second _ _ (first_none _ refl))
      where
        first_none : (b : Bool) → fits_some parts (map whole (take i rows)) t ≡ b → b ≡ false
        first_none false h = refl
        first_none true h = absurd (none-fits t (λ a. front_cmp (front 0 lead []) (key a) ≡ Greater) (not-skipped None 0 t refl)
            (take i rows) e h)

        only_second : (a b : Bool) → a ≡ false → ((a || b) && true) ≡ b
        only_second true b h = absurd (true≢false h)
        only_second false true h = refl
        only_second false false h = refl

    -- from a row above the fixed leading values on, no row fits
    pub none-past : (rows : List A) (i : ℕ) (d : A) → i < length rows → Rises row_cmp (map key rows) →
        is_lt (front_cmp (front 0 lead []) (key (get_or rows i d))) ≡ true → (t : List Value) →
        fits_some parts (drop i (map whole rows)) t ≡ false
    none-past rows i d p r less t = ap (λ ws. fits_some parts ws t) (drop-map whole i rows) ∙ none _ refl
      where
        less-is : (o : Ordering) → is_lt o ≡ true → o ≡ Less
        less-is Less h = refl
        less-is Equal h = absurd (true≢false (sym h))
        less-is Greater h = absurd (true≢false (sym h))

        none : (b : Bool) → fits_some parts (map whole (drop i rows)) t ≡ b → fits_some parts (map whole (drop i rows)) t ≡ false
        none false h = h
        none true h = absurd (none-fits t (λ a. front_cmp (front 0 lead []) (key a) ≡ Less) (past-all None 0 t (λ n. n)) (drop i rows)
            (each-from (front 0 lead []) rows i d p r (less-is _ less)) h)

    -- past the front of the best so far, that one is the least of all
    pub least-past : (after best : Option Match) (k : ℕ) (rows : List A) (i : ℕ) (d : A) → i < length rows → Rises row_cmp (map key rows) →
        is_lt (front_cmp (front 0 lead (known_of best k)) (key (get_or rows i d))) ≡ true
        → IsLeast k (λ t. fits_some parts (take i (map whole rows)) t && above after k t) best →
        IsLeast k (λ t. fits_some parts (map whole rows) t && above after k t) best
    least-past after best k rows i d p r less least = keep k best (λ t. fits_some parts (take i (map whole rows)) t && above after k t)
        (λ t. fits_some parts (map whole rows) t && above after k t) up from least
      where
        less-is : (o : Ordering) → is_lt o ≡ true → o ≡ Less
        less-is Less h = refl
        less-is Equal h = absurd (true≢false (sym h))
        less-is Greater h = absurd (true≢false (sym h))

        parted_at : (t : List Value) → fits_some parts (map whole rows) t ≡
            (fits_some parts (take i (map whole rows)) t || fits_some parts (map whole (drop i rows)) t)
        parted_at t =
            ap (λ xs. fits_some parts (map whole xs) t) (sym (take-append-drop i rows))
            ∙ (ap (λ ws. fits_some parts ws t) (map-append whole (take i rows) (drop i rows))
            ∙ (list_any-append (λ w. fits_all parts w t) (map whole (take i rows)) (map whole (drop i rows))
            ∙ ap (λ ws. fits_some parts ws t || fits_some parts (map whole (drop i rows)) t) (sym (take-map whole i rows))))

        up : (t : List Value) → (fits_some parts (take i (map whole rows)) t && above after k t) ≡ true →
            (fits_some parts (map whole rows) t && above after k t) ≡ true
        up t h = let q = both (fits_some parts (take i (map whole rows)) t) (above after k t) h in
            with_both (parted_at t ∙ ap (λ b. b || fits_some parts (map whole (drop i rows)) t) q.0) q.1

        later : Each (λ a. front_cmp (front 0 lead (known_of best k)) (key a) ≡ Less) (drop i rows)
        later = each-from (front 0 lead (known_of best k)) rows i d p r (less-is _ less)

        either : (a b u : Bool) → ((a || b) && u) ≡ true → ((a && u) ≡ true) ⊎ (b ≡ true)
        either true b u h = inl h
        either false b u h = inr (both b u h).0

        below-or : (b : Option Match) (t : List Value) → (NotBelow k b t) ⊎ (NotBelow k b t → ⊥)
        below-or None t = inr (λ h. h)
        below-or (Some m) t = (elim (is_gt (row_cmp (take k m.values) t)) as
            (λ c. (c ≡ false) ⊎ (c ≡ false → ⊥)) [ true ↦ inr (λ h. true≢false h) | false ↦ inl refl ])

        from : (t : List Value) → length t ≡ k → (fits_some parts (map whole rows) t && above after k t) ≡ true →
            ((fits_some parts (take i (map whole rows)) t && above after k t) ≡ true) ⊎ NotBelow k best t
        from t size h = elim (either (fits_some parts (take i (map whole rows)) t) (fits_some parts (map whole (drop i rows)) t)
            (above after k t) (ap (λ b. b && above after k t) (sym (parted_at t)) ∙ h)) [
              | inl q ↦ inl q
              | inr q ↦ elim (below-or best t) [
                | inl n ↦ inr n
                | inr n ↦ absurd (none-fits t (λ a. front_cmp (front 0 lead (known_of best k)) (key a) ≡ Less) (past-all best k t n)
                    (drop i rows) later q)
              ]
            ]

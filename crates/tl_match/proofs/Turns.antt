-- Where the variables first stand in the order of their numbers, rows that fit stand in the order of their tuples.
use Rattle.std.proofs.Common.{◌≡◌, ◌⊎◌, ℕ, zero, suc, ◌<◌, ◌≤◌, ◌+◌, leb, eqb, eqb-true, eq-eqb, Bool, true, false, cond, ◌&&◌, ◌||◌}
use Rattle.std.proofs.Common.{true≢false, List, [], ◌∷◌, length, get_or, take, drop, drop-cons, Some, None, Ordering, Less, Equal, Greater}
use Rattle.std.proofs.Common.{refl, sym, ap, ◌∙◌, subst, inl, inr, arith}
use Rattle.std.proofs.lemmas.Bool.{eqb-false}
use Rattle.std.proofs.lemmas.List.{drop_all, take-append-drop}
use Rattle.std.proofs.lemmas.List.Folds.{list_any-append}
use Rattle.std.proofs.lemmas.Option.{slice_get-get_or}
use Rattle.std.specs.Prelude.{slice_get}
use Rattle.std.specs.Ordering.{is_lt, is_gt, ordering_then}
use Rattle.std.specs.Cmp.{tied_itself}
use Rattle.tl_syntax.specs.declared.value.Value.{Value}
use Rattle.tl_syntax.specs.Keys.{value_cmp}
use Rattle.tl_syntax.proofs.TotalOrders.{value_total, value_ties}
use Rattle.tl_syntax.specs.Lists.{Each, Rises}
use Rattle.tl_syntax.proofs.Plain.{value-tells, both}
use Rattle.tl_match.specs.declared.pattern.Match.{Match}
use Rattle.tl_match.specs.declared.pattern.Part.{Part}
use Rattle.tl_match.specs.declared.pattern.Part.TheVariants.{Fixed, Free}
use Rattle.tl_rows.specs.Plain.{row_cmp}
use Rattle.tl_match.specs.Fits.{fits_at, fits_all, occurs}
use Rattle.tl_match.specs.Front.{seen_after, led_by, front, front_cmp, is_passed, are_in_turn, IsFirstKept}
use Rattle.tl_match.specs.Least.{fits_some, is_later, HasLater, IsLeast}
use Rattle.tl_match.proofs.Fronts.{earlier-too, follows, rest-of}
use Rattle.tl_match.proofs.Halves.{kept-from}
use Rattle.tl_rows.proofs.Lookup.{row_total}
use Rattle.tl_match.proofs.Matching.{is_value-some, fits-lengths}
use Rattle.tl_match.proofs.RowsAlike.{IsAbove, RisesAlike}

-- a leading value that the row has
tie : (v : Value) (f row : List Value) → front_cmp (v ∷ f) (v ∷ row) ≡ front_cmp f row
tie v f row = ap (λ r. ordering_then r (front_cmp f row)) (tied_itself value_total v)

or_other : (a b : Bool) → a ≡ false → (a || b) ≡ true → b ≡ true
or_other true b e h = absurd (true≢false e)
or_other false b e h = h

or_first : (a b : Bool) → a ≡ true → (a || b) ≡ true
or_first true b h = refl
or_first false b h = absurd (true≢false (sym h))

or_second : (a b : Bool) → b ≡ true → (a || b) ≡ true
or_second true b h = refl
or_second false b h = h

no-values : (k n : ℕ) → ((m : ℕ) → n ≤ m → m < k → occurs m [] ≡ true) → k ≤ n
no-values k n each = elim (Rattle.std.proofs.lemmas.Bool.cases_lt n k) [
  | inl low ↦ absurd
      (true≢false (sym (each n (omega arith) low)))
  | inr high ↦ omega (arith, high)
]

module _ (k : ℕ) (a t : List Value) (sa : length a ≡ k) (st : length t ≡ k) where
  abbrev Same : ℕ → Type 0
  Same n = (m : ℕ) → m < n → slice_get a m ≡ slice_get t m

  same-more : (n : ℕ) (x v : Value) → x ≡ v → slice_get a n ≡ Some x → slice_get t n ≡ Some v → Same n → Same (n + 1)
  same-more n x v e ka kt below i p =
      (elim (eqb i n) as (λ b. eqb i n ≡ b → slice_get a i ≡ slice_get t i) [
        | true ↦ λ q. let at : i ≡ n = eqb-true i n q in subst (λ m. slice_get a m ≡ slice_get t m) (sym at)
            (ka ∙ (ap (λ (w : Value). Some w) e ∙ sym kt))
        | false ↦ λ q. let d = eqb-false i n q in below i (omega arith)
      ]) refl

  order-from : (ps : List Part) (row : List Value) (n : ℕ) → Same n → are_in_turn n ps ≡ true →
      ((m : ℕ) → n ≤ m → m < k → occurs m ps ≡ true) → ((m : ℕ) → occurs m ps ≡ true → m < k) → fits_all ps row t ≡ true
      → front_cmp (front n ps a) row ≡ row_cmp (drop n a) (drop n t)
  order-from [] [] n s turn each slots h =
      let p : k ≤ n = no-values k n each in
      sym (λ i. row_cmp (drop_all n a (subst (λ l. l ≤ n) (sym sa) p) i) (drop_all n t (subst (λ l. l ≤ n) (sym st) p) i))
  order-from [] (v ∷ row) n s turn each slots h = absurd (true≢false (sym h))
  order-from (p ∷ ps) [] n s turn each slots h = absurd (true≢false (sym h))
  order-from (Fixed u ∷ ps) (v ∷ row) n s turn each slots h =
      let parts = both (fits_at (Fixed u) v t) (fits_all ps row t) h in
      let e : u ≡ v = (value-tells u v).0 parts.0 in
      subst (λ w. front_cmp (w ∷ front n ps a) (v ∷ row) ≡ row_cmp (drop n a) (drop n t)) (sym e)
      (tie v (front n ps a) row ∙ order-from ps row n s turn each slots parts.1)
  order-from (Free m ∷ ps) (v ∷ row) n s turn each slots h =
      let parts = both (fits_at (Free m) v t) (fits_all ps row t) h in
      let is : slice_get t m ≡ Some v = is_value-some (slice_get t m) v parts.0 in
      let turns = both (leb m n) (are_in_turn (seen_after n (Free m)) ps) turn in
      let more : (i : ℕ) → occurs i ps ≡ true → i < k = λ i o. slots i (or_second (eqb m i) (occurs i ps) o) in
      ap (λ b. front_cmp (led_by (cond b (slice_get a m) None) (front (seen_after n (Free m)) ps a)) (v ∷ row)) turns.0
      ∙ ((elim (eqb m n) as (λ b. eqb m n ≡ b → are_in_turn (cond b (n + 1) n) ps ≡ true →
      front_cmp (led_by (slice_get a m) (front (cond b (n + 1) n) ps a)) (v ∷ row) ≡ row_cmp (drop n a) (drop n t)) [
        | false ↦ λ e after. let low : m < n = strictly m n turns.0 e in
            let known : slice_get a m ≡ Some v = s m low ∙ is in
            ap (λ o. front_cmp (led_by o (front n ps a)) (v ∷ row)) known
            ∙ (tie v (front n ps a) row
            ∙ order-from ps row n s after (λ i p q. or_other (eqb m i) (occurs i ps) (apart m i (omega arith)) (each i p q)) more parts.1)
        | true ↦ λ e after. let at : m ≡ n = eqb-true m n e in
            let inside : n < length a = subst (λ l. n < l) (sym sa) (subst (λ i. i < k) at
            (slots m (or_first (eqb m m) (occurs m ps) (eq-eqb m m refl)))) in
            let x : Value = get_or a n v in
            let ka : slice_get a n ≡ Some x = slice_get-get_or a n v inside in
            let kt : slice_get t n ≡ Some v = subst (λ i. slice_get t i ≡ Some v) at is in
            let rest : row_cmp (drop n a) (drop n t) ≡ ordering_then (value_cmp x v) (row_cmp (drop (n + 1) a) (drop (n + 1) t)) = λ i.
            row_cmp (rest-of a n x ka i) (rest-of t n v kt i) in
            ap (λ o. front_cmp (led_by o (front (n + 1) ps a)) (v ∷ row)) (ap (slice_get a) at ∙ ka)
            ∙ (here x v (front_cmp (front (n + 1) ps a) row) (row_cmp (drop (n + 1) a) (drop (n + 1) t))
            (λ same. order-from ps row (n + 1) (same-more n x v same ka kt s) after
            (λ i p q. or_other (eqb m i) (occurs i ps) (apart m i (omega (arith, at, p))) (each i (omega arith) q)) more parts.1)
            ∙ sym rest)
      ]) refl turns.1)
    where
      strictly : (m n : ℕ) → leb m n ≡ true → eqb m n ≡ false → m < n
      strictly m n low e = grind (arith, Rattle.std.proofs.lemmas.Bool.Decides.nat_tests)

      apart : (m i : ℕ) → m < i → eqb m i ≡ false
      apart m i p = (elim (eqb m i) as (λ b. eqb m i ≡ b → b ≡ false) [
        | true ↦ λ e. let d : m ≡ i = eqb-true m i e in
            absurd (omega arith)
        | false ↦ λ e. refl
      ]) refl

      here : (x v : Value) (f g : Ordering) → (x ≡ v → f ≡ g) → ordering_then (value_cmp x v) f ≡ ordering_then (value_cmp x v) g
      here x v f g same = (elim (value_cmp x v) as (λ o. value_cmp x v ≡ o → ordering_then o f ≡ ordering_then o g) [
        | Less ↦ λ e.
            refl
        | Equal ↦ λ e. same (value_ties x v e)
        | Greater ↦ λ e. refl
      ]) refl

passed-tie : (o : Ordering) → is_passed true o ≡ true → is_lt o ≡ false
passed-tie Less h = absurd (true≢false (sym h))
passed-tie Equal h = refl
passed-tie Greater h = refl

kept-tie : (o : Ordering) → is_passed true o ≡ false → is_lt o ≡ true
kept-tie Less h = refl
kept-tie Equal h = absurd (true≢false h)
kept-tie Greater h = absurd (true≢false h)

passed-greater : (o : Ordering) → is_passed false o ≡ true → o ≡ Greater
passed-greater Less h = absurd (true≢false (sym h))
passed-greater Equal h = absurd (true≢false (sym h))
passed-greater Greater h = refl

joined : (x y u : Bool) → (x ≡ true → u ≡ false) → (y ≡ true → u ≡ true) → ((x || y) && u) ≡ y
joined true true u f g = absurd (true≢false (sym (g refl) ∙ f refl))
joined true false u f g = f refl
joined false true u f g = g refl
joined false false u f g = refl

module _ (parts : List Part) (k : ℕ) (turn : are_in_turn 0 parts ≡ true) (each : (n : ℕ) → n < k → occurs n parts ≡ true)
    (slots : (n : ℕ) → occurs n parts ≡ true → n < k) where
  -- the front of a tuple stands to a row as the tuple to that of the row
  pub ordered : (row a t : List Value) → length a ≡ k → length t ≡ k → fits_all parts row t ≡ true → front_cmp (front 0 parts a) row ≡
      row_cmp a t
  ordered row a t sa st h = order-from k a t sa st parts row 0 (λ m p. absurd (omega arith)) turn (λ m p q. each m q) slots h

  -- what is shown of the tuple of each row holds of a tuple that fits one of them
  some-so : (t : List Value) (u b : Bool) (P : List Value → Type 0) → ((r : List Value) → P r → fits_all parts r t ≡ true → u ≡ b) →
      (rows : List (List Value)) → Each P rows → fits_some parts rows t ≡ true → u ≡ b
  some-so t u b P so [] e h = absurd (true≢false (sym h))
  some-so t u b P so (r ∷ rows) e h = (elim (fits_all parts r t) as (λ c. fits_all parts r t ≡ c → (c || fits_some parts rows t) ≡ true →
      u ≡ b) [
        | true ↦ λ q _. so r e.0 q
        | false ↦ λ _ q. some-so t u b P so rows e.1 q
      ]) refl h

  not-later : (begun : Bool) (a t : List Value) → length a ≡ k → length t ≡ k → (r : List Value) →
      is_passed begun (front_cmp (front 0 parts (cond begun a [])) r) ≡ true → fits_all parts r t ≡ true → is_later begun a t ≡ false
  not-later false a t size st r p h = elim (follows parts r [] t h) [
    | inl e ↦ let d : Greater ≡ Equal = sym (passed-greater _ p) ∙ e in cc
    | inr e ↦ let d : 0 < 0 = e.0 in absurd (omega arith)
  ]
  not-later true a t size st r p h = ap is_lt (sym (ordered r a t size st h)) ∙ passed-tie _ p

  is-later : (begun : Bool) (a t : List Value) → length a ≡ k → length t ≡ k → (r : List Value) →
      is_passed begun (front_cmp (front 0 parts (cond begun a [])) r) ≡ false → fits_all parts r t ≡ true → is_later begun a t ≡ true
  is-later false a t size st r p h = refl
  is-later true a t size st r p h = ap is_lt (sym (ordered r a t size st h)) ∙ kept-tie _ p

  -- what is known of each row before a place gives its tuple no later place than that of the tuple in place, and what is known of each
  -- other row a later one
  pub only-so : (begun : Bool) (a : List Value) (size : length a ≡ k) (rows : List (List Value)) (i : ℕ) (P Q : List Value → Type 0)
      → ((r t : List Value) → length t ≡ k → P r → fits_all parts r t ≡ true → is_later begun a t ≡ false) → Each P (take i rows)
      → ((r t : List Value) → length t ≡ k → Q r → fits_all parts r t ≡ true → is_later begun a t ≡ true) → Each Q (drop i rows) →
      HasLater parts begun a rows i
  only-so begun a size rows i P Q none before so later t same =
      let st : length t ≡ k = same ∙ size in
      sym (ap (λ rs. fits_some parts rs t && is_later begun a t) (sym (take-append-drop i rows))
      ∙ (ap (λ b. b && is_later begun a t) (list_any-append (λ r. fits_all parts r t) (take i rows) (drop i rows))
      ∙ joined (fits_some parts (take i rows) t) (fits_some parts (drop i rows) t) (is_later begun a t)
      (some-so t (is_later begun a t) false P (λ r e h. none r t st e h) (take i rows) before)
      (some-so t (is_later begun a t) true Q (λ r e h. so r t st e h) (drop i rows) later)))

  -- the tuples after the given one are those of the rows after the ones that are passed over
  pub only-later : (begun : Bool) (a : List Value) → length a ≡ k → (rows : List (List Value)) (i : ℕ) →
      IsFirstKept begun (front 0 parts (cond begun a [])) rows i → HasLater parts begun a rows i
  only-later begun a size rows i kept = only-so begun a size rows i _ _ (λ r t st p h. not-later begun a t size st r p h) kept.before
      (λ r t st p h. is-later begun a t size st r p h) kept.after

  least-at : (m : Match) (r : List Value) → m.len ≡ k → length (take k m.values) ≡ k → fits_all parts r (take k m.values) ≡ true →
      (rows : List (List Value)) → Each (IsAbove r) rows → IsLeast k (λ t. fits_some parts (r ∷ rows) t) (Some m)
  unfolding IsLeast
  least-at m r len size fit rows later = (
    len,
    size,
    or_first _ (fits_some parts rows (take k m.values)) fit,
    λ t st h. some-so t (is_gt (row_cmp (take k m.values) t)) false (λ y. (r ≡ y) ⊎ IsAbove r y)
        (λ y o q. ap is_gt (sym (ordered y (take k m.values) t size st q)) ∙
        not-past y (sym (fits-lengths parts r (take k m.values) fit) ∙ fits-lengths parts y t q) o) (r ∷ rows)
        (inl refl, all-later rows later) h,
  )
    where
      here : front_cmp (front 0 parts (take k m.values)) r ≡ Equal
      here = ordered r (take k m.values) (take k m.values) size size fit ∙ tied_itself row_total (take k m.values)

      all-later : (ys : List (List Value)) → Each (IsAbove r) ys → Each (λ y. (r ≡ y) ⊎ IsAbove r y) ys
      all-later [] e = tt
      all-later (y ∷ ys) e = (inr e.0, all-later ys e.1)

      not-past : (y : List Value) → length r ≡ length y → (r ≡ y) ⊎ IsAbove r y → is_gt (front_cmp (front 0 parts (take k m.values)) y) ≡
          false
      not-past y same (inl e) = ap is_gt (ap (front_cmp (front 0 parts (take k m.values))) (sym e) ∙ here)
      not-past y same (inr less) = (elim (front_cmp (front 0 parts (take k m.values)) y) as
          (λ o. front_cmp (front 0 parts (take k m.values)) y ≡ o → is_gt o ≡ false) [
            | Less ↦ λ e. refl
            | Equal ↦ λ e. refl
            | Greater ↦ λ e. let d : Greater ≡ Equal = sym (earlier-too (front 0 parts (take k m.values)) r y (less same) e) ∙ here in cc
          ]) refl

  -- from a row above the fixed leading values on, no row fits
  pub past-none : (rows : List (List Value)) (i : ℕ) (r : List Value) → i < length rows → r ≡ get_or rows i r → Rises row_cmp rows →
      is_lt (front_cmp (front 0 parts []) r) ≡ true → (t : List Value) → fits_some parts (drop i rows) t ≡ false
  past-none rows i r p is rises less t = (elim (fits_some parts (drop i rows) t) as (λ b. fits_some parts (drop i rows) t ≡ b → b ≡ false) [
    | false ↦ λ _. refl
    | true ↦ λ h. some-so t true false _ never (drop i rows) (kept-from true (front 0 parts []) rows i r p is rises (kept _ less)) h
  ]) refl
    where
      kept : (o : Ordering) → is_lt o ≡ true → is_passed true o ≡ false
      kept Less h = refl
      kept Equal h = absurd (true≢false (sym h))
      kept Greater h = absurd (true≢false (sym h))

      never : (y : List Value) → is_passed true (front_cmp (front 0 parts []) y) ≡ false → fits_all parts y t ≡ true → true ≡ false
      never y k h = elim (follows parts y [] t h) [
        | inl e ↦ sym (ap (is_passed true) e) ∙ k
        | inr e ↦ let d : 0 < 0 = e.0 in absurd (omega arith)
      ]

  -- the first row that fits has the least tuple
  pub least-first : (m : Match) (rows : List (List Value)) (i : ℕ) (r : List Value) → i < length rows → r ≡ get_or rows i r →
      RisesAlike rows → m.len ≡ k → length (take k m.values) ≡ k → fits_all parts r (take k m.values) ≡ true
      → IsLeast k (λ t. fits_some parts (drop i rows) t) (Some m)
  least-first m [] i r p is rises len size fit = absurd (omega arith)
  least-first m (x ∷ rows) zero r p is rises len size fit = subst (λ y. IsLeast k (λ t. fits_some parts (y ∷ rows) t) (Some m)) is
      (least-at m r len size fit rows (subst (λ y. Each (IsAbove y) rows) (sym is) rises.0))
  least-first m (x ∷ rows) (suc i) r p is rises len size fit = least-first m rows i r (omega arith) is rises.1 len size fit

  -- a row that no tuple fits
  pub one-less : (rows : List (List Value)) (i : ℕ) (r : List Value) → i < length rows → r ≡ get_or rows i r → (t : List Value) →
      fits_all parts r t ≡ false → fits_some parts (drop i rows) t ≡ fits_some parts (drop (i + 1) rows) t
  one-less rows i r p is t miss =
      ap (λ rs. fits_some parts rs t) (drop-cons rows i r p ∙ ap (λ y. y ∷ drop (suc i) rows) (sym is))
      ∙ (ap (λ b. b || fits_some parts (drop (suc i) rows) t) miss ∙ ap (λ j. fits_some parts (drop j rows) t)
      (let e : suc i ≡ i + 1 = omega arith in e))

-- What an atom of a definition means and looks at, where a formula is read: its body, one level lower.
use Rattle.std.proofs.Common.{◌≡◌, ◌≤◌, ◌<◌, ◌+◌, ◌==◌, ◌⊎◌, ℕ, zero, suc, List, [], ◌∷◌, ◌++◌, fold, take, cond, length, slice_get, Bool}
use Rattle.std.proofs.Common.{false, Option, Some, None, refl, sym, ap, ap₂, ◌∙◌, inl, inr, arith}
use borrow.Author.Tests.{eq-eqb, ne_eqb}
use native.Mathlib.Decide.{dec_lt}
use Rattle.std.proofs.lemmas.Option.{slice_get_within}
use Rattle.tl_eval.specs.Reading.{tests_before, looks_before, own_test, own_look, tests_read, looks_read, situation_read, looked_read}
use Rattle.tl_syntax.specs.declared.value.Value.{Value}
use Rattle.tl_syntax.specs.Assignment.{no_values, bind}
use Rattle.tl_terms.specs.Definitions.{Tests, asked, true_at_level, with_tests_of, situation_under, tests_of, situation_of}
use Rattle.tl_terms.specs.Looked.{Looks, looks_asked, looked_table, looked_at_level, looks_over, looks_of, looked_in_state}
use Rattle.tl_terms.specs.Operations.{Operation}
use Rattle.tl_terms.specs.Problem.{PlainDefinition, PlainProblem}
use Rattle.tl_terms.specs.Truth.{state_true}
use Rattle.tl_terms.specs.World.{World}

pub less-or-same : (a b : ℕ) → a ≤ b → (a < b) ⊎ (a ≡ b)
less-or-same a b h = elim (dec_lt a b) [ yes q ↦ inl q | no q ↦ inr (omega arith) ]

-- ---- lists

module _ {A : Type 0} where
  front-get : (ps qs : List A) (k : ℕ) → k < length ps → slice_get (ps ++ qs) k ≡ slice_get ps k
  front-get [] qs k h = absurd (omega arith)
  front-get (p ∷ ps) qs zero h = refl
  front-get (p ∷ ps) qs (suc k) h = front-get ps qs k (omega arith)

  end-get : (ps : List A) (p : A) (k : ℕ) → k ≡ length ps → slice_get (ps ++ p ∷ []) k ≡ Some p
  end-get [] p zero h = refl
  end-get [] p (suc k) h = absurd (omega arith)
  end-get (q ∷ ps) p zero h = absurd (omega arith)
  end-get (q ∷ ps) p (suc k) h = end-get ps p k (omega arith)

  longer : (ps : List A) (p : A) → length (ps ++ p ∷ []) ≡ suc (length ps)
  longer [] p = refl
  longer (q ∷ ps) p = ap suc (longer ps p)

  -- an item of the first ones
  pub get-take : (n i : ℕ) (xs : List A) → i < n → slice_get (take n xs) i ≡ slice_get xs i
  get-take zero i xs h = absurd (omega arith)
  get-take (suc n) i [] h = refl
  get-take (suc n) zero (x ∷ xs) h = refl
  get-take (suc n) (suc i) (x ∷ xs) h = get-take n i xs (omega arith)

  take-twice : (i n : ℕ) (xs : List A) → i ≤ n → take i (take n xs) ≡ take i xs
  take-twice zero zero xs h = refl
  take-twice zero (suc n) [] h = refl
  take-twice zero (suc n) (x ∷ xs) h = refl
  take-twice (suc i) zero xs h = absurd (omega arith)
  take-twice (suc i) (suc n) [] h = refl
  take-twice (suc i) (suc n) (x ∷ xs) h = ap (λ (ys : List A). x ∷ ys) (take-twice i n xs (omega arith))

  length-all : (n : ℕ) (xs : List A) → n ≤ length xs → length (take n xs) ≡ n
  length-all zero xs h = refl
  length-all (suc n) [] h = absurd (omega arith)
  length-all (suc n) (x ∷ xs) h = ap suc (length-all n xs (omega arith))

  pub take-past : (n : ℕ) (xs : List A) → length xs ≤ n → take n xs ≡ xs
  take-past zero [] h = refl
  take-past zero (x ∷ xs) h = absurd (omega arith)
  take-past (suc n) [] h = refl
  take-past (suc n) (x ∷ xs) h = ap (λ (ys : List A). x ∷ ys) (take-past n xs (omega arith))

  nil-end : (xs : List A) → xs ++ [] ≡ xs
  nil-end [] = refl
  nil-end (x ∷ xs) = ap (λ (ys : List A). x ∷ ys) (nil-end xs)

  past-none : (xs : List A) (n : ℕ) → length xs ≤ n → slice_get xs n ≡ None
  past-none [] n h = refl
  past-none (x ∷ xs) zero h = absurd (omega arith)
  past-none (x ∷ xs) (suc n) h = past-none xs n (omega arith)

-- the level at which definition i is read, which has so many levels, where definition n is read at level k
abbrev pub read_level : ℕ → ℕ → ℕ → ℕ → ℕ
read_level n k i levels = cond (i == n) k levels

module _ (p : PlainProblem) (w : World) where
  -- ---- the tests of definitions

  abbrev tests_over : Tests → List PlainDefinition → Tests
  tests_over ts ds = fold (with_tests_of p w) ts ds

  tests-length : (ts : Tests) (ds : List PlainDefinition) → length (tests_over ts ds) ≡ length ts + length ds
  tests-length ts [] = omega arith
  tests-length ts (d ∷ ds) = let more = tests-length (with_tests_of p w ts d) ds in let one = longer ts (true_at_level p w ts d d.levels) in
      omega arith

  tests-stay : (ts : Tests) (ds : List PlainDefinition) (k : ℕ) → k < length ts → slice_get (tests_over ts ds) k ≡ slice_get ts k
  tests-stay ts [] k h = refl
  tests-stay ts (d ∷ ds) k h = tests-stay (with_tests_of p w ts d) ds k (omega (arith, longer ts (true_at_level p w ts d d.levels))) ∙
      front-get ts (true_at_level p w ts d d.levels ∷ []) k h

  tests-at : (ts : Tests) (ds : List PlainDefinition) (k j : ℕ) (d : PlainDefinition) → slice_get ds k ≡ Some d → j ≡ length ts + k
      → slice_get (tests_over ts ds) j ≡ Some (true_at_level p w (tests_over ts (take k ds)) d d.levels)
  tests-at ts [] k j d e q = cc
  tests-at ts (c ∷ ds) zero j d e q =
      let same : c ≡ d = cc in
      tests-stay (with_tests_of p w ts c) ds j (omega (arith, longer ts (true_at_level p w ts c c.levels)))
      ∙ (end-get ts (true_at_level p w ts c c.levels) j (omega arith) ∙
      ap (λ (x : PlainDefinition). Some (true_at_level p w ts x x.levels)) same)
  tests-at ts (c ∷ ds) (suc k) j d e q = tests-at (with_tests_of p w ts c) ds k j d e
      (omega (arith, longer ts (true_at_level p w ts c c.levels)))

  -- ---- what they look at

  looks-length : (ts : Tests) (ls : Looks) (ds : List PlainDefinition) → length (looks_over p w ts ls ds) ≡ length ls + length ds
  unfolding looks_over
  looks-length ts ls [] = omega arith
  looks-length ts ls (d ∷ ds) = let more = looks-length (with_tests_of p w ts d) (ls ++ looked_at_level p w ts ls d d.levels ∷ []) ds in
      let one = longer ls (looked_at_level p w ts ls d d.levels) in omega arith

  looks-stay : (ts : Tests) (ls : Looks) (ds : List PlainDefinition) (k : ℕ) → k < length ls → slice_get (looks_over p w ts ls ds) k ≡
      slice_get ls k
  unfolding looks_over
  looks-stay ts ls [] k h = refl
  looks-stay ts ls (d ∷ ds) k h = looks-stay (with_tests_of p w ts d) (ls ++ looked_at_level p w ts ls d d.levels ∷ []) ds k
      (omega (arith, longer ls (looked_at_level p w ts ls d d.levels))) ∙ front-get ls (looked_at_level p w ts ls d d.levels ∷ []) k h

  looks-at : (ts : Tests) (ls : Looks) (ds : List PlainDefinition) (k j : ℕ) (d : PlainDefinition) → slice_get ds k ≡ Some d → j ≡
      length ls + k
      → slice_get (looks_over p w ts ls ds) j ≡ Some (looked_at_level p w (tests_over ts (take k ds))
      (looks_over p w ts ls (take k ds)) d d.levels)
  unfolding looks_over
  looks-at ts ls [] k j d e q = cc
  looks-at ts ls (c ∷ ds) zero j d e q =
      let same : c ≡ d = cc in
      looks-stay (with_tests_of p w ts c) (ls ++ looked_at_level p w ts ls c c.levels ∷ []) ds j
      (omega (arith, longer ls (looked_at_level p w ts ls c c.levels)))
      ∙ (end-get ls (looked_at_level p w ts ls c c.levels) j (omega arith) ∙
      ap (λ (x : PlainDefinition). Some (looked_at_level p w ts ls x x.levels)) same)
  looks-at ts ls (c ∷ ds) (suc k) j d e q = looks-at (with_tests_of p w ts c) (ls ++ looked_at_level p w ts ls c c.levels ∷ []) ds k j d e
      (omega (arith, longer ls (looked_at_level p w ts ls c c.levels)))

  -- ---- an atom of definition i, where the first n are read whole and definition n at level k

  tests-read-at : (n k i : ℕ) (d : PlainDefinition) → slice_get p.definitions i ≡ Some d → i ≤ n
      → slice_get (tests_read p w n k) i ≡ Some (true_at_level p w (tests_before p w i) d (read_level n k i d.levels))
  unfolding tests_read
  tests-read-at n k i d e h = elim (less-or-same i n h) [
    | inl less ↦
        let within : i < length p.definitions = slice_get_within p.definitions i d e in
        let there : slice_get (take n p.definitions) i ≡ Some d = get-take n i p.definitions less ∙ e in
        let short = slice_get_within (take n p.definitions) i d there in
        let count = tests-length [] (take n p.definitions) in
        front-get (tests_before p w n) (own_test p w n k (slice_get p.definitions n)) i (omega arith)
        ∙ (tests-at [] (take n p.definitions) i i d there (omega arith)
        ∙ (ap (λ (ds : List PlainDefinition). Some (true_at_level p w (tests_over [] ds) d d.levels)) (take-twice i n p.definitions h)
        ∙ sym (ap (λ (b : Bool). Some (true_at_level p w (tests_before p w i) d (cond b k d.levels))) (ne_eqb i n (omega arith)))))
    | inr same ↦
        let within : i < length p.definitions = slice_get_within p.definitions i d e in
        let count = tests-length [] (take n p.definitions) in
        let size = length-all n p.definitions (omega arith) in
        let own : slice_get p.definitions n ≡ Some d = ap (slice_get p.definitions) (sym same) ∙ e in
        ap (λ (o : Option PlainDefinition). slice_get (tests_before p w n ++ own_test p w n k o) i) own
        ∙ (end-get (tests_before p w n) (true_at_level p w (tests_before p w n) d k) i (omega arith)
        ∙ (ap (λ (m : ℕ). Some (true_at_level p w (tests_before p w m) d k)) (sym same)
        ∙ sym (ap (λ (b : Bool). Some (true_at_level p w (tests_before p w i) d (cond b k d.levels))) (eq-eqb i n same))))
  ]

  looks-read-at : (n k i : ℕ) (d : PlainDefinition) → slice_get p.definitions i ≡ Some d → i ≤ n
      → slice_get (looks_read p w n k) i ≡ Some (looked_at_level p w (tests_before p w i) (looks_before p w i) d
      (read_level n k i d.levels))
  unfolding looks_read
  looks-read-at n k i d e h = elim (less-or-same i n h) [
    | inl less ↦
        let within : i < length p.definitions = slice_get_within p.definitions i d e in
        let there : slice_get (take n p.definitions) i ≡ Some d = get-take n i p.definitions less ∙ e in
        let short = slice_get_within (take n p.definitions) i d there in
        let count = looks-length [] [] (take n p.definitions) in
        front-get (looks_before p w n) (own_look p w n k (slice_get p.definitions n)) i (omega arith)
        ∙ (looks-at [] [] (take n p.definitions) i i d there (omega arith)
        ∙ (ap (λ (ds : List PlainDefinition). Some (looked_at_level p w (tests_over [] ds) (looks_over p w [] [] ds) d d.levels))
        (take-twice i n p.definitions h)
        ∙ sym (ap (λ (b : Bool). Some (looked_at_level p w (tests_before p w i) (looks_before p w i) d (cond b k d.levels)))
        (ne_eqb i n (omega arith)))))
    | inr same ↦
        let within : i < length p.definitions = slice_get_within p.definitions i d e in
        let count = looks-length [] [] (take n p.definitions) in
        let size = length-all n p.definitions (omega arith) in
        let own : slice_get p.definitions n ≡ Some d = ap (slice_get p.definitions) (sym same) ∙ e in
        ap (λ (o : Option PlainDefinition). slice_get (looks_before p w n ++ own_look p w n k o) i) own
        ∙ (end-get (looks_before p w n) (looked_at_level p w (tests_before p w n) (looks_before p w n) d k) i (omega arith)
        ∙ (ap (λ (m : ℕ). Some (looked_at_level p w (tests_before p w m) (looks_before p w m) d k)) (sym same)
        ∙ sym (ap (λ (b : Bool). Some (looked_at_level p w (tests_before p w i) (looks_before p w i) d (cond b k d.levels)))
        (eq-eqb i n same))))
  ]

  -- where its levels are used up, it is false and nothing is looked at
  pub record Closed (n k i : ℕ) (vs : List Value) : Type 0 where
    pub truth : (situation_read p w n k).table i vs ≡ false
    pub looked : looked_read p w n k i vs ≡ []

  pub read-closed : (n k i : ℕ) (d : PlainDefinition) (vs : List Value) → slice_get p.definitions i ≡ Some d → i ≤ n →
      read_level n k i d.levels ≡ 0 → Closed n k i vs
  unfolding true_at_level looked_at_level
  read-closed n k i d vs e h z = record {
    truth = ap (λ (o : Option (List Value → Bool)). asked o vs) (tests-read-at n k i d e h) ∙
        ap (λ (m : ℕ). true_at_level p w (tests_before p w i) d m vs) z;
    looked = ap (λ (o : Option (List Value → List Operation)). looks_asked o vs) (looks-read-at n k i d e h) ∙
        ap (λ (m : ℕ). looked_at_level p w (tests_before p w i) (looks_before p w i) d m vs) z;
  }

  -- and else it is its body of the values, read one level lower
  pub record Opened (n k i j : ℕ) (d : PlainDefinition) (vs : List Value) : Type 0 where
    pub truth : (situation_read p w n k).table i vs ≡ state_true (situation_read p w i j) (bind d.params vs no_values) d.body
    pub looked : looked_read p w n k i vs ≡ looked_in_state (looked_read p w i j) (situation_read p w i j)
        (bind d.params vs no_values) d.body

  pub read-opened : (n k i j : ℕ) (d : PlainDefinition) (vs : List Value) → slice_get p.definitions i ≡ Some d → i ≤ n →
      read_level n k i d.levels ≡ suc j → Opened n k i j d vs
  unfolding true_at_level looked_at_level tests_read looks_read
  read-opened n k i j d vs e h z =
      let tests : tests_before p w i ++ true_at_level p w (tests_before p w i) d j ∷ [] ≡ tests_read p w i j =
      ap (λ (o : Option PlainDefinition). tests_before p w i ++ own_test p w i j o) (sym e) in
      let looks : looks_before p w i ++ looked_at_level p w (tests_before p w i) (looks_before p w i) d j ∷ [] ≡ looks_read p w i j =
      ap (λ (o : Option PlainDefinition). looks_before p w i ++ own_look p w i j o) (sym e) in
      record {
        truth = ap (λ (o : Option (List Value → Bool)). asked o vs) (tests-read-at n k i d e h)
            ∙ (ap (λ (m : ℕ). true_at_level p w (tests_before p w i) d m vs) z
            ∙ ap (λ (ts : Tests). state_true (situation_under p w ts) (bind d.params vs no_values) d.body) tests);
        looked = ap (λ (o : Option (List Value → List Operation)). looks_asked o vs) (looks-read-at n k i d e h)
            ∙ (ap (λ (m : ℕ). looked_at_level p w (tests_before p w i) (looks_before p w i) d m vs) z
            ∙ ap₂ (λ (ts : Tests) (ls : Looks). looked_in_state (looked_table ls) (situation_under p w ts)
            (bind d.params vs no_values) d.body) tests looks);
      }

  -- an atom of definition i means and looks at the same wherever it is read at one level
  pub record AtLevel (n k i l : ℕ) (vs : List Value) : Type 0 where
    pub truth : (situation_read p w n k).table i vs ≡ (situation_read p w i l).table i vs
    pub looked : looked_read p w n k i vs ≡ looked_read p w i l i vs

  pub read-at : (n k i l : ℕ) (d : PlainDefinition) (vs : List Value) → slice_get p.definitions i ≡ Some d → i ≤ n →
      read_level n k i d.levels ≡ l → AtLevel n k i l vs
  read-at n k i l d vs e h z =
      let own : read_level n k i d.levels ≡ read_level i l i d.levels = z ∙ sym (ap (λ (b : Bool). cond b l d.levels) (eq-eqb i i refl)) in
      record {
        truth = ap (λ (o : Option (List Value → Bool)). asked o vs) (tests-read-at n k i d e h)
            ∙ (ap (λ (m : ℕ). true_at_level p w (tests_before p w i) d m vs) own
            ∙ sym (ap (λ (o : Option (List Value → Bool)). asked o vs) (tests-read-at i l i d e (omega arith))));
        looked = ap (λ (o : Option (List Value → List Operation)). looks_asked o vs) (looks-read-at n k i d e h)
            ∙ (ap (λ (m : ℕ). looked_at_level p w (tests_before p w i) (looks_before p w i) d m vs) own
            ∙ sym (ap (λ (o : Option (List Value → List Operation)). looks_asked o vs) (looks-read-at i l i d e (omega arith))));
      }

  -- ---- outside of definitions all are read whole

  pub tests-whole : (n k : ℕ) → length p.definitions ≤ n → tests_of p w ≡ tests_read p w n k
  unfolding tests_of tests_read
  tests-whole n k h = sym (
      ap (λ (o : Option PlainDefinition). tests_before p w n ++ own_test p w n k o) (past-none p.definitions n h)
      ∙ (nil-end (tests_before p w n) ∙ ap (λ (ds : List PlainDefinition). tests_over [] ds) (take-past n p.definitions h)))

  pub situation-whole : (n k : ℕ) → length p.definitions ≤ n → situation_of p w ≡ situation_read p w n k
  unfolding situation_of
  situation-whole n k h = ap (situation_under p w) (tests-whole n k h)

  pub looked-whole : (n k : ℕ) → length p.definitions ≤ n → looks_of p w ≡ looked_read p w n k
  unfolding looks_of looks_read
  looked-whole n k h = sym (
      ap looked_table (ap (λ (o : Option PlainDefinition). looks_before p w n ++ own_look p w n k o) (past-none p.definitions n h)
      ∙ (nil-end (looks_before p w n) ∙ ap (λ (ds : List PlainDefinition). looks_over p w [] [] ds) (take-past n p.definitions h))))

-- Runs, and what they say of labels.
use Rattle.std.proofs.Common.{◌≡◌, ◌≤◌, ◌<◌, ◌+◌, ◌-◌, ◌&&◌, ◌||◌, ◌⊎◌, inl, inr, ℕ, zero, suc, List, [], ◌∷◌, ◌++◌, map, take, drop}
use Rattle.std.proofs.Common.{length, replicate, get_or, Bool, true, false, not, refl, sym, ap, ap₂, ◌∙◌, subst, arith, drop-cons}
use Rattle.std.proofs.Common.{append_assoc, append-nil}
use Rattle.std.specs.Prelude.{slice_set}
use Rattle.std.proofs.lemmas.List.{get_or-take, take-set, drop-set, length-set, replicate-append-replicate, drop_all, map-append, take_more}
use Rattle.std.proofs.lemmas.List.{take_more_set}
use Rattle.std.proofs.lemmas.Bool.{cases_lt}
use Rattle.tl_check.specs.Passes.{first_or, last_or, next_labels, always_labels, eventually_labels}
use Rattle.tl_check.specs.Runs.{spread}
use Rattle.tl_check.specs.declared.run.Run.{Run}

pub spread-append : (xs ys : List Run) → spread (xs ++ ys) ≡ spread xs ++ spread ys
spread-append [] ys = refl
spread-append (r ∷ rs) ys = ap (λ (bs : List Bool). replicate r.count r.truth ++ bs) (spread-append rs ys) ∙
    sym (append_assoc (replicate r.count r.truth) (spread rs) (spread ys))

pub spread-push : (xs : List Run) (r : Run) → spread (xs ++ r ∷ []) ≡ spread xs ++ replicate r.count r.truth
spread-push xs r = spread-append xs (r ∷ []) ∙ ap (λ (bs : List Bool). spread xs ++ bs) (append-nil (replicate r.count r.truth))

-- the labels from a run on
pub spread-at : (xs : List Run) (i : ℕ) (r : Run) → i < length xs → r ≡ get_or xs i r → spread (drop i xs) ≡ replicate r.count r.truth ++
    spread (drop (i + 1) xs)
spread-at xs i r h q = ap spread (drop-cons xs i r h) ∙ ap₂ (λ (x : Run) (k : ℕ). replicate x.count x.truth ++ spread (drop k xs)) (sym q)
    (let e : suc i ≡ i + 1 = omega arith in e)

pub spread-end : (xs : List Run) (i : ℕ) → length xs ≤ i → spread (drop i xs) ≡ []
spread-end xs i h = ap spread (drop_all i xs h)

-- a longer last run
pub lengthened : (xs : List Run) (n count : ℕ) (r v : Run) → suc n ≡ length xs → r ≡ get_or xs n r → v.truth ≡ r.truth → v.count ≡
    r.count + count → spread (slice_set xs n v) ≡ spread xs ++ replicate count v.truth
lengthened [] n count r v h q s t = absurd (omega (arith, h))
lengthened (x ∷ []) zero count r v h q s t =
    append-nil (replicate v.count v.truth)
    ∙ (ap (λ (k : ℕ). replicate k v.truth) (t ∙ ap (λ (y : Run). y.count + count) q)
    ∙ (sym (replicate-append-replicate x.count count v.truth)
    ∙ ap (λ (bs : List Bool). bs ++ replicate count v.truth) (ap (replicate x.count) (s ∙ ap (λ (y : Run). y.truth) q) ∙
    sym (append-nil (replicate x.count x.truth)))))
lengthened (x ∷ []) (suc n) count r v h q s t = absurd (omega (arith, h))
lengthened (x ∷ y ∷ ys) zero count r v h q s t = absurd (omega (arith, h))
lengthened (x ∷ y ∷ ys) (suc n) count r v h q s t =
    ap (λ (bs : List Bool). replicate x.count x.truth ++ bs) (lengthened (y ∷ ys) n count r v (omega (arith, h)) q s t)
    ∙ sym (append_assoc (replicate x.count x.truth) (spread (y ∷ ys)) (replicate count v.truth))

-- ---- the label at a position

pub at-in : (n k : ℕ) (b : Bool) (bs : List Bool) → k < n → get_or (replicate n b ++ bs) k false ≡ b
at-in zero k b bs h = absurd (omega arith)
at-in (suc n) zero b bs h = refl
at-in (suc n) (suc k) b bs h = at-in n k b bs (omega arith)

pub at-past : (n k : ℕ) (b : Bool) (bs : List Bool) → n ≤ k → get_or (replicate n b ++ bs) k false ≡ get_or bs (k - n) false
at-past zero k b bs h = ap (λ (i : ℕ). get_or bs i false) (let e : k ≡ k - 0 = omega arith in e)
at-past (suc n) zero b bs h = absurd (omega arith)
at-past (suc n) (suc k) b bs h = at-past n k b bs (omega arith) ∙ ap (λ (i : ℕ). get_or bs i false)
    (let e : k - n ≡ suc k - suc n = omega arith in e)

pub get-nothing : (k : ℕ) → get_or (let none : List Bool = [] in none) k false ≡ false
get-nothing zero = refl
get-nothing (suc k) = refl

pub first-in : (n : ℕ) (d b : Bool) (bs : List Bool) → 0 < n → first_or d (replicate n b ++ bs) ≡ b
first-in zero d b bs h = absurd (omega arith)
first-in (suc n) d b bs h = refl

-- ---- the last label

last-append : (cs bs : List Bool) (d : Bool) → last_or d (cs ++ bs) ≡ last_or (last_or d cs) bs
last-append [] bs d = refl
last-append (c ∷ cs) bs d = last-append cs bs c

last-same : (n : ℕ) (b : Bool) → last_or b (replicate n b) ≡ b
last-same zero b = refl
last-same (suc n) b = last-same n b

last-in : (n : ℕ) (d b : Bool) → 0 < n → last_or d (replicate n b) ≡ b
last-in zero d b h = absurd (omega arith)
last-in (suc n) d b h = last-same n b

pub last-run : (d : Bool) (xs : List Run) (n : ℕ) (r : Run) → n ≡ length xs → 0 < n → r ≡ get_or xs (n - 1) r → r.truth ≡
    last_or d (spread xs)
last-run d [] n r h p q = absurd (omega (arith, h))
last-run d (x ∷ []) n r h p q =
    ap (λ (y : Run). y.truth) (q ∙ ap (λ (k : ℕ). get_or (x ∷ []) k r) (let e : n - 1 ≡ 0 = omega (arith, h) in e))
    ∙ sym (ap (last_or d) (append-nil (replicate x.count x.truth)) ∙ last-in x.count d x.truth x.some)
last-run d (x ∷ y ∷ ys) n r h p q =
    last-run (last_or d (replicate x.count x.truth)) (y ∷ ys) (n - 1) r (omega (arith, h)) (omega (arith, h))
    (q ∙ ap (λ (k : ℕ). get_or (x ∷ y ∷ ys) k r) (let e : n - 1 ≡ suc (n - 1 - 1) = omega (arith, h) in e))
    ∙ sym (last-append (replicate x.count x.truth) (spread (y ∷ ys)) d)

next-is : (b : Bool) (bs : List Bool) → bs ++ last_or b bs ∷ [] ≡ next_labels (b ∷ bs)
next-is b [] = refl
next-is b (c ∷ cs) = ap (λ (ds : List Bool). c ∷ ds) (next-is c cs)

pub shifted : (bs : List Bool) → drop 1 (bs ++ last_or false bs ∷ []) ≡ next_labels bs
shifted [] = refl
shifted (b ∷ bs) = next-is b bs

-- ---- passes from the last run backwards

-- the runs before the place are as they were, and those from it on have the new labels
pub record BackRuns (labels : ℕ → List Bool) (i : ℕ) (xs ys : List Run) : Type 0 where
  pub size : length xs ≡ length ys
  pub within : i ≤ length ys
  pub front : take i xs ≡ take i ys
  pub back : spread (drop i xs) ≡ labels i

take-less : {A : Type 0} (j : ℕ) (xs ys : List A) → take (suc j) xs ≡ take (suc j) ys → take j xs ≡ take j ys
take-less zero xs ys h = refl
take-less (suc j) [] [] h = refl
take-less (suc j) [] (y ∷ ys) h = absurd (let z : ⊥ = cc in z)
take-less (suc j) (x ∷ xs) [] h = absurd (let z : ⊥ = cc in z)
take-less (suc j) (x ∷ xs) (y ∷ ys) h =
    let tails : take (suc j) xs ≡ take (suc j) ys = cc in
    let heads : x ≡ y = cc in
    let rest = take-less j xs ys tails in cc

was : (labels : ℕ → List Bool) (j : ℕ) (xs ys : List Run) (r : Run) → BackRuns labels (suc j) xs ys → r ≡ get_or xs j r → r ≡ get_or ys j r
was labels j xs ys r h q = q ∙ (sym (get_or-take (suc j) xs j r (omega arith)) ∙
    (ap (λ (us : List Run). get_or us j r) h.front ∙ get_or-take (suc j) ys j r (omega arith)))

back-on : (labels : ℕ → List Bool) (j : ℕ) (xs ys : List Run) (v : Run) → BackRuns labels (suc j) xs ys → labels j ≡
    replicate v.count v.truth ++ labels (suc j) → BackRuns labels j (slice_set xs j v) ys
back-on labels j xs ys v h q =
    let room : j < length xs = omega (arith, h.size, h.within) in
    record {
      size = length-set xs j v ∙ h.size;
      within = omega (arith, h.within);
      front = take-set xs j v ∙ take-less j xs ys h.front;
      back = ap spread (drop-set xs j v room) ∙ (ap (λ (k : ℕ). replicate v.count v.truth ++ spread (drop k xs))
          (let e : j + 1 ≡ suc j = omega arith in e) ∙ (ap (λ (us : List Bool). replicate v.count v.truth ++ us) h.back ∙ sym q));
    }

opened : (F : List Bool → List Bool) (j : ℕ) (ys : List Run) (r : Run) → suc j ≤ length ys → r ≡ get_or ys j r → F (spread (drop j ys)) ≡
    F (replicate r.count r.truth ++ spread (drop (suc j) ys))
opened F j ys r h q = ap (λ (us : List Run). F (spread us)) (drop-cons ys j r (omega arith)) ∙
    ap (λ (x : Run). F (replicate x.count x.truth ++ spread (drop (suc j) ys))) (sym q)

map-replicate : (n : ℕ) (b : Bool) → map not (replicate n b) ≡ replicate n (not b)
map-replicate zero b = refl
map-replicate (suc n) b = ap (λ (bs : List Bool). not b ∷ bs) (map-replicate n b)

same-run : (n m : ℕ) (a b : Bool) (bs : List Bool) → n ≡ m → a ≡ b → replicate n a ++ bs ≡ replicate m b ++ bs
same-run n m a b bs p q = ap₂ (λ (k : ℕ) (c : Bool). replicate k c ++ bs) p q

pub negate-on : (i : ℕ) (xs ys : List Run) (r v : Run) → 0 < i → BackRuns (λ k. map not (spread (drop k ys))) i xs ys → r ≡
    get_or xs (i - 1) r → v.count ≡ r.count → v.truth ≡ not r.truth → BackRuns (λ k. map not (spread (drop k ys))) (i - 1)
    (slice_set xs (i - 1) v) ys
negate-on zero xs ys r v p h q s t = absurd (omega arith)
negate-on (suc j) xs ys r v p h q s t = subst (λ (k : ℕ). BackRuns (λ i. map not (spread (drop i ys))) k (slice_set xs k v) ys)
    (let e : j ≡ suc j - 1 = omega arith in e) on
  where
    there : r ≡ get_or xs j r
    there = q ∙ ap (λ (k : ℕ). get_or xs k r) (let e : suc j - 1 ≡ j = omega arith in e)

    on : BackRuns (λ k. map not (spread (drop k ys))) j (slice_set xs j v) ys
    on = back-on (λ k. map not (spread (drop k ys))) j xs ys v h
        (opened (map not) j ys r (omega (arith, h.within)) (was (λ k. map not (spread (drop k ys))) j xs ys r h there)
        ∙ (map-append not (replicate r.count r.truth) (spread (drop (suc j) ys))
        ∙ (ap (λ (bs : List Bool). bs ++ map not (spread (drop (suc j) ys))) (map-replicate r.count r.truth)
        ∙ same-run r.count v.count (not r.truth) v.truth (map not (spread (drop (suc j) ys))) (sym s) (sym t))))

first-always : (t : Bool) (n : ℕ) (bs : List Bool) → (t && first_or true (replicate n (t && first_or true bs) ++ bs)) ≡
    (t && first_or true bs)
first-always t zero bs = refl
first-always true (suc n) bs = refl
first-always false (suc n) bs = refl

always-run : (n : ℕ) (t : Bool) (bs : List Bool) → always_labels (replicate n t ++ bs) ≡
    replicate n (t && first_or true (always_labels bs)) ++ always_labels bs
always-run zero t bs = refl
always-run (suc n) t bs = ap (λ (cs : List Bool). (t && first_or true cs) ∷ cs) (always-run n t bs) ∙
    ap (λ (c : Bool). c ∷ (replicate n (t && first_or true (always_labels bs)) ++ always_labels bs)) (first-always t n (always_labels bs))

first-eventually : (t : Bool) (n : ℕ) (bs : List Bool) → (t || first_or false (replicate n (t || first_or false bs) ++ bs)) ≡
    (t || first_or false bs)
first-eventually t zero bs = refl
first-eventually true (suc n) bs = refl
first-eventually false (suc n) bs = refl

eventually-run : (n : ℕ) (t : Bool) (bs : List Bool) → eventually_labels (replicate n t ++ bs) ≡
    replicate n (t || first_or false (eventually_labels bs)) ++ eventually_labels bs
eventually-run zero t bs = refl
eventually-run (suc n) t bs = ap (λ (cs : List Bool). (t || first_or false cs) ∷ cs) (eventually-run n t bs) ∙
    ap (λ (c : Bool). c ∷ (replicate n (t || first_or false (eventually_labels bs)) ++ eventually_labels bs))
    (first-eventually t n (eventually_labels bs))

pub record AlwaysSoFar (i : ℕ) (later : Bool) (xs ys : List Run) : Type 0 where
  pub back : BackRuns (λ k. always_labels (spread (drop k ys))) i xs ys
  pub ahead : later ≡ first_or true (always_labels (spread (drop i ys)))

pub always-on : (i : ℕ) (later : Bool) (xs ys : List Run) (r v : Run) → 0 < i → AlwaysSoFar i later xs ys → r ≡ get_or xs (i - 1) r →
    v.count ≡ r.count → v.truth ≡ (r.truth && later) → AlwaysSoFar (i - 1) v.truth (slice_set xs (i - 1) v) ys
always-on zero later xs ys r v p h q s t = absurd (omega arith)
always-on (suc j) later xs ys r v p h q s t = subst (λ (k : ℕ). AlwaysSoFar k v.truth (slice_set xs k v) ys)
    (let e : j ≡ suc j - 1 = omega arith in e) on
  where
    there : r ≡ get_or xs j r
    there = q ∙ ap (λ (k : ℕ). get_or xs k r) (let e : suc j - 1 ≡ j = omega arith in e)

    step : always_labels (spread (drop j ys)) ≡ replicate v.count v.truth ++ always_labels (spread (drop (suc j) ys))
    step =
        opened always_labels j ys r (omega (arith, h.back.within)) (was (λ k. always_labels (spread (drop k ys))) j xs ys r h.back there)
        ∙ (always-run r.count r.truth (spread (drop (suc j) ys))
        ∙ same-run r.count v.count (r.truth && first_or true (always_labels (spread (drop (suc j) ys)))) v.truth
        (always_labels (spread (drop (suc j) ys))) (sym s) (sym (t ∙ ap (λ (b : Bool). r.truth && b) h.ahead)))

    on : AlwaysSoFar j v.truth (slice_set xs j v) ys
    on = record {
      back = back-on (λ k. always_labels (spread (drop k ys))) j xs ys v h.back step;
      ahead = sym (ap (first_or true) step ∙ first-in v.count true v.truth (always_labels (spread (drop (suc j) ys))) v.some);
    }

pub record EventuallySoFar (i : ℕ) (later : Bool) (xs ys : List Run) : Type 0 where
  pub back : BackRuns (λ k. eventually_labels (spread (drop k ys))) i xs ys
  pub ahead : later ≡ first_or false (eventually_labels (spread (drop i ys)))

pub eventually-on : (i : ℕ) (later : Bool) (xs ys : List Run) (r v : Run) → 0 < i → EventuallySoFar i later xs ys → r ≡
    get_or xs (i - 1) r → v.count ≡ r.count → v.truth ≡ (r.truth || later) → EventuallySoFar (i - 1) v.truth (slice_set xs (i - 1) v) ys
eventually-on zero later xs ys r v p h q s t = absurd (omega arith)
eventually-on (suc j) later xs ys r v p h q s t = subst (λ (k : ℕ). EventuallySoFar k v.truth (slice_set xs k v) ys)
    (let e : j ≡ suc j - 1 = omega arith in e) on
  where
    there : r ≡ get_or xs j r
    there = q ∙ ap (λ (k : ℕ). get_or xs k r) (let e : suc j - 1 ≡ j = omega arith in e)

    step : eventually_labels (spread (drop j ys)) ≡ replicate v.count v.truth ++ eventually_labels (spread (drop (suc j) ys))
    step =
        opened eventually_labels j ys r (omega (arith, h.back.within))
        (was (λ k. eventually_labels (spread (drop k ys))) j xs ys r h.back there)
        ∙ (eventually-run r.count r.truth (spread (drop (suc j) ys))
        ∙ same-run r.count v.count (r.truth || first_or false (eventually_labels (spread (drop (suc j) ys)))) v.truth
        (eventually_labels (spread (drop (suc j) ys))) (sym s) (sym (t ∙ ap (λ (b : Bool). r.truth || b) h.ahead)))

    on : EventuallySoFar j v.truth (slice_set xs j v) ys
    on = record {
      back = back-on (λ k. eventually_labels (spread (drop k ys))) j xs ys v h.back step;
      ahead = sym (ap (first_or false) step ∙ first-in v.count false v.truth (eventually_labels (spread (drop (suc j) ys))) v.some);
    }

-- ---- the labels that are kept

take-run : (n k : ℕ) (b : Bool) (bs : List Bool) → k ≤ n → take k (replicate n b ++ bs) ≡ replicate k b
take-run n zero b bs h = refl
take-run zero (suc k) b bs h = absurd (omega arith)
take-run (suc n) (suc k) b bs h = ap (λ (cs : List Bool). b ∷ cs) (take-run n k b bs (omega arith))

take-past : (n k : ℕ) (b : Bool) (bs : List Bool) → n ≤ k → take k (replicate n b ++ bs) ≡ replicate n b ++ take (k - n) bs
take-past zero k b bs h = ap (λ (i : ℕ). take i bs) (let e : k ≡ k - 0 = omega arith in e)
take-past (suc n) zero b bs h = absurd (omega arith)
take-past (suc n) (suc k) b bs h = ap (λ (cs : List Bool). b ∷ cs) (take-past n k b bs (omega arith) ∙
    ap (λ (i : ℕ). replicate n b ++ take i bs) (let e : k - n ≡ suc k - suc n = omega arith in e))

spread-more : (xs : List Run) (i : ℕ) (r : Run) → i < length xs → r ≡ get_or xs i r → spread (take (i + 1) xs) ≡ spread (take i xs) ++
    replicate r.count r.truth
spread-more xs i r h q = ap spread (take_more xs i r h) ∙ (ap (λ (x : Run). spread (take i xs ++ x ∷ [])) (sym q) ∙
    spread-push (take i xs) r)

-- one run more is kept whole
pub kept-on : (xs : List Run) (i count left : ℕ) (r : Run) → i < length xs → r ≡ get_or xs i r → r.count ≤ left → take count (spread xs) ≡
    spread (take i xs) ++ take left (spread (drop i xs))
    → take count (spread xs) ≡ spread (take (i + 1) xs) ++ take (left - r.count) (spread (drop (i + 1) xs))
kept-on xs i count left r h q l so =
    so
    ∙ (ap (λ (bs : List Bool). spread (take i xs) ++ take left bs) (spread-at xs i r h q)
    ∙ (ap (λ (bs : List Bool). spread (take i xs) ++ bs) (take-past r.count left r.truth (spread (drop (i + 1) xs)) l)
    ∙ (sym (append_assoc (spread (take i xs)) (replicate r.count r.truth) (take (left - r.count) (spread (drop (i + 1) xs))))
    ∙ ap (λ (bs : List Bool). bs ++ take (left - r.count) (spread (drop (i + 1) xs))) (sym (spread-more xs i r h q)))))

-- the next run is kept in part
pub kept-part : (ys xs : List Run) (i part count : ℕ) (r v : Run) → ys ≡ xs → i < length xs → r ≡ get_or xs i r → v.count ≡ part → v.truth ≡
    r.truth → part ≤ r.count → take count (spread ys) ≡ spread (take i ys) ++ take part (spread (drop i ys))
    → spread (take (i + 1) (slice_set xs i v)) ≡ take count (spread xs)
kept-part ys xs i part count r v e h q s t l so =
    ap spread (take_more_set xs i v h)
    ∙ (spread-push (take i xs) v
    ∙ (ap (λ (bs : List Bool). spread (take i xs) ++ bs) (ap₂ (λ (k : ℕ) (b : Bool). replicate k b) s t ∙
    (sym (take-run r.count part r.truth (spread (drop (i + 1) xs)) l) ∙ ap (take part) (sym (spread-at xs i r h q))))
    ∙ sym (subst (λ (zs : List Run). take count (spread zs) ≡ spread (take i zs) ++ take part (spread (drop i zs))) e so)))

-- ---- the labels from a position on

drop-past : (n k : ℕ) (b : Bool) (bs : List Bool) → n ≤ k → drop k (replicate n b ++ bs) ≡ drop (k - n) bs
drop-past zero k b bs h = ap (λ (i : ℕ). drop i bs) (let e : k ≡ k - 0 = omega arith in e)
drop-past (suc n) zero b bs h = absurd (omega arith)
drop-past (suc n) (suc k) b bs h = drop-past n k b bs (omega arith) ∙ ap (λ (i : ℕ). drop i bs)
    (let e : k - n ≡ suc k - suc n = omega arith in e)

drop-part : (n k : ℕ) (b : Bool) (bs : List Bool) → k ≤ n → drop k (replicate n b ++ bs) ≡ replicate (n - k) b ++ bs
drop-part n zero b bs h = ap (λ (i : ℕ). replicate i b ++ bs) (let e : n ≡ n - 0 = omega arith in e)
drop-part zero (suc k) b bs h = absurd (omega arith)
drop-part (suc n) (suc k) b bs h = drop-part n k b bs (omega arith) ∙ ap (λ (i : ℕ). replicate i b ++ bs)
    (let e : n - k ≡ suc n - suc k = omega arith in e)

-- the run is left out, as far as the position goes
drop-lesser : (n k m : ℕ) (b : Bool) (bs : List Bool) → (k ≤ n → m ≡ k) → (n ≤ k → m ≡ n) → (k ≤ n) ⊎ (n ≤ k) →
    drop k (replicate n b ++ bs) ≡ replicate (n - m) b ++ drop (k - m) bs
drop-lesser n k m b bs left right (inl h) =
    let e = left h in
    drop-part n k b bs h ∙ ap₂ (λ (i j : ℕ). replicate i b ++ drop j bs) (let q : n - k ≡ n - m = omega (arith, e) in q)
    (let q : 0 ≡ k - m = omega (arith, e) in q)
drop-lesser n k m b bs left right (inr h) =
    let e = right h in
    drop-past n k b bs h ∙ ap₂ (λ (i j : ℕ). replicate i b ++ drop j bs) (let q : 0 ≡ n - m = omega (arith, e) in q)
    (let q : k - n ≡ k - m = omega (arith, e) in q)

pub from-on : (xs : List Run) (i left m : ℕ) (r : Run) (made new whole : List Bool) → i < length xs → r ≡ get_or xs i r →
    (left ≤ r.count → m ≡ left) → (r.count ≤ left → m ≡ r.count) → new ≡ made ++ replicate (r.count - m) r.truth
    → made ++ drop left (spread (drop i xs)) ≡ whole → new ++ drop (left - m) (spread (drop (i + 1) xs)) ≡ whole
from-on xs i left m r made new whole h q low high added so =
    ap (λ (bs : List Bool). bs ++ drop (left - m) (spread (drop (i + 1) xs))) added
    ∙ (append_assoc made (replicate (r.count - m) r.truth) (drop (left - m) (spread (drop (i + 1) xs)))
    ∙ (ap (λ (bs : List Bool). made ++ bs) (sym (ap (drop left) (spread-at xs i r h q) ∙
    drop-lesser r.count left m r.truth (spread (drop (i + 1) xs)) low high (at-most left r.count))) ∙ so))
  where
    at-most : (a b : ℕ) → (a ≤ b) ⊎ (b ≤ a)
    at-most a b = elim (cases_lt b a) [ inl l ↦ inr (omega arith) | inr l ↦ inl l ]

nothing-left : (k : ℕ) → drop k (let none : List Bool = [] in none) ≡ []
nothing-left zero = refl
nothing-left (suc k) = refl

pub from-end : (xs : List Run) (i left : ℕ) (made whole : List Bool) → length xs ≤ i → made ++ drop left (spread (drop i xs)) ≡ whole →
    made ≡ whole
from-end xs i left made whole h so = sym (append-nil made) ∙ (ap (λ (bs : List Bool). made ++ bs)
    (sym (ap (drop left) (spread-end xs i h) ∙ nothing-left left)) ∙ so)

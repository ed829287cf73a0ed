-- Values put in place part by part make the parts the row.
use Rattle.std.proofs.Common.{◌≡◌, ℕ, zero, suc, ◌<◌, ◌≤◌, ◌+◌, Bool, true, false, ◌||◌, true≢false, List, [], ◌∷◌, length, get_or, take}
use Rattle.std.proofs.Common.{drop, drop-cons, leb, eqb, eqb-true, eq-eqb, Some, refl, sym, ap, ◌∙◌, subst, arith, ◌≢◌}
use Rattle.std.proofs.lemmas.List.{take_all}
use Rattle.std.proofs.lemmas.Option.{slice_get-get_or}
use Rattle.std.specs.Prelude.{slice_get}
use Rattle.tl_syntax.specs.declared.value.Value.{Value}
use Rattle.tl_syntax.specs.DerivedTests.{value_eq}
use Rattle.tl_syntax.proofs.Plain.{both, with_both, value-tells}
use Rattle.tl_match.specs.declared.pattern.Part.{Part}
use Rattle.tl_match.specs.declared.pattern.Part.TheVariants.{Fixed, Free}
use Rattle.tl_match.specs.Fits.{is_value, fits_at, fits_all, occurs, BeginsAs}
use Rattle.tl_match.specs.Front.{seen_after, seen_in, is_in_turn, are_in_turn}
use Rattle.tl_match.proofs.Matching.{is_value-some}

-- one part
pub fits-here : (ps : List Part) (vs t : List Value) (k : ℕ) (p d : Part) (v e : Value) → k < length ps → length ps ≡ length vs →
    get_or ps k d ≡ p → get_or vs k e ≡ v → fits_all ps vs t ≡ true → fits_at p v t ≡ true
fits-here [] vs t k p d v e low same at here h = absurd (omega arith)
fits-here (q ∷ ps) [] t k p d v e low same at here h = absurd (omega arith)
fits-here (q ∷ ps) (w ∷ vs) t zero p d v e low same at here h = (λ i. fits_at (sym at i) (sym here i) t) ∙
    (both (fits_at q w t) (fits_all ps vs t) h).0
fits-here (q ∷ ps) (w ∷ vs) t (suc k) p d v e low same at here h = fits-here ps vs t k p d v e (omega arith) (omega (arith, same)) at here
    (both (fits_at q w t) (fits_all ps vs t) h).1

fits-more : (ps : List Part) (vs t : List Value) (k : ℕ) (p d : Part) (v e : Value) → k < length ps → length ps ≡ length vs →
    get_or ps k d ≡ p → get_or vs k e ≡ v → fits_at p v t ≡ true → fits_all (take k ps) (take k vs) t ≡ true →
    fits_all (take (suc k) ps) (take (suc k) vs) t ≡ true
fits-more [] vs t k p d v e low same at here f h = absurd (omega arith)
fits-more (q ∷ ps) [] t k p d v e low same at here f h = absurd (omega arith)
fits-more (q ∷ ps) (w ∷ vs) t zero p d v e low same at here f h = with_both ((λ i. fits_at (at i) (here i) t) ∙ f) refl
fits-more (q ∷ ps) (w ∷ vs) t (suc k) p d v e low same at here f h =
    let parts = both (fits_at q w t) (fits_all (take k ps) (take k vs) t) h in
    with_both parts.0 (fits-more ps vs t k p d v e (omega arith) (omega (arith, same)) at here f parts.1)

-- the parts up to k and the next one
pub fits-next : (ps : List Part) (vs t : List Value) (k j : ℕ) (p d : Part) (v e : Value) → j ≡ k + 1 → k < length ps → length ps ≡
    length vs → get_or ps k d ≡ p → get_or vs k e ≡ v → fits_at p v t ≡ true → fits_all (take k ps) (take k vs) t ≡ true →
    fits_all (take j ps) (take j vs) t ≡ true
fits-next ps vs t k j p d v e n low same at here f h = subst (λ i. fits_all (take i ps) (take i vs) t ≡ true)
    (let m : suc k ≡ j = omega (arith, n) in m) (fits-more ps vs t k p d v e low same at here f h)

occurs-at : (ps : List Part) (k n : ℕ) (d : Part) → k < length ps → get_or ps k d ≡ Free n → occurs n ps ≡ true
occurs-at [] k n d low at = absurd (omega arith)
occurs-at (q ∷ ps) zero n d low at = ap (λ (p : Part). occurs n (p ∷ ps)) at ∙ ap (λ b. b || occurs n ps) (eq-eqb n n refl)
occurs-at (q ∷ ps) (suc k) n d low at = or_second _ _ (occurs-at ps k n d (omega arith) at)
  where
    or_second : (a b : Bool) → b ≡ true → (a || b) ≡ true
    or_second true b h = refl
    or_second false b h = h

pub turn-at : (ps : List Part) (k n : ℕ) (d : Part) → k < length ps → are_in_turn n (drop k ps) ≡ true →
    (is_in_turn n (get_or ps k d) ≡ true) × (are_in_turn (seen_after n (get_or ps k d)) (drop (k + 1) ps) ≡ true)
turn-at ps k n d low h =
    let p = get_or ps k d in
    let e : drop k ps ≡ p ∷ drop (k + 1) ps = drop-cons ps k d low ∙ ap (λ i. p ∷ drop i ps) (let m : suc k ≡ k + 1 = omega arith in m) in
    both (is_in_turn n p) (are_in_turn (seen_after n p) (drop (k + 1) ps)) (ap (are_in_turn n) (sym e) ∙ h)

-- the first variables of the parts from k on
pub seen-at : (ps : List Part) (k n : ℕ) (d : Part) → k < length ps → seen_in n (drop k ps) ≡
    seen_in (seen_after n (get_or ps k d)) (drop (k + 1) ps)
seen-at ps k n d low = ap (seen_in n) (drop-cons ps k d low ∙ ap (λ i. get_or ps k d ∷ drop i ps)
    (let m : suc k ≡ k + 1 = omega arith in m))

-- the variables that were seen are among those that count
pub seen-within : (ps : List Part) (k n free : ℕ) (p d : Part) → k < length ps → ((m : ℕ) → occurs m ps ≡ true → m < free) → n ≤ free →
    get_or ps k d ≡ p → seen_after n p ≤ free
seen-within ps k n free (Fixed v) d low slots h at = h
seen-within ps k n free (Free m) d low slots h at = (elim (eqb m n) as
    (λ b. eqb m n ≡ b → Rattle.std.proofs.Common.cond b (n + 1) n ≤ free) [
      | true ↦ λ e. let is : m ≡ n = eqb-true m n e in let q : m < free = slots m (occurs-at ps k m d low at) in omega (arith, is, q)
      | false ↦ λ e. h
    ]) refl

pub room : (ps : List Part) (k n free : ℕ) (d : Part) → k < length ps → ((m : ℕ) → occurs m ps ≡ true → m < free) → n ≤ free → free ≤ 9 →
    seen_after n (get_or ps k d) ≤ 9
room ps k n free d low slots h few = let q = seen-within ps k n free (get_or ps k d) d low slots h refl in omega (arith, q, few)

pub begins-taken : (values : List Value) (seen free : ℕ) → seen ≤ free → BeginsAs seen values (take free values)
begins-taken values seen free p m q = taken values free m (omega (arith, p, q))
  where
    taken : (xs : List Value) (n m : ℕ) → m < n → slice_get xs m ≡ slice_get (take n xs) m
    taken [] zero m p = absurd (omega arith)
    taken [] (suc n) m p = refl
    taken (x ∷ xs) zero m p = absurd (omega arith)
    taken (x ∷ xs) (suc n) zero p = refl
    taken (x ∷ xs) (suc n) (suc m) p = taken xs n m (omega arith)

-- all parts
pub fits-whole : (ps : List Part) (vs t : List Value) (k : ℕ) → length ps ≡ length vs → length ps ≤ k → fits_all (take k ps) (take k vs) t ≡
    true → fits_all ps vs t ≡ true
fits-whole ps vs t k same p h = (λ i. fits_all (sym (take_all k ps p) i) (sym (take_all k vs (subst (λ n. n ≤ k) same p)) i) t) ∙ h

pub has-value : (t : List Value) (n : ℕ) (v : Value) → Some v ≡ slice_get t n → fits_at (Free n) v t ≡ true
has-value t n v e = ap (λ o. is_value o v) (sym e) ∙ (value-tells v v).1 refl

seen-grows : (n : ℕ) (p : Part) → n ≤ seen_after n p
seen-grows n (Fixed v) = omega arith
seen-grows n (Free m) = (elim (eqb m n) as (λ b. n ≤ Rattle.std.proofs.Common.cond b
    (n + 1) n) [ true ↦ omega arith | false ↦ omega arith ])

-- what begins with more begins with less
pub begins-before : (n : ℕ) (p : Part) (old new t : List Value) → BeginsAs n new old → BeginsAs (seen_after n p) new t → BeginsAs n old t
begins-before n p old new t kept begins m q = let g = seen-grows n p in sym (kept m q) ∙ begins m (omega (arith, g, q))

-- a variable whose value is known
known-at : (n seen : ℕ) (values : List Value) (v d : Value) → leb n seen ≡ true → n ≢ seen → n < length values →
    value_eq (get_or values n d) v ≡ true → (n < seen) × (slice_get values n ≡ Some v)
known-at n seen values v d turn other low e = (
  strictly n seen turn other,
  slice_get-get_or values n d low ∙
      ap (λ (x : Value). Some x) ((value-tells (get_or values n d) v).0 e),
)
  where
    strictly : (m n : ℕ) → leb m n ≡ true → m ≢ n → m < n
    strictly m n low e = grind (arith, Rattle.std.proofs.lemmas.Bool.Decides.nat_tests)

pub known-fits : (part : Part) (n seen : ℕ) (values t : List Value) (v d : Value) → part ≡ Free n → is_in_turn seen part ≡ true → n ≢ seen →
    n < length values → value_eq (get_or values n d) v ≡ true → BeginsAs (seen_after seen part) values t → fits_at part v t ≡ true
known-fits part n seen values t v d is turn other low e begins =
    let k = known-at n seen values v d (ap (is_in_turn seen) (sym is) ∙ turn) other low e in
    let g = seen-grows seen part in
    ap (λ (p : Part). fits_at p v t) is ∙ has-value t n v (sym k.1 ∙ begins n (omega (arith, k.0, g)))

pub known-differs : (part : Part) (n seen : ℕ) (values t : List Value) (v d : Value) → part ≡ Free n → is_in_turn seen part ≡ true →
    n ≢ seen → n < length values → value_eq (get_or values n d) v ≡ false → BeginsAs seen values t → fits_at part v t ≡ false
known-differs part n seen values t v d is turn other low e begins = (elim (fits_at part v t) as (λ b. fits_at part v t ≡ b → b ≡ false) [
  | false ↦ λ _. refl
  | true ↦ λ h.
      let f : slice_get t n ≡ Some v = is_value-some (slice_get t n) v (ap (λ (p : Part). fits_at p v t) (sym is) ∙ h) in
      let below : n < seen = strictly n seen (ap (is_in_turn seen) (sym is) ∙ turn) other in
      let same : Some (get_or values n d) ≡ Some v = sym (slice_get-get_or values n d low) ∙ (begins n below ∙ f) in
      let at : get_or values n d ≡ v = cc in
      absurd (true≢false (sym ((value-tells (get_or values n d) v).1 at) ∙ e))
]) refl
  where
    strictly : (m n : ℕ) → leb m n ≡ true → m ≢ n → m < n
    strictly m n low e = grind (arith, Rattle.std.proofs.lemmas.Bool.Decides.nat_tests)

-- The tuple that a row asks for.
use Rattle.std.proofs.Common.{◌≡◌, ℕ, zero, suc, ◌<◌, ◌≤◌, Bool, true, false, ◌||◌, List, [], ◌∷◌, length, get_or, drop, take, eqb}
use Rattle.std.proofs.Common.{eqb-true, true≢false, refl, sym, ap, ◌∙◌, subst, arith, Option, Some, None, drop-cons, ◌≢◌}
use Rattle.std.proofs.lemmas.Bool.{eqb-false}
use Rattle.std.specs.Prelude.{slice_get, slice_set}
use Rattle.tl_syntax.specs.declared.value.Value.{Value}
use Rattle.tl_syntax.proofs.Plain.{value-tells, both}
use Rattle.tl_match.specs.declared.pattern.Part.{Part}
use Rattle.tl_match.specs.declared.pattern.Part.TheVariants.{Fixed, Free}
use Rattle.tl_match.specs.Fits.{is_value, fits_at, fits_all, occurs, Known}

pub set-at : {A : Type 0} (xs : List A) (m : ℕ) (v : A) → m < length xs → slice_get (slice_set xs m v) m ≡ Some v
set-at [] m v p = absurd (omega arith)
set-at (x ∷ xs) zero v p = refl
set-at (x ∷ xs) (suc m) v p = set-at xs m v (omega arith)

pub set-other : {A : Type 0} (xs : List A) (m n : ℕ) (v : A) → m ≢ n → slice_get (slice_set xs m v) n ≡ slice_get xs n
set-other [] m n v d = refl
set-other (x ∷ xs) zero zero v d = absurd (d refl)
set-other (x ∷ xs) zero (suc n) v d = refl
set-other (x ∷ xs) (suc m) zero v d = refl
set-other (x ∷ xs) (suc m) (suc n) v d = set-other xs m n v (λ e. d (ap suc e))

pub is_value-some : (o : Option Value) (v : Value) → is_value o v ≡ true → o ≡ Some v
is_value-some None v h = absurd (true≢false (sym h))
is_value-some (Some u) v h = ap (λ (x : Value). Some x) ((value-tells u v).0 h)

or_cases : (a b : Bool) (P : Type 0) → (a || b) ≡ true → (a ≡ true → P) → (a ≡ false → b ≡ true → P) → P
or_cases true b P h f g = f refl
or_cases false b P h f g = g refl h

pub known-fixed : (u : Value) (ps : List Part) (v : Value) (vs values : List Value) → Known ps vs values →
    Known (Fixed u ∷ ps) (v ∷ vs) values
unfolding Known
known-fixed u ps v vs values k t h n p o = k t (both (fits_at (Fixed u) v t) (fits_all ps vs t) h).1 n p o

pub known-past : (m : ℕ) (ps : List Part) (v : Value) (vs values : List Value) → 9 ≤ m → Known ps vs values →
    Known (Free m ∷ ps) (v ∷ vs) values
unfolding Known
known-past m ps v vs values q k t h n p o =
    or_cases (eqb m n) (occurs n ps) _ o (λ e. absurd (let d : m ≡ n = eqb-true m n e in omega arith))
    (λ e r. k t (both (fits_at (Free m) v t) (fits_all ps vs t) h).1 n p r)

pub known-free : (m : ℕ) (ps : List Part) (v : Value) (vs values : List Value) → length values ≡ 9 → m < 9 → Known ps vs values →
    Known (Free m ∷ ps) (v ∷ vs) (slice_set values m v)
unfolding Known
known-free m ps v vs values size q k t h n p o =
    let parts = both (fits_at (Free m) v t) (fits_all ps vs t) h in
    or_cases (eqb m n) (occurs n ps) _ o
    (λ e. subst (λ x. slice_get (slice_set values m v) x ≡ slice_get t x) (eqb-true m n e)
    (set-at values m v (omega arith) ∙ sym (is_value-some (slice_get t m) v parts.0)))
    (λ e r. set-other values m n v (eqb-false m n e) ∙ k t parts.1 n p r)

-- at the step of a loop that goes down
pub known-step : (parts : List Part) (row values more : List Value) (k j : ℕ) (p : Part) (v : Value) (d : Part) (e : Value) → j ≡ suc k →
    j ≤ length parts → length parts ≡ length row → get_or parts k d ≡ p → get_or row k e ≡ v
    → (Known (drop j parts) (drop j row) values → Known (p ∷ drop j parts) (v ∷ drop j row) more) →
    Known (drop j parts) (drop j row) values → Known (drop k parts) (drop k row) more
known-step parts row values more k j p v d e is within same at here step known =
    let a : k < length parts = omega arith in
    let b : k < length row = omega arith in
    let x : drop k parts ≡ p ∷ drop j parts = drop-cons parts k d a ∙ (ap (λ q. q ∷ drop (suc k) parts) at ∙
    ap (λ i. p ∷ drop i parts) (sym is)) in
    let y : drop k row ≡ v ∷ drop j row = drop-cons row k e b ∙ (ap (λ q. q ∷ drop (suc k) row) here ∙ ap (λ i. v ∷ drop i row) (sym is)) in
    subst (λ ps. Known ps (drop k row) more) (sym x) (subst (λ vs. Known (p ∷ drop j parts) vs more) (sym y) (step known))

pub fits-lengths : (ps : List Part) (vs t : List Value) → fits_all ps vs t ≡ true → length ps ≡ length vs
fits-lengths [] [] t h = refl
fits-lengths [] (v ∷ vs) t h = absurd (true≢false (sym h))
fits-lengths (p ∷ ps) [] t h = absurd (true≢false (sym h))
fits-lengths (p ∷ ps) (v ∷ vs) t h = ap suc (fits-lengths ps vs t (both (fits_at p v t) (fits_all ps vs t) h).1)

pub fits-short : (ps : List Part) (vs t : List Value) → length ps ≢ length vs → false ≡ fits_all ps vs t
fits-short ps vs t d = elim (fits_all ps vs t) as (λ b. fits_all ps vs t ≡ b → false ≡ b) [
  | true ↦ λ h.
      absurd (d (fits-lengths ps vs t h))
  | false ↦ λ h. refl
] refl

agree : (k : ℕ) (xs ys : List Value) → length ys ≡ k → ((n : ℕ) → n < k → slice_get xs n ≡ slice_get ys n) → take k xs ≡ ys
agree zero xs [] e h = refl
agree zero xs (y ∷ ys) e h = absurd (omega arith)
agree (suc k) xs [] e h = absurd (omega arith)
agree (suc k) [] (y ∷ ys) e h = absurd (let d : None ≡ Some y = h 0 (omega arith) in let f : ⊥ = cc in f)
agree (suc k) (x ∷ xs) (y ∷ ys) e h =
    let d : Some x ≡ Some y = h 0 (omega arith) in
    let p : x ≡ y = cc in
    let rest = agree k xs ys (omega arith) (λ n q. h (suc n) (omega arith)) in
    λ i. p i ∷ rest i

-- a tuple that fits is the one that was gathered
pub only-gathered : (parts : List Part) (row values t : List Value) (k : ℕ) → Known parts row values → k ≤ 9 →
    ((n : ℕ) → n < k → occurs n parts ≡ true) → length t ≡ k → fits_all parts row t ≡ true → take k values ≡ t
unfolding Known
only-gathered parts row values t k known p each size h = agree k values t size (λ n q. known t h n (omega arith) (each n q))

pub known-none : (ps : List Part) (vs values : List Value) → ps ≡ [] → Known ps vs values
unfolding Known
known-none [] vs values e t h n p o = absurd (true≢false (sym o))
known-none (q ∷ ps) vs values e t h n p o = absurd (let f : ⊥ = cc in f)

pub never-short : (ps : List Part) (vs t : List Value) → length ps ≢ length vs → fits_all ps vs t ≡ false
never-short ps vs t d = sym (fits-short ps vs t d)

pub never-else : (parts : List Part) (row values t : List Value) (k : ℕ) (s : List Value) → s ≡ take k values → false ≡
    fits_all parts row s → Known parts row values → k ≤ 9 → ((n : ℕ) → n < k → occurs n parts ≡ true) → length t ≡ k →
    fits_all parts row t ≡ false
never-else parts row values t k s same miss known p each size =
    elim (fits_all parts row t) as (λ b. fits_all parts row t ≡ b → b ≡ false) [
      | true ↦ λ h. sym (miss ∙ (ap (fits_all parts row) (same ∙ only-gathered parts row values t k known p each size h) ∙ h))
      | false ↦ λ h. refl
    ] refl

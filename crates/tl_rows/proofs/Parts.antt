-- Items of a list from a place on up to another one.
use Rattle.std.proofs.Common.{◌≡◌, ℕ, zero, suc, ◌+◌, ◌-◌, ◌<◌, ◌≤◌, List, [], ◌∷◌, ◌++◌, length, length-append, get_or, take, drop}
use Rattle.std.proofs.Common.{append_assoc, refl, sym, ap, ◌∙◌, subst, arith}
use Rattle.std.proofs.lemmas.List.{take_all, drop_all, take-take, drop-drop, drop-take, take-append-le, drop-append-le, get_or-take}
use Rattle.std.proofs.lemmas.List.{get_or-drop, length-drop}
use Rattle.std.proofs.Math.Seq.{drop-append_seam}
use Rattle.std.specs.List.{insert, remove}
use Rattle.tl_syntax.specs.declared.value.Value.{Value}
use Rattle.tl_rows.specs.Runs.{between, IsPart}

module _ {X : Type 0} where
  -- items within the first list stay where more follows
  pub same-row : (from e : ℕ) (xs ys : List X) → from ≤ e → e ≤ length xs → take (e - from) (drop from (xs ++ ys)) ≡
      take (e - from) (drop from xs)
  same-row from e xs ys p q =
      let low : from ≤ length xs = omega (arith, p, q) in
      let l : length (drop from xs) ≡ length xs - from = length-drop from xs in
      let long : e - from ≤ length (drop from xs) = omega (arith, l, p, q) in
      ap (take (e - from)) (drop-append-le from xs ys low) ∙ take-append-le (e - from) (drop from xs) ys long

  pub drop-past : (xs zs : List X) (n m : ℕ) → n ≡ length xs + m → drop n (xs ++ zs) ≡ drop m zs
  drop-past [] zs n m e = ap (λ i. drop i zs) (let p : n ≡ m = omega (arith, e) in p)
  drop-past (x ∷ xs) zs zero m e = absurd (omega (arith, e))
  drop-past (x ∷ xs) zs (suc n) m e = drop-past xs zs n m (omega (arith, e))

  pub drop-taken : (n m k : ℕ) (xs : List X) → m ≡ n + k → drop n (take m xs) ≡ take k (drop n xs)
  drop-taken n m k xs e = ap (λ i. drop n (take i xs)) e ∙ drop-take n k xs

module _ {X : Type 0} where
  -- some of the items of a part
  pub between-between : (xs rows : List X) (from e k n : ℕ) → from ≤ k → k ≤ n → n ≤ e → rows ≡ between xs from e →
      between rows (k - from) (n - from) ≡ between xs k n
  between-between xs rows from e k n p q r is =
      let size : n - from - (k - from) ≡ n - k = omega (arith, p, q) in
      let here : drop (k - from) (take (e - from) (drop from xs)) ≡ take (e - k) (drop k xs) =
      drop-taken (k - from) (e - from) (e - k) (drop from xs) (let m : e - from ≡ k - from + (e - k) = omega (arith, p, q, r) in m)
      ∙ ap (take (e - k)) (drop-drop (k - from) from xs ∙ ap (λ i. drop i xs) (let m : from + (k - from) ≡ k = omega (arith, p) in m)) in
      (λ i. take (size i) (drop (k - from) (is i))) ∙ (ap (take (n - k)) here ∙
      take-take (n - k) (e - k) (drop k xs) (let m : n - k ≤ e - k = omega (arith, r) in m))

  pub between-front : (s t : List X) (k n : ℕ) → k ≤ n → n ≤ length s → between (s ++ t) k n ≡ between s k n
  between-front s t k n p q = same-row k n s t p q

  pub between-back : (s t : List X) (k n : ℕ) → length s ≤ k → between (s ++ t) k n ≡ between t (k - length s) (n - length s)
  between-back s t k n p =
      let size : n - k ≡ n - length s - (k - length s) = omega (arith, p) in
      λ i. take (size i) (drop-past s t k (k - length s) (let m : k ≡ length s + (k - length s) = omega (arith, p) in m) i)

  take-more : (n m : ℕ) (xs : List X) → take n xs ++ take m (drop n xs) ≡ take (n + m) xs
  take-more zero m xs = ap (λ i. take i xs) (let e : m ≡ zero + m = omega arith in e)
  take-more (suc n) m [] =
      ap (λ ys. take (suc n) [] ++ take m ys) (drop_all (suc n) [] (let p : 0 ≤ suc n = omega arith in p))
      ∙ (ap (λ ys. ys ++ take m []) (take_all (suc n) [] (let p : 0 ≤ suc n = omega arith in p))
      ∙ (take_all m [] (let p : 0 ≤ m = omega arith in p) ∙ sym (take_all (suc n + m) [] (let p : 0 ≤ suc n + m = omega arith in p))))
  take-more (suc n) m (x ∷ xs) = ap (λ ys. x ∷ ys) (take-more n m xs) ∙
      ap (λ i. take i (x ∷ xs)) (let e : suc (n + m) ≡ suc n + m = omega arith in e)

  -- parts that follow one another
  pub between-joined : (xs : List X) (a b c : ℕ) → a ≤ b → b ≤ c → between xs a b ++ between xs b c ≡ between xs a c
  between-joined xs a b c p q =
      let start : drop b xs ≡ drop (b - a) (drop a xs) = sym (drop-drop (b - a) a xs ∙
      ap (λ i. drop i xs) (let m : a + (b - a) ≡ b = omega (arith, p) in m)) in
      ap (λ ys. between xs a b ++ take (c - b) ys) start
      ∙ (take-more (b - a) (c - b) (drop a xs) ∙ ap (λ i. take i (drop a xs)) (let m : b - a + (c - b) ≡ c - a = omega (arith, p, q) in m))

  -- one more part after others
  pub grown-between : (first old new xs : List X) (a b c : ℕ) → a ≤ b → b ≤ c → old ≡ first ++ between xs a b → new ≡ old ++
      between xs b c → new ≡ first ++ between xs a c
  grown-between first old new xs a b c p q e f = f ∙ (ap (λ ys. ys ++ between xs b c) e ∙
      (append_assoc first (between xs a b) (between xs b c) ∙ ap (λ ys. first ++ ys) (between-joined xs a b c p q)))

  -- an item of a part
  pub get-between-of : (xs : List X) (a b j : ℕ) (d : X) → j < b - a → get_or (between xs a b) j d ≡ get_or xs (a + j) d
  get-between-of xs a b j d p = get_or-take (b - a) (drop a xs) j d p ∙ get_or-drop a xs j d

  -- all but what was before
  pub between-to-end : (s t : List X) (n : ℕ) → n ≡ length s + length t → between (s ++ t) (length s) n ≡ t
  between-to-end s t n e = ap (take (n - length s)) (drop-append_seam s t) ∙
      take_all (n - length s) t (let m : length t ≤ n - length s = omega (arith, e) in m)

  pub between-all : (xs : List X) (n : ℕ) → n ≡ length xs → between xs 0 n ≡ xs
  between-all xs n e = take_all (n - 0) xs (let m : length xs ≤ n - 0 = omega (arith, e) in m)

-- the last rows are a part
pub last-part : (s t : List (List Value)) (n : ℕ) → n ≡ length s → IsPart (s ++ t) n t
last-part s t n e = subst (λ k. IsPart (s ++ t) k t) (sym e) (record {
  within = let l : length (s ++ t) ≡ length s + length t = length-append s t in omega (arith, l);
  are = sym (between-to-end s t (length s + length t) refl);
})

-- a part of the first rows is one of all
pub first-part : (s t rows : List (List Value)) (from : ℕ) → IsPart s from rows → IsPart (s ++ t) from rows
first-part s t rows from h = record {
  within = let l : length (s ++ t) ≡ length s + length t = length-append s t in omega (arith, l, h.within);
  are = h.are ∙ sym (between-front s t from (from + length rows) (let m : from ≤ from + length rows = omega arith in m) h.within);
}

-- a row of a part
pub row-of-part : (all rows : List (List Value)) (from j : ℕ) (d : List Value) → IsPart all from rows → j < length rows → get_or rows j d ≡
    get_or all (from + j) d
row-of-part all rows from j d h p = ap (λ rs. get_or rs j d) h.are ∙ get-between-of all from (from + length rows) j d
    (let m : j < from + length rows - from = omega (arith, p) in m)

-- some rows of a part
pub between-part : (all rows : List (List Value)) (from k n : ℕ) → IsPart all from rows → from ≤ k → k ≤ n → n ≤ from + length rows →
    between rows (k - from) (n - from) ≡ between all k n
between-part all rows from k n h p q r = between-between all rows from (from + length rows) k n p q r h.are

-- no items follow those that there are
pub nothing-between : {X : Type 0} (first xs : List X) (a : ℕ) → first ≡ first ++ between xs a a
nothing-between first xs a = sym (ap (λ n. first ++ take n (drop a xs)) (let m : a - a ≡ 0 = omega arith in m) ∙ none first)
  where
    none : {X : Type 0} (ys : List X) → ys ++ [] ≡ ys
    none [] = refl
    none (y ∷ ys) = ap (λ zs. y ∷ zs) (none ys)

-- one more at a place after the first
pub insert-back : {X : Type 0} (s t : List X) (n k : ℕ) (x : X) → k ≡ length s + n → s ++ insert t n x ≡ insert (s ++ t) k x
insert-back [] t n k x e = ap (λ i. insert t i x) (let m : n ≡ k = omega (arith, e) in m)
insert-back (y ∷ s) t n zero x e = absurd (omega (arith, e))
insert-back (y ∷ s) t n (suc k) x e = ap (λ ys. y ∷ ys) (insert-back s t n k x (omega (arith, e)))

-- one less at a place after the first
pub remove-back : {X : Type 0} (s t : List X) (n k : ℕ) → k ≡ length s + n → s ++ remove t n ≡ remove (s ++ t) k
remove-back [] t n k e = ap (remove t) (let m : n ≡ k = omega (arith, e) in m)
remove-back (y ∷ s) t n zero e = absurd (omega (arith, e))
remove-back (y ∷ s) t n (suc k) e = ap (λ ys. y ∷ ys) (remove-back s t n k (omega (arith, e)))

-- what stands before a place, and what stands after it
pub taken-out : {X : Type 0} (xs o a b : List X) (k n : ℕ) → n ≡ length xs → o ≡ [] → a ≡ o ++ between xs 0 k → b ≡ a ++
    between xs (k + 1) n → b ≡ remove xs k
taken-out xs o a b k n l e f g =
    let first : a ≡ take k xs = f ∙ (ap (λ ys. ys ++ between xs 0 k) e ∙ ap (λ i. take i xs) (let m : k - 0 ≡ k = omega arith in m)) in
    let d : length (drop (k + 1) xs) ≡ length xs - (k + 1) = length-drop (k + 1) xs in
    let rest : between xs (k + 1) n ≡ drop (k + 1) xs = take_all (n - (k + 1)) (drop (k + 1) xs)
    (let m : length (drop (k + 1) xs) ≤ n - (k + 1) = omega (arith, d, l) in m) in
    g ∙ ((λ i. first i ++ rest i) ∙ ap (λ m. take k xs ++ drop m xs) (let m : k + 1 ≡ suc k = omega arith in m))

-- When rows in runs are the same.
use Rattle.std.proofs.Common.{◌≡◌, ℕ, ◌+◌, ◌-◌, ◌<◌, ◌≤◌, Bool, true, false, true≢false, List, [], ◌∷◌, ◌++◌, length, get_or, take, drop}
use Rattle.std.proofs.Common.{drop-drop, refl, sym, ap, ◌∙◌, arith}
use Rattle.std.proofs.lemmas.List.{take_all, take-take, take_more, length-drop, length-take, drop-take}
use Rattle.std.proofs.Math.Seq.{take-append_seam}
use Rattle.tl_syntax.specs.declared.value.Value.{Value}
use Rattle.tl_syntax.specs.DerivedTests.{value_eq}
use Rattle.tl_syntax.proofs.Plain.{list-tells, value-tells}
use Rattle.tl_rows.specs.Codes.{values_eq, rows_code}
use Rattle.tl_rows.specs.RowTests.{rows_eq, rows-tell}
use Rattle.tl_syntax.proofs.Telling.{told_alike}
use Rattle.tl_rows.specs.Runs.{between, IsPart}
use Rattle.tl_rows.proofs.Parts.{between-to-end, between-joined, between-between, get-between-of}

module _ {X : Type 0} where
  from-first : (xs : List X) (b : ℕ) → between xs 0 b ≡ take b xs
  from-first xs b = ap (λ i. take i xs) (let m : b - 0 ≡ b = omega arith in m)

  take-between : (xs : List X) (a b : ℕ) → a ≤ b → take b xs ≡ take a xs ++ between xs a b
  take-between xs a b p = sym (ap (λ ys. ys ++ between xs a b) (sym (from-first xs a)) ∙
      (between-joined xs 0 a b (omega arith) p ∙ from-first xs b))

  -- as far as a part goes that is the same
  pub longer-same : (xs ys : List X) (k a b : ℕ) → a ≤ k → a ≤ b → take k xs ≡ take k ys → between xs a b ≡ between ys a b → take b xs ≡
      take b ys
  longer-same xs ys k a b p q e f =
      let front : take a xs ≡ take a ys = sym (take-take a k xs p) ∙ (ap (take a) e ∙ take-take a k ys p) in
      take-between xs a b q ∙ ((λ i. front i ++ f i) ∙ sym (take-between ys a b q))

  -- the same rows are the same in part
  pub part-same : (xs ys : List X) (a b n : ℕ) → n ≡ length ys → a ≤ b → b ≤ n → take n xs ≡ ys → between xs a b ≡ between ys a b
  part-same xs ys a b n l q p e =
      let size : b - 0 - (a - 0) ≡ b - a = omega arith in
      let from : a - 0 ≡ a = omega arith in
      sym (between-between xs (take n xs) 0 n a b (omega arith) q p (sym (from-first xs n)))
      ∙ ((λ i. take (size i) (drop (from i) (take n xs))) ∙ ap (λ zs. between zs a b) e)

  -- all is the same where the first rows and the last are
  pub whole-same : (xs s t : List X) (n : ℕ) → n ≡ length s → length xs ≡ length s + length t → take n xs ≡ s →
      between xs n (n + length t) ≡ t → xs ≡ s ++ t
  whole-same xs s t n e l f g =
      let m : n + length t ≡ length xs = omega (arith, e, l) in
      sym (take_all (n + length t) xs (omega (arith, m))) ∙ (take-between xs n (n + length t) (omega arith) ∙ λ i. f i ++ g i)

  pub first-same : (xs s t : List X) (n : ℕ) → n ≡ length s → xs ≡ s ++ t → take n xs ≡ s
  first-same xs s t n e is = (λ i. take (e i) (is i)) ∙ take-append_seam s t

  pub last-same : (xs s t : List X) (n : ℕ) → n ≡ length s → xs ≡ s ++ t → between xs n (n + length t) ≡ t
  last-same xs s t n e is = (λ i. between (is i) (e i) (e i + length t)) ∙ between-to-end s t (length s + length t) refl

-- the rows are compared one by one
pub row-tells : (a b : List Value) → (values_eq a b ≡ true → a ≡ b) × (a ≡ b → values_eq a b ≡ true)
row-tells = list-tells value_eq value-tells

pub one-more-same : (xs rows : List (List Value)) (at i j : ℕ) (x y : List Value) (b : Bool) → j ≡ i + 1 → at + length rows ≤ length xs →
    i < length rows → x ≡ get_or xs (at + i) x → y ≡ get_or rows i y → b ≡ values_eq x y → b ≡ true → between xs at (at + i) ≡ take i rows →
    between xs at (at + j) ≡ take j rows
one-more-same xs rows at i j x y b e w p is_x is_y is_b t same =
    let eq : x ≡ y = (row-tells x y).0 (sym is_b ∙ t) in
    let l : length (drop at xs) ≡ length xs - at = length-drop at xs in
    let low : i < length (drop at xs) = omega (arith, l, w, p) in
    let more : take (i + 1) (drop at xs) ≡ take i (drop at xs) ++ get_or (drop at xs) i x ∷ [] = take_more (drop at xs) i x low in
    let more2 : take (i + 1) rows ≡ take i rows ++ get_or rows i y ∷ [] = take_more rows i y p in
    let n : at + i - at ≡ i = omega arith in
    let same2 : take i (drop at xs) ≡ take i rows = ap (λ k. take k (drop at xs)) (sym n) ∙ same in
    let here : get_or (drop at xs) i x ≡ get_or rows i y = Rattle.std.proofs.lemmas.List.get_or-drop at xs i x ∙ (sym is_x ∙ (eq ∙ is_y)) in
    ap (λ k. take k (drop at xs)) (let m : at + j - at ≡ i + 1 = omega (arith, e) in m)
    ∙ (more ∙ ((λ k. same2 k ++ here k ∷ []) ∙ (sym more2 ∙ ap (λ k. take k rows) (sym e))))

pub one-differs : (xs rows : List (List Value)) (at i : ℕ) (x y : List Value) (b : Bool) → i < length rows → x ≡ get_or xs (at + i) x → y ≡
    get_or rows i y → b ≡ values_eq x y → b ≡ false → between xs at (at + length rows) ≡ rows → ⊥
one-differs xs rows at i x y b p is_x is_y is_b f same =
    let here : get_or (between xs at (at + length rows)) i x ≡ get_or xs (at + i) x =
    get-between-of xs at (at + length rows) i x (omega (arith, p)) in
    let eq : x ≡ y = is_x ∙ (sym here ∙ (ap (λ rs. get_or rs i x) same ∙
    (Rattle.std.proofs.lemmas.List.get_or_default rows i x y p ∙ sym is_y))) in
    true≢false (sym (is_b ∙ (row-tells x y).1 eq) ∙ f)

-- other rows
pub rows-differ : (xs ys : List (List Value)) → (xs ≡ ys → ⊥) → false ≡ rows_eq xs ys
rows-differ xs ys other = told_alike {P = xs ≡ ys} false (rows_eq xs ys) (λ h. absurd (true≢false (sym h)), λ e. absurd (other e))
    (rows-tell xs ys)

-- rows of other codes
pub codes-differ : (xs ys v w : List (List Value)) (a b : ℕ) → a ≡ rows_code xs → b ≡ rows_code ys → xs ≡ v → ys ≡ w → (a ≡ b → ⊥) → false ≡
    rows_eq v w
codes-differ xs ys v w a b p q e f other = rows-differ v w (λ is. other (p ∙ (ap rows_code (e ∙ (is ∙ sym f)) ∙ sym q)))

-- a part that is a run of the other
pub part-tells : (xs part rows : List (List Value)) (from at : ℕ) (b : Bool) → IsPart xs from part → from ≡ at → length part ≡ length rows →
    b ≡ rows_eq part rows
    → (b ≡ true → between xs at (at + length rows) ≡ rows) × (between xs at (at + length rows) ≡ rows → b ≡ true)
part-tells xs part rows from at b h e l is =
    let here : between xs at (at + length rows) ≡ part = sym (h.are ∙ λ i. between xs (e i) (e i + l i)) in
    (λ t. here ∙ (rows-tell part rows).0 (sym is ∙ t), λ same. is ∙ (rows-tell part rows).1 (sym here ∙ same))

-- parts with the same rows
part-from : (xs rows : List (List Value)) (from k n : ℕ) → IsPart xs from rows → from ≡ k → n ≡ length rows → take n (drop k xs) ≡ rows
part-from xs rows from k n h e l =
    let size : from + length rows - from ≡ n = omega (arith, l) in
    sym (h.are ∙ λ i. take (size i) (drop (e i) xs))

pub parts-alike : (xs ys rows others : List (List Value)) (from start k l n : ℕ) (b : Bool) → IsPart xs from rows → IsPart ys start others →
    from ≡ k → start ≡ l → n ≡ length rows → b ≡ rows_eq rows others → b ≡ true → take n (drop k xs) ≡ take n (drop l ys)
parts-alike xs ys rows others from start k l n b h g e f size is t =
    let same : rows ≡ others = (rows-tell rows others).0 (sym is ∙ t) in
    part-from xs rows from k n h e size ∙ (same ∙ sym (part-from ys others start l n g f (size ∙ ap length same)))

-- some rows of a part
part-rows : (xs rows : List (List Value)) (from k n : ℕ) → IsPart xs from rows → from ≤ k → k < from + length rows →
    length (take n (drop (k - from) rows)) ≡ n → take n (drop (k - from) rows) ≡ take n (drop k xs)
part-rows xs rows from k n h p q many =
    let r = length rows - (k - from) in
    let size : from + length rows - from ≡ (k - from) + r = omega (arith, p, q) in
    let at : from + (k - from) ≡ k = omega (arith, p) in
    let some : n ≤ r = let a = length-drop (k - from) rows in let b = length-take n (drop (k - from) rows) in omega (arith, a, b, many) in
    let left : drop (k - from) rows ≡ take r (drop k xs) =
    ap (drop (k - from)) (h.are ∙ ap (λ m. take m (drop from xs)) size)
    ∙ (drop-take (k - from) r (drop from xs) ∙ ap (take r) (drop-drop (k - from) from xs ∙ ap (λ m. drop m xs) at)) in
    ap (take n) left ∙ take-take n r (drop k xs) some

-- rows of two parts that are the same
pub parts-same : (xs ys rows others : List (List Value)) (from start k l n : ℕ) → IsPart xs from rows → IsPart ys start others → from ≤ k →
    start ≤ l → k < from + length rows → l < start + length others
    → take n (drop (k - from) rows) ≡ take n (drop (l - start) others) → length (take n (drop (k - from) rows)) ≡ n → take n (drop k xs) ≡
    take n (drop l ys)
parts-same xs ys rows others from start k l n h g p q v w e many =
    sym (part-rows xs rows from k n h p v many) ∙ (e ∙ part-rows ys others start l n g q w (sym (ap length e) ∙ many))

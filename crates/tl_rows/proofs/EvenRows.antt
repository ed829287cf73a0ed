-- Rows of one length, cut from one list.
use Rattle.std.proofs.Common.{◌≡◌, ℕ, zero, suc, ◌+◌, ◌-◌, ◌*◌, ◌<◌, ◌≤◌, List, [], ◌∷◌, ◌++◌, length, length-append, get_or, take, drop}
use Rattle.std.proofs.Common.{refl, sym, ap, ◌∙◌, subst, arith}
use Rattle.std.proofs.Math.Nat.{mul-add, mul-suc, mul-sub, mul-le-mul_left, le_of_mul-le-mul_left}
use Rattle.std.proofs.lemmas.List.{take_all, take-take, take-append-le, take-append-drop, take_at, drop-append-le, drop-drop, drop_at}
use Rattle.std.proofs.lemmas.List.{length-drop, length-take-le, nil_from_length}
use Rattle.std.specs.List.{insert, remove}
use Rattle.tl_rows.specs.Cuts.{even_rows, items_with, items_without, HaveWidth}
use Rattle.tl_rows.specs.Runs.{between}
use Rattle.tl_rows.proofs.Parts.{drop-taken}

-- the rows one after another
abbrev flattened : {X : Type 0} → List (List X) → List X
flattened [] = []
flattened (r ∷ rs) = r ++ flattened rs

-- one row more
pub more-size : (w n m : ℕ) → m ≡ n + 1 → w * m ≡ w * n + w
more-size w n m e =
    let s = mul-suc w n in
    ap (λ k. w * k) (let q : m ≡ suc n = omega (arith, e) in q) ∙ s

module _ {X : Type 0} (w : ℕ) where
  pub count : (n : ℕ) (xs : List X) → length (even_rows w n xs) ≡ n
  count zero xs = refl
  count (suc n) xs = ap suc (count n (drop w xs))

  -- what is left of the items after the first row
  left : (n : ℕ) (xs : List X) → w * suc n ≡ length xs → w * n ≡ length (drop w xs)
  left n xs e = let s = mul-suc w n in let l = length-drop w xs in omega (arith, s, l, e)

  wide : (n : ℕ) (xs : List X) → w * suc n ≡ length xs → w ≤ length xs
  wide n xs e = let s = mul-suc w n in omega (arith, s, e)

  -- as many rows of the same items
  pub same-cut : (n : ℕ) (xs ys : List X) → take (w * n) xs ≡ take (w * n) ys → even_rows w n xs ≡ even_rows w n ys
  same-cut zero xs ys e = refl
  same-cut (suc n) xs ys e =
      let s = mul-suc w n in
      let p : w ≤ w * suc n = omega (arith, s) in
      let q : w * suc n ≡ w + w * n = omega (arith, s) in
      let row : take w xs ≡ take w ys = sym (take-take w (w * suc n) xs p) ∙ (ap (take w) e ∙ take-take w (w * suc n) ys p) in
      let rest : take (w * n) (drop w xs) ≡ take (w * n) (drop w ys) = sym (drop-taken w (w * suc n) (w * n) xs q) ∙
      (ap (drop w) e ∙ drop-taken w (w * suc n) (w * n) ys q) in
      λ i. row i ∷ same-cut n (drop w xs) (drop w ys) rest i

  -- the rows of one list and those of another after them
  pub joined : (n m : ℕ) (xs ys : List X) → w * n ≡ length xs → even_rows w (n + m) (xs ++ ys) ≡ even_rows w n xs ++ even_rows w m ys
  joined zero m xs ys e =
      let z : w * zero ≡ 0 = omega arith in
      λ i. even_rows w ((let k : zero + m ≡ m = omega arith in k) i) (nil_from_length xs (sym e ∙ z) i ++ ys)
  joined (suc n) m xs ys e =
      ap (λ k. even_rows w k (xs ++ ys)) (let k : suc n + m ≡ suc (n + m) = omega arith in k)
      ∙ λ i. take-append-le w xs ys (wide n xs e) i ∷ (ap (even_rows w (n + m)) (drop-append-le w xs ys (wide n xs e)) ∙
      joined n m (drop w xs) ys (left n xs e)) i

  -- one row and then others
  pub row-first : (m : ℕ) (row ys : List X) → length row ≡ w → even_rows w (suc m) (row ++ ys) ≡ row ∷ even_rows w m ys
  row-first m row ys e = λ i. take_at row ys w e i ∷ even_rows w m (drop_at row ys w e i)

  -- the first rows, and the others
  pub first-rows : (k n : ℕ) (xs : List X) → k ≤ n → take k (even_rows w n xs) ≡ even_rows w k (take (w * k) xs)
  first-rows zero n xs p = refl
  first-rows (suc k) zero xs p = absurd (omega (arith, p))
  first-rows (suc k) (suc n) xs p =
      let s = mul-suc w k in
      let low : w ≤ w * suc k = omega (arith, s) in
      let more : w * suc k ≡ w + w * k = omega (arith, s) in
      λ i. sym (take-take w (w * suc k) xs low) i ∷ (first-rows k n (drop w xs) (omega (arith, p)) ∙
      ap (even_rows w k) (sym (drop-taken w (w * suc k) (w * k) xs more))) i

  pub last-rows : (k n : ℕ) (xs : List X) → k ≤ n → drop k (even_rows w n xs) ≡ even_rows w (n - k) (drop (w * k) xs)
  last-rows zero n xs p = λ i. even_rows w ((let e : n ≡ n - zero = omega arith in e) i)
      (drop ((let e : 0 ≡ w * zero = omega arith in e) i) xs)
  last-rows (suc k) zero xs p = absurd (omega (arith, p))
  last-rows (suc k) (suc n) xs p =
      let s = mul-suc w k in
      let size : n - k ≡ suc n - suc k = omega arith in
      let from : w + w * k ≡ w * suc k = omega (arith, s) in
      last-rows k n (drop w xs) (omega (arith, p)) ∙ λ i. even_rows w (size i) ((drop-drop (w * k) w xs ∙ ap (λ j. drop j xs) from) i)

  -- row k
  pub row-at : (n k : ℕ) (xs : List X) (r : List X) → k < n → get_or (even_rows w n xs) k r ≡ take w (drop (w * k) xs)
  row-at zero k xs r p = absurd (omega (arith, p))
  row-at (suc n) zero xs r p = ap (λ j. take w (drop j xs)) (let e : 0 ≡ w * zero = omega arith in e)
  row-at (suc n) (suc k) xs r p =
      let s = mul-suc w k in
      let from : w + w * k ≡ w * suc k = omega (arith, s) in
      row-at n k (drop w xs) r (omega (arith, p)) ∙ ap (take w) (drop-drop (w * k) w xs ∙ ap (λ j. drop j xs) from)

  -- rows stand within the items
  pub place-within : (n k : ℕ) (xs : List X) → w * n ≡ length xs → k ≤ n → w * k ≤ length xs
  place-within n k xs e p = let m = mul-le-mul_left w p in omega (arith, m, e)

  pub within : (n k : ℕ) (xs : List X) → w * n ≡ length xs → k < n → w * k + w ≤ length xs
  within n k xs e p =
      let q : suc k ≤ n = omega (arith, p) in
      let m = mul-le-mul_left w q in
      let s = mul-suc w k in
      omega (arith, m, s, e)

  -- some of the rows
  pub part-rows : (n k r : ℕ) (xs : List X) → k + r ≤ n → take r (drop k (even_rows w n xs)) ≡
      even_rows w r (take (w * r) (drop (w * k) xs))
  part-rows n k r xs p =
      let low : r ≤ n - k = omega (arith, p) in
      ap (take r) (last-rows k n xs (omega (arith, p))) ∙ first-rows r (n - k) (drop (w * k) xs) low

  pub some-rows : (n from to : ℕ) (xs : List X) → from ≤ to → to ≤ n →
      even_rows w (to - from) (take (w * (to - from)) (drop (w * from) xs)) ≡ between (even_rows w n xs) from to
  some-rows n from to xs p q = sym (part-rows n from (to - from) xs (omega (arith, p, q)))

  pub some-size : (n from to : ℕ) (xs : List X) → w * n ≡ length xs → from ≤ to → to ≤ n → w * from + w * (to - from) ≤ length xs
  some-size n from to xs e p q =
      let s = mul-sub w to from in
      let m = mul-le-mul_left w p in
      let t = place-within n to xs e q in
      omega (arith, s, m, t)

  -- so many values are so many rows
  pub rows-fit : (n k r : ℕ) (xs : List X) → 0 < w → w * n ≡ length xs → w * k + w * r ≤ length xs → k + r ≤ n
  rows-fit n k r xs some e p =
      let s = mul-add w k r in
      let m : w * (k + r) ≤ w * n = omega (arith, s, p, e) in
      le_of_mul-le-mul_left m some

  -- one more row at the end
  pub one-more : (n : ℕ) (xs row : List X) → w * n ≡ length xs → length row ≡ w → even_rows w (n + 1) (xs ++ row) ≡ even_rows w n xs ++
      row ∷ []
  one-more n xs row e fits = joined n 1 xs row e ∙ ap (λ r. even_rows w n xs ++ r ∷ []) (take_all w row (omega (arith, fits)))

  -- the rows have that length
  pub have-width : (n : ℕ) (xs : List X) → w * n ≡ length xs → HaveWidth w (even_rows w n xs)
  have-width zero xs e = tt
  have-width (suc n) xs e = (length-take-le w xs (wide n xs e), have-width n (drop w xs) (left n xs e))

  -- and no other
  pub width-is : (s n : ℕ) (xs : List X) → w * n ≡ length xs → 0 < n → HaveWidth s (even_rows w n xs) → w ≡ s
  width-is s zero xs e p h = absurd (omega (arith, p))
  width-is s (suc n) xs e p h = sym (length-take-le w xs (wide n xs e)) ∙ h.0

  -- the items are those of the rows
  values-back : (n : ℕ) (xs : List X) → w * n ≡ length xs → flattened (even_rows w n xs) ≡ xs
  values-back zero xs e = sym (nil_from_length xs (sym e ∙ (let z : w * zero ≡ 0 = omega arith in z)))
  values-back (suc n) xs e = ap (λ ys. take w xs ++ ys) (values-back n (drop w xs) (left n xs e)) ∙ take-append-drop w xs

  pub cuts-back : (n : ℕ) (xs ys : List X) → w * n ≡ length xs → w * n ≡ length ys → even_rows w n xs ≡ even_rows w n ys → xs ≡ ys
  cuts-back n xs ys e f is = sym (values-back n xs e) ∙ (ap flattened is ∙ values-back n ys f)

-- the same rows, cut by another length that differs only where there are none
pub aligned : {X : Type 0} (w s n : ℕ) (xs : List X) → w * n ≡ length xs → (0 < n → w ≡ s) → (even_rows w n xs ≡ even_rows s n xs) ×
    (s * n ≡ length xs)
aligned w s zero xs e same = (refl, (let z : s * zero ≡ w * zero = omega arith in z) ∙ e)
aligned w s (suc n) xs e same =
    let is : w ≡ s = same (omega arith) in
    (ap (λ u. even_rows u (suc n) xs) is, ap (λ u. u * suc n) (sym is) ∙ e)

-- edits of the items, and of the rows
module _ {X : Type 0} (w n : ℕ) (xs : List X) (size : w * n ≡ length xs) where
  abbrev rows : List (List X)
  rows = even_rows w n xs

  head-size : (k : ℕ) → k ≤ n → w * k ≡ length (take (w * k) xs)
  head-size k p = sym (length-take-le (w * k) xs (place-within w n k xs size p))

  -- the rows before a place, and others after them
  after : (k m j : ℕ) (ys : List X) → k ≤ n → j ≡ k + m → even_rows w j (take (w * k) xs ++ ys) ≡ take k rows ++ even_rows w m ys
  after k m j ys p e =
      ap (λ i. even_rows w i (take (w * k) xs ++ ys)) e
      ∙ (joined w k m (take (w * k) xs) ys (head-size k p) ∙ ap (λ rs. rs ++ even_rows w m ys) (sym (first-rows w k n xs p)))

  -- the row at k
  pub with-rows : (k : ℕ) (row : List X) → length row ≡ w → k ≤ n → even_rows w (n + 1) (items_with xs (w * k) row) ≡ insert rows k row
  with-rows k row fits p =
      after k (suc (n - k)) (n + 1) (row ++ drop (w * k) xs) p (omega (arith, p))
      ∙ ap (λ rs. take k rows ++ rs) (row-first w (n - k) row (drop (w * k) xs) fits ∙ ap (λ rs. row ∷ rs) (sym (last-rows w k n xs p)))

  -- no row at k
  pub cut-rows : (k : ℕ) → k < n → even_rows w (n - 1) (items_without xs (w * k) w) ≡ remove rows k
  cut-rows k p =
      let s = mul-suc w k in
      let past : w * k + w ≡ w * suc k = omega (arith, s) in
      let few : n - 1 ≡ k + (n - suc k) = omega (arith, p) in
      ap (λ j. even_rows w (n - 1) (take (w * k) xs ++ drop j xs)) past
      ∙ (after k (n - suc k) (n - 1) (drop (w * suc k) xs) (omega (arith, p)) few
      ∙ ap (λ rs. take k rows ++ rs) (sym (last-rows w (suc k) n xs (omega (arith, p)))))

  pub with-size : (k : ℕ) (row : List X) → length row ≡ w → k ≤ n → w * (n + 1) ≡ length (items_with xs (w * k) row)
  with-size k row fits p =
      let m = more-size w n (n + 1) refl in
      let h = head-size k p in
      let d = length-drop (w * k) xs in
      let t = place-within w n k xs size p in
      let l1 = length-append (take (w * k) xs) (row ++ drop (w * k) xs) in
      let l2 = length-append row (drop (w * k) xs) in
      omega (arith, m, h, d, t, l1, l2, size, fits)

  pub cut-size : (k : ℕ) → k < n → w * (n - 1) ≡ length (items_without xs (w * k) w)
  cut-size k p =
      let m = more-size w (n - 1) n (omega (arith, p)) in
      let h = head-size k (omega (arith, p)) in
      let d = length-drop (w * k + w) xs in
      let t = within w n k xs size p in
      let l = length-append (take (w * k) xs) (drop (w * k + w) xs) in
      omega (arith, m, h, d, t, l, size)

-- what a list of such rows says of its items
module _ {X : Type 0} (w n : ℕ) (xs : List X) (v : List (List X)) (size : w * n ≡ length xs) (view : even_rows w n xs ≡ v) where
  pub many : n ≡ length v
  many = sym (count w n xs) ∙ ap length view

  pub row-in : (k : ℕ) (r : List X) → k < length v → take w (drop (w * k) xs) ≡ get_or v k r
  row-in k r p = sym (row-at w n k xs r (omega (arith, many, p))) ∙ ap (λ rs. get_or rs k r) view

  pub row-within : (k : ℕ) → k < length v → w * k + w ≤ length xs
  row-within k p = within w n k xs size (omega (arith, many, p))

  pub place-in : (k : ℕ) → k ≤ length v → w * k ≤ length xs
  place-in k p = place-within w n k xs size (omega (arith, many, p))

  -- the rows as those of a length that they have
  module _ (s : ℕ) (h : HaveWidth s v) where
    pub width-of : 0 < n → w ≡ s
    width-of p = width-is w s n xs size p (let P : List (List X) → Type 0 = HaveWidth s in subst P (sym view) h)

    pub alike : (even_rows s n xs ≡ v) × (s * n ≡ length xs)
    alike =
        let r = aligned w s n xs size width-of in
        (sym r.0 ∙ view, r.1)

-- rows from the places of the same items on
pub same-part : {X : Type 0} (w n u m : ℕ) (xs ys : List X) (v z : List (List X)) → w * n ≡ length xs → even_rows w n xs ≡ v → u * m ≡
    length ys → even_rows u m ys ≡ z → w ≡ u → (k l r : ℕ)
    → k + r ≤ n → l + r ≤ m → take (w * r) (drop (w * k) xs) ≡ take (w * r) (drop (w * l) ys) → take r (drop k v) ≡ take r (drop l z)
same-part w n u m xs ys v z e view f shown is k l r p q same =
    ap (λ rs. take r (drop k rs)) (sym view)
    ∙ (part-rows w n k r xs p
    ∙ (ap (even_rows w r) same
    ∙ (sym (part-rows w m l r ys q)
    ∙ ap (λ rs. take r (drop l rs)) (ap (λ s. even_rows s m ys) is ∙ shown))))

pub part-size : {X : Type 0} (v : List X) (k r : ℕ) → k + r ≤ length v → length (take r (drop k v)) ≡ r
part-size v k r p = let d = length-drop k v in length-take-le r (drop k v) (omega (arith, d, p))

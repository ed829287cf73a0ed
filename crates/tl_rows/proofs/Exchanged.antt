-- Rows in order with their first two values exchanged, and edits of them.
use Rattle.std.proofs.Common.{◌≡◌, ℕ, zero, suc, ◌+◌, ◌-◌, ◌<◌, ◌≤◌, false, List, [], ◌∷◌, ◌++◌, map, length, get_or, take, Option, Some}
use Rattle.std.proofs.Common.{None, refl, sym, ap, ◌∙◌, subst, arith, Less, Equal, Greater, Ok, Err}
use Rattle.std.proofs.Common.{Bor}
use Rattle.std.specs.Prelude.{IfOk, IfSome}
use Rattle.std.specs.declared.result.Result.{Result}
use Rattle.std.proofs.lemmas.List.{take_more, get_or-take, length-take-le}
use Rattle.std.proofs.lemmas.List.Sorted.{searchable_from_sorted, sum_by-IsPermutation}
use Rattle.std.proofs.lemmas.List.Sums.{sum_by-cons, sum_by-insert, sum_by-remove}
use Rattle.std.specs.List.{insert, remove, sum_by, HoldsAt}
use Rattle.std.specs.List.Sorted.{IsBinarySearchResult, IsNonDecreasingBy, IsPermutation}
use Rattle.std.specs.Ordering.{is_lt, ordering_index, ordering_reverse}
use Rattle.tl_syntax.specs.declared.value.Value.{Value}
use Rattle.tl_syntax.specs.Lists.{Each, Rises}
use Rattle.tl_rows.specs.Plain.{row_cmp}
use Rattle.tl_rows.specs.Second.{exchanged, IsSecond, IsKept, KeepsWith, KeepsWithout}
use Rattle.tl_rows.proofs.Lookup.{row_total}
use Rattle.tl_rows.proofs.Lent.{row_ties}

pub length-exchanged : {X : Type 0} (xs : List X) → length (exchanged xs) ≡ length xs
length-exchanged [] = refl
length-exchanged (x ∷ []) = refl
length-exchanged (x ∷ y ∷ zs) = refl

sum-map : {X Y : Type 0} (f : Y → ℕ) (g : X → Y) (xs : List X) → sum_by f (map g xs) ≡ sum_by (λ x. f (g x)) xs
sum-map f g [] = refl
sum-map f g (x ∷ xs) = sum_by-cons f (g x) (map g xs) ∙ (ap (λ n. f (g x) + n) (sum-map f g xs) ∙ sym (sum_by-cons (λ y. f (g y)) x xs))

-- the exchanged rows, sorted
pub made : (rows sorted second : List (List Value)) → IsPermutation (map exchanged rows) sorted → second ≡ sorted → Rises row_cmp second →
    IsSecond rows second
made rows sorted second p e rise = record {
  order = rise;
  are = λ f. ap (sum_by f) e ∙ (sum_by-IsPermutation f (map exchanged rows) sorted p ∙ sum-map f exchanged rows);
}

each-at : (P : List Value → Type 0) (xs : List (List Value)) (i : ℕ) (d : List Value) → i < length xs → Each P xs → P (get_or xs i d)
each-at P [] i d p e = absurd (omega arith)
each-at P (x ∷ xs) zero d p e = e.0
each-at P (x ∷ xs) (suc i) d p e = each-at P xs i d (omega arith) e.1

each-inserted : (P : List Value → Type 0) (xs : List (List Value)) (i : ℕ) (x : List Value) → Each P xs → P x → Each P (insert xs i x)
each-inserted P [] zero x e p = (p, tt)
each-inserted P [] (suc i) x e p = (p, tt)
each-inserted P (y ∷ xs) zero x e p = (p, e)
each-inserted P (y ∷ xs) (suc i) x e p = (e.0, each-inserted P xs i x e.1 p)

each-removed : (P : List Value → Type 0) (xs : List (List Value)) (i : ℕ) → Each P xs → Each P (remove xs i)
each-removed P [] zero e = tt
each-removed P [] (suc i) e = tt
each-removed P (y ∷ xs) zero e = e.1
each-removed P (y ∷ xs) (suc i) e = (e.0, each-removed P xs i e.1)

each-above : (x : List Value) (xs : List (List Value)) → ((j : ℕ) (d : List Value) → j < length xs → row_cmp (get_or xs j d) x ≡ Greater) →
    Each (λ y. row_cmp x y ≡ Less) xs
each-above x [] h = tt
each-above x (y ∷ xs) h = (
  row_total.antisymm x y ∙ ap ordering_reverse (h 0 y (omega arith)),
  each-above x xs (λ j d p. h (suc j) d (omega arith)),
)

rises-inserted : (xs : List (List Value)) (i : ℕ) (x : List Value) → i ≤ length xs → Rises row_cmp xs
    → ((j : ℕ) (d : List Value) → j < i → row_cmp (get_or xs j d) x ≡ Less) →
    ((j : ℕ) (d : List Value) → i ≤ j → j < length xs → row_cmp (get_or xs j d) x ≡ Greater) → Rises row_cmp (insert xs i x)
rises-inserted [] zero x p rise low high = (tt, tt)
rises-inserted [] (suc i) x p rise low high = absurd (omega arith)
rises-inserted (y ∷ xs) zero x p rise low high = (each-above x (y ∷ xs) (λ j d q. high j d (omega arith) q), rise)
rises-inserted (y ∷ xs) (suc i) x p rise low high = (
  each-inserted (λ z. row_cmp y z ≡ Less) xs i x rise.0 (low 0 y (omega arith)),
  rises-inserted xs i x (omega arith) rise.1 (λ j d q. low (suc j) d (omega arith)) (λ j d q r. high (suc j) d (omega arith) (omega arith)),
)

rises-removed : (xs : List (List Value)) (i : ℕ) → Rises row_cmp xs → Rises row_cmp (remove xs i)
rises-removed [] zero rise = tt
rises-removed [] (suc i) rise = tt
rises-removed (y ∷ xs) zero rise = rise.1
rises-removed (y ∷ xs) (suc i) rise = (each-removed (λ z. row_cmp y z ≡ Less) xs i rise.0, rises-removed xs i rise.1)

later : (xs : List (List Value)) → Rises row_cmp xs → (k : ℕ) (d : List Value) → k + 1 < length xs →
    is_lt (row_cmp (get_or xs (k + 1) d) (get_or xs k d)) ≡ false
later [] rise k d p = absurd (omega arith)
later (x ∷ xs) rise zero d p = ap is_lt (row_total.antisymm (get_or xs 0 d) x ∙
    ap ordering_reverse (each-at (λ y. row_cmp x y ≡ Less) xs 0 d (omega arith) rise.0))
later (x ∷ xs) rise (suc k) d p =
    let e : suc (k + 1) ≡ suc k + 1 = omega arith in
    let r : is_lt (row_cmp (get_or (x ∷ xs) (suc (k + 1)) d) (get_or xs k d)) ≡ false = later xs rise.1 k d (omega arith) in
    subst (λ m. is_lt (row_cmp (get_or (x ∷ xs) m d) (get_or xs k d)) ≡ false) e r

searchable : (xs : List (List Value)) (q : List Value) → Rises row_cmp xs → IsNonDecreasingBy (λ r. ordering_index (row_cmp r q)) xs
searchable xs q rise = searchable_from_sorted row_total (λ (r : List Value). r) xs q (λ k d low p. later xs rise k d p)

-- one more row, where a search found no such row and the place for it
pub rises-with : (xs : List (List Value)) (i : ℕ) (x : List Value) → i ≤ length xs → Rises row_cmp xs →
    IsBinarySearchResult (λ r. row_cmp r x) xs (Err i) → Rises row_cmp (insert xs i x)
rises-with xs i x p rise place =
    let point = place (searchable xs x rise) in
    rises-inserted xs i x p rise (λ j d q. point.0 j d (omega arith) q) (λ j d q r. point.1 j d q r)

pub with-one : (rows second : List (List Value)) (k i : ℕ) (row other : List Value) → IsSecond rows second → other ≡ exchanged row →
    i ≤ length second → IsBinarySearchResult (λ r. row_cmp r other) second (Err i) → IsSecond (insert rows k row) (insert second i other)
with-one rows second k i row other h e p place = record {
  order = rises-with second i other p h.order place;
  are = λ f.
      let more = sum_by-insert f second i other in
      let same = sum_by-insert (λ r. f (exchanged r)) rows k row in
      let is : f other ≡ f (exchanged row) = ap f e in
      let before = h.are f in
      omega (arith, more, same, is, before);
}

-- the row that a search found is the one that was looked for
found-is : (second : List (List Value)) (i : ℕ) (other d : List Value) → HoldsAt (λ r. row_cmp r other ≡ Equal) second i →
    get_or second i d ≡ other
found-is second i other d at = row_ties (get_or second i d) other (at d)

pub without-one : (rows second : List (List Value)) (k i : ℕ) (gone other : List Value) → IsSecond rows second → k < length rows → gone ≡
    get_or rows k gone → other ≡ exchanged gone → i < length second → HoldsAt (λ r. row_cmp r other ≡ Equal) second i →
    IsSecond (remove rows k) (remove second i)
without-one rows second k i gone other h p is e q at = record {
  order = rises-removed second i h.order;
  are = λ f.
      let less = sum_by-remove f second i other q in
      let same = sum_by-remove (λ r. f (exchanged r)) rows k gone p in
      let out : f (get_or second i other) ≡ f (exchanged gone) = ap f (found-is second i other other at ∙ e) in
      let was : f (exchanged (get_or rows k gone)) ≡ f (exchanged gone) = ap (λ r. f (exchanged r)) (sym is) in
      let before = h.are f in
      omega (arith, less, same, out, was, before);
}

each-pushed : (P : List Value → Type 0) (xs : List (List Value)) (x : List Value) → Each P xs → P x → Each P (xs ++ x ∷ [])
each-pushed P [] x e p = (p, tt)
each-pushed P (y ∷ xs) x e p = (e.0, each-pushed P xs x e.1 p)

rises-pushed : (xs : List (List Value)) (x y : List Value) → (0 < length xs → y ≡ get_or xs (length xs - 1) y) →
    (0 < length xs → row_cmp y x ≡ Less) → Rises row_cmp xs → Rises row_cmp (xs ++ x ∷ [])
rises-pushed [] x y last less rise = (tt, tt)
rises-pushed (z ∷ []) x y last less rise = ((subst (λ w. row_cmp w x ≡ Less) (last (omega arith)) (less (omega arith)), tt), (tt, tt))
rises-pushed (z ∷ w ∷ xs) x y last less rise =
    let n : length (z ∷ w ∷ xs) - 1 ≡ suc (length (w ∷ xs) - 1) = omega arith in
    let is : y ≡ get_or (w ∷ xs) (length (w ∷ xs) - 1) y = last (omega arith) ∙ ap (λ k. get_or (z ∷ w ∷ xs) k y) n in
    let over : row_cmp z y ≡ Less = subst (λ u. row_cmp z u ≡ Less) (sym is)
    (each-at (λ u. row_cmp z u ≡ Less) (w ∷ xs) (length (w ∷ xs) - 1) y (omega arith) rise.0) in (
      each-pushed (λ u. row_cmp z u ≡ Less) (w ∷ xs) x rise.0 (row_total.trans z y x over (less (omega arith))),
      rises-pushed (w ∷ xs) x y (λ _. is) (λ _. less (omega arith)) rise.1,
    )

-- the rows up to one more, which comes after the one before it
pub rises-more : (rows : List (List Value)) (k : ℕ) (x y : List Value) → k < length rows → x ≡ get_or rows k x →
    (0 < k → y ≡ get_or rows (k - 1) y) → (0 < k → row_cmp y x ≡ Less) → Rises row_cmp (take k rows) → Rises row_cmp (take (k + 1) rows)
rises-more rows k x y p is last less rise =
    let l : length (take k rows) ≡ k = length-take-le k rows (omega (arith, p)) in
    subst (Rises row_cmp) (sym (take_more rows k x p ∙ ap (λ z. take k rows ++ z ∷ []) (sym is)))
    (rises-pushed (take k rows) x y
    (λ q. let r : 0 < k = omega (arith, q, l) in last r ∙ (sym (get_or-take k rows (k - 1) y (omega (arith, r))) ∙
    ap (λ n. get_or (take k rows) (n - 1) y) (sym l)))
    (λ q. less (omega (arith, q, l))) rise)

-- a table in the place of one of the same number and rows
pub map-same-at : {A B : Type 0} (f : A → B) (xs : List A) (i : ℕ) (x d : A) → i < length xs → f x ≡ f (get_or xs i d) →
    map f (insert (remove xs i) i x) ≡ map f xs
map-same-at f [] i x d p e = absurd (omega arith)
map-same-at f (y ∷ xs) zero x d p e = ap (λ z. z ∷ map f xs) e
map-same-at f (y ∷ xs) (suc i) x d p e = ap (λ zs. f y ∷ zs) (map-same-at f xs i x d (omega arith) e)

-- what holds of a value holds of what a call gave
pub if-ok : {A E : Type 0} {P Q : A → Type 0} (r : Result A E) → ((x : A) → P x → Q x) → IfOk r P → IfOk r Q
if-ok (Ok x) f h = f x h
if-ok (Err e) f h = h

-- the edits of what is kept
module _ (before : Option (List (List Value))) (second : List (List Value)) (kept : before ≡ Some second) where
  held : (rows : List (List Value)) → IsKept rows before → IsSecond rows second
  held rows h = subst (IsKept rows) kept h

  pub keeps-with : (row other after : List Value) (made : List (List Value)) (i : ℕ) (s : Option (List (List Value))) → other ≡
      exchanged row → after ≡ exchanged row → i ≤ length second
      → IsBinarySearchResult (λ r. row_cmp r other) second (Err i) → made ≡ insert second i after → s ≡ Some made → KeepsWith before row s
  keeps-with row other after made i s e f p place m is rows k h =
      subst (IsKept (insert rows k row)) (sym (is ∙ ap Some (m ∙ ap (insert second i) (f ∙ sym e))))
      (with-one rows second k i row other (held rows h) e p place)

  pub keeps-without : (gone other : List Value) (made : List (List Value)) (i : ℕ) (s : Option (List (List Value))) → other ≡
      exchanged gone → i < length second
      → HoldsAt (λ r. row_cmp r other ≡ Equal) second i → made ≡ remove second i → s ≡ Some made → KeepsWithout before gone s
  keeps-without gone other made i s e p at m is rows k q g h =
      subst (IsKept (remove rows k)) (sym (is ∙ ap Some m)) (without-one rows second k i gone other (held rows h) q g e p at)

-- what was made of the sorted rows is kept
pub kept-made : {E : Type 0} (rows sorted : List (List Value)) (r : Result (Option (List (List Value))) E) →
    IsPermutation (map exchanged rows) sorted
    → IfOk r (λ s. IfSome s (Rises row_cmp)) → IfOk r (λ s. IfSome s (λ all. all ≡ sorted)) → IfOk r (IsKept rows)
kept-made rows sorted (Ok (Some second)) p rise e = made rows sorted second p e rise
kept-made rows sorted (Ok None) p rise e = tt
kept-made rows sorted (Err x) p rise e = rise

-- the exchanged rows, where they are kept
pub kept-some : (rows same : List (List Value)) (before : Option (List (List Value))) (found : Option (Bor (List (List Value)))) → rows ≡
    same → IsKept rows before → IfSome found (λ s. before ≡ Some s.now) → IfSome found (λ s. IsSecond same s.now)
kept-some rows same before None e h k = k
kept-some rows same before (Some s) e h k = subst (λ x. IsSecond x s.now) e (subst (IsKept rows) k h)

-- A search by halves among some rows that follow one another, as one among all of them.
use Rattle.std.proofs.Common.{◌≡◌, ℕ, zero, suc, ◌+◌, ◌<◌, ◌≤◌, List, [], length, get_or, refl, sym, ap, ◌∙◌, subst, arith, Ordering, Less}
use Rattle.std.proofs.Common.{Equal, Greater, Err, inl, inr}
use Rattle.std.proofs.lemmas.Bool.{cases_lt}
use Rattle.std.proofs.lemmas.List.{get_or_default}
use Rattle.std.specs.List.{HoldsAt, AllWithin}
use Rattle.std.specs.List.Sorted.{IsBinarySearchResult, IsNonDecreasingBy, IsPartitionPoint}
use Rattle.std.specs.Ordering.{ordering_index, is_gt}
use Rattle.std.proofs.Common.{true, false, true≢false}
use Rattle.tl_syntax.specs.declared.value.Value.{Value}
use Rattle.tl_rows.specs.Plain.{row_cmp}
use Rattle.tl_rows.specs.Runs.{IsPartFor}
use Rattle.tl_rows.proofs.Narrowing.{all-less, all-greater}
use Rattle.tl_rows.proofs.Parts.{row-of-part}

module _ (args : List Value) (all rows : List (List Value)) (from : ℕ) (h : IsPartFor args all from rows) where
  abbrev found : List Value → Ordering
  found r = row_cmp r args

  here : (j : ℕ) (d : List Value) → j < length rows → get_or rows j d ≡ get_or all (from + j) d
  here j d p = row-of-part all rows from j d h.part p

  -- a row that is among them is among all
  pub found-in-part : (k i : ℕ) → i ≡ from + k → k < length rows → HoldsAt (λ r. row_cmp r args ≡ Equal) rows k →
      HoldsAt (λ r. row_cmp r args ≡ Equal) all i
  found-in-part k i e p at d = subst (λ n. row_cmp (get_or all n d) args ≡ Equal) (sym e)
      (subst (λ r. row_cmp r args ≡ Equal) (here k d p) (at d))

  rises-too : IsNonDecreasingBy (λ r. ordering_index (row_cmp r args)) all → IsNonDecreasingBy (λ r. ordering_index (row_cmp r args)) rows
  rises-too rise i j d p q =
      let w = h.part.within in
      let r : ordering_index (row_cmp (get_or all (from + i) d) args) ≤ ordering_index (row_cmp (get_or all (from + j) d) args) =
      rise (from + i) (from + j) d (omega (arith, p)) (omega (arith, q, w)) in
      subst (λ x. ordering_index (row_cmp x args) ≤ ordering_index (row_cmp (get_or rows j d) args)) (sym (here i d (omega (arith, p, q))))
      (subst (λ x. ordering_index (row_cmp (get_or all (from + i) d) args) ≤ ordering_index (row_cmp x args)) (sym (here j d q)) r)

  less-at : (m : ℕ) → m < length all → row_cmp (get_or all m []) args ≡ Less →
      IsNonDecreasingBy (λ r. ordering_index (row_cmp r args)) all → AllWithin (λ r. row_cmp r args ≡ Less) all 0 (m + 1)
  less-at m p e rise = all-less found all m (get_or all m []) p (get_or_default all m [] (get_or all m []) p) (m + 1) refl e rise

  greater-at : (m : ℕ) → m < length all → row_cmp (get_or all m []) args ≡ Greater →
      IsNonDecreasingBy (λ r. ordering_index (row_cmp r args)) all → AllWithin (λ r. row_cmp r args ≡ Greater) all m (length all)
  greater-at m p e rise = all-greater found all m (get_or all m []) p (get_or_default all m [] (get_or all m []) p) e rise

  -- the rows before a place that was found
  lower-all : (k : ℕ) → k ≤ length rows → IsPartitionPoint (λ r. row_cmp r args ≡ Less) (λ r. row_cmp r args ≡ Greater) rows k →
      IsNonDecreasingBy (λ r. ordering_index (row_cmp r args)) all → AllWithin (λ r. row_cmp r args ≡ Less) all 0 (from + k)
  lower-all zero p point rise j d _ q = elim (cases_lt 0 from) [
    | inl some ↦
        let filled = h.filled some in
        let at : row_cmp (get_or rows 0 []) args ≡ Greater = point.1 0 [] (omega arith) filled in
        let same : get_or rows 0 [] ≡ get_or all from [] = here 0 [] filled ∙
        ap (λ n. get_or all n []) (let n : from + 0 ≡ from = omega arith in n) in
        absurd (h.before some (subst (λ r. row_cmp r args ≡ Greater) same at))
    | inr none ↦ absurd (omega (arith, none, q))
  ]
  lower-all (suc k) p point rise j d a q =
      let w = h.part.within in
      let at : row_cmp (get_or rows k []) args ≡ Less = point.0 k [] (omega arith) (omega arith) in
      let e : from + k + 1 ≡ from + suc k = omega arith in
      subst (λ n. AllWithin (λ r. row_cmp r args ≡ Less) all 0 n) e (less-at (from + k) (omega (arith, p, w))
      (subst (λ r. row_cmp r args ≡ Less) (here k [] (omega (arith, p))) at) rise) j d a q

  upper-all : (k : ℕ) → k ≤ length rows → IsPartitionPoint (λ r. row_cmp r args ≡ Less) (λ r. row_cmp r args ≡ Greater) rows k →
      IsNonDecreasingBy (λ r. ordering_index (row_cmp r args)) all → AllWithin (λ r. row_cmp r args ≡ Greater) all (from + k) (length all)
  upper-all k p point rise = elim (cases_lt k (length rows)) [
    | inl low ↦
        let w = h.part.within in
        let at : row_cmp (get_or rows k []) args ≡ Greater = point.1 k [] (omega arith) low in
        greater-at (from + k) (omega (arith, low, w)) (subst (λ r. row_cmp r args ≡ Greater) (here k [] low) at) rise
    | inr high ↦
        let e : from + length rows ≡ from + k = omega (arith, p, high) in
        subst (λ n. AllWithin (λ r. row_cmp r args ≡ Greater) all n (length all)) e (elim (cases_lt (from + length rows) (length all)) [
          | inl more ↦ greater-at (from + length rows) more (h.after more) rise
          | inr none ↦ λ j d a b. absurd (omega (arith, none, a, b))
        ])
  ]

  -- the place at which a row would stand among them is its place among all
  pub absent-in-part : (k i : ℕ) → i ≡ from + k → k ≤ length rows → IsBinarySearchResult (λ r. row_cmp r args) rows (Err k) →
      IsBinarySearchResult (λ r. row_cmp r args) all (Err i)
  absent-in-part k i e p at rise =
      let point = at (rises-too rise) in
      subst (λ n. IsPartitionPoint (λ r. row_cmp r args ≡ Less) (λ r. row_cmp r args ≡ Greater) all n) (sym e)
      (lower-all k p point rise, upper-all k p point rise)

pub not-after : (o : Ordering) → is_gt o ≡ false → o ≡ Greater → ⊥
not-after Less h e = let d : Less ≡ Greater = e in cc
not-after Equal h e = let d : Equal ≡ Greater = e in cc
not-after Greater h e = true≢false h

pub is-after : (o : Ordering) → is_gt o ≡ true → o ≡ Greater
is-after Less h = absurd (true≢false (sym h))
is-after Equal h = absurd (true≢false (sym h))
is-after Greater h = refl

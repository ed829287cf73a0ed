-- Rows that were sorted, each kept once.
use Rattle.std.proofs.Common.{◌≡◌, ◌<◌, ℕ, zero, suc, List, [], ◌∷◌, length, get_or, Less, Ordering, inl, inr, sym, ap, ◌∙◌, subst, arith}
use mathlib.Core.Path.{fun_ext}
use Rattle.std.specs.Prelude.{IsPermutation}
use Rattle.std.specs.Cmp.{tied_itself, Equal-is}
use Rattle.std.specs.Cmp.Lexicographic.{slice_cmp}
use Rattle.std.specs.List.{AllByRecursion, Contains, dedup}
use Rattle.std.specs.List.Sorted.{IsSorted, IsStrictlySortedBy}
use Rattle.std.specs.Ordering.{eq_by_cmp}
use Rattle.std.proofs.lemmas.List.Kept.{Contains-dedup, Contains-from_dedup, IsStrictlySortedBy-dedup}
use Rattle.std.proofs.lemmas.List.Sorted.{Contains-permutation, IsPermutation-sym}
use Rattle.tl_action.specs.RowLists.{IsRows}
use Rattle.tl_syntax.specs.declared.value.Value.{Value}
use Rattle.tl_syntax.specs.Lists.{Each, Among, Rises}
use Rattle.tl_rows.specs.Plain.{row_cmp}
use Rattle.tl_syntax.proofs.ListLaws.{same_test}
use Rattle.tl_syntax.proofs.Telling.{tells-equivalence}
use Rattle.tl_world.proofs.Alike.{values_eq, values-tell}
use Rattle.tl_rows.proofs.Lent.{row_ties}
use Rattle.tl_rows.proofs.Lookup.{row_total}
use Rattle.tl_rows.proofs.Order.{values_order}
use Rattle.tl_syntax.specs.contracts.value.ValueOrd.TheImpl as value_impl

contains-in : {A : Type 0} (xs : List A) (x : A) → Among x xs → Contains xs x
contains-in [] x h = absurd h
contains-in (y ∷ xs) x h = elim h [
  | inl e ↦ (0, omega arith, e)
  | inr k ↦
      (let w = contains-in xs x k in let l = w.1 in (suc w.0, omega arith, w.2))
]

contains-out : {A : Type 0} (xs : List A) (x : A) (k : ℕ) → k < length xs → get_or xs k x ≡ x → Among x xs
contains-out [] x k h e = absurd (omega arith)
contains-out (y ∷ xs) x zero h e = inl e
contains-out (y ∷ xs) x (suc k) h e = inr (contains-out xs x k (omega arith) e)

each-from : {A : Type 0} (P : A → Type 0) (xs : List A) → AllByRecursion P xs → Each P xs
each-from P [] h = tt
each-from P (x ∷ xs) h = (h.0, each-from P xs h.1)

rises-from : {K : Type 0} (R : K → K → Ordering) (xs : List K) → IsStrictlySortedBy R xs → Rises R xs
unfolding IsStrictlySortedBy
rises-from R [] h = tt
rises-from R (x ∷ xs) h = (each-from (λ y. R x y ≡ Less) xs h.0, rises-from R xs h.1)

-- the derived order of rows
abbrev pub derived_cmp : List Value → List Value → Ordering
derived_cmp = slice_cmp (value_impl.ghosts).cmp

same-order : derived_cmp ≡ row_cmp
same-order = fun_ext (λ x. fun_ext (λ y. values_order x y))

-- it is equal just where the rows are
ties : (x y : List Value) → values_eq x y ≡ eq_by_cmp row_cmp x y
ties x y =
    same_test (values_eq x y) (eq_by_cmp row_cmp x y)
    (λ h. (Equal-is (row_cmp x y)).1 (ap (row_cmp x) (sym ((values-tell x y).0 h)) ∙ tied_itself row_total x))
    (λ h. (values-tell x y).1 (row_ties x y ((Equal-is (row_cmp x y)).0 h)))

-- rows that were sorted and of which equal neighbours were dropped
pub settled : (rows sorted kept : List (List Value)) → IsPermutation rows sorted → IsSorted derived_cmp sorted → kept ≡
    dedup values_eq sorted → IsRows rows kept
settled rows sorted kept moved up q =
    let equal = tells-equivalence values_eq values-tell in
    subst (IsRows rows) (sym q) (record {
      same = λ t. (
        λ m. let a = contains-in (dedup values_eq sorted) t m in
            let b = Contains-permutation sorted rows t (IsPermutation-sym rows sorted moved) (Contains-from_dedup values_eq sorted t a) in
            contains-out rows t b.0 b.1 b.2,
        λ m. let a = Contains-permutation rows sorted t moved (contains-in rows t m) in
            let b = Contains-dedup equal (λ x y h. (values-tell x y).0 h) sorted t a in
            contains-out (dedup values_eq sorted) t b.0 b.1 b.2,
      );
      order = rises-from row_cmp (dedup values_eq sorted) (IsStrictlySortedBy-dedup row_total ties sorted
          (subst (λ (R : List Value → List Value → Ordering). IsSorted R sorted) same-order up));
    })

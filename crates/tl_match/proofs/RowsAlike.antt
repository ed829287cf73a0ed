-- Rows that rise among those of one length: the rows of facts, and those of places with their values.
use Rattle.std.proofs.Common.{◌≡◌, ◌⊎◌, ℕ, zero, suc, ◌<◌, ◌+◌, List, [], ◌∷◌, ◌++◌, length, length-append, get_or, take, drop, map, Less}
use Rattle.std.proofs.Common.{Equal, Greater, refl, sym, subst, inl, inr, arith}
use Rattle.std.specs.Ordering.{ordering_then}
use Rattle.tl_syntax.specs.declared.value.Value.{Value}
use Rattle.tl_syntax.specs.Keys.{value_cmp}
use Rattle.tl_syntax.specs.Lists.{Each, Rises}
use Rattle.tl_rows.specs.declared.table.PlaceRow.{PlaceRow}
use Rattle.tl_rows.specs.Plain.{row_cmp}
use Rattle.tl_rows.specs.Tables.{whole_row}

-- y comes after x, where both are as long
abbrev pub IsAbove : List Value → List Value → Type 0
IsAbove x y = length x ≡ length y → row_cmp x y ≡ Less

-- each row comes after those before it that are as long
abbrev pub RisesAlike : List (List Value) → Type 0
RisesAlike [] = Unit {0}
RisesAlike (x ∷ xs) = Each (IsAbove x) xs × RisesAlike xs

-- rows that rise
pub alike-rows : (xs : List (List Value)) → Rises row_cmp xs → RisesAlike xs
alike-rows [] h = tt
alike-rows (x ∷ xs) h = (each xs h.0, alike-rows xs h.1)
  where
    each : (ys : List (List Value)) → Each (λ y. row_cmp x y ≡ Less) ys → Each (IsAbove x) ys
    each [] e = tt
    each (y ∷ ys) e = (λ _. e.0, each ys e.1)

less-more : (us vs : List Value) (u v : Value) → length (us ++ u ∷ []) ≡ length (vs ++ v ∷ []) → row_cmp us vs ≡ Less →
    row_cmp (us ++ u ∷ []) (vs ++ v ∷ []) ≡ Less
less-more [] [] u v e h = let d : Equal ≡ Less = h in cc
less-more [] (b ∷ vs) u v e h = let l : length (vs ++ v ∷ []) ≡ length vs + 1 = length-append vs (v ∷ []) in absurd (omega (arith, e))
less-more (a ∷ us) [] u v e h = let d : Greater ≡ Less = h in cc
less-more (a ∷ us) (b ∷ vs) u v e h =
    (elim (value_cmp a b) as (λ o. ordering_then o (row_cmp us vs) ≡ Less → ordering_then o (row_cmp (us ++ u ∷ []) (vs ++ v ∷ [])) ≡
    Less) [
      | Less ↦ λ _. refl
      | Equal ↦ λ q. less-more us vs u v (omega (arith, e)) q
      | Greater ↦ λ q. let d : Greater ≡ Less = q in cc
    ]) h

-- places whose arguments rise, each with its value
pub alike-whole : (rows : List PlaceRow) → Rises row_cmp (map (λ r. r.args) rows) → RisesAlike (map whole_row rows)
alike-whole [] h = tt
alike-whole (r ∷ rows) h = (each rows h.0, alike-whole rows h.1)
  where
    each : (ys : List PlaceRow) → Each (λ y. row_cmp r.args y ≡ Less) (map (λ y. y.args) ys) →
        Each (IsAbove (whole_row r)) (map whole_row ys)
    each [] e = tt
    each (y ∷ ys) e = (λ same. less-more r.args y.args r.value y.value same e.0, each ys e.1)

-- the rows after one are above it
pub alike-after : (rows : List (List Value)) (i j : ℕ) (r : List Value) → j ≡ i + 1 → i < length rows → r ≡ get_or rows i r →
    RisesAlike rows → Each (IsAbove r) (drop j rows)
alike-after [] i j r e p is rises = absurd (omega arith)
alike-after (x ∷ rows) zero j r e p is rises = subst (λ n. Each (IsAbove r) (drop n (x ∷ rows))) (let n : 1 ≡ j = omega (arith, e) in n)
    (subst (λ y. Each (IsAbove y) rows) (sym is) rises.0)
alike-after (x ∷ rows) (suc i) zero r e p is rises = absurd (omega arith)
alike-after (x ∷ rows) (suc i) (suc j) r e p is rises = alike-after rows i j r (omega arith) (omega arith) is rises.1

each-at : (P : List Value → Type 0) (xs : List (List Value)) (i : ℕ) (d : List Value) → i < length xs → Each P xs → P (get_or xs i d)
each-at P [] i d p e = absurd (omega arith)
each-at P (x ∷ xs) zero d p e = e.0
each-at P (x ∷ xs) (suc i) d p e = each-at P xs i d (omega arith) e.1

-- the rows up to one are that one, or it is above them
pub alike-before : (rows : List (List Value)) (i j : ℕ) (r : List Value) → j ≡ i + 1 → i < length rows → r ≡ get_or rows i r →
    RisesAlike rows → Each (λ y. (r ≡ y) ⊎ IsAbove y r) (take j rows)
alike-before [] i j r e p is rises = absurd (omega arith)
alike-before (x ∷ rows) zero j r e p is rises = subst (λ n. Each (λ y. (r ≡ y) ⊎ IsAbove y r) (take n (x ∷ rows)))
    (let n : 1 ≡ j = omega (arith, e) in n) (inl is, tt)
alike-before (x ∷ rows) (suc i) zero r e p is rises = absurd (omega arith)
alike-before (x ∷ rows) (suc i) (suc j) r e p is rises = (
  inr (subst (IsAbove x) (sym is)
      (each-at (IsAbove x) rows i r (omega arith) rises.0)),
  alike-before rows i j r (omega arith) (omega arith) is rises.1,
)

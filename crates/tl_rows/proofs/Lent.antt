-- What is among the rows of a table.
use Rattle.std.proofs.Common.{◌≡◌, ◌↔◌, ◌⊎◌, ◌<◌, List, [], ◌∷◌, map, length, true, false, cond, true≢false, Some, Less, Equal, Ordering}
use Rattle.std.proofs.Common.{refl, sym, ap, ◌∙◌, inl, inr, arith}
use Rattle.std.specs.List.{list_any}
use Rattle.std.specs.FinSet as set
use Rattle.std.specs.FinMap as dict
use Rattle.std.specs.Ordering.{eq_by_cmp}
use Rattle.std.specs.Cmp.{IsTotalOrder, tied_itself, Equal-is}
use Rattle.tl_syntax.specs.declared.value.Value.{Value}
use Rattle.tl_syntax.specs.Lists.{Among, Rises}
use Rattle.tl_syntax.proofs.TotalOrders.{value_ties}
use Rattle.tl_syntax.proofs.ListLaws.{or-iff, Each-Among}
use Rattle.tl_rows.specs.declared.table.PlaceRow.{PlaceRow}
use Rattle.tl_rows.specs.Plain.{row_cmp, HasItem}
use Rattle.tl_rows.specs.Tables.{fact_row, place_row}

pub row_ties : set.IsAntisymmetric row_cmp
row_ties = set.slice_cmp-IsAntisymmetric value_ties

module _ {K : Type 0} {R : K → K → Ordering} (o : IsTotalOrder R) (same : set.IsAntisymmetric R) where
  key-is : (k x : K) → eq_by_cmp R k x ≡ true → x ≡ k
  key-is k x q = sym (same k x ((Equal-is (R k x)).0 q))

  key-itself : (k x : K) → x ≡ k → eq_by_cmp R k x ≡ true
  key-itself k x e = (Equal-is (R k x)).1 (ap (R k) e ∙ tied_itself o k)

  pub any-among : (a : K) (rs : List K) → Among a rs ↔ (list_any (eq_by_cmp R a) rs ≡ true)
  any-among a [] = (λ h. absurd h, λ e. true≢false (sym e))
  any-among a (r ∷ rs) = or-iff (key-itself a r, key-is a r) (any-among a rs)

  module _ {X : Type 0} where
    found-among : (es : List (K × X)) (k : K) (u : X) → dict.find R k es ≡ Some u → Among (k, u) es
    found-among [] k u h = cc
    found-among (x ∷ es) k u h = (elim (eq_by_cmp R k x.0) as (λ b. eq_by_cmp R k x.0 ≡ b → cond b (Some x.1) (dict.find R k es) ≡ Some u →
        x ≡ (k, u) ⊎ Among (k, u) es) [
          | true ↦ λ q m. let a : x.0 ≡ k = key-is k x.0 q in let b : x.1 ≡ u = cc in inl (λ i. (a i, b i))
          | false ↦ λ q m. inr (found-among es k u m)
        ]) refl h

    key-among : (es : List (K × X)) (k : K) (u : X) → Among (k, u) es → Among k (map (λ e. e.0) es)
    key-among [] k u m = m
    key-among (x ∷ es) k u m = elim m [ inl e ↦ inl (ap (λ (y : K × X). y.0) e) | inr n ↦ inr (key-among es k u n) ]

    among-found : (es : List (K × X)) → Rises R (map (λ e. e.0) es) → (k : K) (u : X) → Among (k, u) es → dict.find R k es ≡ Some u
    among-found [] r k u m = absurd m
    among-found (x ∷ es) r k u m = elim m [
      | inl e ↦ ap (λ b. cond b (Some x.1) (dict.find R k es)) (key-itself k x.0 (ap (λ (y : K × X). y.0) e)) ∙
          ap (λ (y : K × X). Some y.1) e
      | inr n ↦ ap (λ b. cond b (Some x.1) (dict.find R k es)) (later n) ∙ among-found es r.1 k u n
    ]
      where
        later : Among (k, u) es → eq_by_cmp R k x.0 ≡ false
        later n = (elim (eq_by_cmp R k x.0) as (λ b. eq_by_cmp R k x.0 ≡ b → b ≡ false) [
          | false ↦ λ _. refl
          | true ↦ λ q. let less : R x.0 k ≡ Less = (Each-Among (λ y. R x.0 y ≡ Less) (map (λ e. e.0) es)).0 r.0 k (key-among es k u n) in
              let tie : R x.0 k ≡ Equal = ap (R x.0) (sym (key-is k x.0 q)) ∙ tied_itself o x.0 in
              let both : Less ≡ Equal = sym less ∙ tie in cc
        ]) refl

    -- in a list of rising keys, the entries are what a look-up finds
    pub entry-among : (es : List (K × X)) → Rises R (map (λ e. e.0) es) → (k : K) (u : X) → Among (k, u) es ↔ (dict.find R k es ≡ Some u)
    entry-among es r k u = (among-found es r k u, found-among es k u)

pub bare : (rows : List (List Value)) → map (λ e. e.0) (map fact_row rows) ≡ rows
bare [] = refl
bare (r ∷ rows) = ap (λ xs. r ∷ xs) (bare rows)

pub args-of : (rows : List PlaceRow) → map (λ e. e.0) (map place_row rows) ≡ map (λ r. r.args) rows
args-of [] = refl
args-of (r ∷ rows) = ap (λ xs. r.args ∷ xs) (args-of rows)

pub filled-length : {A X : Type 0} (f : A → X) (xs : List A) → HasItem (map f xs) → 0 < length xs
filled-length f [] h = absurd h
filled-length f (x ∷ xs) h = omega arith

-- Tuples that are gathered in one pass over the rows, sorted and read one after another.
use Rattle.std.proofs.Common.{◌≡◌, ◌↔◌, ◌⊎◌, ◌<◌, ◌≤◌, ◌+◌, ℕ, zero, suc, List, [], ◌∷◌, ◌++◌, length, get_or, take, drop, take-append-drop}
use Rattle.std.proofs.Common.{Bool, true, false, ◌&&◌, ◌||◌, true≢false, Option, Some, None, Less, Equal, Ok, Err, refl, sym, ap, ◌∙◌}
use Rattle.std.proofs.Common.{subst, inl, inr, arith}
use Rattle.std.proofs.Math.Seq.{take-append_seam}
use Rattle.std.proofs.lemmas.List.{take_more}
use Rattle.std.proofs.lemmas.List.Folds.{list_any-append}
use Rattle.std.proofs.lemmas.Option.{slice_get-get_or}
use Rattle.std.proofs.lemmas.List.Sorted.{list_any-IsPermutation}
use Rattle.std.specs.Cmp.{tied_itself}
use Rattle.std.specs.List.Sorted.{IsPermutation}
use Rattle.std.specs.Option.{IfSome}
use Rattle.std.specs.Result.{IfOk}
use Rattle.std.specs.declared.result.Result.{Result}
use Rattle.std.specs.Ordering.{is_gt, eq_by_cmp}
use Rattle.std.specs.Prelude.{slice_get}
use Rattle.tl_syntax.specs.declared.value.Value.{Value}
use Rattle.tl_syntax.specs.Lists.{Among, Rises}
use Rattle.tl_syntax.proofs.ListLaws.{Each-Among, One-append}
use Rattle.tl_syntax.proofs.Plain.{with_both}
use Rattle.tl_terms.specs.World.{World}
use Rattle.tl_match.specs.declared.pattern.Match.{Match}
use Rattle.tl_match.specs.declared.pattern.Part.{Part}
use Rattle.tl_match.specs.declared.pattern.Pattern.{Pattern}
use Rattle.tl_match.specs.Fits.{fits_all, IsMatch}
use Rattle.tl_world.specs.Gathered.{with_match, AreTuplesOf, HasAllTuples}
use Rattle.tl_match.specs.Least.{fits_some, IsLeast}
use Rattle.tl_match.specs.Next.{IsLater, IsNext, IsChain}
use Rattle.tl_match.specs.Patterns.{makes_true, parts_of, tuple_of}
use Rattle.tl_rows.specs.Plain.{row_cmp}
use Rattle.tl_match.proofs.Chains.{further}
use Rattle.tl_rows.proofs.Lent.{row_ties, any-among}
use Rattle.tl_rows.proofs.Lookup.{row_total}

-- tuples in order that are all of the later ones are the chain of them
module _ (k : ℕ) (test : List Value → Bool) where
  rising-chain : (after : Option (List Value)) (ts : List (List Value)) → Rises row_cmp ts →
      ((t : List Value) → Among t ts ↔ IsLater k test after t) → IsChain k test after ts
  rising-chain after [] rise h = λ t l. (h t).1 l
  rising-chain after (m ∷ ts) rise h = (
    (first, λ t l. least t ((h t).1 l)),
    rising-chain (Some m) ts rise.1 (λ t. (
      λ n. let l = (h t).0 (inr n) in (l.0, l.1, less t n),
      λ l. elim ((h t).1 (l.0, l.1, further k test after m t first.2 l.2)) [
        | inl e ↦ let d : Less ≡ Equal = sym l.2 ∙ (ap (row_cmp m) (sym e) ∙ tied_itself row_total m) in absurd (let z : ⊥ = cc in z)
        | inr n ↦ n
      ],
    )),
  )
    where
      first : IsLater k test after m
      first = (h m).0 (inl refl)

      less : (t : List Value) → Among t ts → row_cmp m t ≡ Less
      less t n = (Each-Among (λ y. row_cmp m y ≡ Less) ts).0 rise.0 t n

      least : (t : List Value) → Among t (m ∷ ts) → is_gt (row_cmp m t) ≡ false
      least t n = elim n [
        | inl e ↦ subst (λ x. is_gt (row_cmp m x) ≡ false) e (ap is_gt (tied_itself row_total m))
        | inr l ↦ ap is_gt
            (less t l)
      ]

  -- of a chain from a place on, the one there is the next one
  pub chain-at : (after : Option (List Value)) (ts : List (List Value)) (i : ℕ) → IsChain k test after (drop i ts) →
      IsNext k test after (slice_get ts i)
  chain-at after [] zero c = c
  chain-at after [] (suc i) c = c
  chain-at after (t ∷ ts) zero c = c.0
  chain-at after (t ∷ ts) (suc i) c = chain-at after ts i c

  -- and those after it are the rest
  chain-after : (after : Option (List Value)) (ts : List (List Value)) (i : ℕ) (t : List Value) → slice_get ts i ≡ Some t →
      IsChain k test after (drop i ts) → IsChain k test (Some t) (drop (suc i) ts)
  chain-after after [] zero t e c = absurd (let z : ⊥ = cc in z)
  chain-after after [] (suc i) t e c = absurd (let z : ⊥ = cc in z)
  chain-after after (x ∷ ts) zero t e c = let d : x ≡ t = cc in subst (λ y. IsChain k test (Some y) ts) d c.1
  chain-after after (x ∷ ts) (suc i) t e c = chain-after after ts i t e c

  pub chain-on : (after : Option (List Value)) (ts : List (List Value)) (i : ℕ) (t : List Value) → slice_get ts i ≡ Some t →
      IsChain k test after (drop i ts) → IsChain k test (Some t) (drop (i + 1) ts)
  chain-on after ts i t e c = subst (λ n. IsChain k test (Some t) (drop n ts)) (let n : suc i ≡ i + 1 = omega arith in n)
      (chain-after after ts i t e c)

moved : (us ts : List (List Value)) → IsPermutation us ts → (t : List Value) → Among t us ↔ Among t ts
moved us ts p t =
    let here = any-among row_total row_ties t us in
    let there = any-among row_total row_ties t ts in
    let same = list_any-IsPermutation (eq_by_cmp row_cmp t) us ts p in
    (λ n. there.1 (sym same ∙ here.0 n), λ n. here.1 (same ∙ there.0 n))

-- all tuples of a pattern, sorted, are the chain of its matches
pub sorted-chain : (w : World) (p : Pattern) (us ts : List (List Value)) → HasAllTuples w p us → IsPermutation us ts → Rises row_cmp ts →
    IsChain p.free (makes_true w p) None ts
sorted-chain w p us ts all perm rise = rising-chain p.free (makes_true w p) None ts rise (λ t. (
  λ n. let l = (all t).0 ((moved us ts perm t).1 n) in (l.0, l.1, tt),
  λ l. (moved us ts perm t).0 ((all t).1 (l.0, l.1)),
))

-- the tuples of the rows by which a pattern is true are all of its tuples
pub all-of-rows : (w : World) (p : Pattern) (rows ts : List (List Value)) →
    ((t : List Value) → length t ≡ p.free → fits_some (parts_of p) rows t ≡ makes_true w p t) → AreTuplesOf p.free (parts_of p) rows ts →
    HasAllTuples w p ts
all-of-rows w p rows ts same are t = (
  λ n. let l = (are t).0 n in (l.0, sym (same t l.0) ∙ l.1),
  λ l. (are t).1 (l.0, same t l.0 ∙ l.1),
)

or_none : (b : Bool) → (b || false) ≡ b
or_none true = refl
or_none false = refl

or_right : (b : Bool) → (b || true) ≡ true
or_right true = refl
or_right false = refl

split : (a b : Bool) → (a || b) ≡ true → (a ≡ true) ⊎ (b ≡ true)
split true b h = inl refl
split false b h = inr h

module _ (k : ℕ) (parts : List Part) where
  -- rows that no tuple makes the parts
  pub none-yet : (rows : List (List Value)) → IsLeast k (λ t. fits_some parts rows t && true) None → AreTuplesOf k parts rows []
  unfolding IsLeast
  none-yet rows none t = (λ n. absurd n, λ l. true≢false (sym (with_both l.1 refl) ∙ none t l.0))

  -- where none of the later rows is one, the tuples of those before are all
  pub no-more : (rows : List (List Value)) (i : ℕ) (ts : List (List Value)) → ((t : List Value) → fits_some parts (drop i rows) t ≡ false) →
      AreTuplesOf k parts (take i rows) ts → AreTuplesOf k parts rows ts
  no-more rows i ts none are t = (
    λ n. let l = (are t).0 n in (l.0, same ∙ l.1),
    λ l. (are t).1 (l.0, sym same ∙ l.1),
  )
    where
      same : fits_some parts rows t ≡ fits_some parts (take i rows) t
      same =
          ap (λ rs. fits_some parts rs t) (sym (take-append-drop i rows))
          ∙ (list_any-append (λ r. fits_all parts r t) (take i rows) (drop i rows)
          ∙ (ap (λ b. fits_some parts (take i rows) t || b) (none t) ∙ or_none (fits_some parts (take i rows) t)))

  -- one more row, with its match
  pub one-more : (rows : List (List Value)) (i : ℕ) → i < length rows → (row : List Value) → get_or rows i row ≡ row →
      (ts : List (List Value)) (found : Option Match) → IsMatch parts row k found
      → AreTuplesOf k parts (take i rows) ts → AreTuplesOf k parts (take (i + 1) rows) (with_match ts found)
  one-more rows i p row is ts found fit are t = of found fit
    where
      grown : fits_some parts (take (i + 1) rows) t ≡ (fits_some parts (take i rows) t || fits_all parts row t)
      grown =
          ap (λ rs. fits_some parts rs t) (take_more rows i row p ∙ ap (λ r. take i rows ++ r ∷ []) is)
          ∙ (list_any-append (λ r. fits_all parts r t) (take i rows) (row ∷ [])
          ∙ ap (λ b. fits_some parts (take i rows) t || b) (or_none (fits_all parts row t)))

      earlier : Among t ts → (length t ≡ k) × (fits_some parts (take (i + 1) rows) t ≡ true)
      earlier n = let l = (are t).0 n in (l.0, grown ∙ ap (λ b. b || fits_all parts row t) l.1)

      of : (found : Option Match) → IsMatch parts row k found → Among t (with_match ts found) ↔
          ((length t ≡ k) × (fits_some parts (take (i + 1) rows) t ≡ true))
      of None fit = (
        earlier,
        λ l. elim (split (fits_some parts (take i rows) t) (fits_all parts row t) (sym grown ∙ l.1)) [
          | inl q ↦ (are t).1
              (l.0, q)
          | inr q ↦ absurd (true≢false (sym q ∙ fit t l.0))
        ],
      )
      of (Some m) fit =
          let here : tuple_of m ≡ take k m.values = ap (λ n. take n m.values) fit.0 in (
            λ n. elim ((One-append (λ y. y ≡ t) ts (tuple_of m ∷ [])).0 n) [
              | inl o ↦ earlier o
              | inr o ↦ elim o [
                | inl e ↦ let same : take k m.values ≡ t = sym here ∙ e in (
                  ap length (sym same) ∙ fit.1,
                  grown ∙ (ap (λ b. fits_some parts (take i rows) t || b)
                      (ap (fits_all parts row) (sym same) ∙ fit.2) ∙ or_right (fits_some parts (take i rows) t)),
                )
                | inr z ↦ absurd z
              ]
            ],
            λ l. (One-append (λ y. y ≡ t) ts (tuple_of m ∷ [])).1 (elim
                (split (fits_some parts (take i rows) t) (fits_all parts row t) (sym grown ∙ l.1)) [
                  | inl q ↦ inl
                      ((are t).1 (l.0, q))
                  | inr q ↦ inr (inl (here ∙ fit.3 t l.0 q))
                ]),
          )

-- a match has few values
pub few-matched : (k : ℕ) (parts : List Part) (row : List Value) (found : Option Match) → k ≤ 9 → IsMatch parts row k found →
    IfSome found (λ m. m.len ≤ 9)
few-matched k parts row None few fit = tt
few-matched k parts row (Some m) few fit = subst (λ n. n ≤ 9) (sym fit.0) few

-- what is made of the sorted tuples is the chain of the matches
pub chain-made : {E : Type 0} (w : World) (p : Pattern) (us sorted : List (List Value)) (r : Result (Option (List (List Value))) E) →
    HasAllTuples w p us → IsPermutation us sorted
    → IfOk r (λ s. IfSome s (Rises row_cmp)) → IfOk r (λ s. IfSome s (λ all. all ≡ sorted)) →
    IfOk r (λ s. IfSome s (IsChain p.free (makes_true w p) None))
chain-made w p us sorted (Ok (Some ts)) all perm rise e = sorted-chain w p us ts all (subst (IsPermutation us) (sym e) perm) rise
chain-made w p us sorted (Ok None) all perm rise e = tt
chain-made w p us sorted (Err x) all perm rise e = rise

-- the row at a place
pub row-there : (rows : List (List Value)) (i : ℕ) (row : List Value) → i < length rows → row ≡ get_or rows i row → slice_get rows i ≡
    Some row
row-there rows i row p is = slice_get-get_or rows i row p ∙ ap Some (sym is)

-- what is written over the first values is their front
pub written : (row copy rest : List Value) (n : ℕ) → copy ≡ row → length row ≡ n → take n (copy ++ rest) ≡ row
written row copy rest n same size = subst (λ m. take m (copy ++ rest) ≡ row) size
    (ap (λ vs. take (length row) (vs ++ rest)) same ∙ take-append_seam row rest)

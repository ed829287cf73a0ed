-- The tuples of a bound one after another: the next one after those that are done is the first of the rest.
use Rattle.std.proofs.Common.{◌≡◌, ◌↔◌, ℕ, List, [], ◌∷◌, ◌++◌, length, Bool, true≢false, Option, Some, None, Less, Equal, Greater, refl}
use Rattle.std.proofs.Common.{sym, ap, ◌∙◌, subst, inl, inr}
use Rattle.std.specs.Ordering.{is_gt, ordering_reverse}
use Rattle.std.specs.Cmp.{tied_itself}
use Rattle.tl_eval.specs.LawsTuples.{IsLast, TuplesAreTheChain, NextIsFirstOfTheRest}
use Rattle.tl_syntax.specs.declared.bound.Bound.{Bound}
use Rattle.tl_syntax.specs.declared.value.Value.{Value}
use Rattle.tl_syntax.specs.declared.variable.Var.{Var}
use Rattle.tl_syntax.specs.Assignment.{Assignment, bind}
use Rattle.tl_syntax.specs.BoundVariables.{OccurIn, DifferInSlot}
use Rattle.tl_syntax.specs.Lists.{Among, Rises}
use Rattle.tl_syntax.proofs.ListLaws.{Each-Among, One-append}
use Rattle.tl_terms.specs.Bounds.{bound_true, tuples}
use Rattle.tl_terms.specs.Situation.{Situation}
use Rattle.tl_terms.proofs.Tuples.{all-tuples}
use Rattle.tl_terms.proofs.TuplesRise.{tuples-rise}
use Rattle.tl_match.specs.Next.{IsLater, IsNext, IsChain}
use Rattle.tl_rows.specs.Plain.{row_cmp}
use Rattle.tl_match.proofs.Chains.{further}
use Rattle.tl_match.proofs.Finite.{rising-chain}
use Rattle.tl_rows.proofs.Lookup.{row_total}

-- no tuple comes before itself
not-itself : (t : List Value) → row_cmp t t ≡ Less → ⊥
not-itself t h = let d : Less ≡ Equal = sym h ∙ tied_itself row_total t in cc

-- ---- the rest of the tuples that pass a test

-- the list rises, and has exactly the tuples that come after the given one
pub record Remains (k : ℕ) (test : List Value → Bool) (after : Option (List Value)) (rest : List (List Value)) : Type 0 where
  pub rises : Rises row_cmp rest
  pub all : (t : List Value) → Among t rest ↔ IsLater k test after t

module _ (k : ℕ) (test : List Value → Bool) where
  -- where there is no next tuple, nothing remains
  pub remains-none : (after : Option (List Value)) (rest : List (List Value)) → Remains k test after rest → IsNext k test after None →
      rest ≡ []
  remains-none after [] r n = refl
  remains-none after (x ∷ rest) r n = absurd (n x ((r.all x).0 (inl refl)))

  -- what remains after the first
  remains-tail : (after : Option (List Value)) (x : List Value) (more : List (List Value)) → Remains k test after (x ∷ more) →
      Remains k test (Some x) more
  remains-tail after x more r = record {
    rises = r.rises.1;
    all = λ t. (
      λ m. let l = (r.all t).0 (inr m) in (l.0, l.1, (Each-Among (λ y. row_cmp x y ≡ Less) more).0 r.rises.0 t m),
      λ l. elim ((r.all t).1 (l.0, l.1, further k test after x t ((r.all x).0 (inl refl)).2 l.2)) [
        | inl e ↦ absurd (not-itself x (subst (λ y. row_cmp x y ≡ Less) (sym e) l.2))
        | inr m ↦ m
      ],
    );
  }

  -- a next tuple is the first of what remains
  first-is : (after : Option (List Value)) (x : List Value) (more : List (List Value)) (t : List Value) → Remains k test after (x ∷ more) →
      IsNext k test after (Some t) → x ≡ t
  first-is after x more t r n = elim ((r.all t).1 n.0) [
    | inl e ↦ e
    | inr m ↦
        let before : row_cmp x t ≡ Less = (Each-Among (λ y. row_cmp x y ≡ Less) more).0 r.rises.0 t m in
        let back : row_cmp t x ≡ Greater = row_total.antisymm t x ∙ ap ordering_reverse before in
        absurd (true≢false (sym (ap is_gt back) ∙ n.1 x ((r.all x).0 (inl refl))))
  ]

  pub remains-some : (after : Option (List Value)) (rest : List (List Value)) (t : List Value) → Remains k test after rest →
      IsNext k test after (Some t) → (more : List (List Value)) × ((rest ≡ t ∷ more) × Remains k test (Some t) more)
  remains-some after [] t r n = absurd ((r.all t).1 n.0)
  remains-some after (x ∷ more) t r n =
      let e : x ≡ t = first-is after x more t r n in
      (more, (ap (λ y. y ∷ more) e, subst (λ y. Remains k test (Some y) more) e (remains-tail after x more r)))

  -- a chain from the same tuple on is what remains
  pub chain-is : (after : Option (List Value)) (ts rest : List (List Value)) → IsChain k test after ts → Remains k test after rest → ts ≡
      rest
  chain-is after [] rest c r = sym (remains-none after rest r c)
  chain-is after (t ∷ ts) rest c r =
      let s = remains-some after rest t r c.0 in
      ap (λ us. t ∷ us) (chain-is (Some t) ts s.0 c.1 s.1.1) ∙ sym s.1.0

-- ---- lists in two parts

rises-across : (xs ys : List (List Value)) → Rises row_cmp (xs ++ ys) → (x y : List Value) → Among x xs → Among y ys → row_cmp x y ≡ Less
rises-across [] ys r x y m n = absurd m
rises-across (z ∷ xs) ys r x y m n = elim m [
  | inl e ↦ subst (λ w. row_cmp w y ≡ Less) e ((Each-Among (λ u. row_cmp z u ≡ Less) (xs ++ ys)).0 r.0 y
      ((One-append (λ u. u ≡ y) xs ys).1 (inr n)))
  | inr k ↦ rises-across xs ys r.1 x y k n
]

rises-left : (xs ys : List (List Value)) → Rises row_cmp (xs ++ ys) → Rises row_cmp xs
rises-left [] ys r = tt
rises-left (x ∷ xs) ys r = (
  (Each-Among (λ u. row_cmp x u ≡ Less) xs).1 (λ u m. (Each-Among (λ w. row_cmp x w ≡ Less) (xs ++ ys)).0 r.0 u
      ((One-append (λ w. w ≡ u) xs ys).1 (inl m))),
  rises-left xs ys r.1,
)

rises-right : (xs ys : List (List Value)) → Rises row_cmp (xs ++ ys) → Rises row_cmp ys
rises-right [] ys r = r
rises-right (x ∷ xs) ys r = rises-right xs ys r.1

-- what comes after the last of some leading tuples is the other tuples
rest-remains : (k : ℕ) (test : List Value → Bool) (done rest : List (List Value)) (after : Option (List Value)) →
    Remains k test None (done ++ rest) → IsLast done after → Remains k test after rest
rest-remains k test done rest None r l = subst (λ xs. Remains k test None (xs ++ rest)) l r
rest-remains k test done rest (Some a) r l = record {
  rises = rises-right done rest r.rises;
  all = λ t. (
    λ m. let passed = (r.all t).0 ((One-append (λ y. y ≡ t) done rest).1 (inr m)) in
        (passed.0, passed.1, rises-across done rest r.rises a t last m),
    λ p. elim ((One-append (λ y. y ≡ t) done rest).0 ((r.all t).1 (p.0, p.1, tt))) [ inl m ↦ absurd (not-done t m p.2) | inr m ↦ m ],
  );
}
  where
    last : Among a done
    last = subst (λ xs. Among a xs) (sym l.1) ((One-append (λ y. y ≡ a) l.0 (a ∷ [])).1 (inr (inl refl)))

    risen : Rises row_cmp (l.0 ++ a ∷ [])
    risen = subst (Rises row_cmp) l.1 (rises-left done rest r.rises)

    not-done : (t : List Value) → Among t done → row_cmp a t ≡ Less → ⊥
    not-done t m h = elim ((One-append (λ y. y ≡ t) l.0 (a ∷ [])).0 (subst (λ xs. Among t xs) l.1 m)) [
      | inl n ↦ not-itself a (row_total.trans a t a h (rises-across l.0 (a ∷ []) risen t a n (inl refl)))
      | inr n ↦ elim n [ inl e ↦ not-itself a (subst (λ y. row_cmp a y ≡ Less) (sym e) h) | inr b ↦ b ]
    ]

-- ---- the tuples of a bound

module _ (s : Situation) (e : Assignment) (ss : List Var) (b : Bound) (d : DifferInSlot ss) (o : OccurIn ss b) where
  -- whether a tuple makes the bound true
  abbrev passes : List Value → Bool
  passes t = bound_true s (bind ss t e) b

  -- at first all tuples remain
  pub tuples-remain : Remains (length ss) (λ t. bound_true s (bind ss t e) b) None (tuples s e ss b)
  tuples-remain = record {
    rises = tuples-rise s e ss b;
    all = λ t. let h = all-tuples s e ss b d o t in (λ m. let l = h.0 m in (l.0, l.1, tt), λ l. h.1 (l.0, l.1));
  }

  split-remains : (done rest : List (List Value)) (after : Option (List Value)) → tuples s e ss b ≡ done ++ rest → IsLast done after →
      Remains (length ss) passes after rest
  split-remains done rest after q l = rest-remains (length ss) passes done rest after
      (subst (Remains (length ss) passes None) q tuples-remain) l

  -- where there is no next tuple after those that are done, there is no rest
  pub no-more : (done rest : List (List Value)) (after : Option (List Value)) → tuples s e ss b ≡ done ++ rest → IsLast done after
      → IsNext (length ss) (λ t. bound_true s (bind ss t e) b) after None → rest ≡ []
  no-more done rest after q l n = remains-none (length ss) passes after rest (split-remains done rest after q l) n

  -- the next tuple after those that are done is the first of the rest
  pub one-more : (done rest : List (List Value)) (after : Option (List Value)) (t : List Value) → tuples s e ss b ≡ done ++ rest →
      IsLast done after
      → IsNext (length ss) (λ t. bound_true s (bind ss t e) b) after (Some t) → (more : List (List Value)) × (rest ≡ t ∷ more)
  one-more done rest after t q l n = let m = remains-some (length ss) passes after rest t (split-remains done rest after q l) n in
      (m.0, m.1.0)

  -- the tuples of the bound are a chain of next tuples, and the only one
  pub tuples-chain : IsChain (length ss) (λ t. bound_true s (bind ss t e) b) None (tuples s e ss b)
  tuples-chain = rising-chain (length ss) passes None (tuples s e ss b) tuples-remain.rises tuples-remain.all

  pub only-chain : (ts : List (List Value)) → IsChain (length ss) (λ t. bound_true s (bind ss t e) b) None ts → ts ≡ tuples s e ss b
  only-chain ts c = chain-is (length ss) passes None ts (tuples s e ss b) c tuples-remain

pub chain-exactly : TuplesAreTheChain
chain-exactly s e ss b d o ts = (
  λ c. only-chain s e ss b d o ts c,
  λ q. subst (IsChain (length ss) (λ t. bound_true s (bind ss t e) b) None) (sym q) (tuples-chain s e ss b d o),
)

pub first-of_rest : NextIsFirstOfTheRest
first-of_rest s e ss b d o done rest after None q l n = no-more s e ss b d o done rest after q l n
first-of_rest s e ss b d o done rest after (Some t) q l n = one-more s e ss b d o done rest after t q l n

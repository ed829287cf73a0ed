-- A chain of next tuples has all that pass the test, in order.
use Rattle.std.proofs.Common.{◌≡◌, ◌↔◌, ℕ, List, [], ◌∷◌, length, Bool, true, false, ◌&&◌, true≢false, Option, Some, None, Ordering, Less}
use Rattle.std.proofs.Common.{Equal, Greater, refl, sym, ap, ◌∙◌, subst, inl, inr, take}
use Rattle.std.specs.Option.{option_map, IfSome}
use Rattle.std.specs.Ordering.{is_lt, is_gt}
use Rattle.tl_syntax.specs.declared.value.Value.{Value}
use Rattle.tl_syntax.specs.Lists.{Among, Rises}
use Rattle.tl_syntax.proofs.ListLaws.{Each-Among}
use Rattle.tl_syntax.proofs.Plain.{both, with_both}
use Rattle.tl_match.specs.declared.pattern.Match.{Match}
use Rattle.tl_rows.specs.Plain.{row_cmp}
use Rattle.tl_match.specs.Patterns.{makes_true, tuple_of, tuple_in_place}
use Rattle.tl_match.specs.Least.{IsLeast, above, match_in_place}
use Rattle.tl_match.specs.Next.{IsAfter, IsLater, IsNext, IsChain, ChainHasAllMatches}
use Rattle.tl_rows.proofs.Lookup.{row_total}
use Rattle.tl_rows.proofs.Lent.{row_ties}

module _ (k : ℕ) (test : List Value → Bool) where
  pub further : (after : Option (List Value)) (m t : List Value) → IsAfter after m → row_cmp m t ≡ Less → IsAfter after t
  further None m t a l = tt
  further (Some x) m t a l = row_total.trans x m t a l

  chain-has : (after : Option (List Value)) (ts : List (List Value)) → IsChain k test after ts → (t : List Value) → Among t ts ↔
      IsLater k test after t
  chain-has after [] c t = (λ h. absurd h, λ h. c t h)
  chain-has after (m ∷ ts) c t = (
    λ h. elim h [
      | inl e ↦ subst (IsLater k test after) e c.0.0
      | inr n ↦ let l = (chain-has (Some m) ts c.1 t).0 n in (l.0, l.1, further after m t c.0.0.2 l.2)
    ],
    λ h. (elim (row_cmp m t) as (λ o. row_cmp m t ≡ o → Among t (m ∷ ts)) [
      | Less ↦ λ e. inr ((chain-has (Some m) ts c.1 t).1 (h.0, h.1, e))
      | Equal ↦ λ e. inl (row_ties m t e)
      | Greater ↦ λ e. absurd (true≢false (sym (ap is_gt e) ∙ c.0.1 t h))
    ]) refl,
  )

  chain-rises : (after : Option (List Value)) (ts : List (List Value)) → IsChain k test after ts → Rises row_cmp ts
  chain-rises after [] c = tt
  chain-rises after (m ∷ ts) c = (
    (Each-Among (λ y. row_cmp m y ≡ Less) ts).1 (λ y n. ((chain-has (Some m) ts c.1 y).0 n).2),
    chain-rises (Some m) ts c.1,
  )

pub chain-has-all : ChainHasAllMatches
chain-has-all w p ts c = (
  chain-rises p.free (makes_true w p) None ts c,
  λ t. let h = chain-has p.free (makes_true w p) None ts c t in (λ n. let l = h.0 n in (l.0, l.1), λ l. h.1 (l.0, l.1, tt)),
)

less-is : (o : Ordering) → is_lt o ≡ true → o ≡ Less
less-is Less h = refl
less-is Equal h = absurd (true≢false (sym h))
less-is Greater h = absurd (true≢false (sym h))

above-after : (k : ℕ) (after : Option Match) → IfSome after (λ m. m.len ≡ k) → (t : List Value) → (above after k t ≡ true) ↔
    IsAfter (option_map tuple_of after) t
above-after k None size t = (λ _. tt, λ _. refl)
above-after k (Some a) size t = (
  λ h. subst (λ n. row_cmp (take n a.values) t ≡ Less) (sym size) (less-is _ h),
  λ h. ap is_lt (subst (λ n. row_cmp (take n a.values) t ≡ Less) size h),
)

-- the least that passes the test and stands above is the next one
pub next-least : (k : ℕ) (test : List Value → Bool) (after result : Option Match) → IfSome after (λ m. m.len ≡ k) →
    IsLeast k (λ t. test t && above after k t) result → IsNext k test (option_map tuple_of after) (option_map tuple_of result)
unfolding IsLeast
next-least k test after None size least = λ t l. true≢false (sym (with_both l.1 ((above-after k after size t).1 l.2)) ∙ least t l.0)
next-least k test after (Some m) size least =
    let passed = both (test (take k m.values)) (above after k (take k m.values)) least.2 in
    let here = subst (λ n. take n m.values ≡ take k m.values) (sym least.0) refl in (
      (ap length here ∙ least.1, ap test here ∙ passed.0, (above-after k after size (tuple_of m)).0 (ap (above after k) here ∙ passed.1)),
      λ t l. ap (λ x. is_gt (row_cmp x t)) here ∙ least.3 t l.0 (with_both l.1 ((above-after k after size t).1 l.2)),
    )

pub least-size : (k : ℕ) (c : List Value → Bool) (result : Option Match) → IsLeast k c result → IfSome result (λ m. m.len ≡ k)
unfolding IsLeast
least-size k c None least = tt
least-size k c (Some m) least = least.0

in-place : (begun : Bool) (m : Match) → option_map tuple_of (match_in_place begun m) ≡ tuple_in_place begun m
in-place true m = refl
in-place false m = refl

size-in-place : (k : ℕ) (begun : Bool) (m : Match) → (begun ≡ true → m.len ≡ k) → IfSome (match_in_place begun m) (λ m. m.len ≡ k)
size-in-place k true m h = h refl
size-in-place k false m h = tt

-- so with a tuple that is put in place of another
pub next-in-place : (k : ℕ) (test : List Value → Bool) (begun : Bool) (before : Match) (result : Bool) (after : Match) →
    (begun ≡ true → before.len ≡ k)
    → IsLeast k (λ t. test t && above (match_in_place begun before) k t) (match_in_place result after) →
    IsNext k test (tuple_in_place begun before) (tuple_in_place result after)
next-in-place k test begun before result after size least =
    subst (λ a. IsNext k test a (tuple_in_place result after)) (in-place begun before)
    (subst (λ r. IsNext k test (option_map tuple_of (match_in_place begun before)) r) (in-place result after)
    (next-least k test (match_in_place begun before) (match_in_place result after) (size-in-place k begun before size) least))

pub size-of-next : (k : ℕ) (c : List Value → Bool) (result : Bool) (m : Match) → IsLeast k c (match_in_place result m) → result ≡ true →
    m.len ≡ k
size-of-next k c result m least is = least-size k c (Some m) (subst (λ b. IsLeast k c (match_in_place b m)) is least)

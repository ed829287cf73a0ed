-- The tuples of a bound that come after a given one.
use Rattle.std.proofs.Common.{◌≡◌, ◌↔◌, ℕ, List, [], ◌∷◌, filter, cond, length, Bool, true, false, Option, Some, None, Less, Equal, Greater}
use Rattle.std.proofs.Common.{Ordering, refl, ap, ◌∙◌, subst}
use mathlib.Core.Path.{fun_ext}
use Rattle.std.specs.Ordering.{is_lt}
use Rattle.tl_syntax.specs.declared.bound.Bound.{Bound}
use Rattle.tl_syntax.specs.declared.bound.Bound.TheVariants as bound
use Rattle.tl_syntax.specs.declared.value.Value.{Value}
use Rattle.tl_syntax.specs.declared.variable.Var.{Var}
use Rattle.tl_syntax.specs.Assignment.{Assignment, bind}
use Rattle.tl_syntax.specs.BoundVariables.{OccurIn, DifferInSlot}
use Rattle.tl_syntax.specs.Lists.{Each, Rises}
use Rattle.tl_syntax.proofs.ListLaws.{Among-filter}
use Rattle.tl_terms.specs.Bounds.{bound_true, tuples}
use Rattle.tl_terms.specs.Definitions.{situation_of}
use Rattle.tl_terms.specs.Problem.{PlainProblem}
use Rattle.tl_terms.specs.Situation.{Situation}
use Rattle.tl_terms.specs.World.{World}
use Rattle.tl_match.specs.Next.{IsAfter, IsNext}
use Rattle.tl_rows.specs.Plain.{row_cmp}
use Rattle.tl_match.proofs.Finite.{rising-chain}
use Rattle.tl_eval.specs.Reading.{situation_read}
use Rattle.tl_eval.proofs.TupleChain.{Remains, remains-none, remains-some, chain-is, tuples-remain}

-- whether t comes after the tuple, where one is given
abbrev pub later : Option (List Value) → List Value → Bool
later None t = true
later (Some a) t = is_lt (row_cmp a t)

-- those of the list that do
abbrev pub rest_after : Option (List Value) → List (List Value) → List (List Value)
rest_after after ts = filter (later after) ts

lt-is : (o : Ordering) → (is_lt o ≡ true) ↔ (o ≡ Less)
lt-is Less = (λ h. refl, λ h. refl)
lt-is Equal = (λ h. absurd (let z : ⊥ = cc in z), λ h. absurd (let z : ⊥ = cc in z))
lt-is Greater = (λ h. absurd (let z : ⊥ = cc in z), λ h. absurd (let z : ⊥ = cc in z))

later-is : (after : Option (List Value)) (t : List Value) → (later after t ≡ true) ↔ IsAfter after t
later-is None t = (λ h. tt, λ h. refl)
later-is (Some a) t = lt-is (row_cmp a t)

pub all-after-none : (ts : List (List Value)) → ts ≡ rest_after None ts
all-after-none [] = refl
all-after-none (t ∷ ts) = ap (λ (xs : List (List Value)). t ∷ xs) (all-after-none ts)

module _ {A : Type 0} (R : A → A → Ordering) where
  each-kept : (P : A → Type 0) (p : A → Bool) (xs : List A) → Each P xs → Each P (filter p xs)
  each-kept P p [] h = tt
  each-kept P p (x ∷ xs) h = (elim (p x) as (λ b. Each P (cond b (x ∷ filter p xs) (filter p xs))) [
    | true ↦
        (h.0, each-kept P p xs h.1)
    | false ↦ each-kept P p xs h.1
  ])

  rises-kept : (p : A → Bool) (xs : List A) → Rises R xs → Rises R (filter p xs)
  rises-kept p [] h = tt
  rises-kept p (x ∷ xs) h = (elim (p x) as (λ b. Rises R (cond b (x ∷ filter p xs) (filter p xs))) [
    | true ↦
        (each-kept (λ y. R x y ≡ Less) p xs h.0, rises-kept p xs h.1)
    | false ↦ rises-kept p xs h.1
  ])

module _ (s : Situation) (e : Assignment) (ss : List Var) (b : Bound) (d : DifferInSlot ss) (o : OccurIn ss b) where
  abbrev passes : List Value → Bool
  passes t = bound_true s (bind ss t e) b

  rest-remains : (after : Option (List Value)) → Remains (length ss) passes after (rest_after after (tuples s e ss b))
  rest-remains after =
      let whole = tuples-remain s e ss b d o in
      record {
        rises = rises-kept row_cmp (later after) (tuples s e ss b) whole.rises;
        all = λ t. (
          λ m. let k = (Among-filter (later after) t (tuples s e ss b)).0 m in let l = (whole.all t).0 k.0 in
              (l.0, l.1, (later-is after t).0 k.1),
          λ l. (Among-filter (later after) t (tuples s e ss b)).1 ((whole.all t).1 (l.0, l.1, tt), (later-is after t).1 l.2),
        );
      }

  -- where there is no next tuple, there is no rest
  pub rest-none : (after : Option (List Value)) → IsNext (length ss) (λ t. bound_true s (bind ss t e) b) after None →
      rest_after after (tuples s e ss b) ≡ []
  rest-none after n = remains-none (length ss) passes after (rest_after after (tuples s e ss b)) (rest-remains after) n

  -- and else it is the first of the rest
  pub rest-some : (after : Option (List Value)) (t : List Value) → IsNext (length ss) (λ t. bound_true s (bind ss t e) b) after (Some t) →
      rest_after after (tuples s e ss b) ≡ t ∷ rest_after (Some t) (tuples s e ss b)
  rest-some after t n =
      let m = remains-some (length ss) passes after (rest_after after (tuples s e ss b)) t (rest-remains after) n in
      m.1.0 ∙ ap (λ (xs : List (List Value)). t ∷ xs) (chain-is (length ss) passes (Some t) m.0 (rest_after (Some t) (tuples s e ss b))
      (rising-chain (length ss) passes (Some t) m.0 m.1.1.rises m.1.1.all) (rest-remains (Some t)))

-- a bound does not see what definitions mean
bound-read : (p : PlainProblem) (w : World) (n k : ℕ) (e : Assignment) (b : Bound) → bound_true (situation_of p w) e b ≡
    bound_true (situation_read p w n k) e b
unfolding bound_true situation_of
bound-read p w n k e (bound.Fact c xs) = refl
bound-read p w n k e (bound.Place c xs x) = refl
bound-read p w n k e (bound.GoalFact c xs) = refl
bound-read p w n k e (bound.GoalPlace c xs x) = refl
bound-read p w n k e (bound.GoalNot c xs) = refl

pub next-read : (p : PlainProblem) (w : World) (n k : ℕ) (e : Assignment) (ss : List Var) (b : Bound) (after next : Option (List Value))
    → IsNext (length ss) (λ t. bound_true (situation_of p w) (bind ss t e) b) after next →
    IsNext (length ss) (λ t. bound_true (situation_read p w n k) (bind ss t e) b) after next
next-read p w n k e ss b after next h =
    subst (λ (test : List Value → Bool). IsNext (length ss) test after next) (fun_ext (λ t. bound-read p w n k (bind ss t e) b)) h

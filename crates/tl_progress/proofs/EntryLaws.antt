-- Entries of worlds: with one more, and the first of them alone.
use Rattle.std.proofs.Common.{◌≡◌, ◌≤◌, ◌<◌, ◌-◌, ◌&&◌, ℕ, zero, suc, List, [], ◌∷◌, Bool, true, false, cond, if◌then◌else◌, nat_eq}
use Rattle.std.proofs.Common.{eqb-true, None, Some, is_some, length, take, true≢false, refl, sym, ap, subst, ◌∙◌, arith}
use Rattle.indexmap.specs.IndexMap.{insert_entry}
use Rattle.tl_progress.specs.declared.residuals.Incoming.{Incoming}
use Rattle.tl_progress.specs.WorldsKept.{same_incoming, number_for, IsUpTo, IsBefore, NewestEnds}
use Rattle.tl_syntax.specs.Lists.{Each}

each-first : {A : Type 0} (P : A → Type 0) (n : ℕ) (xs : List A) → Each P xs → Each P (take n xs)
each-first P zero xs h = tt
each-first P (suc n) [] h = tt
each-first P (suc n) (x ∷ xs) h = (h.0, each-first P n xs h.1)

length-put : (es : List (Incoming × ℕ)) (q : Incoming) (x : ℕ) → length es ≤ length (insert_entry same_incoming es q x)
length-put [] q x = omega arith
length-put (e ∷ es) q x = elim (same_incoming q e.0) as (λ b. length (e ∷ es) ≤ length
    (if b then (e.0, x) ∷ es else e ∷ insert_entry same_incoming es q x)) [
      | true ↦ omega arith
      | false ↦ (let h = length-put es q x in omega (arith, h))
    ]

module _ (P : Incoming → Type 0) where
  each-put : (es : List (Incoming × ℕ)) (q : Incoming) (x : ℕ) → Each (λ e. P e.0) es → P q →
      Each (λ e. P e.0) (insert_entry same_incoming es q x)
  each-put [] q x h p = (p, tt)
  each-put (e ∷ es) q x h p = elim (same_incoming q e.0) as (λ b. Each (λ d. P d.0)
      (if b then (e.0, x) ∷ es else e ∷ insert_entry same_incoming es q x)) [
        | true ↦ (h.0, h.1)
        | false ↦ (h.0, each-put es q x h.1 p)
      ]

  first-put : (n : ℕ) (es : List (Incoming × ℕ)) (q : Incoming) (x : ℕ) → n ≤ length es → Each (λ e. P e.0) (take n es) →
      Each (λ e. P e.0) (take n (insert_entry same_incoming es q x))
  first-put zero es q x h k = tt
  first-put (suc n) [] q x h k = absurd (omega (arith, h))
  first-put (suc n) (e ∷ es) q x h k = elim (same_incoming q e.0) as (λ b.
      Each (λ d. P d.0) (take (suc n) (if b then (e.0, x) ∷ es else e ∷ insert_entry same_incoming es q x))) [
        | true ↦ (k.0, k.1)
        | false ↦ (k.0, first-put n es q x (omega (arith, h)) k.1)
      ]

before-after : (newest world : ℕ) → newest < world → (es : List (Incoming × ℕ)) → Each (IsUpTo newest) es → Each (IsBefore world) es
before-after newest world less [] h = tt
before-after newest world less (e ∷ es) h = (let k = h.0 in omega (arith, less, k), before-after newest world less es h.1)

up-to-one-less : (world : ℕ) (es : List (Incoming × ℕ)) → Each (IsBefore world) es → Each (IsUpTo (world - 1)) es
up-to-one-less world [] h = tt
up-to-one-less world (e ∷ es) h = (let k = h.0 in omega (arith, k), up-to-one-less world es h.1)

-- no entry
pub none-end : (newest : ℕ) (es : List (Incoming × ℕ)) → es ≡ [] → NewestEnds newest 0 es
none-end newest es e = subst (NewestEnds newest 0) (sym e) (record { within = omega arith; known = tt; before = tt })

-- a newer world
pub newer-ends : (newest begins world : ℕ) (es : List (Incoming × ℕ)) → newest < world → NewestEnds newest begins es →
    NewestEnds world (length es) es
newer-ends newest begins world es less ends =
    let before = before-after newest world less es ends.known in
    record { within = omega arith; known = each-le world es before; before = each-first (IsBefore world) (length es) es before }
  where
    each-le : (m : ℕ) (ds : List (Incoming × ℕ)) → Each (IsBefore m) ds → Each (IsUpTo m) ds
    each-le m [] h = tt
    each-le m (d ∷ ds) h = (let k = h.0 in omega (arith, k), each-le m ds h.1)

-- one more entry, of no world after the newest
pub one-more-ends : (newest begins : ℕ) (es : List (Incoming × ℕ)) (q : Incoming) (x : ℕ) → q.world ≤ newest → NewestEnds newest begins es →
    NewestEnds newest begins (insert_entry same_incoming es q x)
one-more-ends newest begins es q x less ends =
    let longer = length-put es q x in
    let within = ends.within in
    record {
      within = omega (arith, longer, within);
      known = each-put (λ i. i.world ≤ newest) es q x ends.known less;
      before =
          first-put (λ i. i.world < newest) begins es q x ends.within ends.before;
    }

-- what came before the newest world
pub first-ends : (newest begins : ℕ) (es : List (Incoming × ℕ)) → NewestEnds newest begins es → NewestEnds (newest - 1) 0 (take begins es)
first-ends newest begins es ends = record { within = omega arith; known = up-to-one-less newest (take begins es) ends.before; before = tt }

-- nothing is kept of a world that no entry is of
pub none-before : (world k : ℕ) (es : List (Incoming × ℕ)) → Each (IsBefore world) es →
    number_for es (record { world = world; formula = k }) ≡ None
none-before world k [] h = refl
none-before world k (e ∷ es) h = ap (λ (b : Bool). cond (b && nat_eq k e.0.formula) (Some e.1)
    (number_for es (record { world = world; formula = k }))) (differs (nat_eq world e.0.world) refl) ∙ none-before world k es h.1
  where
    differs : (b : Bool) → nat_eq world e.0.world ≡ b → b ≡ false
    differs true same = (let less = h.0 in let equal = eqb-true world e.0.world same in absurd (omega (arith, less, equal)))
    differs false same = refl

pub none-after : (newest world : ℕ) → newest < world → (k : ℕ) (es : List (Incoming × ℕ)) → Each (IsUpTo newest) es →
    number_for es (record { world = world; formula = k }) ≡ None
none-after newest world less k es h = none-before world k es (before-after newest world less es h)

-- what the first entries have for what comes in, all have
pub fewer-first : (n : ℕ) (es : List (Incoming × ℕ)) (q : Incoming) (i : ℕ) → number_for (take n es) q ≡ Some i → number_for es q ≡ Some i
fewer-first zero es q i h = absurd (true≢false (sym (ap is_some h)))
fewer-first (suc n) [] q i h = h
fewer-first (suc n) (e ∷ es) q i h = (elim (same_incoming q e.0) as (λ b. cond b (Some e.1) (number_for (take n es) q) ≡ Some i →
    cond b (Some e.1) (number_for es q) ≡ Some i) [
      | true ↦ λ k. k
      | false ↦ λ k. fewer-first n es q i k
    ]) h

-- and no entries have nothing
pub fewer-none : (es ds : List (Incoming × ℕ)) → ds ≡ [] → (q : Incoming) (i : ℕ) → number_for ds q ≡ Some i → number_for es q ≡ Some i
fewer-none es ds e q i h = absurd (true≢false (sym (ap is_some (sym (ap (λ (xs : List (Incoming × ℕ)). number_for xs q) e) ∙ h))))

-- The progression lemma, over every infinite sequence of worlds.
use Rattle.std.proofs.Common.{◌≡◌, ℕ, zero, suc, ◌≤◌, ◌⊎◌, ◌↔◌, List, [], ◌∷◌, map, Bool, true, false, true≢false, refl, sym, subst, inl}
use Rattle.std.proofs.Common.{inr, arith}
use native.Mathlib.Decide.{dec_lt}
use Rattle.tl_syntax.specs.Assignment.{Assignment, no_values, bind}
use Rattle.tl_terms.specs.Bounds.{tuples}
use Rattle.tl_syntax.specs.Lists.{Each, AtLeastOne}
use Rattle.tl_terms.specs.Progression.{constant, progressed, progressed_all}
use Rattle.tl_terms.specs.Run.{Situations, Holds, HoldAll, HoldsOne}
use Rattle.tl_terms.specs.Simplification.{simplified_and, simplified_or}
use Rattle.tl_syntax.specs.Substitution.{substituted}
use Rattle.tl_syntax.specs.Trees.{FormulaTree, verum, falsum, atom, defined, compare, goal_fact, goal_place, goal_not, negation}
use Rattle.tl_syntax.specs.Trees.{conjunction, disjunction, for_all, for_some, next, always, eventually, until, within, during}
use Rattle.tl_syntax.specs.Trees.{FormulaTrees, no_formula, more_formulas}
use Rattle.tl_terms.specs.Truth.{state_true}
use Rattle.tl_terms.proofs.FailTogether.{FailTogether, fail-both, fail-and, fail-or, fail-each, fail-one}
use Rattle.tl_terms.proofs.SubstitutedHolds.{Holds-substituted-no_values}
use Rattle.tl_syntax.proofs.ListLaws.{iff-trans, iff-sym, Each-over, One-over}
use Rattle.tl_terms.proofs.Simplification.{simplified_and-holds, simplified_or-holds, simplified_not-fails}
use Rattle.tl_syntax.specs.declared.value.Value.{Value}

split : (i j : ℕ) → i ≤ j → (i ≡ j) ⊎ (suc i ≤ j)
split i j q = elim (dec_lt i j) [ yes h ↦ inr h | no h ↦ inl (omega arith) ]

-- ---- what a temporal word says here and from the next position on

module _ (r : Situations) (e : Assignment) (i : ℕ) where
  always-here : (f : FormulaTree) → Holds r e (always f) i ↔ (Holds r e f i × Holds r e (always f) (suc i))
  unfolding Holds
  always-here f = (
    λ h. (h i (omega arith), λ j q. h j (omega arith)),
    λ k j q. elim (split i j q) [ inl same ↦ subst (Holds r e f) same k.0 | inr later ↦ k.1 j later ],
  )

  eventually-here : (f : FormulaTree) → Holds r e (eventually f) i ↔ (Holds r e f i ⊎ Holds r e (eventually f) (suc i))
  unfolding Holds
  eventually-here f = (
    λ h. elim (split i h.0 h.1) [ inl same ↦ inl (subst (Holds r e f) (sym same) h.2) | inr later ↦ inr (h.0, later, h.2) ],
    elim [ inl k ↦ (i, omega arith, k) | inr w ↦ (w.0, omega arith, w.2) ],
  )

  until-here : (f g : FormulaTree) → Holds r e (until f g) i ↔ (Holds r e g i ⊎ (Holds r e f i × Holds r e (until f g) (suc i)))
  unfolding Holds
  until-here f g = (
    λ h. elim (split i h.0 h.1) [
      | inl same ↦ inl (subst (Holds r e g) (sym same) h.2)
      | inr later ↦ inr (h.3 i (omega arith) later, (h.0, later, h.2, λ k p q. h.3 k (omega arith) q))
    ],
    elim [
      | inl k ↦ (i, omega arith, k, λ m p q. absurd (omega arith))
      | inr w ↦ (
        w.1.0,
        omega arith,
        w.1.2,
        λ m p q. elim (split i m p)
            [ inl same ↦ subst (Holds r e f) same w.0 | inr later ↦ w.1.3 m later q ],
      )
    ],
  )

  within-here : (n : ℕ) (f : FormulaTree) → Holds r e (within (suc n) f) i ↔ (Holds r e f i ⊎ Holds r e (within n f) (suc i))
  unfolding Holds
  within-here n f = (
    λ h. elim (split i h.0 h.1) [ inl same ↦ inl (subst (Holds r e f) (sym same) h.3) | inr later ↦ inr (h.0, later, omega arith, h.3) ],
    elim [ inl k ↦ (i, omega arith, omega arith, k) | inr w ↦ (w.0, omega arith, omega arith, w.3) ],
  )

  within-none : (f : FormulaTree) → Holds r e (within zero f) i ↔ Holds r e f i
  unfolding Holds
  within-none f = (λ h. subst (Holds r e f) (let q : h.0 ≡ i = omega arith in q) h.3, λ k. (i, omega arith, omega arith, k))

  during-here : (n : ℕ) (f : FormulaTree) → Holds r e (during (suc n) f) i ↔ (Holds r e f i × Holds r e (during n f) (suc i))
  unfolding Holds
  during-here n f = (
    λ h. (h i (omega arith) (omega arith), λ j p q. h j (omega arith) (omega arith)),
    λ k j p q. elim (split i j p) [ inl same ↦ subst (Holds r e f) same k.0 | inr later ↦ k.1 j later (omega arith) ],
  )

  during-none : (f : FormulaTree) → Holds r e (during zero f) i ↔ Holds r e f i
  unfolding Holds
  during-none f = (λ h. h i (omega arith) (omega arith), λ k j p q. subst (Holds r e f) (let m : i ≡ j = omega arith in m) k)

-- ---- the lemma

module _ (r : Situations) (i : ℕ) where
  abbrev After : FormulaTree → Type 0
  After g = Holds r no_values g (suc i)

  basic : (b : Bool) → FailTogether (b ≡ true) (After (constant b))
  unfolding Holds
  basic true = (λ n _. n refl, λ n _. n tt)
  basic false = (λ n h. h, λ n h. true≢false (sym h))

  -- two parts that fail together with two formulas, and their conjunction
  and-row : {A P Q : Type 0} (g h : FormulaTree) → A ↔ (P × Q) → FailTogether P (After g) → FailTogether Q (After h)
      → FailTogether A (After (simplified_and (g ∷ h ∷ [])))
  and-row g h a p q = iff-trans (fail-both a) (iff-trans (fail-and p q) (fail-both (
    λ w. (simplified_and-holds r no_values (suc i) (g ∷ h ∷ [])).1 (w.0, (w.1, tt)),
    λ k. let w = (simplified_and-holds r no_values (suc i) (g ∷ h ∷ [])).0 k in (w.0, w.1.0),
  )))

  -- the same of a disjunction
  or-row : {A P Q : Type 0} (g h : FormulaTree) → A ↔ (P ⊎ Q) → FailTogether P (After g) → FailTogether Q (After h)
      → FailTogether A (After (simplified_or (g ∷ h ∷ [])))
  or-row g h a p q = iff-trans (fail-both a) (iff-trans (fail-or p q) (fail-both (
    λ w. (simplified_or-holds r no_values (suc i) (g ∷ h ∷ [])).1 (elim w [ inl k ↦ inl k | inr m ↦ inr (inl m) ]),
    λ k. elim ((simplified_or-holds r no_values (suc i) (g ∷ h ∷ [])).0 k) [ inl m ↦ inl m | inr (inl m) ↦ inr m | inr (inr m) ↦ absurd m ],
  )))

  -- what has to hold from the next position on, with the values put in
  after : (e : Assignment) (f : FormulaTree) → FailTogether (Holds r e f (suc i)) (After (substituted e f))
  after e f = fail-both (iff-sym (Holds-substituted-no_values r e f (suc i)))

  mutual
    unfolding progressed Holds

    pub progression : (e : Assignment) (f : FormulaTree) → FailTogether (Holds r e f i) (After (progressed (r i) e f))
    progression e verum = (λ n. n, λ n. n)
    progression e falsum = (λ n. n, λ n. n)
    progression e (atom p ts) = basic (state_true (r i) e (atom p ts))
    progression e (defined p ts) = basic (state_true (r i) e (defined p ts))
    progression e (compare c x y) = basic (state_true (r i) e (compare c x y))
    progression e (goal_fact p xs) = basic (state_true (r i) e (goal_fact p xs))
    progression e (goal_place k xs x) = basic (state_true (r i) e (goal_place k xs x))
    progression e (goal_not p xs) = basic (state_true (r i) e (goal_not p xs))
    progression e (negation f) =
        iff-trans (fail-both (progression e f)) (iff-sym (simplified_not-fails r no_values (suc i) (progressed (r i) e f)))
    progression e (conjunction fs) =
        iff-trans (progression_all e fs) (fail-both (iff-sym (simplified_and-holds r no_values (suc i) (progressed_all (r i) e fs))))
    progression e (disjunction fs) =
        iff-trans (progression_one e fs) (fail-both (iff-sym (simplified_or-holds r no_values (suc i) (progressed_all (r i) e fs))))
    progression e (for_all ss b f) =
        let ts : List (List Value) = tuples (r i) e ss b in
        iff-trans (fail-each (λ t. progression (bind ss t e) f) ts)
        (fail-both (iff-trans (iff-sym (Each-over After (λ t. progressed (r i) (bind ss t e) f) ts))
        (iff-sym (simplified_and-holds r no_values (suc i) (map (λ t. progressed (r i) (bind ss t e) f) ts)))))
    progression e (for_some ss b f) =
        let ts : List (List Value) = tuples (r i) e ss b in
        iff-trans (fail-one (λ t. progression (bind ss t e) f) ts)
        (fail-both (iff-trans (iff-sym (One-over After (λ t. progressed (r i) (bind ss t e) f) ts))
        (iff-sym (simplified_or-holds r no_values (suc i) (map (λ t. progressed (r i) (bind ss t e) f) ts)))))
    progression e (next f) = after e f
    progression e (always f) =
        and-row (progressed (r i) e f) (substituted e (always f)) (always-here r e i f) (progression e f) (after e (always f))
    progression e (eventually f) =
        or-row (progressed (r i) e f) (substituted e (eventually f)) (eventually-here r e i f) (progression e f) (after e (eventually f))
    progression e (until f g) =
        let later : FormulaTree = simplified_and (progressed (r i) e f ∷ substituted e (until f g) ∷ []) in
        or-row (progressed (r i) e g) later (until-here r e i f g) (progression e g)
        (and-row (progressed (r i) e f) (substituted e (until f g)) (λ w. w, λ w. w) (progression e f) (after e (until f g)))
    progression e (within zero f) = iff-trans (fail-both (within-none r e i f)) (progression e f)
    progression e (within (suc n) f) =
        or-row (progressed (r i) e f) (substituted e (within n f)) (within-here r e i n f) (progression e f) (after e (within n f))
    progression e (during zero f) = iff-trans (fail-both (during-none r e i f)) (progression e f)
    progression e (during (suc n) f) =
        and-row (progressed (r i) e f) (substituted e (during n f)) (during-here r e i n f) (progression e f) (after e (during n f))

    progression_all : (e : Assignment) (fs : FormulaTrees) → FailTogether (HoldAll r e fs i) (Each After (progressed_all (r i) e fs))
    progression_all e no_formula = (λ n. n, λ n. n)
    progression_all e (more_formulas f fs) = fail-and (progression e f) (progression_all e fs)

    progression_one : (e : Assignment) (fs : FormulaTrees) → FailTogether (HoldsOne r e fs i) (AtLeastOne After (progressed_all (r i) e fs))
    progression_one e no_formula = (λ n. n, λ n. n)
    progression_one e (more_formulas f fs) = fail-or (progression e f) (progression_one e fs)

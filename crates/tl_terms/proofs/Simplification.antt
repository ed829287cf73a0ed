-- What simplified_and, simplified_or and simplified_not make holds where the conjunction, the disjunction and the negation do.
use Rattle.std.proofs.Common.{◌≡◌, ℕ, ◌⊎◌, ◌↔◌, List, [], ◌∷◌, flat_map, filter, true, false, cond, not, true≢false, refl, sym, subst, inl}
use Rattle.std.proofs.Common.{inr}
use Rattle.std.specs.List.{list_any}
use Rattle.tl_syntax.specs.Assignment.{Assignment}
use Rattle.tl_syntax.specs.Lists.{Each, AtLeastOne}
use Rattle.tl_terms.specs.Run.{Situations, Holds, HoldAll, HoldsOne}
use Rattle.tl_syntax.proofs.Same.{formula_discrete}
use Rattle.tl_terms.specs.Simplification.{is_yes, same_formula, and_parts, and_parts_all, or_parts, or_parts_all, is_verum, is_falsum}
use Rattle.tl_terms.specs.Simplification.{without_repeats, conjunction_of, disjunction_of, simplified_and, simplified_or, simplified_not}
use Rattle.tl_syntax.specs.Trees.{FormulaTree, verum, falsum, atom, defined, compare, goal_fact, goal_place, goal_not, negation}
use Rattle.tl_syntax.specs.Trees.{conjunction, disjunction, for_all, for_some, next, always, eventually, until, within, during}
use Rattle.tl_syntax.specs.Trees.{FormulaTrees, no_formula, more_formulas, formulas_of_list}
use Rattle.tl_terms.proofs.FailTogether.{FailTogether}
use Rattle.tl_syntax.proofs.ListLaws.{Each-append, One-append, Each-drop, One-drop, Each-refuted, One-certain, One-filter, One-split}

-- a formula that is tested equal is the same_formula
pub same_formula-is : (f g : FormulaTree) → same_formula f g ≡ true → f ≡ g
unfolding same_formula
same_formula-is f g h = (elim (formula_discrete f g) as (λ d. is_yes d ≡ true → f ≡ g)
    [ yes e ↦ λ _. e | no n ↦ λ k. absurd (true≢false (sym k)) ]) h

lone : (A : Type 0) → (A ⊎ ⊥) ↔ A
lone A = (elim [ inl h ↦ h | inr b ↦ absurd b ], λ h. inl h)

module _ (P : FormulaTree → Type 0) where
  pub Each-without_repeats : (fs : List FormulaTree) → Each P (without_repeats fs) ↔ Each P fs
  unfolding without_repeats
  Each-without_repeats [] = (λ h. h, λ h. h)
  Each-without_repeats (f ∷ fs) = (
    λ h. (
      h.0,
      (Each-without_repeats fs).0 ((Each-drop P (same_formula f) (λ g e. subst P (same_formula-is f g e) h.0)
          (without_repeats fs)).0 h.1),
    ),
    λ h. (
      h.0,
      (Each-drop P (same_formula f) (λ g e. subst P (same_formula-is f g e) h.0) (without_repeats fs)).1
          ((Each-without_repeats fs).1 h.1),
    ),
  )

  pub One-without_repeats : (fs : List FormulaTree) → AtLeastOne P (without_repeats fs) ↔ AtLeastOne P fs
  unfolding without_repeats
  One-without_repeats [] = (λ h. h, λ h. h)
  One-without_repeats (f ∷ fs) = (
    elim [ inl h ↦ inl h | inr k ↦ inr ((One-without_repeats fs).0 (One-filter P (λ g. not (same_formula f g)) (without_repeats fs) k)) ],
    elim [
      | inl h ↦ inl h
      | inr k ↦ elim (One-split P (same_formula f) (without_repeats fs) ((One-without_repeats fs).1 k))
          [ inl w ↦ inl (subst P (sym (same_formula-is f w.0 w.1.0)) w.1.1) | inr m ↦ inr m ]
    ],
  )

module _ (r : Situations) (e : Assignment) (i : ℕ) where
  -- the parts of a conjunction all hold where it does
  mutual
    unfolding and_parts Holds

    pub and_parts-Each : (f : FormulaTree) → Each (λ g. Holds r e g i) (and_parts f) ↔ Holds r e f i
    and_parts-Each (conjunction fs) = and_parts_all-Each fs
    and_parts-Each verum = (λ h. h.0, λ h. (h, tt))
    and_parts-Each falsum = (λ h. h.0, λ h. (h, tt))
    and_parts-Each (atom p ts) = (λ h. h.0, λ h. (h, tt))
    and_parts-Each (defined p ts) = (λ h. h.0, λ h. (h, tt))
    and_parts-Each (compare c x y) = (λ h. h.0, λ h. (h, tt))
    and_parts-Each (goal_fact p xs) = (λ h. h.0, λ h. (h, tt))
    and_parts-Each (goal_place k xs x) = (λ h. h.0, λ h. (h, tt))
    and_parts-Each (goal_not p xs) = (λ h. h.0, λ h. (h, tt))
    and_parts-Each (negation f) = (λ h. h.0, λ h. (h, tt))
    and_parts-Each (disjunction fs) = (λ h. h.0, λ h. (h, tt))
    and_parts-Each (for_all ss b f) = (λ h. h.0, λ h. (h, tt))
    and_parts-Each (for_some ss b f) = (λ h. h.0, λ h. (h, tt))
    and_parts-Each (next f) = (λ h. h.0, λ h. (h, tt))
    and_parts-Each (always f) = (λ h. h.0, λ h. (h, tt))
    and_parts-Each (eventually f) = (λ h. h.0, λ h. (h, tt))
    and_parts-Each (until f g) = (λ h. h.0, λ h. (h, tt))
    and_parts-Each (within n f) = (λ h. h.0, λ h. (h, tt))
    and_parts-Each (during n f) = (λ h. h.0, λ h. (h, tt))

    pub and_parts_all-Each : (fs : FormulaTrees) → Each (λ g. Holds r e g i) (and_parts_all fs) ↔ HoldAll r e fs i
    and_parts_all-Each no_formula = (λ h. h, λ h. h)
    and_parts_all-Each (more_formulas f fs) = (
      λ h. let k = (Each-append (λ g. Holds r e g i) (and_parts f) (and_parts_all fs)).0 h in
          ((and_parts-Each f).0 k.0, (and_parts_all-Each fs).0 k.1),
      λ h. (Each-append (λ g. Holds r e g i) (and_parts f) (and_parts_all fs)).1 ((and_parts-Each f).1 h.0, (and_parts_all-Each fs).1 h.1),
    )

  mutual
    unfolding or_parts Holds

    pub or_parts-One : (f : FormulaTree) → AtLeastOne (λ g. Holds r e g i) (or_parts f) ↔ Holds r e f i
    or_parts-One (disjunction fs) = or_parts_all-One fs
    or_parts-One verum = lone (Holds r e verum i)
    or_parts-One falsum = lone (Holds r e falsum i)
    or_parts-One (atom p ts) = lone (Holds r e (atom p ts) i)
    or_parts-One (defined p ts) = lone (Holds r e (defined p ts) i)
    or_parts-One (compare c x y) = lone (Holds r e (compare c x y) i)
    or_parts-One (goal_fact p xs) = lone (Holds r e (goal_fact p xs) i)
    or_parts-One (goal_place k xs x) = lone (Holds r e (goal_place k xs x) i)
    or_parts-One (goal_not p xs) = lone (Holds r e (goal_not p xs) i)
    or_parts-One (negation f) = lone (Holds r e (negation f) i)
    or_parts-One (conjunction fs) = lone (Holds r e (conjunction fs) i)
    or_parts-One (for_all ss b f) = lone (Holds r e (for_all ss b f) i)
    or_parts-One (for_some ss b f) = lone (Holds r e (for_some ss b f) i)
    or_parts-One (next f) = lone (Holds r e (next f) i)
    or_parts-One (always f) = lone (Holds r e (always f) i)
    or_parts-One (eventually f) = lone (Holds r e (eventually f) i)
    or_parts-One (until f g) = lone (Holds r e (until f g) i)
    or_parts-One (within n f) = lone (Holds r e (within n f) i)
    or_parts-One (during n f) = lone (Holds r e (during n f) i)

    pub or_parts_all-One : (fs : FormulaTrees) → AtLeastOne (λ g. Holds r e g i) (or_parts_all fs) ↔ HoldsOne r e fs i
    or_parts_all-One no_formula = (λ h. h, λ h. h)
    or_parts_all-One (more_formulas f fs) = (
      λ h. elim ((One-append (λ g. Holds r e g i) (or_parts f) (or_parts_all fs)).0 h)
          [ inl k ↦ inl ((or_parts-One f).0 k) | inr k ↦ inr ((or_parts_all-One fs).0 k) ],
      λ h. (One-append (λ g. Holds r e g i) (or_parts f) (or_parts_all fs)).1
          (elim h [ inl k ↦ inl ((or_parts-One f).1 k) | inr k ↦ inr ((or_parts_all-One fs).1 k) ]),
    )

  abbrev N : FormulaTree → Type 0
  N g = Holds r e g i

  flat-Each : (fs : List FormulaTree) → Each N (flat_map and_parts fs) ↔ Each N fs
  flat-Each [] = (λ h. h, λ h. h)
  flat-Each (f ∷ fs) = (
    λ h. let k = (Each-append N (and_parts f) (flat_map and_parts fs)).0 h in ((and_parts-Each f).0 k.0, (flat-Each fs).0 k.1),
    λ h. (Each-append N (and_parts f) (flat_map and_parts fs)).1 ((and_parts-Each f).1 h.0, (flat-Each fs).1 h.1),
  )

  flat-One : (fs : List FormulaTree) → AtLeastOne N (flat_map or_parts fs) ↔ AtLeastOne N fs
  flat-One [] = (λ h. h, λ h. h)
  flat-One (f ∷ fs) = (
    λ h. elim ((One-append N (or_parts f) (flat_map or_parts fs)).0 h)
        [ inl k ↦ inl ((or_parts-One f).0 k) | inr k ↦ inr ((flat-One fs).0 k) ],
    λ h. (One-append N (or_parts f) (flat_map or_parts fs)).1 (elim h [
      | inl k ↦ inl ((or_parts-One f).1 k)
      | inr k ↦ inr
          ((flat-One fs).1 k)
    ]),
  )

  pub formulas_of_list-All : (fs : List FormulaTree) → HoldAll r e (formulas_of_list fs) i ↔ Each N fs
  unfolding Holds
  formulas_of_list-All [] = (λ h. h, λ h. h)
  formulas_of_list-All (f ∷ fs) = (λ h. (h.0, (formulas_of_list-All fs).0 h.1), λ h. (h.0, (formulas_of_list-All fs).1 h.1))

  pub formulas_of_list-One : (fs : List FormulaTree) → HoldsOne r e (formulas_of_list fs) i ↔ AtLeastOne N fs
  unfolding Holds
  formulas_of_list-One [] = (λ h. h, λ h. h)
  formulas_of_list-One (f ∷ fs) = (
    elim [ inl h ↦ inl h | inr k ↦ inr ((formulas_of_list-One fs).0 k) ],
    elim [ inl h ↦ inl h | inr k ↦ inr ((formulas_of_list-One fs).1 k) ],
  )

  conjunction_of-holds : (fs : List FormulaTree) → N (conjunction_of fs) ↔ Each N fs
  unfolding Holds
  conjunction_of-holds [] = (λ h. h, λ h. h)
  conjunction_of-holds (f ∷ []) = (λ h. (h, tt), λ h. h.0)
  conjunction_of-holds (f ∷ (g ∷ fs)) = formulas_of_list-All (f ∷ (g ∷ fs))

  disjunction_of-holds : (fs : List FormulaTree) → N (disjunction_of fs) ↔ AtLeastOne N fs
  unfolding Holds
  disjunction_of-holds [] = (λ h. h, λ h. h)
  disjunction_of-holds (f ∷ []) = ((lone (N f)).1, (lone (N f)).0)
  disjunction_of-holds (f ∷ (g ∷ fs)) = formulas_of_list-One (f ∷ (g ∷ fs))

  verum-holds : (f : FormulaTree) → is_verum f ≡ true → N f
  unfolding Holds
  verum-holds verum h = tt
  verum-holds f h = absurd (true≢false (sym h))

  falsum-fails : (f : FormulaTree) → is_falsum f ≡ true → N f → ⊥
  unfolding Holds
  falsum-fails falsum h k = k
  falsum-fails f h k = absurd (true≢false (sym h))

  pub simplified_and-holds : (fs : List FormulaTree) → N (simplified_and fs) ↔ Each N fs
  unfolding simplified_and Holds
  simplified_and-holds fs = let ps : List FormulaTree = flat_map and_parts fs in
      (elim (list_any is_falsum ps) as (λ b. list_any is_falsum ps ≡ b →
      N (cond b falsum (conjunction_of (without_repeats (filter (λ f. not (is_verum f)) ps)))) ↔ Each N fs) [
        | true ↦ λ q. (λ h. absurd h, λ h. Each-refuted N is_falsum falsum-fails ps q ((flat-Each fs).1 h))
        | false ↦ λ q. (
          λ h. (flat-Each fs).0 ((Each-drop N is_verum verum-holds ps).0
              ((Each-without_repeats N (filter (λ f. not (is_verum f)) ps)).0
              ((conjunction_of-holds (without_repeats (filter (λ f. not (is_verum f)) ps))).0 h))),
          λ h. (conjunction_of-holds (without_repeats (filter (λ f. not (is_verum f)) ps))).1
              ((Each-without_repeats N (filter (λ f. not (is_verum f)) ps)).1
              ((Each-drop N is_verum verum-holds ps).1 ((flat-Each fs).1 h))),
        )
      ]) refl

  pub simplified_or-holds : (fs : List FormulaTree) → N (simplified_or fs) ↔ AtLeastOne N fs
  unfolding simplified_or Holds
  simplified_or-holds fs = let ps : List FormulaTree = flat_map or_parts fs in
      (elim (list_any is_verum ps) as (λ b. list_any is_verum ps ≡ b →
      N (cond b verum (disjunction_of (without_repeats (filter (λ f. not (is_falsum f)) ps)))) ↔ AtLeastOne N fs) [
        | true ↦ λ q. (λ h. (flat-One fs).0 (One-certain N is_verum verum-holds ps q), λ h. tt)
        | false ↦ λ q. (
          λ h. (flat-One fs).0 ((One-drop N is_falsum falsum-fails ps).0
              ((One-without_repeats N (filter (λ f. not (is_falsum f)) ps)).0
              ((disjunction_of-holds (without_repeats (filter (λ f. not (is_falsum f)) ps))).0 h))),
          λ h. (disjunction_of-holds (without_repeats (filter (λ f. not (is_falsum f)) ps))).1
              ((One-without_repeats N (filter (λ f. not (is_falsum f)) ps)).1
              ((One-drop N is_falsum falsum-fails ps).1 ((flat-One fs).1 h))),
        )
      ]) refl

  -- it fails exactly where the negation does
  pub simplified_not-fails : (f : FormulaTree) → FailTogether (N (simplified_not f)) (N f → ⊥)
  unfolding simplified_not Holds
  simplified_not-fails verum = (λ n k. k tt, λ n h. h)
  simplified_not-fails falsum = (λ n k. n tt, λ n h. n (λ b. b))
  simplified_not-fails (negation g) = (λ n k. k n, λ n h. n (λ k. k h))
  simplified_not-fails (atom p ts) = (λ n. n, λ n. n)
  simplified_not-fails (defined p ts) = (λ n. n, λ n. n)
  simplified_not-fails (compare c x y) = (λ n. n, λ n. n)
  simplified_not-fails (goal_fact p xs) = (λ n. n, λ n. n)
  simplified_not-fails (goal_place k xs x) = (λ n. n, λ n. n)
  simplified_not-fails (goal_not p xs) = (λ n. n, λ n. n)
  simplified_not-fails (conjunction fs) = (λ n. n, λ n. n)
  simplified_not-fails (disjunction fs) = (λ n. n, λ n. n)
  simplified_not-fails (for_all ss b f) = (λ n. n, λ n. n)
  simplified_not-fails (for_some ss b f) = (λ n. n, λ n. n)
  simplified_not-fails (next f) = (λ n. n, λ n. n)
  simplified_not-fails (always f) = (λ n. n, λ n. n)
  simplified_not-fails (eventually f) = (λ n. n, λ n. n)
  simplified_not-fails (until f g) = (λ n. n, λ n. n)
  simplified_not-fails (within n f) = (λ n. n, λ n. n)
  simplified_not-fails (during n f) = (λ n. n, λ n. n)

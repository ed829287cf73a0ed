-- What the simplified words keep.
use Rattle.std.proofs.Common.{List, [], ◌∷◌, map, flat_map, filter, Bool, true, false, cond, not, inl, inr, refl}
use Rattle.std.specs.List.{list_any}
use Rattle.tl_syntax.specs.Lists.{Each, Among}
use Rattle.tl_syntax.specs.Trees.{FormulaTree, FormulaTrees, verum, falsum, negation, conjunction, disjunction, no_formula, more_formulas}
use Rattle.tl_syntax.specs.Trees.{formulas_of_list}
use Rattle.tl_syntax.proofs.ListLaws.{Each-append}
use Rattle.tl_terms.specs.Progression.{constant}
use Rattle.tl_terms.specs.Simplification.{and_parts, and_parts_all, or_parts, or_parts_all, is_verum, is_falsum, without_repeats}
use Rattle.tl_terms.specs.Simplification.{conjunction_of, disjunction_of, simplified_and, simplified_or, simplified_not}
use Rattle.tl_terms.proofs.Simplification.{Each-without_repeats}

-- each formula of the list
abbrev pub EachOf : (FormulaTree → Type 0) → FormulaTrees → Type 0
EachOf P no_formula = Unit {0}
EachOf P (more_formulas f fs) = P f × EachOf P fs

-- a property of constants, and of a conjunction, a disjunction or a negation exactly where its parts have it
pub record GoesByParts (P : FormulaTree → Type 0) : Type 0 where
  pub truth : P verum
  pub falsehood : P falsum
  pub of_and : (fs : FormulaTrees) → P (conjunction fs) → EachOf P fs
  pub and_of : (fs : FormulaTrees) → EachOf P fs → P (conjunction fs)
  pub of_or : (fs : FormulaTrees) → P (disjunction fs) → EachOf P fs
  pub or_of : (fs : FormulaTrees) → EachOf P fs → P (disjunction fs)
  pub of_not : (f : FormulaTree) → P (negation f) → P f
  pub not_of : (f : FormulaTree) → P f → P (negation f)

module _ (P : FormulaTree → Type 0) (by : GoesByParts P) where
  mutual
    unfolding and_parts

    and-parts : (f : FormulaTree) → P f → Each P (and_parts f)
    and-parts (conjunction fs) h = all-and-parts fs (by.of_and fs h)
    and-parts f h = (h, tt)

    all-and-parts : (fs : FormulaTrees) → EachOf P fs → Each P (and_parts_all fs)
    all-and-parts no_formula h = tt
    all-and-parts (more_formulas f fs) h = (Each-append P (and_parts f) (and_parts_all fs)).1 (and-parts f h.0, all-and-parts fs h.1)

  mutual
    unfolding or_parts

    or-parts : (f : FormulaTree) → P f → Each P (or_parts f)
    or-parts (disjunction fs) h = all-or-parts fs (by.of_or fs h)
    or-parts f h = (h, tt)

    all-or-parts : (fs : FormulaTrees) → EachOf P fs → Each P (or_parts_all fs)
    all-or-parts no_formula h = tt
    all-or-parts (more_formulas f fs) h = (Each-append P (or_parts f) (or_parts_all fs)).1 (or-parts f h.0, all-or-parts fs h.1)

  each-flat : (parts : FormulaTree → List FormulaTree) → ((f : FormulaTree) → P f → Each P (parts f)) → (fs : List FormulaTree) →
      Each P fs → Each P (flat_map parts fs)
  each-flat parts k [] h = tt
  each-flat parts k (f ∷ fs) h = (Each-append P (parts f) (flat_map parts fs)).1 (k f h.0, each-flat parts k fs h.1)

  each-filter : (p : FormulaTree → Bool) (fs : List FormulaTree) → Each P fs → Each P (filter p fs)
  each-filter p [] h = tt
  each-filter p (f ∷ fs) h = (elim (p f) as (λ b. Each P (cond b (f ∷ filter p fs) (filter p fs)))
      [ true ↦ (h.0, each-filter p fs h.1) | false ↦ each-filter p fs h.1 ])

  each-of-list : (fs : List FormulaTree) → Each P fs → EachOf P (formulas_of_list fs)
  each-of-list [] h = tt
  each-of-list (f ∷ fs) h = (h.0, each-of-list fs h.1)

  of-conjunction : (fs : List FormulaTree) → Each P fs → P (conjunction_of fs)
  of-conjunction [] h = by.truth
  of-conjunction (f ∷ []) h = h.0
  of-conjunction (f ∷ (g ∷ fs)) h = by.and_of (more_formulas f (more_formulas g (formulas_of_list fs))) (each-of-list (f ∷ g ∷ fs) h)

  of-disjunction : (fs : List FormulaTree) → Each P fs → P (disjunction_of fs)
  of-disjunction [] h = by.falsehood
  of-disjunction (f ∷ []) h = h.0
  of-disjunction (f ∷ (g ∷ fs)) h = by.or_of (more_formulas f (more_formulas g (formulas_of_list fs))) (each-of-list (f ∷ g ∷ fs) h)

  pub of-and : (fs : List FormulaTree) → Each P fs → P (simplified_and fs)
  unfolding simplified_and
  of-and fs h =
      let ps = flat_map and_parts fs in
      let k = of-conjunction (without_repeats (filter (λ f. not (is_verum f)) ps))
      ((Each-without_repeats P (filter (λ f. not (is_verum f)) ps)).1
      (each-filter (λ f. not (is_verum f)) ps (each-flat and_parts and-parts fs h))) in
      elim (list_any is_falsum ps) as (λ b. P (cond b falsum (conjunction_of (without_repeats (filter (λ f. not (is_verum f)) ps)))))
      [ true ↦ by.falsehood | false ↦ k ]

  pub of-or : (fs : List FormulaTree) → Each P fs → P (simplified_or fs)
  unfolding simplified_or
  of-or fs h =
      let ps = flat_map or_parts fs in
      let k = of-disjunction (without_repeats (filter (λ f. not (is_falsum f)) ps))
      ((Each-without_repeats P (filter (λ f. not (is_falsum f)) ps)).1
      (each-filter (λ f. not (is_falsum f)) ps (each-flat or_parts or-parts fs h))) in
      elim (list_any is_verum ps) as (λ b. P (cond b verum (disjunction_of (without_repeats (filter (λ f. not (is_falsum f)) ps)))))
      [ true ↦ by.truth | false ↦ k ]

  pub of-not : (f : FormulaTree) → P f → P (simplified_not f)
  unfolding simplified_not
  of-not verum h = by.falsehood
  of-not falsum h = by.truth
  of-not (negation f) h = by.of_not f h
  of-not f h = by.not_of f h

  pub of-constant : (b : Bool) → P (constant b)
  of-constant true = by.truth
  of-constant false = by.falsehood

  pub each-map : {A : Type 0} (make : A → FormulaTree) (xs : List A) → ((x : A) → Among x xs → P (make x)) → Each P (map make xs)
  each-map make [] k = tt
  each-map make (x ∷ xs) k = (k x (inl refl), each-map make xs (λ y h. k y (inr h)))

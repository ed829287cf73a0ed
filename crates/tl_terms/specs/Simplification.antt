-- Negation, conjunction and disjunction that simplify, as progression uses them.
use Rattle.std.specs.Prelude.{List, [], ◌∷◌, ◌++◌, flat_map, filter, Bool, true, false, cond, not}
use Rattle.std.specs.List.{list_any}
use Rattle.tl_syntax.specs.Trees.{FormulaTree, FormulaTrees, verum, falsum, negation, conjunction, disjunction, no_formula, more_formulas}
use Rattle.tl_syntax.specs.Trees.{formulas_of_list}
use Rattle.tl_syntax.proofs.Same.{formula_discrete}

-- whether a decided question is answered by yes
abbrev pub is_yes : {A : Type 0} → Dec A → Bool
is_yes (yes a) = true
is_yes (no h) = false

-- whether two formulas are the same tree
unfoldable pub same_formula : FormulaTree → FormulaTree → Bool
same_formula f g = is_yes (formula_discrete f g)

-- the parts of a conjunction, at any depth of conjunctions; another formula is its own part
unfoldable mutual
  pub and_parts : FormulaTree → List FormulaTree
  and_parts (conjunction fs) = and_parts_all fs
  and_parts f = f ∷ []

  pub and_parts_all : FormulaTrees → List FormulaTree
  and_parts_all no_formula = []
  and_parts_all (more_formulas f fs) = and_parts f ++ and_parts_all fs

-- the parts of a disjunction, at any depth of disjunctions; another formula is its own part
unfoldable mutual
  pub or_parts : FormulaTree → List FormulaTree
  or_parts (disjunction fs) = or_parts_all fs
  or_parts f = f ∷ []

  pub or_parts_all : FormulaTrees → List FormulaTree
  or_parts_all no_formula = []
  or_parts_all (more_formulas f fs) = or_parts f ++ or_parts_all fs

-- whether it is the constant `true`
abbrev pub is_verum : FormulaTree → Bool
is_verum verum = true
is_verum _ = false

-- whether it is the constant `false`
abbrev pub is_falsum : FormulaTree → Bool
is_falsum falsum = true
is_falsum _ = false

-- of equal formulas the first stays
unfoldable pub without_repeats : List FormulaTree → List FormulaTree
without_repeats [] = []
without_repeats (f ∷ fs) = f ∷ filter (λ g. not (same_formula f g)) (without_repeats fs)

-- no part gives `true`, and one part stands alone
abbrev pub conjunction_of : List FormulaTree → FormulaTree
conjunction_of [] = verum
conjunction_of (f ∷ []) = f
conjunction_of (f ∷ (g ∷ fs)) = conjunction (more_formulas f (more_formulas g (formulas_of_list fs)))

-- no part gives `false`, and one part stands alone
abbrev pub disjunction_of : List FormulaTree → FormulaTree
disjunction_of [] = falsum
disjunction_of (f ∷ []) = f
disjunction_of (f ∷ (g ∷ fs)) = disjunction (more_formulas f (more_formulas g (formulas_of_list fs)))

-- the conjunction of the formulas: inner conjunctions are opened, a part `false` gives `false`,
-- each `true` is dropped, of equal parts the first stays
unfoldable pub simplified_and : List FormulaTree → FormulaTree
simplified_and fs = let ps = flat_map and_parts fs in cond (list_any is_falsum ps) falsum
    (conjunction_of (without_repeats (filter (λ f. not (is_verum f)) ps)))

-- the disjunction of the formulas: inner disjunctions are opened, a part `true` gives `true`, each
-- `false` is dropped, of equal parts the first stays
unfoldable pub simplified_or : List FormulaTree → FormulaTree
simplified_or fs = let ps = flat_map or_parts fs in cond (list_any is_verum ps) verum
    (disjunction_of (without_repeats (filter (λ f. not (is_falsum f)) ps)))

-- the negation of the formula: of a constant the other one, and of a negation its part
unfoldable pub simplified_not : FormulaTree → FormulaTree
simplified_not verum = falsum
simplified_not falsum = verum
simplified_not (negation f) = f
simplified_not f = negation f

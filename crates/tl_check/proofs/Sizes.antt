-- How large formulas are, by which labelling ends.
use Rattle.std.proofs.Common.{◌≡◌, ◌<◌, ◌+◌, ℕ, zero, suc, List, [], ◌∷◌, map, length, get_or, sym, ap, ◌∙◌, subst, arith}
use Rattle.tl_syntax.proofs.FormulaTrees.{trees-Formulas}
use Rattle.tl_syntax.specs.declared.formula.Formula.{Formula}
use Rattle.tl_syntax.specs.declared.formula.Formulas.{Formulas}
use Rattle.tl_syntax.specs.TreeOfFormula.{tree_of_formula, tree_of_formulas}
use Rattle.tl_syntax.specs.Trees.{FormulaTree, FormulaTrees, verum, falsum, atom, defined, compare, goal_fact, goal_place, goal_not}
use Rattle.tl_syntax.specs.Trees.{negation, conjunction, disjunction, for_all, for_some, next, always, eventually, until, within, during}
use Rattle.tl_syntax.specs.Trees.{no_formula, more_formulas, formulas_of_list}

unfoldable mutual
  pub size : FormulaTree → ℕ
  size verum = 1
  size falsum = 1
  size (atom p ts) = 1
  size (defined p ts) = 1
  size (compare c x y) = 1
  size (goal_fact p xs) = 1
  size (goal_place f xs x) = 1
  size (goal_not p xs) = 1
  size (negation f) = 1 + size f
  size (conjunction fs) = 1 + sizes fs
  size (disjunction fs) = 1 + sizes fs
  size (for_all ss b f) = 2 + size f
  size (for_some ss b f) = 2 + size f
  size (next f) = 1 + size f
  size (always f) = 1 + size f
  size (eventually f) = 1 + size f
  size (until f g) = 2 + (size f + size g)
  size (within n f) = 1 + size f
  size (during n f) = 1 + size f

  pub sizes : FormulaTrees → ℕ
  sizes no_formula = 0
  sizes (more_formulas f fs) = 1 + (size f + sizes fs)

pub size-at : (xs : List Formula) (fs : Formulas) (i : ℕ) (x : Formula) → xs ≡ fs.items.items → i < length xs → x ≡ get_or xs i x →
    size (tree_of_formula x) < sizes (tree_of_formulas fs)
unfolding size
size-at xs fs i x q h r = subst (λ ts. size (tree_of_formula x) < sizes ts)
    (sym (trees-Formulas fs ∙ ap (λ (ys : List Formula). formulas_of_list (map tree_of_formula ys)) (sym q))) (by xs i h r)
  where
    by : (ys : List Formula) (j : ℕ) → j < length ys → x ≡ get_or ys j x →
        size (tree_of_formula x) < sizes (formulas_of_list (map tree_of_formula ys))
    by [] j l s = absurd (omega arith)
    by (y ∷ ys) zero l s = let e : size (tree_of_formula x) ≡ size (tree_of_formula y) = ap (λ (z : Formula). size (tree_of_formula z)) s in
        omega arith
    by (y ∷ ys) (suc j) l s = let more = by ys j (omega arith) s in omega arith

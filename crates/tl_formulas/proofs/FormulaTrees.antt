-- The plain trees of formulas, part by part.
use Rattle.std.proofs.Common.{◌≡◌, List, [], ◌∷◌, ◌++◌, map, refl, ap, sym, ◌∙◌}
use Rattle.tl_syntax.specs.declared.formula.Formula.{Formula}
use Rattle.tl_syntax.specs.declared.formula.Formulas.{Formulas}
use Rattle.tl_syntax.specs.Trees.{FormulaTree, FormulaTrees, no_formula, more_formulas, formulas_of_list}
use Rattle.tl_syntax.specs.TreeOfFormula.{tree_of_formula, tree_of_formulas}
use Rattle.tl_syntax.proofs.FormulaTrees.{tree-True, tree-False, tree-Atom, tree-Defined, tree-Compare, tree-GoalFact, tree-GoalPlace}
use Rattle.tl_syntax.proofs.FormulaTrees.{tree-GoalNot, tree-Not, tree-And, tree-Or, tree-ForAll, tree-Exists, tree-Next, tree-Always}
use Rattle.tl_syntax.proofs.FormulaTrees.{tree-Eventually, tree-Until, tree-Within, tree-During, trees-Formulas}

-- these formulas, and after them the others
abbrev pub after_formulas : List FormulaTree → FormulaTrees → FormulaTrees
after_formulas [] gs = gs
after_formulas (f ∷ fs) gs = more_formulas f (after_formulas fs gs)

after_formulas-end : (fs : List FormulaTree) → after_formulas fs no_formula ≡ formulas_of_list fs
after_formulas-end [] = refl
after_formulas-end (f ∷ fs) = ap (more_formulas f) (after_formulas-end fs)

-- a formula more
pub formulas-more : (fs gs : List Formula) (f : Formula) (rest : FormulaTrees) → gs ≡ fs ++ f ∷ [] →
    after_formulas (map tree_of_formula gs) rest ≡ after_formulas (map tree_of_formula fs) (more_formulas (tree_of_formula f) rest)
formulas-more fs gs f rest e = ap (λ xs. after_formulas (map tree_of_formula xs) rest) e ∙ pushed fs
  where
    pushed : (xs : List Formula) → after_formulas (map tree_of_formula (xs ++ f ∷ [])) rest ≡
        after_formulas (map tree_of_formula xs) (more_formulas (tree_of_formula f) rest)
    pushed [] = refl
    pushed (x ∷ xs) = ap (more_formulas (tree_of_formula x)) (pushed xs)

-- all formulas
pub formulas-whole : (fs : Formulas) → tree_of_formulas fs ≡ after_formulas (map tree_of_formula fs.items.items) no_formula
formulas-whole fs = trees-Formulas fs ∙ sym (after_formulas-end (map tree_of_formula fs.items.items))

pub ruleset formula_trees = (
  tree-True,
  tree-False,
  tree-Atom,
  tree-Defined,
  tree-Compare,
  tree-GoalFact,
  tree-GoalPlace,
  tree-GoalNot,
  tree-Not,
  tree-And,
  tree-Or,
  tree-ForAll,
  tree-Exists,
  tree-Next,
  tree-Always,
  tree-Eventually,
  tree-Until,
  tree-Within,
  tree-During,
  trees-Formulas,
)

-- The plain trees of formulas made by their variants, and of lists of formulas.
use Rattle.std.proofs.Common.{◌≡◌, ℕ, List, map, ap, sym, ◌∙◌, Box, Global}
use Rattle.tl_syntax.specs.declared.variable.Var.{Var}
use Rattle.tl_syntax.specs.declared.variable.Arg.{Arg}
use Rattle.tl_syntax.specs.declared.value.Cmp.{Cmp}
use Rattle.tl_syntax.specs.declared.bound.Bound.{Bound}
use Rattle.tl_syntax.specs.declared.term.Term.{Term}
use Rattle.tl_syntax.specs.declared.term.Terms.{Terms}
use Rattle.tl_syntax.specs.Trees.{FormulaTree, FormulaTrees, verum, falsum, atom, defined, compare, goal_fact, goal_place, goal_not}
use Rattle.tl_syntax.specs.Trees.{negation, conjunction, disjunction, for_all, for_some, next, always, eventually, until, within, during}
use Rattle.tl_syntax.specs.Trees.{formulas_of_list}
use Rattle.tl_syntax.specs.TreeOfTerm.{tree_of_term, tree_of_terms}
use Rattle.tl_syntax.specs.TreeOfFormula.{tree_of_formula, tree_of_formulas, formula_step, formulas_step}
use Rattle.tl_syntax.specs.declared.formula.Formula.{Formula, fold-Formula, fold-roll-Formula}
use Rattle.tl_syntax.specs.declared.formula.Formula.TheVariants as variant
use Rattle.tl_syntax.specs.declared.formula.Formula.TheOpen as layer
use Rattle.tl_syntax.specs.declared.formula.Formulas.{Formulas, fold_out-Formulas}

pub tree-True : tree_of_formula variant.True ≡ verum
unfolding tree_of_formula tree_of_formulas
tree-True = ap (fold-Formula FormulaTree FormulaTrees formula_step formulas_step) (sym variant.rolls-True) ∙
    fold-roll-Formula FormulaTree FormulaTrees formula_step formulas_step layer.True

pub tree-False : tree_of_formula variant.False ≡ falsum
unfolding tree_of_formula tree_of_formulas
tree-False = ap (fold-Formula FormulaTree FormulaTrees formula_step formulas_step) (sym variant.rolls-False) ∙
    fold-roll-Formula FormulaTree FormulaTrees formula_step formulas_step layer.False

pub tree-Atom : (x0 : ℕ) (x1 : Terms) → tree_of_formula (variant.Atom x0 x1) ≡ atom x0 (tree_of_terms x1)
unfolding tree_of_formula tree_of_formulas
tree-Atom x0 x1 = ap (fold-Formula FormulaTree FormulaTrees formula_step formulas_step) (sym (variant.rolls-Atom x0 x1)) ∙
    fold-roll-Formula FormulaTree FormulaTrees formula_step formulas_step (layer.Atom x0 x1)

pub tree-Defined : (x0 : ℕ) (x1 : Terms) → tree_of_formula (variant.Defined x0 x1) ≡ defined x0 (tree_of_terms x1)
unfolding tree_of_formula tree_of_formulas
tree-Defined x0 x1 = ap (fold-Formula FormulaTree FormulaTrees formula_step formulas_step) (sym (variant.rolls-Defined x0 x1)) ∙
    fold-roll-Formula FormulaTree FormulaTrees formula_step formulas_step (layer.Defined x0 x1)

pub tree-Compare : (x0 : Cmp) (x1 : Term) (x2 : Term) → tree_of_formula (variant.Compare x0 x1 x2) ≡
    compare x0 (tree_of_term x1) (tree_of_term x2)
unfolding tree_of_formula tree_of_formulas
tree-Compare x0 x1 x2 = ap (fold-Formula FormulaTree FormulaTrees formula_step formulas_step) (sym (variant.rolls-Compare x0 x1 x2)) ∙
    fold-roll-Formula FormulaTree FormulaTrees formula_step formulas_step (layer.Compare x0 x1 x2)

pub tree-GoalFact : (x0 : ℕ) (x1 : List Arg) → tree_of_formula (variant.GoalFact x0 x1) ≡ goal_fact x0 x1
unfolding tree_of_formula tree_of_formulas
tree-GoalFact x0 x1 = ap (fold-Formula FormulaTree FormulaTrees formula_step formulas_step) (sym (variant.rolls-GoalFact x0 x1)) ∙
    fold-roll-Formula FormulaTree FormulaTrees formula_step formulas_step (layer.GoalFact x0 x1)

pub tree-GoalPlace : (x0 : ℕ) (x1 : List Arg) (x2 : Arg) → tree_of_formula (variant.GoalPlace x0 x1 x2) ≡ goal_place x0 x1 x2
unfolding tree_of_formula tree_of_formulas
tree-GoalPlace x0 x1 x2 = ap (fold-Formula FormulaTree FormulaTrees formula_step formulas_step) (sym (variant.rolls-GoalPlace x0 x1 x2)) ∙
    fold-roll-Formula FormulaTree FormulaTrees formula_step formulas_step (layer.GoalPlace x0 x1 x2)

pub tree-GoalNot : (x0 : ℕ) (x1 : List Arg) → tree_of_formula (variant.GoalNot x0 x1) ≡ goal_not x0 x1
unfolding tree_of_formula tree_of_formulas
tree-GoalNot x0 x1 = ap (fold-Formula FormulaTree FormulaTrees formula_step formulas_step) (sym (variant.rolls-GoalNot x0 x1)) ∙
    fold-roll-Formula FormulaTree FormulaTrees formula_step formulas_step (layer.GoalNot x0 x1)

pub tree-Not : (x0 : Box Formula Global) → tree_of_formula (variant.Not x0) ≡ negation (tree_of_formula x0.value)
unfolding tree_of_formula tree_of_formulas
tree-Not x0 = ap (fold-Formula FormulaTree FormulaTrees formula_step formulas_step) (sym (variant.rolls-Not x0)) ∙
    fold-roll-Formula FormulaTree FormulaTrees formula_step formulas_step (layer.Not x0)

pub tree-And : (x0 : Formulas) → tree_of_formula (variant.And x0) ≡ conjunction (tree_of_formulas x0)
unfolding tree_of_formula tree_of_formulas
tree-And x0 = ap (fold-Formula FormulaTree FormulaTrees formula_step formulas_step) (sym (variant.rolls-And x0)) ∙
    fold-roll-Formula FormulaTree FormulaTrees formula_step formulas_step (layer.And x0)

pub tree-Or : (x0 : Formulas) → tree_of_formula (variant.Or x0) ≡ disjunction (tree_of_formulas x0)
unfolding tree_of_formula tree_of_formulas
tree-Or x0 = ap (fold-Formula FormulaTree FormulaTrees formula_step formulas_step) (sym (variant.rolls-Or x0)) ∙
    fold-roll-Formula FormulaTree FormulaTrees formula_step formulas_step (layer.Or x0)

pub tree-ForAll : (x0 : List Var) (x1 : Bound) (x2 : Box Formula Global) → tree_of_formula (variant.ForAll x0 x1 x2) ≡
    for_all x0 x1 (tree_of_formula x2.value)
unfolding tree_of_formula tree_of_formulas
tree-ForAll x0 x1 x2 = ap (fold-Formula FormulaTree FormulaTrees formula_step formulas_step) (sym (variant.rolls-ForAll x0 x1 x2)) ∙
    fold-roll-Formula FormulaTree FormulaTrees formula_step formulas_step (layer.ForAll x0 x1 x2)

pub tree-Exists : (x0 : List Var) (x1 : Bound) (x2 : Box Formula Global) → tree_of_formula (variant.Exists x0 x1 x2) ≡
    for_some x0 x1 (tree_of_formula x2.value)
unfolding tree_of_formula tree_of_formulas
tree-Exists x0 x1 x2 = ap (fold-Formula FormulaTree FormulaTrees formula_step formulas_step) (sym (variant.rolls-Exists x0 x1 x2)) ∙
    fold-roll-Formula FormulaTree FormulaTrees formula_step formulas_step (layer.Exists x0 x1 x2)

pub tree-Next : (x0 : Box Formula Global) → tree_of_formula (variant.Next x0) ≡ next (tree_of_formula x0.value)
unfolding tree_of_formula tree_of_formulas
tree-Next x0 = ap (fold-Formula FormulaTree FormulaTrees formula_step formulas_step) (sym (variant.rolls-Next x0)) ∙
    fold-roll-Formula FormulaTree FormulaTrees formula_step formulas_step (layer.Next x0)

pub tree-Always : (x0 : Box Formula Global) → tree_of_formula (variant.Always x0) ≡ always (tree_of_formula x0.value)
unfolding tree_of_formula tree_of_formulas
tree-Always x0 = ap (fold-Formula FormulaTree FormulaTrees formula_step formulas_step) (sym (variant.rolls-Always x0)) ∙
    fold-roll-Formula FormulaTree FormulaTrees formula_step formulas_step (layer.Always x0)

pub tree-Eventually : (x0 : Box Formula Global) → tree_of_formula (variant.Eventually x0) ≡ eventually (tree_of_formula x0.value)
unfolding tree_of_formula tree_of_formulas
tree-Eventually x0 = ap (fold-Formula FormulaTree FormulaTrees formula_step formulas_step) (sym (variant.rolls-Eventually x0)) ∙
    fold-roll-Formula FormulaTree FormulaTrees formula_step formulas_step (layer.Eventually x0)

pub tree-Until : (x0 : Box Formula Global) (x1 : Box Formula Global) → tree_of_formula (variant.Until x0 x1) ≡
    until (tree_of_formula x0.value) (tree_of_formula x1.value)
unfolding tree_of_formula tree_of_formulas
tree-Until x0 x1 = ap (fold-Formula FormulaTree FormulaTrees formula_step formulas_step) (sym (variant.rolls-Until x0 x1)) ∙
    fold-roll-Formula FormulaTree FormulaTrees formula_step formulas_step (layer.Until x0 x1)

pub tree-Within : (x0 : ℕ) (x1 : Box Formula Global) → tree_of_formula (variant.Within x0 x1) ≡ within x0 (tree_of_formula x1.value)
unfolding tree_of_formula tree_of_formulas
tree-Within x0 x1 = ap (fold-Formula FormulaTree FormulaTrees formula_step formulas_step) (sym (variant.rolls-Within x0 x1)) ∙
    fold-roll-Formula FormulaTree FormulaTrees formula_step formulas_step (layer.Within x0 x1)

pub tree-During : (x0 : ℕ) (x1 : Box Formula Global) → tree_of_formula (variant.During x0 x1) ≡ during x0 (tree_of_formula x1.value)
unfolding tree_of_formula tree_of_formulas
tree-During x0 x1 = ap (fold-Formula FormulaTree FormulaTrees formula_step formulas_step) (sym (variant.rolls-During x0 x1)) ∙
    fold-roll-Formula FormulaTree FormulaTrees formula_step formulas_step (layer.During x0 x1)

pub trees-Formulas : (xs : Formulas) → tree_of_formulas xs ≡ formulas_of_list (map tree_of_formula xs.items.items)
unfolding tree_of_formula tree_of_formulas
trees-Formulas xs = fold_out-Formulas FormulaTree FormulaTrees formula_step formulas_step xs

pub ruleset formula_trees = (
  tree-True,
  tree-False,
  tree-Atom,
  tree-Defined,
  tree-Compare,
  tree-GoalFact,
  tree-GoalPlace,
  tree-GoalNot,
  tree-Not,
  tree-And,
  tree-Or,
  tree-ForAll,
  tree-Exists,
  tree-Next,
  tree-Always,
  tree-Eventually,
  tree-Until,
  tree-Within,
  tree-During,
)

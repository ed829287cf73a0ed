-- Two formulas are equal by the derived test exactly where they are one tree.
use Rattle.std.proofs.Common.{◌≡◌, ◌↔◌, Bool, true, false, true≢false, List, [], ◌∷◌, map, ap₂, sym, ◌∙◌, refl, subst, nat_eq, ◌&&◌}
use Rattle.std.specs.Cmp.Lexicographic.{pointwise}
use Rattle.tl_syntax.specs.Trees.{FormulaTree, FormulaTrees, verum, falsum, atom, defined, compare, goal_fact, goal_place, goal_not}
use Rattle.tl_syntax.specs.Trees.{negation, conjunction, disjunction, for_all, for_some, next, always, eventually, until, within, during}
use Rattle.tl_syntax.specs.Trees.{more_formulas, formulas_of_list}
use Rattle.tl_syntax.specs.TreeOfTerm.{tree_of_term, tree_of_terms}
use Rattle.tl_syntax.specs.TreeOfFormula.{tree_of_formula, tree_of_formulas, formula_step, formulas_step}
use Rattle.tl_syntax.specs.declared.formula.Formula.{Formula, Formula-F, out-Formula, roll-Formula, out-roll-Formula, roll-out-Formula}
use Rattle.tl_syntax.specs.declared.formula.Formula.{fold-roll-Formula, map-Formula, ind-Formula}
use Rattle.tl_syntax.specs.declared.formula.Formulas.{Formulas, Formulas-F, roll-Formulas, map-Formulas}
use Rattle.tl_syntax.specs.declared.formula.Formula.TheOpen as layer
use Rattle.tl_syntax.specs.contracts.formula.FormulaPartialEq.TheImpl as formula_impl
use Rattle.tl_syntax.specs.contracts.formula.FormulaPartialEq.TheImpl.Laws as formula_laws
use Rattle.tl_syntax.specs.contracts.formula.FormulasPartialEq.TheImpl as formulas_impl
use Rattle.tl_syntax.specs.contracts.formula.FormulasPartialEq.TheImpl.Laws as formulas_laws
use Rattle.tl_syntax.specs.contracts.variable.VarPartialEq.TheImpl as var_impl
use Rattle.tl_syntax.specs.contracts.variable.ArgPartialEq.TheImpl as arg_impl
use Rattle.tl_syntax.specs.contracts.value.CmpPartialEq.TheImpl as cmp_impl
use Rattle.tl_syntax.specs.contracts.bound.BoundPartialEq.TheImpl as bound_impl
use Rattle.tl_syntax.proofs.Plain.{both, with_both, list-tells}
use Rattle.tl_syntax.proofs.PartsSame.{nat-tells, var-tells, arg-tells, cmp-tells, bound-tells}
use Rattle.tl_syntax.proofs.TermSame.{term_eq, terms_eq, term-same, terms-same, iff-along}
use Rattle.tl_syntax.proofs.FormulaTrees.{trees-Formulas}

unfoldable pub formula_eq : Formula → Formula → Bool
formula_eq = (formula_impl.ghosts).eq

unfoldable pub formulas_eq : Formulas → Formulas → Bool
formulas_eq = (formulas_impl.ghosts).eq

eq-Formulas : (fs gs : Formulas) → formulas_eq fs gs ≡ pointwise formula_eq fs.items.items gs.items.items
unfolding formula_eq formulas_eq
eq-Formulas fs gs = formulas_laws.is fs gs

layer_eq : Formula-F Formula Formulas → Formula-F Formula Formulas → Bool
layer_eq layer.True layer.True = true
layer_eq layer.False layer.False = true
layer_eq (layer.Atom x0 x1) (layer.Atom y0 y1) = nat_eq x0 y0 && terms_eq x1 y1
layer_eq (layer.Defined x0 x1) (layer.Defined y0 y1) = nat_eq x0 y0 && terms_eq x1 y1
layer_eq (layer.Compare x0 x1 x2) (layer.Compare y0 y1 y2) = (cmp_impl.ghosts).eq x0 y0 && (term_eq x1 y1 && term_eq x2 y2)
layer_eq (layer.GoalFact x0 x1) (layer.GoalFact y0 y1) = nat_eq x0 y0 && pointwise (arg_impl.ghosts).eq x1 y1
layer_eq (layer.GoalPlace x0 x1 x2) (layer.GoalPlace y0 y1 y2) = nat_eq x0 y0 &&
    (pointwise (arg_impl.ghosts).eq x1 y1 && (arg_impl.ghosts).eq x2 y2)
layer_eq (layer.GoalNot x0 x1) (layer.GoalNot y0 y1) = nat_eq x0 y0 && pointwise (arg_impl.ghosts).eq x1 y1
layer_eq (layer.Not x0) (layer.Not y0) = formula_eq x0.value y0.value
layer_eq (layer.And x0) (layer.And y0) = formulas_eq x0 y0
layer_eq (layer.Or x0) (layer.Or y0) = formulas_eq x0 y0
layer_eq (layer.ForAll x0 x1 x2) (layer.ForAll y0 y1 y2) = pointwise (var_impl.ghosts).eq x0 y0 &&
    ((bound_impl.ghosts).eq x1 y1 && formula_eq x2.value y2.value)
layer_eq (layer.Exists x0 x1 x2) (layer.Exists y0 y1 y2) = pointwise (var_impl.ghosts).eq x0 y0 &&
    ((bound_impl.ghosts).eq x1 y1 && formula_eq x2.value y2.value)
layer_eq (layer.Next x0) (layer.Next y0) = formula_eq x0.value y0.value
layer_eq (layer.Always x0) (layer.Always y0) = formula_eq x0.value y0.value
layer_eq (layer.Eventually x0) (layer.Eventually y0) = formula_eq x0.value y0.value
layer_eq (layer.Until x0 x1) (layer.Until y0 y1) = formula_eq x0.value y0.value && formula_eq x1.value y1.value
layer_eq (layer.Within x0 x1) (layer.Within y0 y1) = nat_eq x0 y0 && formula_eq x1.value y1.value
layer_eq (layer.During x0 x1) (layer.During y0 y1) = nat_eq x0 y0 && formula_eq x1.value y1.value
layer_eq _ _ = false

eq-roll : (x y : Formula-F Formula Formulas) → formula_eq (roll-Formula x) (roll-Formula y) ≡ layer_eq x y
unfolding formula_eq formulas_eq layer_eq term_eq terms_eq
eq-roll layer.True layer.True = formula_laws.is (roll-Formula layer.True) (roll-Formula layer.True) ∙ simp out-roll-Formula
eq-roll layer.False layer.False = formula_laws.is (roll-Formula layer.False) (roll-Formula layer.False) ∙ simp out-roll-Formula
eq-roll (layer.Atom x0 x1) (layer.Atom y0 y1) = formula_laws.is (roll-Formula (layer.Atom x0 x1)) (roll-Formula (layer.Atom y0 y1)) ∙
    simp out-roll-Formula
eq-roll (layer.Defined x0 x1) (layer.Defined y0 y1) = formula_laws.is (roll-Formula (layer.Defined x0 x1))
    (roll-Formula (layer.Defined y0 y1)) ∙ simp out-roll-Formula
eq-roll (layer.Compare x0 x1 x2) (layer.Compare y0 y1 y2) = formula_laws.is (roll-Formula (layer.Compare x0 x1 x2))
    (roll-Formula (layer.Compare y0 y1 y2)) ∙ simp out-roll-Formula
eq-roll (layer.GoalFact x0 x1) (layer.GoalFact y0 y1) = formula_laws.is (roll-Formula (layer.GoalFact x0 x1))
    (roll-Formula (layer.GoalFact y0 y1)) ∙ simp out-roll-Formula
eq-roll (layer.GoalPlace x0 x1 x2) (layer.GoalPlace y0 y1 y2) = formula_laws.is (roll-Formula (layer.GoalPlace x0 x1 x2))
    (roll-Formula (layer.GoalPlace y0 y1 y2)) ∙ simp out-roll-Formula
eq-roll (layer.GoalNot x0 x1) (layer.GoalNot y0 y1) = formula_laws.is (roll-Formula (layer.GoalNot x0 x1))
    (roll-Formula (layer.GoalNot y0 y1)) ∙ simp out-roll-Formula
eq-roll (layer.Not x0) (layer.Not y0) = formula_laws.is (roll-Formula (layer.Not x0)) (roll-Formula (layer.Not y0)) ∙ simp out-roll-Formula
eq-roll (layer.And x0) (layer.And y0) = formula_laws.is (roll-Formula (layer.And x0)) (roll-Formula (layer.And y0)) ∙ simp out-roll-Formula
eq-roll (layer.Or x0) (layer.Or y0) = formula_laws.is (roll-Formula (layer.Or x0)) (roll-Formula (layer.Or y0)) ∙ simp out-roll-Formula
eq-roll (layer.ForAll x0 x1 x2) (layer.ForAll y0 y1 y2) = formula_laws.is (roll-Formula (layer.ForAll x0 x1 x2))
    (roll-Formula (layer.ForAll y0 y1 y2)) ∙ simp out-roll-Formula
eq-roll (layer.Exists x0 x1 x2) (layer.Exists y0 y1 y2) = formula_laws.is (roll-Formula (layer.Exists x0 x1 x2))
    (roll-Formula (layer.Exists y0 y1 y2)) ∙ simp out-roll-Formula
eq-roll (layer.Next x0) (layer.Next y0) = formula_laws.is (roll-Formula (layer.Next x0)) (roll-Formula (layer.Next y0)) ∙
    simp out-roll-Formula
eq-roll (layer.Always x0) (layer.Always y0) = formula_laws.is (roll-Formula (layer.Always x0)) (roll-Formula (layer.Always y0)) ∙
    simp out-roll-Formula
eq-roll (layer.Eventually x0) (layer.Eventually y0) = formula_laws.is (roll-Formula (layer.Eventually x0))
    (roll-Formula (layer.Eventually y0)) ∙ simp out-roll-Formula
eq-roll (layer.Until x0 x1) (layer.Until y0 y1) = formula_laws.is (roll-Formula (layer.Until x0 x1)) (roll-Formula (layer.Until y0 y1)) ∙
    simp out-roll-Formula
eq-roll (layer.Within x0 x1) (layer.Within y0 y1) = formula_laws.is (roll-Formula (layer.Within x0 x1))
    (roll-Formula (layer.Within y0 y1)) ∙ simp out-roll-Formula
eq-roll (layer.During x0 x1) (layer.During y0 y1) = formula_laws.is (roll-Formula (layer.During x0 x1))
    (roll-Formula (layer.During y0 y1)) ∙ simp out-roll-Formula
eq-roll x y = formula_laws.is (roll-Formula x) (roll-Formula y) ∙ simp out-roll-Formula

layer_tree : Formula-F Formula Formulas → FormulaTree
layer_tree layer.True = verum
layer_tree layer.False = falsum
layer_tree (layer.Atom x0 x1) = atom x0 (tree_of_terms x1)
layer_tree (layer.Defined x0 x1) = defined x0 (tree_of_terms x1)
layer_tree (layer.Compare x0 x1 x2) = compare x0 (tree_of_term x1) (tree_of_term x2)
layer_tree (layer.GoalFact x0 x1) = goal_fact x0 x1
layer_tree (layer.GoalPlace x0 x1 x2) = goal_place x0 x1 x2
layer_tree (layer.GoalNot x0 x1) = goal_not x0 x1
layer_tree (layer.Not x0) = negation (tree_of_formula x0.value)
layer_tree (layer.And x0) = conjunction (tree_of_formulas x0)
layer_tree (layer.Or x0) = disjunction (tree_of_formulas x0)
layer_tree (layer.ForAll x0 x1 x2) = for_all x0 x1 (tree_of_formula x2.value)
layer_tree (layer.Exists x0 x1 x2) = for_some x0 x1 (tree_of_formula x2.value)
layer_tree (layer.Next x0) = next (tree_of_formula x0.value)
layer_tree (layer.Always x0) = always (tree_of_formula x0.value)
layer_tree (layer.Eventually x0) = eventually (tree_of_formula x0.value)
layer_tree (layer.Until x0 x1) = until (tree_of_formula x0.value) (tree_of_formula x1.value)
layer_tree (layer.Within x0 x1) = within x0 (tree_of_formula x1.value)
layer_tree (layer.During x0 x1) = during x0 (tree_of_formula x1.value)

tree-roll : (x : Formula-F Formula Formulas) → tree_of_formula (roll-Formula x) ≡ layer_tree x
unfolding tree_of_formula tree_of_formulas layer_tree
tree-roll layer.True = fold-roll-Formula FormulaTree FormulaTrees formula_step formulas_step layer.True
tree-roll layer.False = fold-roll-Formula FormulaTree FormulaTrees formula_step formulas_step layer.False
tree-roll (layer.Atom x0 x1) = fold-roll-Formula FormulaTree FormulaTrees formula_step formulas_step (layer.Atom x0 x1)
tree-roll (layer.Defined x0 x1) = fold-roll-Formula FormulaTree FormulaTrees formula_step formulas_step (layer.Defined x0 x1)
tree-roll (layer.Compare x0 x1 x2) = fold-roll-Formula FormulaTree FormulaTrees formula_step formulas_step (layer.Compare x0 x1 x2)
tree-roll (layer.GoalFact x0 x1) = fold-roll-Formula FormulaTree FormulaTrees formula_step formulas_step (layer.GoalFact x0 x1)
tree-roll (layer.GoalPlace x0 x1 x2) = fold-roll-Formula FormulaTree FormulaTrees formula_step formulas_step (layer.GoalPlace x0 x1 x2)
tree-roll (layer.GoalNot x0 x1) = fold-roll-Formula FormulaTree FormulaTrees formula_step formulas_step (layer.GoalNot x0 x1)
tree-roll (layer.Not x0) = fold-roll-Formula FormulaTree FormulaTrees formula_step formulas_step (layer.Not x0)
tree-roll (layer.And x0) = fold-roll-Formula FormulaTree FormulaTrees formula_step formulas_step (layer.And x0)
tree-roll (layer.Or x0) = fold-roll-Formula FormulaTree FormulaTrees formula_step formulas_step (layer.Or x0)
tree-roll (layer.ForAll x0 x1 x2) = fold-roll-Formula FormulaTree FormulaTrees formula_step formulas_step (layer.ForAll x0 x1 x2)
tree-roll (layer.Exists x0 x1 x2) = fold-roll-Formula FormulaTree FormulaTrees formula_step formulas_step (layer.Exists x0 x1 x2)
tree-roll (layer.Next x0) = fold-roll-Formula FormulaTree FormulaTrees formula_step formulas_step (layer.Next x0)
tree-roll (layer.Always x0) = fold-roll-Formula FormulaTree FormulaTrees formula_step formulas_step (layer.Always x0)
tree-roll (layer.Eventually x0) = fold-roll-Formula FormulaTree FormulaTrees formula_step formulas_step (layer.Eventually x0)
tree-roll (layer.Until x0 x1) = fold-roll-Formula FormulaTree FormulaTrees formula_step formulas_step (layer.Until x0 x1)
tree-roll (layer.Within x0 x1) = fold-roll-Formula FormulaTree FormulaTrees formula_step formulas_step (layer.Within x0 x1)
tree-roll (layer.During x0 x1) = fold-roll-Formula FormulaTree FormulaTrees formula_step formulas_step (layer.During x0 x1)

IsSame : Formula → Type 0
IsSame a = (b : Formula) → (formula_eq a b ≡ true) ↔ (tree_of_formula a ≡ tree_of_formula b)

AreSame : Formulas → Type 0
AreSame fs = (gs : Formulas) → (formulas_eq fs gs ≡ true) ↔ (tree_of_formulas fs ≡ tree_of_formulas gs)

abbrev Above : Type 0
Above = Formula-F ((t : Formula) × IsSame t) ((ts : Formulas) × AreSame ts)

abbrev below : Above → Formula-F Formula Formulas
below = map-Formula ((t : Formula) × IsSame t) ((ts : Formulas) × AreSame ts) Formula Formulas (λ e. e.0) (λ e. e.0)

layer-same : (x : Above) (y : Formula-F Formula Formulas) → (layer_eq (below x) y ≡ true) ↔ (layer_tree (below x) ≡ layer_tree y)
unfolding IsSame AreSame layer_eq layer_tree
layer-same layer.True layer.True = (λ _. refl, λ _. refl)
layer-same layer.False layer.False = (λ _. refl, λ _. refl)
layer-same (layer.Atom x0 x1) (layer.Atom y0 y1) = (
  λ h. let k0 = both (nat_eq x0 y0) (terms_eq x1 y1) h in let p0 = (nat-tells x0 y0).0 k0.0 in let p1 = (terms-same x1 y1).0 k0.1 in λ i.
      atom (p0 i) (p1 i),
  λ h. let q0 : x0 ≡ y0 = cc in let q1 : tree_of_terms x1 ≡ tree_of_terms y1 = cc in
      (with_both ((nat-tells x0 y0).1 q0) ((terms-same x1 y1).1 q1)),
)
layer-same (layer.Defined x0 x1) (layer.Defined y0 y1) = (
  λ h. let k0 = both (nat_eq x0 y0) (terms_eq x1 y1) h in let p0 = (nat-tells x0 y0).0 k0.0 in let p1 = (terms-same x1 y1).0 k0.1 in λ i.
      defined (p0 i) (p1 i),
  λ h. let q0 : x0 ≡ y0 = cc in let q1 : tree_of_terms x1 ≡ tree_of_terms y1 = cc in
      (with_both ((nat-tells x0 y0).1 q0) ((terms-same x1 y1).1 q1)),
)
layer-same (layer.Compare x0 x1 x2) (layer.Compare y0 y1 y2) = (
  λ h. let k0 = both ((cmp_impl.ghosts).eq x0 y0) (term_eq x1 y1 && term_eq x2 y2) h in let p0 = (cmp-tells x0 y0).0 k0.0 in let k1 =
      both (term_eq x1 y1) (term_eq x2 y2) k0.1 in let p1 = (term-same x1 y1).0 k1.0 in let p2 = (term-same x2 y2).0 k1.1 in λ i.
      compare (p0 i) (p1 i) (p2 i),
  λ h. let q0 : x0 ≡ y0 = cc in let q1 : tree_of_term x1 ≡ tree_of_term y1 = cc in let q2 : tree_of_term x2 ≡ tree_of_term y2 = cc in
      (with_both ((cmp-tells x0 y0).1 q0) (with_both ((term-same x1 y1).1 q1) ((term-same x2 y2).1 q2))),
)
layer-same (layer.GoalFact x0 x1) (layer.GoalFact y0 y1) = (
  λ h. let k0 = both (nat_eq x0 y0) (pointwise (arg_impl.ghosts).eq x1 y1) h in let p0 = (nat-tells x0 y0).0 k0.0 in let p1 =
      (list-tells (arg_impl.ghosts).eq arg-tells x1 y1).0 k0.1 in λ i. goal_fact (p0 i) (p1 i),
  λ h. let q0 : x0 ≡ y0 = cc in let q1 : x1 ≡ y1 = cc in (with_both ((nat-tells x0 y0).1 q0)
      ((list-tells (arg_impl.ghosts).eq arg-tells x1 y1).1 q1)),
)
layer-same (layer.GoalPlace x0 x1 x2) (layer.GoalPlace y0 y1 y2) = (
  λ h. let k0 = both (nat_eq x0 y0) (pointwise (arg_impl.ghosts).eq x1 y1 && (arg_impl.ghosts).eq x2 y2) h in let p0 =
      (nat-tells x0 y0).0 k0.0 in let k1 = both (pointwise (arg_impl.ghosts).eq x1 y1) ((arg_impl.ghosts).eq x2 y2) k0.1 in let p1 =
      (list-tells (arg_impl.ghosts).eq arg-tells x1 y1).0 k1.0 in let p2 = (arg-tells x2 y2).0 k1.1 in λ i. goal_place (p0 i) (p1 i) (p2 i),
  λ h. let q0 : x0 ≡ y0 = cc in let q1 : x1 ≡ y1 = cc in let q2 : x2 ≡ y2 = cc in
      (with_both ((nat-tells x0 y0).1 q0) (with_both ((list-tells (arg_impl.ghosts).eq arg-tells x1 y1).1 q1) ((arg-tells x2 y2).1 q2))),
)
layer-same (layer.GoalNot x0 x1) (layer.GoalNot y0 y1) = (
  λ h. let k0 = both (nat_eq x0 y0) (pointwise (arg_impl.ghosts).eq x1 y1) h in let p0 = (nat-tells x0 y0).0 k0.0 in let p1 =
      (list-tells (arg_impl.ghosts).eq arg-tells x1 y1).0 k0.1 in λ i. goal_not (p0 i) (p1 i),
  λ h. let q0 : x0 ≡ y0 = cc in let q1 : x1 ≡ y1 = cc in (with_both ((nat-tells x0 y0).1 q0)
      ((list-tells (arg_impl.ghosts).eq arg-tells x1 y1).1 q1)),
)
layer-same (layer.Not x0) (layer.Not y0) = (
  λ h. let p0 = (x0.value.1 y0.value).0 h in λ i. negation (p0 i),
  λ h. let q0 : tree_of_formula x0.value.0 ≡ tree_of_formula y0.value = cc in ((x0.value.1 y0.value).1 q0),
)
layer-same (layer.And x0) (layer.And y0) = (
  λ h. let p0 = (x0.1 y0).0 h in λ i. conjunction (p0 i),
  λ h. let q0 : tree_of_formulas x0.0 ≡ tree_of_formulas y0 = cc in ((x0.1 y0).1 q0),
)
layer-same (layer.Or x0) (layer.Or y0) = (
  λ h. let p0 = (x0.1 y0).0 h in λ i. disjunction (p0 i),
  λ h. let q0 : tree_of_formulas x0.0 ≡ tree_of_formulas y0 = cc in ((x0.1 y0).1 q0),
)
layer-same (layer.ForAll x0 x1 x2) (layer.ForAll y0 y1 y2) = (
  λ h. let k0 = both (pointwise (var_impl.ghosts).eq x0 y0) ((bound_impl.ghosts).eq x1 y1 && formula_eq x2.value.0 y2.value) h in let p0 =
      (list-tells (var_impl.ghosts).eq var-tells x0 y0).0 k0.0 in let k1 =
      both ((bound_impl.ghosts).eq x1 y1) (formula_eq x2.value.0 y2.value) k0.1 in let p1 = (bound-tells x1 y1).0 k1.0 in let p2 =
      (x2.value.1 y2.value).0 k1.1 in λ i. for_all (p0 i) (p1 i) (p2 i),
  λ h. let q0 : x0 ≡ y0 = cc in let q1 : x1 ≡ y1 = cc in let q2 : tree_of_formula x2.value.0 ≡ tree_of_formula y2.value = cc in
      (with_both ((list-tells (var_impl.ghosts).eq var-tells x0 y0).1 q0)
      (with_both ((bound-tells x1 y1).1 q1) ((x2.value.1 y2.value).1 q2))),
)
layer-same (layer.Exists x0 x1 x2) (layer.Exists y0 y1 y2) = (
  λ h. let k0 = both (pointwise (var_impl.ghosts).eq x0 y0) ((bound_impl.ghosts).eq x1 y1 && formula_eq x2.value.0 y2.value) h in let p0 =
      (list-tells (var_impl.ghosts).eq var-tells x0 y0).0 k0.0 in let k1 =
      both ((bound_impl.ghosts).eq x1 y1) (formula_eq x2.value.0 y2.value) k0.1 in let p1 = (bound-tells x1 y1).0 k1.0 in let p2 =
      (x2.value.1 y2.value).0 k1.1 in λ i. for_some (p0 i) (p1 i) (p2 i),
  λ h. let q0 : x0 ≡ y0 = cc in let q1 : x1 ≡ y1 = cc in let q2 : tree_of_formula x2.value.0 ≡ tree_of_formula y2.value = cc in
      (with_both ((list-tells (var_impl.ghosts).eq var-tells x0 y0).1 q0)
      (with_both ((bound-tells x1 y1).1 q1) ((x2.value.1 y2.value).1 q2))),
)
layer-same (layer.Next x0) (layer.Next y0) = (
  λ h. let p0 = (x0.value.1 y0.value).0 h in λ i. next (p0 i),
  λ h. let q0 : tree_of_formula x0.value.0 ≡ tree_of_formula y0.value = cc in ((x0.value.1 y0.value).1 q0),
)
layer-same (layer.Always x0) (layer.Always y0) = (
  λ h. let p0 = (x0.value.1 y0.value).0 h in λ i. always (p0 i),
  λ h. let q0 : tree_of_formula x0.value.0 ≡ tree_of_formula y0.value = cc in ((x0.value.1 y0.value).1 q0),
)
layer-same (layer.Eventually x0) (layer.Eventually y0) = (
  λ h. let p0 = (x0.value.1 y0.value).0 h in λ i. eventually (p0 i),
  λ h. let q0 : tree_of_formula x0.value.0 ≡ tree_of_formula y0.value = cc in ((x0.value.1 y0.value).1 q0),
)
layer-same (layer.Until x0 x1) (layer.Until y0 y1) = (
  λ h. let k0 = both (formula_eq x0.value.0 y0.value) (formula_eq x1.value.0 y1.value) h in let p0 = (x0.value.1 y0.value).0 k0.0 in
      let p1 = (x1.value.1 y1.value).0 k0.1 in λ i. until (p0 i) (p1 i),
  λ h. let q0 : tree_of_formula x0.value.0 ≡ tree_of_formula y0.value = cc in let q1 : tree_of_formula x1.value.0 ≡
      tree_of_formula y1.value = cc in (with_both ((x0.value.1 y0.value).1 q0) ((x1.value.1 y1.value).1 q1)),
)
layer-same (layer.Within x0 x1) (layer.Within y0 y1) = (
  λ h. let k0 = both (nat_eq x0 y0) (formula_eq x1.value.0 y1.value) h in let p0 = (nat-tells x0 y0).0 k0.0 in let p1 =
      (x1.value.1 y1.value).0 k0.1 in λ i. within (p0 i) (p1 i),
  λ h. let q0 : x0 ≡ y0 = cc in let q1 : tree_of_formula x1.value.0 ≡ tree_of_formula y1.value = cc in
      (with_both ((nat-tells x0 y0).1 q0) ((x1.value.1 y1.value).1 q1)),
)
layer-same (layer.During x0 x1) (layer.During y0 y1) = (
  λ h. let k0 = both (nat_eq x0 y0) (formula_eq x1.value.0 y1.value) h in let p0 = (nat-tells x0 y0).0 k0.0 in let p1 =
      (x1.value.1 y1.value).0 k0.1 in λ i. during (p0 i) (p1 i),
  λ h. let q0 : x0 ≡ y0 = cc in let q1 : tree_of_formula x1.value.0 ≡ tree_of_formula y1.value = cc in
      (with_both ((nat-tells x0 y0).1 q0) ((x1.value.1 y1.value).1 q1)),
)
layer-same x y = (λ h. absurd (true≢false (sym h)), λ e. absurd (let k : ⊥ = cc in k))

items-same : (xs : List ((t : Formula) × IsSame t)) (ys : List Formula) → (pointwise formula_eq (map (λ e. e.0) xs) ys ≡ true) ↔
    (formulas_of_list (map tree_of_formula (map (λ e. e.0) xs)) ≡ formulas_of_list (map tree_of_formula ys))
unfolding IsSame
items-same [] [] = (λ _. refl, λ _. refl)
items-same (x ∷ xs) (y ∷ ys) = (
  λ h. let k = both (formula_eq x.0 y) (pointwise formula_eq (map (λ e. e.0) xs) ys) h in
      ap₂ more_formulas ((x.1 y).0 k.0) ((items-same xs ys).0 k.1),
  λ h.
      let p : tree_of_formula x.0 ≡ tree_of_formula y = cc in
      let q : formulas_of_list (map tree_of_formula (map (λ e. e.0) xs)) ≡ formulas_of_list (map tree_of_formula ys) = cc in
      with_both ((x.1 y).1 p) ((items-same xs ys).1 q),
)
items-same xs ys = (λ h. absurd (true≢false (sym h)), λ e. absurd (let k : ⊥ = cc in k))

abbrev all_below : Formulas-F ((t : Formula) × IsSame t) ((ts : Formulas) × AreSame ts) → Formulas-F Formula Formulas
all_below = map-Formulas ((t : Formula) × IsSame t) ((ts : Formulas) × AreSame ts) Formula Formulas (λ e. e.0) (λ e. e.0)

pub formula-same : (a b : Formula) → (formula_eq a b ≡ true) ↔ (tree_of_formula a ≡ tree_of_formula b)
unfolding IsSame AreSame
formula-same = ind-Formula IsSame AreSame
    (λ x y is b. subst (λ z. (c : Formula) → (formula_eq (roll-Formula z) c ≡ true) ↔
    (tree_of_formula (roll-Formula z) ≡ tree_of_formula c)) is
    (λ c. subst (λ w. (formula_eq (roll-Formula (below y)) w ≡ true) ↔ (tree_of_formula (roll-Formula (below y)) ≡ tree_of_formula w))
    (roll-out-Formula c)
    (iff-along (eq-roll (below y) (out-Formula c)) (tree-roll (below y)) (tree-roll (out-Formula c)) (layer-same y (out-Formula c)))) b)
    (λ x y is us. subst (λ z. (formulas_eq (roll-Formulas z) us ≡ true) ↔ (tree_of_formulas (roll-Formulas z) ≡ tree_of_formulas us)) is
    (iff-along (eq-Formulas (roll-Formulas (all_below y)) us) (trees-Formulas (roll-Formulas (all_below y))) (trees-Formulas us)
    (items-same y.items.items us.items.items)))

list-same : (xs ys : List Formula) → (pointwise formula_eq xs ys ≡ true) ↔
    (formulas_of_list (map tree_of_formula xs) ≡ formulas_of_list (map tree_of_formula ys))
list-same [] [] = (λ _. refl, λ _. refl)
list-same (x ∷ xs) (y ∷ ys) = (
  λ h. let k = both (formula_eq x y) (pointwise formula_eq xs ys) h in
      ap₂ more_formulas ((formula-same x y).0 k.0) ((list-same xs ys).0 k.1),
  λ h.
      let p : tree_of_formula x ≡ tree_of_formula y = cc in
      let q : formulas_of_list (map tree_of_formula xs) ≡ formulas_of_list (map tree_of_formula ys) = cc in
      with_both ((formula-same x y).1 p) ((list-same xs ys).1 q),
)
list-same xs ys = (λ h. absurd (true≢false (sym h)), λ e. absurd (let k : ⊥ = cc in k))

pub formulas-same : (fs gs : Formulas) → (formulas_eq fs gs ≡ true) ↔ (tree_of_formulas fs ≡ tree_of_formulas gs)
formulas-same fs gs = iff-along (eq-Formulas fs gs) (trees-Formulas fs) (trees-Formulas gs) (list-same fs.items.items gs.items.items)

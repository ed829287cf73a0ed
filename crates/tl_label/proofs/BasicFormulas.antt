-- A basic formula is of one of six kinds.
use Rattle.std.proofs.Common.{◌≡◌, ℕ, List, true, false, refl, sym, ap, ◌∙◌, true≢false}
use Rattle.tl_syntax.specs.declared.formula.Formula.{Formula, Formula-F, out-Formula, roll-Formula, roll-out-Formula}
use Rattle.tl_syntax.specs.declared.formula.Formula.TheOpen as layer
use Rattle.tl_syntax.specs.declared.formula.Formula.TheVariants as variant
use Rattle.tl_syntax.specs.declared.formula.Formulas.{Formulas}
use Rattle.tl_syntax.specs.declared.term.Term.{Term}
use Rattle.tl_syntax.specs.declared.term.Terms.{Terms}
use Rattle.tl_syntax.specs.declared.value.Cmp.{Cmp}
use Rattle.tl_syntax.specs.declared.variable.Arg.{Arg}
use Rattle.tl_syntax.specs.Basic.{is_basic}
use Rattle.tl_syntax.specs.TreeOfFormula.{tree_of_formula, tree_of_formulas}
use Rattle.tl_syntax.specs.Trees.{FormulaTree, verum, falsum, negation, conjunction, disjunction, for_all, for_some, next, always}
use Rattle.tl_syntax.specs.Trees.{eventually, until, within, during}
use Rattle.tl_syntax.proofs.FormulaTrees.{tree-True, tree-False, tree-Not, tree-And, tree-Or, tree-ForAll, tree-Exists, tree-Next}
use Rattle.tl_syntax.proofs.FormulaTrees.{tree-Always, tree-Eventually, tree-Until, tree-Within, tree-During}

module _ (f : Formula) (basic : is_basic (tree_of_formula f) ≡ true) where
  other : (k : FormulaTree) → tree_of_formula f ≡ k → is_basic k ≡ false → ⊥
  other k e h = true≢false (sym basic ∙ ap is_basic e ∙ h)

  module _ (not_atom : (p : ℕ) (ts : Terms) → f ≡ variant.Atom p ts → ⊥) (not_defined : (p : ℕ) (ts : Terms) → f ≡ variant.Defined p ts → ⊥)
      (not_compare : (c : Cmp) (a b : Term) → f ≡ variant.Compare c a b → ⊥)
      (not_goal_fact : (p : ℕ) (xs : List Arg) → f ≡ variant.GoalFact p xs → ⊥)
      (not_goal_place : (p : ℕ) (xs : List Arg) (x : Arg) → f ≡ variant.GoalPlace p xs x → ⊥)
      (not_goal_not : (p : ℕ) (xs : List Arg) → f ≡ variant.GoalNot p xs → ⊥) where
    by_layer : (k : Formula-F Formula Formulas) → roll-Formula k ≡ f → ⊥
    by_layer (layer.Atom p ts) e = not_atom p ts (sym e ∙ variant.rolls-Atom p ts)
    by_layer (layer.Defined p ts) e = not_defined p ts (sym e ∙ variant.rolls-Defined p ts)
    by_layer (layer.Compare c a b) e = not_compare c a b (sym e ∙ variant.rolls-Compare c a b)
    by_layer (layer.GoalFact p xs) e = not_goal_fact p xs (sym e ∙ variant.rolls-GoalFact p xs)
    by_layer (layer.GoalPlace p xs x) e = not_goal_place p xs x (sym e ∙ variant.rolls-GoalPlace p xs x)
    by_layer (layer.GoalNot p xs) e = not_goal_not p xs (sym e ∙ variant.rolls-GoalNot p xs)
    by_layer layer.True e = other verum (ap tree_of_formula (sym e ∙ variant.rolls-True) ∙ tree-True) refl
    by_layer layer.False e = other falsum (ap tree_of_formula (sym e ∙ variant.rolls-False) ∙ tree-False) refl
    by_layer (layer.Not x) e = other (negation (tree_of_formula x.value))
        (ap tree_of_formula (sym e ∙ variant.rolls-Not x) ∙ tree-Not x) refl
    by_layer (layer.And fs) e = other (conjunction (tree_of_formulas fs))
        (ap tree_of_formula (sym e ∙ variant.rolls-And fs) ∙ tree-And fs) refl
    by_layer (layer.Or fs) e = other (disjunction (tree_of_formulas fs))
        (ap tree_of_formula (sym e ∙ variant.rolls-Or fs) ∙ tree-Or fs) refl
    by_layer (layer.ForAll vs b x) e = other (for_all vs b (tree_of_formula x.value))
        (ap tree_of_formula (sym e ∙ variant.rolls-ForAll vs b x) ∙ tree-ForAll vs b x) refl
    by_layer (layer.Exists vs b x) e = other (for_some vs b (tree_of_formula x.value))
        (ap tree_of_formula (sym e ∙ variant.rolls-Exists vs b x) ∙ tree-Exists vs b x) refl
    by_layer (layer.Next x) e = other (next (tree_of_formula x.value))
        (ap tree_of_formula (sym e ∙ variant.rolls-Next x) ∙ tree-Next x) refl
    by_layer (layer.Always x) e = other (always (tree_of_formula x.value))
        (ap tree_of_formula (sym e ∙ variant.rolls-Always x) ∙ tree-Always x) refl
    by_layer (layer.Eventually x) e = other (eventually (tree_of_formula x.value))
        (ap tree_of_formula (sym e ∙ variant.rolls-Eventually x) ∙ tree-Eventually x) refl
    by_layer (layer.Until x y) e = other (until (tree_of_formula x.value) (tree_of_formula y.value))
        (ap tree_of_formula (sym e ∙ variant.rolls-Until x y) ∙ tree-Until x y) refl
    by_layer (layer.Within n x) e = other (within n (tree_of_formula x.value))
        (ap tree_of_formula (sym e ∙ variant.rolls-Within n x) ∙ tree-Within n x) refl
    by_layer (layer.During n x) e = other (during n (tree_of_formula x.value))
        (ap tree_of_formula (sym e ∙ variant.rolls-During n x) ∙ tree-During n x) refl

    pub not-basic : ⊥
    not-basic = by_layer (out-Formula f) (roll-out-Formula f)

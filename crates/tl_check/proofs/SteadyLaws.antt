-- Terms and formulas that mean the same in all states.
use Rattle.std.proofs.Common.{◌≡◌, ℕ, List, Box, Global, refl, sym, ap, ap₂, ◌∙◌, subst}
use Rattle.tl_check.specs.Ahead.{true_ahead}
use Rattle.tl_check.specs.FixedTerms.{IsFixed}
use Rattle.tl_check.specs.Steady.{IsSteady}
use Rattle.tl_syntax.proofs.FormulaTrees.{tree-True, tree-False, tree-Compare, tree-GoalFact, tree-GoalPlace, tree-GoalNot}
use Rattle.tl_syntax.proofs.TermTrees.{tree-Var, tree-Val, tree-Arith}
use Rattle.tl_syntax.specs.declared.formula.Formula.{Formula}
use Rattle.tl_syntax.specs.declared.formula.Formula.TheVariants as formula
use Rattle.tl_syntax.specs.declared.term.Term.{Term}
use Rattle.tl_syntax.specs.declared.term.Term.TheVariants as term
use Rattle.tl_syntax.specs.declared.value.Cmp.{Cmp}
use Rattle.tl_syntax.specs.declared.value.Op.{Op}
use Rattle.tl_syntax.specs.declared.value.Value.{Value}
use Rattle.tl_syntax.specs.declared.variable.Arg.{Arg}
use Rattle.tl_syntax.specs.declared.variable.Var.{Var}
use Rattle.tl_syntax.specs.TreeOfFormula.{tree_of_formula}
use Rattle.tl_syntax.specs.TreeOfTerm.{tree_of_term}
use Rattle.tl_syntax.specs.Trees.{TermTree, variable, value, arith, verum, falsum, compare, goal_fact, goal_place, goal_not}
use Rattle.tl_terms.specs.Definitions.{situation_of}
use Rattle.tl_terms.specs.Terms.{term_value, apply_op}
use Rattle.tl_terms.specs.Truth.{state_true, compared}

variable-fixed : (x : Var) → IsFixed (variable x)
unfolding term_value
variable-fixed x e v w = refl

value-fixed : (x : Value) → IsFixed (value x)
unfolding term_value
value-fixed x e v w = refl

arith-fixed : (op : Op) (s t : TermTree) (at : ℕ) → IsFixed s → IsFixed t → IsFixed (arith op s t at)
unfolding term_value
arith-fixed op s t at h k e v w = ap₂ (apply_op op) (h e v w) (k e v w)

pub fixed-Var : (t : Term) (x : Var) → t ≡ term.Var x → IsFixed (tree_of_term t)
fixed-Var t x q = subst IsFixed (sym (ap tree_of_term q ∙ tree-Var x)) (variable-fixed x)

pub fixed-Val : (t : Term) (x : Value) → t ≡ term.Val x → IsFixed (tree_of_term t)
fixed-Val t x q = subst IsFixed (sym (ap tree_of_term q ∙ tree-Val x)) (value-fixed x)

pub fixed-Arith : (t : Term) (op : Op) (a b : Box Term Global) (at : ℕ) (x y : Term) → t ≡ term.Arith op a b at → x ≡ a.value → y ≡
    b.value → IsFixed (tree_of_term x) → IsFixed (tree_of_term y) → IsFixed (tree_of_term t)
fixed-Arith t op a b at x y q m n h k =
    subst IsFixed (sym (ap tree_of_term q ∙ tree-Arith op a b at)) (arith-fixed op (tree_of_term a.value) (tree_of_term b.value) at
    (subst (λ (u : Term). IsFixed (tree_of_term u)) m h) (subst (λ (u : Term). IsFixed (tree_of_term u)) n k))

verum-steady : IsSteady verum
unfolding true_ahead
verum-steady p e v w vs ws = refl

falsum-steady : IsSteady falsum
unfolding true_ahead
falsum-steady p e v w vs ws = refl

goal_fact-steady : (q : ℕ) (xs : List Arg) → IsSteady (goal_fact q xs)
unfolding true_ahead state_true situation_of
goal_fact-steady q xs p e v w vs ws = refl

goal_place-steady : (k : ℕ) (xs : List Arg) (x : Arg) → IsSteady (goal_place k xs x)
unfolding true_ahead state_true situation_of
goal_place-steady k xs x p e v w vs ws = refl

goal_not-steady : (q : ℕ) (xs : List Arg) → IsSteady (goal_not q xs)
unfolding true_ahead state_true situation_of
goal_not-steady q xs p e v w vs ws = refl

compare-steady : (c : Cmp) (s t : TermTree) → IsFixed s → IsFixed t → IsSteady (compare c s t)
unfolding true_ahead state_true situation_of
compare-steady c s t h k p e v w vs ws = ap₂ (compared c) (h e v w) (k e v w)

pub steady-True : (f : Formula) → f ≡ formula.True → IsSteady (tree_of_formula f)
steady-True f q = subst IsSteady (sym (ap tree_of_formula q ∙ tree-True)) verum-steady

pub steady-False : (f : Formula) → f ≡ formula.False → IsSteady (tree_of_formula f)
steady-False f q = subst IsSteady (sym (ap tree_of_formula q ∙ tree-False)) falsum-steady

pub steady-GoalFact : (f : Formula) (k : ℕ) (xs : List Arg) → f ≡ formula.GoalFact k xs → IsSteady (tree_of_formula f)
steady-GoalFact f k xs q = subst IsSteady (sym (ap tree_of_formula q ∙ tree-GoalFact k xs)) (goal_fact-steady k xs)

pub steady-GoalPlace : (f : Formula) (k : ℕ) (xs : List Arg) (x : Arg) → f ≡ formula.GoalPlace k xs x → IsSteady (tree_of_formula f)
steady-GoalPlace f k xs x q = subst IsSteady (sym (ap tree_of_formula q ∙ tree-GoalPlace k xs x)) (goal_place-steady k xs x)

pub steady-GoalNot : (f : Formula) (k : ℕ) (xs : List Arg) → f ≡ formula.GoalNot k xs → IsSteady (tree_of_formula f)
steady-GoalNot f k xs q = subst IsSteady (sym (ap tree_of_formula q ∙ tree-GoalNot k xs)) (goal_not-steady k xs)

pub steady-Compare : (f : Formula) (c : Cmp) (x y : Term) → f ≡ formula.Compare c x y → IsFixed (tree_of_term x) →
    IsFixed (tree_of_term y) → IsSteady (tree_of_formula f)
steady-Compare f c x y q h k = subst IsSteady (sym (ap tree_of_formula q ∙ tree-Compare c x y))
    (compare-steady c (tree_of_term x) (tree_of_term y) h k)

-- One layer of a formula, over the numbers of its parts.
use Rattle.std.proofs.Common.{◌≡◌, ℕ, true, List, map, length, Some, slice_get, refl}
use Rattle.tl_syntax.specs.declared.formula.Formula.{Formula}
use Rattle.tl_syntax.specs.declared.variable.Var.{Var}
use Rattle.tl_syntax.specs.declared.bound.Bound.{Bound}
use Rattle.tl_nodes.specs.declared.node.Node.TheVariants as node
use Rattle.tl_syntax.specs.declared.value.Cmp.{Cmp}
use Rattle.tl_syntax.specs.declared.variable.Arg.{Arg}
use Rattle.tl_syntax.specs.Basic.{is_basic}
use Rattle.tl_syntax.specs.TreeOfFormula.{tree_of_formula}
use Rattle.tl_syntax.specs.Trees.{FormulaTree, TermTree, TermTrees, atom, defined, compare, goal_fact, goal_place, goal_not, verum, falsum}
use Rattle.tl_syntax.specs.Trees.{negation, conjunction, disjunction, for_all, for_some, next, always, eventually, until, within, during}
use Rattle.tl_syntax.specs.Trees.{formulas_of_list}
use Rattle.tl_syntax.proofs.FormulaTrees.{formula_trees, trees-Formulas}
use Rattle.tl_syntax.proofs.Plain.{with_both}
use Rattle.tl_nodes.specs.Fits.{all_below, fits}
use Rattle.tl_nodes.specs.NodeTrees.{tree_at, tree_of_node}
use Rattle.tl_nodes.proofs.KeptNumbers.{inside}
use Rattle.tl_nodes.proofs.TreesOfNodes.{at-is}

pub node-True : (ts : List FormulaTree) → tree_of_node ts node.True ≡ verum
unfolding tree_of_node
node-True ts = refl

pub node-False : (ts : List FormulaTree) → tree_of_node ts node.False ≡ falsum
unfolding tree_of_node
node-False ts = refl

pub node-Basic : (ts : List FormulaTree) (f : Formula) → tree_of_node ts (node.Basic f) ≡ tree_of_formula f
unfolding tree_of_node
node-Basic ts f = refl

pub node-Not : (ts : List FormulaTree) (i : ℕ) → tree_of_node ts (node.Not i) ≡ negation (tree_at ts i)
unfolding tree_of_node
node-Not ts i = refl

pub node-And : (ts : List FormulaTree) (ids : List ℕ) → tree_of_node ts (node.And ids) ≡
    conjunction (formulas_of_list (map (tree_at ts) ids))
unfolding tree_of_node
node-And ts ids = refl

pub node-Or : (ts : List FormulaTree) (ids : List ℕ) → tree_of_node ts (node.Or ids) ≡ disjunction (formulas_of_list (map (tree_at ts) ids))
unfolding tree_of_node
node-Or ts ids = refl

pub node-Next : (ts : List FormulaTree) (i : ℕ) → tree_of_node ts (node.Next i) ≡ next (tree_at ts i)
unfolding tree_of_node
node-Next ts i = refl

pub node-Always : (ts : List FormulaTree) (i : ℕ) → tree_of_node ts (node.Always i) ≡ always (tree_at ts i)
unfolding tree_of_node
node-Always ts i = refl

pub node-Eventually : (ts : List FormulaTree) (i : ℕ) → tree_of_node ts (node.Eventually i) ≡ eventually (tree_at ts i)
unfolding tree_of_node
node-Eventually ts i = refl

pub node-Until : (ts : List FormulaTree) (i j : ℕ) → tree_of_node ts (node.Until i j) ≡ until (tree_at ts i) (tree_at ts j)
unfolding tree_of_node
node-Until ts i j = refl

pub node-Within : (ts : List FormulaTree) (n i : ℕ) → tree_of_node ts (node.Within n i) ≡ within n (tree_at ts i)
unfolding tree_of_node
node-Within ts n i = refl

pub node-During : (ts : List FormulaTree) (n i : ℕ) → tree_of_node ts (node.During n i) ≡ during n (tree_at ts i)
unfolding tree_of_node
node-During ts n i = refl

pub node-ForAll : (ts : List FormulaTree) (vs : List Var) (b : Bound) (i : ℕ) → tree_of_node ts (node.ForAll vs b i) ≡
    for_all vs b (tree_at ts i)
unfolding tree_of_node
node-ForAll ts vs b i = refl

pub node-Exists : (ts : List FormulaTree) (vs : List Var) (b : Bound) (i : ℕ) → tree_of_node ts (node.Exists vs b i) ≡
    for_some vs b (tree_at ts i)
unfolding tree_of_node
node-Exists ts vs b i = refl

pub fits-True : (n : ℕ) → fits n node.True ≡ true
unfolding fits
fits-True n = refl

pub fits-False : (n : ℕ) → fits n node.False ≡ true
unfolding fits
fits-False n = refl

pub fits-Basic : (n : ℕ) (f : Formula) → fits n (node.Basic f) ≡ is_basic (tree_of_formula f)
unfolding fits
fits-Basic n f = refl

pub basic-atom : (p : ℕ) (ts : TermTrees) → is_basic (atom p ts) ≡ true
basic-atom p ts = refl

pub basic-defined : (p : ℕ) (ts : TermTrees) → is_basic (defined p ts) ≡ true
basic-defined p ts = refl

pub basic-compare : (c : Cmp) (x y : TermTree) → is_basic (compare c x y) ≡ true
basic-compare c x y = refl

pub basic-goal_fact : (p : ℕ) (xs : List Arg) → is_basic (goal_fact p xs) ≡ true
basic-goal_fact p xs = refl

pub basic-goal_place : (f : ℕ) (xs : List Arg) (x : Arg) → is_basic (goal_place f xs x) ≡ true
basic-goal_place f xs x = refl

pub basic-goal_not : (p : ℕ) (xs : List Arg) → is_basic (goal_not p xs) ≡ true
basic-goal_not p xs = refl

pub fits-Not : (ts : List FormulaTree) (i : ℕ) (t : FormulaTree) → slice_get ts i ≡ Some t → fits (length ts) (node.Not i) ≡ true
unfolding fits
fits-Not ts i t h = inside ts i t h

pub fits-Next : (ts : List FormulaTree) (i : ℕ) (t : FormulaTree) → slice_get ts i ≡ Some t → fits (length ts) (node.Next i) ≡ true
unfolding fits
fits-Next ts i t h = inside ts i t h

pub fits-Always : (ts : List FormulaTree) (i : ℕ) (t : FormulaTree) → slice_get ts i ≡ Some t → fits (length ts) (node.Always i) ≡ true
unfolding fits
fits-Always ts i t h = inside ts i t h

pub fits-Eventually : (ts : List FormulaTree) (i : ℕ) (t : FormulaTree) → slice_get ts i ≡ Some t → fits (length ts) (node.Eventually i) ≡
    true
unfolding fits
fits-Eventually ts i t h = inside ts i t h

pub fits-Within : (ts : List FormulaTree) (n i : ℕ) (t : FormulaTree) → slice_get ts i ≡ Some t → fits (length ts) (node.Within n i) ≡ true
unfolding fits
fits-Within ts n i t h = inside ts i t h

pub fits-During : (ts : List FormulaTree) (n i : ℕ) (t : FormulaTree) → slice_get ts i ≡ Some t → fits (length ts) (node.During n i) ≡ true
unfolding fits
fits-During ts n i t h = inside ts i t h

pub fits-ForAll : (ts : List FormulaTree) (vs : List Var) (b : Bound) (i : ℕ) (t : FormulaTree) → slice_get ts i ≡ Some t →
    fits (length ts) (node.ForAll vs b i) ≡ true
unfolding fits
fits-ForAll ts vs b i t h = inside ts i t h

pub fits-Exists : (ts : List FormulaTree) (vs : List Var) (b : Bound) (i : ℕ) (t : FormulaTree) → slice_get ts i ≡ Some t →
    fits (length ts) (node.Exists vs b i) ≡ true
unfolding fits
fits-Exists ts vs b i t h = inside ts i t h

pub fits-Until : (ts : List FormulaTree) (i j : ℕ) (t u : FormulaTree) → slice_get ts i ≡ Some t → slice_get ts j ≡ Some u →
    fits (length ts) (node.Until i j) ≡ true
unfolding fits
fits-Until ts i j t u h k = with_both (inside ts i t h) (inside ts j u k)

pub fits-And : (n : ℕ) (ids : List ℕ) → fits n (node.And ids) ≡ all_below n ids
unfolding fits
fits-And n ids = refl

pub fits-Or : (n : ℕ) (ids : List ℕ) → fits n (node.Or ids) ≡ all_below n ids
unfolding fits
fits-Or n ids = refl

pub ruleset layers = (
  formula_trees,
  trees-Formulas,
  node-True,
  node-False,
  node-Basic,
  node-Not,
  node-And,
  node-Or,
  node-Next,
  node-Always,
  node-Eventually,
  node-Until,
  node-Within,
  node-During,
  node-ForAll,
  node-Exists,
  at-is,
  fits-True,
  fits-False,
  fits-Basic,
  basic-atom,
  basic-defined,
  basic-compare,
  basic-goal_fact,
  basic-goal_place,
  basic-goal_not,
  fits-Not,
  fits-Next,
  fits-Always,
  fits-Eventually,
  fits-Within,
  fits-During,
  fits-ForAll,
  fits-Exists,
  fits-Until,
  fits-And,
  fits-Or,
)

-- What is stored beside each node is whether its tree has a temporal word.
use Rattle.std.proofs.Common.{◌≡◌, ◌↔◌, ◌<◌, arith, length, get_or, Bool, ℕ, zero, suc, true, false, true≢false, List, [], ◌∷◌, map, ap₂}
use Rattle.std.proofs.Common.{sym, refl, ◌||◌}
use Rattle.std.specs.List.{list_any}
use Rattle.tl_nodes.specs.declared.node.Node.{Node}
use Rattle.tl_nodes.specs.declared.node.Node.TheVariants as node
use Rattle.tl_syntax.specs.Basic.{is_basic}
use Rattle.tl_syntax.specs.TreeOfFormula.{tree_of_formula}
use Rattle.tl_syntax.specs.StateFormulas.{IsState, AreState}
use Rattle.tl_syntax.specs.Trees.{FormulaTree, FormulaTrees, atom, defined, compare, goal_fact, goal_place, goal_not, negation, conjunction}
use Rattle.tl_syntax.specs.Trees.{disjunction, for_all, for_some, next, always, eventually, until, within, during, no_formula}
use Rattle.tl_syntax.specs.Trees.{more_formulas, formulas_of_list}
use Rattle.tl_nodes.specs.Fits.{fits}
use Rattle.tl_nodes.specs.NodeTrees.{tree_at, tree_of_node}
use Rattle.tl_nodes.specs.Temporal.{has_temporal, any_temporal, flag_of, node_temporal}

flag-at : (ts : List FormulaTree) (i : ℕ) → has_temporal (tree_at ts i) ≡ flag_of (map has_temporal ts) i
unfolding has_temporal any_temporal
flag-at [] i = refl
flag-at (t ∷ ts) zero = refl
flag-at (t ∷ ts) (suc i) = flag-at ts i

flags-at : (ts : List FormulaTree) (is : List ℕ) → any_temporal (formulas_of_list (map (tree_at ts) is)) ≡
    list_any (flag_of (map has_temporal ts)) is
unfolding has_temporal any_temporal
flags-at ts [] = refl
flags-at ts (i ∷ is) = ap₂ (λ a b. a || b) (flag-at ts i) (flags-at ts is)

basic-plain : (t : FormulaTree) → is_basic t ≡ true → has_temporal t ≡ false
unfolding has_temporal any_temporal
basic-plain (atom p ts) h = refl
basic-plain (defined p ts) h = refl
basic-plain (compare c x y) h = refl
basic-plain (goal_fact p xs) h = refl
basic-plain (goal_place f xs x) h = refl
basic-plain (goal_not p xs) h = refl
basic-plain t h = absurd (true≢false (sym h))

pub temporal-node : (ts : List FormulaTree) (n : ℕ) (a : Node) → fits n a ≡ true → has_temporal (tree_of_node ts a) ≡
    node_temporal (map has_temporal ts) a
unfolding tree_of_node has_temporal any_temporal fits
temporal-node ts n (node.Basic f) h = basic-plain (tree_of_formula f) h
temporal-node ts n (node.Not i) h = flag-at ts i
temporal-node ts n (node.And is) h = flags-at ts is
temporal-node ts n (node.Or is) h = flags-at ts is
temporal-node ts n (node.ForAll vs b i) h = flag-at ts i
temporal-node ts n (node.Exists vs b i) h = flag-at ts i
temporal-node ts n a h = refl

or-false : (a b : Bool) → (a || b) ≡ false → (a ≡ false) × (b ≡ false)
or-false true b h = absurd (true≢false h)
or-false false b h = (refl, h)

no-or : (a b : Bool) → a ≡ false → b ≡ false → (a || b) ≡ false
no-or true b h k = absurd (true≢false h)
no-or false b h k = k

-- a tree without a temporal word is a state formula
mutual
  unfolding has_temporal any_temporal

  is-state : (f : FormulaTree) → has_temporal f ≡ false → IsState f
  is-state (negation f) h = is-state f h
  is-state (conjunction fs) h = are-state fs h
  is-state (disjunction fs) h = are-state fs h
  is-state (for_all ss b f) h = is-state f h
  is-state (for_some ss b f) h = is-state f h
  is-state (next f) h = true≢false h
  is-state (always f) h = true≢false h
  is-state (eventually f) h = true≢false h
  is-state (until f g) h = true≢false h
  is-state (within n f) h = true≢false h
  is-state (during n f) h = true≢false h
  is-state f h = tt

  are-state : (fs : FormulaTrees) → any_temporal fs ≡ false → AreState fs
  are-state no_formula h = tt
  are-state (more_formulas f fs) h = let p = or-false (has_temporal f) (any_temporal fs) h in (is-state f p.0, are-state fs p.1)

-- and the other way round
mutual
  unfolding has_temporal any_temporal

  state-plain : (f : FormulaTree) → IsState f → has_temporal f ≡ false
  state-plain (negation f) h = state-plain f h
  state-plain (conjunction fs) h = states-plain fs h
  state-plain (disjunction fs) h = states-plain fs h
  state-plain (for_all ss b f) h = state-plain f h
  state-plain (for_some ss b f) h = state-plain f h
  state-plain (next f) h = absurd h
  state-plain (always f) h = absurd h
  state-plain (eventually f) h = absurd h
  state-plain (until f g) h = absurd h
  state-plain (within n f) h = absurd h
  state-plain (during n f) h = absurd h
  state-plain f h = refl

  states-plain : (fs : FormulaTrees) → AreState fs → any_temporal fs ≡ false
  states-plain no_formula h = refl
  states-plain (more_formulas f fs) h = no-or (has_temporal f) (any_temporal fs) (state-plain f h.0) (states-plain fs h.1)

pub plain-exactly : (f : FormulaTree) → (has_temporal f ≡ false) ↔ IsState f
plain-exactly f = (is-state f, state-plain f)

-- what is stored at a number
pub read-flag : (ts : List FormulaTree) (i : ℕ) (b : Bool) → i < length ts → get_or (map has_temporal ts) i b ≡ has_temporal (tree_at ts i)
read-flag [] i b h = absurd (omega arith)
read-flag (t ∷ ts) zero b h = refl
read-flag (t ∷ ts) (suc i) b h = read-flag ts i b (omega arith)

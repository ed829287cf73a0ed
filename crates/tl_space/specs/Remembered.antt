-- Arrivals that are remembered, by the world and the formula that comes in.
use Rattle.std.specs.Prelude.{◌≡◌, ◌<◌, ℕ, List, length, slice_get, Some}
use Rattle.tl_syntax.specs.Assignment.{Assignment, no_values}
use Rattle.tl_syntax.specs.Lists.{Each}
use Rattle.tl_syntax.specs.Trees.{FormulaTree, falsum}
use Rattle.tl_terms.specs.Definitions.{situation_of}
use Rattle.tl_terms.specs.Pairs.{Pair}
use Rattle.tl_terms.specs.Problem.{PlainProblem}
use Rattle.tl_terms.specs.Progression.{progressed}
use Rattle.tl_terms.specs.World.{World}
use Rattle.tl_nodes.specs.NodeTrees.{tree_at}
use Rattle.tl_progress.specs.declared.residuals.Residuals.{Residuals}
use Rattle.tl_progress.specs.Answers.{residual}
use Rattle.tl_progress.specs.KeptResiduals.{found_in}
use Rattle.tl_search.specs.declared.arrival.Arrival.{Arrival}
use Rattle.tl_search.specs.declared.arrival.Arrival.TheVariants as arrival
use Rattle.tl_space.specs.Kept.{world_at, nodes_at}
use Rattle.tl_space.specs.declared.numbers.Numbers.{Numbers}

-- the pair of an arrival: the world, with the formula that comes in progressed through it
unfoldable pub pair_in_at : PlainProblem → List World → List FormulaTree → Numbers → Pair
pair_in_at p ws ts n = record {
  world = world_at ws n.world;
  formula =
      progressed (situation_of p (world_at ws n.world)) no_values (tree_at ts n.label);
}

-- what is known of a pair, among those that are kept: it is pruned, or is kept under this number
abbrev pub IsKnown : List Pair → Pair → Arrival → Type 0
IsKnown xs x arrival.Pruned = x.formula ≡ falsum
IsKnown xs x (arrival.Seen k) = slice_get xs k ≡ Some x
IsKnown xs x (arrival.Fresh k) = ⊥

-- the world and the formula have numbers, and this is known of the pair of their arrival
pub record IsRemembered (p : PlainProblem) (ws : List World) (ts : List FormulaTree) (ns : List Numbers)
    (e : Numbers × Arrival) : Type 0 where
  pub world : e.0.world < length ws
  pub label : e.0.label < length ts
  pub known : IsKnown (nodes_at ws ts ns) (pair_in_at p ws ts e.0) e.1

-- all that is remembered
abbrev pub AreRemembered : PlainProblem → List World → List FormulaTree → List Numbers → List (Numbers × Arrival) → Type 0
AreRemembered p ws ts ns es = Each (IsRemembered p ws ts ns) es

-- what is kept of worlds for progression: the worlds and the formulas have numbers, and it is what
-- has to hold next
abbrev pub AreFound : PlainProblem → List World → List FormulaTree → Residuals → Type 0
AreFound p ws ts r = (n k i : ℕ) → found_in r n k ≡ Some i → (n < length ws) ×
    ((k < length ts) × ((e : Assignment) → slice_get ts i ≡ Some (residual p (world_at ws n) e (tree_at ts k))))

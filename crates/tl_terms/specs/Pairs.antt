-- Residuals, and the search nodes of paths: pairs of a world and a formula.
use Rattle.std.specs.Prelude.{◌≡◌, ◌≢◌, List, [], ◌∷◌, ◌++◌, Option, Some, None, IsSome, IsTrue}
use Rattle.tl_syntax.specs.declared.action.Action.{Action}
use Rattle.tl_syntax.specs.Trees.{FormulaTree, falsum}
use Rattle.tl_terms.specs.World.{World}
use Rattle.tl_terms.specs.Problem.{PlainProblem}
use Rattle.tl_syntax.specs.Assignment.{no_values}
use Rattle.tl_terms.specs.Definitions.{situation_of}
use Rattle.tl_terms.specs.Run.{Satisfies, idle_run}
use Rattle.tl_terms.specs.Acceptance.{states, last_of, meets_goal}
use Rattle.tl_terms.specs.Progression.{progressed}

-- the formula progressed through the worlds in their order (Bacchus and Kabanza 2000)
unfoldable pub residual : PlainProblem → List World → FormulaTree → FormulaTree
residual p [] f = f
residual p (w ∷ ws) f = residual p ws (progressed (situation_of p w) no_values f)

-- a search node (Bacchus and Kabanza 2000): a world, and the formula that has to hold from the next
-- position on
pub record Pair : Type 0 where
  pub world : World
  pub formula : FormulaTree

-- the last of the states, and the residual of the control formula after all of them
abbrev pub pair_after : PlainProblem → Option (List World) → Option Pair
pair_after p (Some (w ∷ ws)) = Some (record { world = last_of w ws; formula = residual p (w ∷ ws) p.control })
pair_after p _ = None

-- the pair of a path, which is a plan that executes; another plan has none
abbrev pub pair_of : PlainProblem → List Action → Option Pair
pair_of p path = pair_after p (states p path)

-- the plan executes, and no prefix of it, itself included, has the residual FALSE
pub record IsOpen (p : PlainProblem) (path : List Action) : Type 0 where
  pub executes : IsSome (pair_of p path)
  pub unpruned : (front rest : List Action) (x : Pair) → front ++ rest ≡ path → pair_of p front ≡ Some x → x.formula ≢ falsum

-- the goal is met in the world, and the formula holds where the world is repeated for ever
pub record IsPairAccepted (p : PlainProblem) (x : Pair) : Type 0 where
  pub reaches : IsTrue (meets_goal x.world p.goal p.avoid)
  pub idles : Satisfies p (idle_run x.world) 0 x.formula

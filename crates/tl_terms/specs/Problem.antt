-- What a domain file and a problem file give together.
use Rattle.std.specs.Prelude.{ℕ, List}
use Rattle.tl_syntax.specs.declared.variable.Var.{Var}
use Rattle.tl_syntax.specs.declared.bound.Bound.{Bound}
use Rattle.tl_syntax.specs.Trees.{FormulaTree}
use Rattle.tl_syntax.specs.Effects.{EffectTrees}
use Rattle.tl_terms.specs.World.{World}

-- a defined predicate (Bacchus and Kabanza 2000); its body may name itself, down to the number of
-- levels
pub record PlainDefinition : Type 0 where
  pub params : List Var
  pub body : FormulaTree
  pub levels : ℕ

-- an ADL operator (Pednault 1989) with its parameters, their bounds, its precondition and its
-- effects
pub record PlainOperator : Type 0 where
  pub params : List Var
  pub bounds : List Bound
  pub pre : FormulaTree
  pub effects : EffectTrees

-- all that the meaning of a plan depends on; `goal` has the facts and places of the goal list, and
-- the facts of `avoid` are its negated facts
pub record PlainProblem : Type 0 where
  pub first : World
  pub goal : World
  pub avoid : World
  pub definitions : List PlainDefinition
  pub operators : List PlainOperator
  pub control : FormulaTree

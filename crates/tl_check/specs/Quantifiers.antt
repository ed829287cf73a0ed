-- Quantified formulas, and the truths of their instances together.
use Rattle.std.specs.Prelude.{List, [], ◌∷◌, Bool, not}
use Rattle.tl_check.specs.Passes.{joins}
use Rattle.tl_check.specs.declared.binder.Binder.{Binder}
use Rattle.tl_syntax.specs.declared.bound.Bound.{Bound}
use Rattle.tl_syntax.specs.declared.junction.Junction.{Junction}
use Rattle.tl_syntax.specs.declared.variable.Var.{Var}
use Rattle.tl_syntax.specs.Junctions.{deciding_truth}
use Rattle.tl_syntax.specs.TreeOfFormula.{tree_of_formula}
use Rattle.tl_syntax.specs.Trees.{FormulaTree}

-- a quantified formula: universal or existential
pub record Quantifier : Type 0 where
  pub junction : Junction
  pub vars : List Var
  pub bound : Bound
  pub part : FormulaTree

-- the formula of a quantifier with the one below it
abbrev pub quantifier_of : Binder → Quantifier
quantifier_of b = record { junction = b.junction; vars = b.vars.now; bound = b.bound.now; part = tree_of_formula b.part.now }

-- the truths of all together
abbrev pub joined_truths : {A : Type 0} → Junction → (A → Bool) → List A → Bool
joined_truths j truth [] = not (deciding_truth j)
joined_truths j truth (x ∷ xs) = joins j (truth x) (joined_truths j truth xs)

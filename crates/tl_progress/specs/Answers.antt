-- What the calls answer.
use Rattle.std.specs.Prelude.{List, [], ◌∷◌, Bool, true, false}
use Rattle.std.specs.List.{list_any, list_all}
use Rattle.tl_syntax.specs.Assignment.{Assignment}
use Rattle.tl_syntax.specs.Trees.{FormulaTree}
use Rattle.tl_terms.specs.Definitions.{situation_of}
use Rattle.tl_terms.specs.Idle.{idle_true}
use Rattle.tl_terms.specs.Looked.{looks_of, looked_in_basics}
use Rattle.tl_terms.specs.Operations.{Operation}
use Rattle.tl_terms.specs.Problem.{PlainProblem}
use Rattle.tl_terms.specs.Progression.{progressed}
use Rattle.tl_terms.specs.World.{World}

-- truth under the assignment where the world is repeated for ever
abbrev pub idly_true : PlainProblem → World → Assignment → FormulaTree → Bool
idly_true p w e f = idle_true (situation_of p w) e f

-- what is looked at for it
abbrev pub looked_idly : PlainProblem → World → Assignment → FormulaTree → List Operation
looked_idly p w e f = looked_in_basics true (looks_of p w) (situation_of p w ∷ []) (situation_of p w) e f

-- the truth of one of them, or of all
abbrev pub decided : {A : Type 0} → Bool → (A → Bool) → List A → Bool
decided true truth xs = list_any truth xs
decided false truth xs = list_all truth xs

-- what has to hold from the next position on, under the assignment
abbrev pub residual : PlainProblem → World → Assignment → FormulaTree → FormulaTree
residual p w e f = progressed (situation_of p w) e f

-- what is looked at for it
abbrev pub looked_for_residual : PlainProblem → World → Assignment → FormulaTree → List Operation
looked_for_residual p w e f = looked_in_basics false (looks_of p w) (situation_of p w ∷ []) (situation_of p w) e f

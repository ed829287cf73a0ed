-- What an evaluation of a formula answers where it is read, and what it needs.
use Rattle.std.specs.Prelude.{◌+◌, ℕ, List, Bool, Option, Result}
use Rattle.tl_eval.specs.declared.here.Here.{Here}
use Rattle.tl_eval.specs.declared.quantified.Quantified.{Quantified}
use Rattle.tl_eval.specs.declared.range.RangeNote.{RangeNote}
use Rattle.tl_eval.specs.declared.reading.Reading.{Reading}
use Rattle.tl_eval.specs.Frames.{current_assignment}
use Rattle.tl_eval.specs.Notes.{Evaluates}
use Rattle.tl_eval.specs.Reading.{situation_read, looked_read}
use Rattle.tl_eval.specs.Remembered.{Remembered, AreTruths}
use Rattle.tl_eval.specs.StateTruth.{IsTruth, FitsAt}
use Rattle.tl_syntax.specs.declared.formula.Formulas.{Formulas}
use Rattle.tl_syntax.specs.declared.junction.Junction.{Junction}
use Rattle.tl_syntax.specs.declared.term.Terms.{Terms}
use Rattle.tl_syntax.specs.declared.value.Value.{Value}
use Rattle.tl_syntax.specs.Junctions.{joined, quantified}
use Rattle.tl_syntax.specs.Signature.{Signature, signature_of, with_definitions_below, Takes}
use Rattle.tl_syntax.specs.TreeOfFormula.{tree_of_formula, tree_of_formulas}
use Rattle.tl_syntax.specs.TreeOfTerm.{tree_of_terms}
use Rattle.tl_syntax.specs.Trees.{FormulaTree, defined}
use Rattle.tl_terms.specs.Problem.{PlainProblem}
use Rattle.tl_terms.specs.ProblemMeaning.{plain_problem}

-- the problem of the task
abbrev pub problem_here : Here → PlainProblem
problem_here here = plain_problem here.task.now.problem

-- its signature
abbrev pub signature_here : Here → Signature
signature_here here = signature_of here.task.now.problem.domain

-- how many arguments its definitions take
abbrev pub definitions_here : Here → List ℕ
definitions_here here = (signature_here here).definitions

-- the tree of a quantified formula
abbrev pub quantified_formula : Quantified → FormulaTree
quantified_formula q = quantified q.junction q.vars.now q.bound.now (tree_of_formula q.part.now)

-- the tree of a conjunction or a disjunction
abbrev pub joined_formula : Junction → Formulas → FormulaTree
joined_formula junction fs = joined junction (tree_of_formulas fs)

-- the tree of an atom of a definition
abbrev pub defined_atom : ℕ → Terms → FormulaTree
defined_atom n ts = defined n (tree_of_terms ts)

-- each truth of a definition that is remembered is the truth in the world
abbrev pub AreTruthsHere : Here → List Remembered → Type 0
AreTruthsHere here rs = AreTruths (problem_here here) here.world.now rs

-- the formula's truth under the frame; or a note
abbrev pub IsTruthHere : Here → List (Option Value) → FormulaTree → Result Bool RangeNote → Type 0
IsTruthHere here frames f result = IsTruth (problem_here here) here.world.now here.reading.number here.reading.level
    (current_assignment frames) f result

-- the truth of a definition of the values, where its atom is read at the reading; or a note
abbrev pub IsDefinitionTruth : Here → Reading → ℕ → List Value → Result Bool RangeNote → Type 0
IsDefinitionTruth here r n values result =
    Evaluates ((situation_read (problem_here here) here.world.now r.number r.level).table n values)
    (looked_read (problem_here here) here.world.now r.number r.level n values) result

-- the formula fits where it is read
abbrev pub FitsHere : Here → FormulaTree → Type 0
FitsHere here f = FitsAt (signature_here here) here.reading.number f

-- definition n can be named where this is read, and takes so many arguments
abbrev pub TakesHere : Here → ℕ → ℕ → Type 0
TakesHere here n count = Takes (with_definitions_below (here.reading.number + 1) (signature_here here)).definitions n count

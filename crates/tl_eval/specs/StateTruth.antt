-- What an evaluation of a formula answers where it is read, and what it needs.
use Rattle.std.specs.Prelude.{◌≡◌, ◌+◌, ℕ, List, Bool, Option, Result, IfOk, IfErr}
use Rattle.tl_eval.specs.Frames.{assignment_in}
use Rattle.tl_eval.specs.Notes.{AreInRange, Tells, Evaluates}
use Rattle.tl_eval.specs.Remembered.{Remembered, AreTruths}
use Rattle.tl_eval.specs.Reading.{situation_in, situation_read, looked_read}
use Rattle.tl_eval.specs.declared.range.RangeNote.{RangeNote}
use Rattle.tl_syntax.specs.Assignment.{Assignment}
use Rattle.tl_syntax.specs.declared.value.Value.{Value}
use Rattle.tl_syntax.specs.Fits.{Fits}
use Rattle.tl_syntax.specs.Signature.{Signature, with_definitions_below}
use Rattle.tl_syntax.specs.Trees.{FormulaTree}
use Rattle.tl_terms.specs.Looked.{looked_in_state, looks_of}
use Rattle.tl_terms.specs.Operations.{Operation}
use Rattle.tl_terms.specs.Problem.{PlainProblem}
use Rattle.tl_terms.specs.ProblemMeaning.{plain_problem}
use Rattle.tl_terms.specs.Truth.{state_true}
use Rattle.tl_terms.specs.World.{World}
use Rattle.tl_world.specs.declared.task.Task.{Task}

-- the truth of the formula under the assignment, where it is read with the first n definitions and
-- definition n at level k; or a note of an operation that is looked at
abbrev pub IsTruth : PlainProblem → World → ℕ → ℕ → Assignment → FormulaTree → Result Bool RangeNote → Type 0
IsTruth p w n k e f result = Evaluates (state_true (situation_read p w n k) e f)
    (looked_in_state (looked_read p w n k) (situation_read p w n k) e f) result

-- the formula fits, below some quantifiers, and names definition n or those before it
pub record FitsAt (g : Signature) (n : ℕ) (f : FormulaTree) : Type 0 where
  pub around : List ℕ
  pub fits : Fits (with_definitions_below (n + 1) g) around f

-- whether the formula is true in a world of the task, under the frame
abbrev pub true_in_frame : Task → World → List (Option Value) → FormulaTree → Bool
true_in_frame task w frame f = state_true (situation_in task w) (assignment_in frame) f

-- the operations that are looked at for it
abbrev pub looked_in_frame : Task → World → List (Option Value) → FormulaTree → List Operation
looked_in_frame task w frame f = looked_in_state (looks_of (plain_problem task.problem) w) (situation_in task w) (assignment_in frame) f

-- each truth of a definition that is remembered is the truth in this world of the task
abbrev pub Remembers : Task → World → List Remembered → Type 0
Remembers task w rs = AreTruths (plain_problem task.problem) w rs

-- it is the truth of the formula in a world of the task, under the frame; or a note of an operation
-- that is looked at
abbrev pub IsWholeTruth : Task → World → List (Option Value) → FormulaTree → Result Bool RangeNote → Type 0
IsWholeTruth task w frame f result = Evaluates (true_in_frame task w frame f) (looked_in_frame task w frame f) result

-- where it is no note, it is the truth of the formula
abbrev pub IsTruthFound : Task → World → List (Option Value) → FormulaTree → Result Bool RangeNote → Type 0
IsTruthFound task w frame f result = IfOk result (λ b. b ≡ true_in_frame task w frame f)

-- and no operation that is looked at is past range
abbrev pub IsFoundInRange : Task → World → List (Option Value) → FormulaTree → Result Bool RangeNote → Type 0
IsFoundInRange task w frame f result = IfOk result (λ b. AreInRange (looked_in_frame task w frame f))

-- a note tells one that is
abbrev pub IsNoteOf : Task → World → List (Option Value) → FormulaTree → Result Bool RangeNote → Type 0
IsNoteOf task w frame f result = IfErr result (λ n. Tells (looked_in_frame task w frame f) n)

-- What the labelling of positions answers.
use Rattle.std.specs.Prelude.{◌≡◌, ◌≤◌, ◌+◌, ◌⊎◌, ℕ, suc, List, [], Bool, true, cond, Option, Some, None, Result, Ok, Err, length, map}
use Rattle.std.specs.Prelude.{nat_le, take, slice_get}
use Rattle.tl_check.specs.Ahead.{Course, true_ahead}
use Rattle.tl_check.specs.Passes.{joined_labels}
use Rattle.tl_check.specs.Spans.{marks_in}
use Rattle.tl_action.specs.declared.check_fault.CheckFault.{CheckFault}
use Rattle.tl_action.specs.declared.check_fault.CheckFault.TheVariants as fault
use Rattle.tl_check.specs.declared.span.Span.{Span}
use Rattle.tl_eval.specs.Notes.{Tells}
use Rattle.tl_syntax.specs.Assignment.{Assignment}
use Rattle.tl_syntax.specs.declared.junction.Junction.{Junction}
use Rattle.tl_syntax.specs.Trees.{FormulaTree}
use Rattle.tl_terms.specs.Definitions.{situation_of}
use Rattle.tl_terms.specs.Looked.{looked_in_basics, looks_of}
use Rattle.tl_terms.specs.Operations.{Operation}
use Rattle.tl_terms.specs.Problem.{PlainProblem}
use Rattle.tl_terms.specs.World.{World}

-- looked at in a world at the end of these worlds, whose bounds may be true in any of them
abbrev pub looked_there : PlainProblem → List World → Option World → Assignment → FormulaTree → List Operation
looked_there p ws None e f = []
looked_there p ws (Some w) e f = looked_in_basics true (looks_of p w) (map (situation_of p) ws) (situation_of p w) e f

-- position k comes at position i or after it: it is no earlier, or it is one of those that come
-- again
abbrev pub ComesAt : Course → List World → ℕ → ℕ → Type 0
ComesAt c ws i k = (i ≤ k) ⊎ (length ws ≤ k + length c.again)

-- the worlds that come up to position k: all of them, where it is one of those that come again
abbrev pub worlds_up_to : Course → List World → ℕ → List World
worlds_up_to c ws k = cond (nat_le (length ws) (k + length c.again)) ws (take (suc k) ws)

-- looked at along the worlds, in world k
abbrev pub looked_at : Course → List World → ℕ → Assignment → FormulaTree → List Operation
looked_at c ws k e f = looked_there c.problem (worlds_up_to c ws k) (slice_get ws k) e f

-- the labels of the span's positions, or a note of an operation that is looked at in a world that
-- comes at its first position or after it
abbrev pub AreLabels : Course → List World → Span → Assignment → FormulaTree → Result (List Bool) CheckFault → Type 0
AreLabels c ws span e f (Ok bs) = bs ≡ marks_in (true_ahead c e f) ws span
AreLabels c ws span e f (Err (fault.Range k note)) = ComesAt c ws span.from k × Tells (looked_at c ws k e f) note
AreLabels c ws span e f (Err fault.NoMemory) = Unit {0}

-- the labels of the part at the span's positions are joined with these, or an operation that it
-- looks at is noted
abbrev pub JoinsPart : Course → List World → Span → Assignment → Junction → FormulaTree → List Bool → List Bool →
    Result (Unit {0}) CheckFault → Type 0
JoinsPart c ws span e j f old new (Ok u) = new ≡ joined_labels j old (marks_in (true_ahead c e f) ws span)
JoinsPart c ws span e j f old new (Err (fault.Range k note)) = ComesAt c ws span.from k × Tells (looked_at c ws k e f) note
JoinsPart c ws span e j f old new (Err fault.NoMemory) = Unit {0}

-- What the evaluations of terms under a frame answer: a value, or a note of an operation that is
-- looked at and past range.
use Rattle.std.specs.Prelude.{ℕ, List, Bool, Option, Result, Ok, IfOk}
use Rattle.tl_eval.specs.Frames.{assignment_in}
use Rattle.tl_eval.specs.Notes.{AreInRange, Evaluates}
use Rattle.tl_eval.specs.declared.range.Operator.{Operator}
use Rattle.tl_eval.specs.declared.range.RangeNote.{RangeNote}
use Rattle.tl_syntax.specs.declared.term.Term.{Term}
use Rattle.tl_syntax.specs.declared.value.Cmp.{Cmp}
use Rattle.tl_syntax.specs.declared.value.Value.{Value}
use Rattle.tl_syntax.specs.declared.variable.Arg.{Arg}
use Rattle.tl_syntax.specs.TreeOfTerm.{tree_of_term}
use Rattle.tl_syntax.specs.Trees.{TermTree, TermTrees, arith}
use Rattle.tl_terms.specs.Bounds.{arg_value, arg_values, fact_in, same_value}
use Rattle.tl_terms.specs.Looked.{followed_if, leaves_open, looked_in_term, looked_in_terms}
use Rattle.tl_terms.specs.Operations.{Operation}
use Rattle.tl_terms.specs.Terms.{place_value, term_value, term_values}
use Rattle.tl_terms.specs.Truth.{compared}
use Rattle.tl_terms.specs.World.{World}

-- the value of the term in the world, under the frame
abbrev pub value_under : World → List (Option Value) → TermTree → Option Value
value_under w frame t = term_value w (assignment_in frame) t

-- the operations that are looked at for it
abbrev pub looked_under : World → List (Option Value) → TermTree → List Operation
looked_under w frame t = looked_in_term w (assignment_in frame) t

-- the values of the terms in the world, under the frame, where all are defined
abbrev pub values_under : World → List (Option Value) → TermTrees → Option (List Value)
values_under w frame ts = term_values w (assignment_in frame) ts

-- the operations that are looked at for them
abbrev pub all_looked_under : World → List (Option Value) → TermTrees → List Operation
all_looked_under w frame ts = looked_in_terms w (assignment_in frame) ts

-- it is the value of the term, or a note of it
abbrev pub IsValue : World → List (Option Value) → TermTree → Result (Option Value) RangeNote → Type 0
IsValue w frame t result = Evaluates (value_under w frame t) (looked_under w frame t) result

-- it is the value of the term in every world, and no operation that is looked at for it is past
-- range
abbrev pub IsPlainValue : List (Option Value) → TermTree → Option Value → Type 0
IsPlainValue frame t found = (w : World) → IsValue w frame t (Ok found)

-- it is the value of the operation on the two terms, or a note of it
abbrev pub IsOperationValue : World → List (Option Value) → Operator → Term → Term → Result (Option Value) RangeNote → Type 0
IsOperationValue w frame o s t result = IsValue w frame (arith o.op (tree_of_term s) (tree_of_term t) o.at) result

-- where it is no note, no operation that is looked at for the term is past range
abbrev pub IsValueInRange : World → List (Option Value) → TermTree → Result (Option Value) RangeNote → Type 0
IsValueInRange w frame t result = IfOk result (λ v. AreInRange (looked_under w frame t))

-- these are the values of the terms, or a note of them
abbrev pub AreValues : World → List (Option Value) → TermTrees → Result (Option (List Value)) RangeNote → Type 0
AreValues w frame ts result = Evaluates (values_under w frame ts) (all_looked_under w frame ts) result

-- it is the value of the place of the terms, or a note of them
abbrev pub IsPlaceValue : World → List (Option Value) → ℕ → TermTrees → Result (Option Value) RangeNote → Type 0
IsPlaceValue w frame f ts result = Evaluates (place_value w f (values_under w frame ts)) (all_looked_under w frame ts) result

-- it says whether the fact of the terms is in the world, or is a note of them
abbrev pub IsAtomTruth : World → List (Option Value) → ℕ → TermTrees → Result Bool RangeNote → Type 0
IsAtomTruth w frame p ts result = Evaluates (fact_in w p (values_under w frame ts)) (all_looked_under w frame ts) result

-- the operations that are looked at for a comparison: those of the second side only where the first
-- leaves it open
abbrev pub looked_on_sides : World → List (Option Value) → Cmp → TermTree → TermTree → List Operation
looked_on_sides w frame cmp s t = followed_if (leaves_open cmp (value_under w frame s)) (looked_under w frame s) (looked_under w frame t)

-- it says whether the two terms stand in the comparison, or is a note of them
abbrev pub IsComparison : World → List (Option Value) → Cmp → TermTree → TermTree → Result Bool RangeNote → Type 0
IsComparison w frame cmp s t result = Evaluates (compared cmp (value_under w frame s) (value_under w frame t))
    (looked_on_sides w frame cmp s t) result

-- so it is of two terms that are no trees yet
abbrev pub IsTermComparison : World → List (Option Value) → Cmp → Term → Term → Result Bool RangeNote → Type 0
IsTermComparison w frame cmp s t result = IsComparison w frame cmp (tree_of_term s) (tree_of_term t) result

-- whether the world gives the place of the arguments the value of the last, under the frame
abbrev pub gives_value : World → List (Option Value) → ℕ → List Arg → Arg → Bool
gives_value w frame f xs x = same_value (place_value w f (arg_values (assignment_in frame) xs)) (arg_value (assignment_in frame) x)

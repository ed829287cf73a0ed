-- What the parts of the checker say along the states of a plan, under the values of a frame.
use Rattle.std.specs.Prelude.{◌≡◌, ℕ, List, [], Bool, Option, Result, IfOk, IfSome}
use Rattle.tl_action.specs.declared.check_fault.CheckFault.{CheckFault}
use Rattle.tl_check.specs.Ahead.{true_ahead}
use Rattle.tl_check.specs.Facts.{Guides, fact_ahead, bound_ahead}
use Rattle.tl_check.specs.Instances.{JoinsInstance}
use Rattle.tl_check.specs.Labelled.{AreLabels, JoinsPart}
use Rattle.tl_check.specs.Later.{later_tree}
use Rattle.tl_check.specs.PartTrees.{quantified_tree, until_tree}
use Rattle.tl_check.specs.Quantifiers.{quantifier_of}
use Rattle.tl_check.specs.Spans.{marks_in}
use Rattle.tl_check.specs.StatesAlong.{states_along, course_along, UnlessFew}
use Rattle.tl_check.specs.declared.along.Along.{Along}
use Rattle.tl_check.specs.declared.binder.Binder.{Binder}
use Rattle.tl_check.specs.declared.instance.Instance.{Instance}
use Rattle.tl_check.specs.declared.later.Later.{Later}
use Rattle.tl_check.specs.declared.part.Part.{Part}
use Rattle.tl_check.specs.declared.span.Span.{Span}
use Rattle.tl_check.specs.declared.unlabelled.Unlabelled.{Unlabelled}
use Rattle.tl_eval.specs.Frames.{assignment_in}
use Rattle.tl_syntax.specs.declared.bound.Bound.{Bound}
use Rattle.tl_syntax.specs.declared.formula.Formula.{Formula}
use Rattle.tl_syntax.specs.declared.formula.Formulas.{Formulas}
use Rattle.tl_syntax.specs.declared.junction.Junction.{Junction}
use Rattle.tl_syntax.specs.declared.term.Terms.{Terms}
use Rattle.tl_syntax.specs.declared.value.Value.{Value}
use Rattle.tl_syntax.specs.Fits.{BoundFits, Fits}
use Rattle.tl_syntax.specs.Junctions.{joined}
use Rattle.tl_syntax.specs.Keys.{Key}
use Rattle.tl_syntax.specs.Signature.{signature_of}
use Rattle.tl_syntax.specs.TreeOfFormula.{tree_of_formula, tree_of_formulas}
use Rattle.tl_syntax.specs.TreeOfTerm.{tree_of_terms}
use Rattle.tl_syntax.specs.Trees.{FormulaTree, atom, negation, next}
use Rattle.tl_terms.specs.ProblemMeaning.{plain_problem}
use Rattle.tl_terms.specs.World.{World}

-- the formula fits the signature of the problem whose states they are
abbrev pub FitsAlong : Along → FormulaTree → Type 0
FitsAlong along f = Fits (signature_of along.task.now.problem.domain) [] f

-- so it is of the bound
abbrev pub BoundFitsAlong : Along → Bound → Type 0
BoundFitsAlong along b = BoundFits (signature_of along.task.now.problem.domain) b

-- the labels of the formula at the span's positions in these worlds, or a note of an operation that
-- it looks at
abbrev pub AreLabelsIn : Along → List World → Span → List (Option Value) → FormulaTree → Result (List Bool) CheckFault → Type 0
AreLabelsIn along ws span frame f r = AreLabels (course_along along) ws span (assignment_in frame) f r

-- the labels of the formula at the span's positions, or a note of an operation that it looks at, or
-- the states are not all kept
abbrev pub AreLabelsAlong : Along → Span → List (Option Value) → FormulaTree → Result (List Bool) Unlabelled → Type 0
AreLabelsAlong along span frame f r = UnlessFew along (AreLabels (course_along along) (states_along along) span (assignment_in frame) f) r

-- so it is of a negation
abbrev pub AreNegatedLabels : Along → Span → List (Option Value) → Formula → Result (List Bool) Unlabelled → Type 0
AreNegatedLabels along span frame f r = AreLabelsAlong along span frame (negation (tree_of_formula f)) r

-- of next before a formula
abbrev pub AreNextLabels : Along → Span → List (Option Value) → Formula → Result (List Bool) Unlabelled → Type 0
AreNextLabels along span frame f r = AreLabelsAlong along span frame (next (tree_of_formula f)) r

-- of a word before a formula
abbrev pub AreLaterLabels : Along → Span → List (Option Value) → Later → Formula → Result (List Bool) Unlabelled → Type 0
AreLaterLabels along span frame word f r = AreLabelsAlong along span frame (later_tree word (tree_of_formula f)) r

-- of a formula until another one
abbrev pub AreUntilLabels : Along → Span → List (Option Value) → Formula → Formula → Result (List Bool) Unlabelled → Type 0
AreUntilLabels along span frame f g r = AreLabelsAlong along span frame (until_tree f g) r

-- of formulas together
abbrev pub AreJoinedLabels : Along → Span → List (Option Value) → Junction → Formulas → Result (List Bool) Unlabelled → Type 0
AreJoinedLabels along span frame j fs r = AreLabelsAlong along span frame (joined j (tree_of_formulas fs)) r

-- and of a quantifier with the formula below it
abbrev pub AreQuantifiedLabels : Along → Span → List (Option Value) → Binder → Result (List Bool) Unlabelled → Type 0
AreQuantifiedLabels along span frame b r = AreLabelsAlong along span frame (quantified_tree b) r

-- the instance under the frame's values is joined with the labels, or an operation that it looks at
-- is noted, or the states are not all kept
abbrev pub JoinsAlong : Along → Span → List (Option Value) → Instance → List Bool → List Bool → Result (Unit {0}) Unlabelled → Type 0
JoinsAlong along span frame i old new r = UnlessFew along (JoinsInstance (course_along along) (states_along along) span
    (assignment_in frame) (quantifier_of i.binder) old new) r

-- the labels of the part are joined with these, or an operation that it looks at is noted, or the
-- states are not all kept
abbrev pub JoinsPartAlong : Along → Span → List (Option Value) → Part → List Bool → List Bool → Result (Unit {0}) Unlabelled → Type 0
JoinsPartAlong along span frame part old new r = UnlessFew along (JoinsPart (course_along along) (states_along along) span
    (assignment_in frame) part.junction (tree_of_formula part.formula.now) old new) r

-- what makes the bound true in one of the states makes it true in this world
abbrev pub GuidesAlong : Along → Bound → World → Type 0
GuidesAlong along b guide = Guides (plain_problem along.task.now.problem) (states_along along) b guide

-- whether the fact is there, at each position of the span
abbrev pub fact_along : Along → Span → Key → List Bool
fact_along along span k = marks_in (fact_ahead k) (states_along along) span

-- the truth of the atom at each position of the span
abbrev pub atom_along : Along → Span → List (Option Value) → ℕ → Terms → List Bool
atom_along along span frame q ts = marks_in (true_ahead (course_along along) (assignment_in frame) (atom q (tree_of_terms ts)))
    (states_along along) span

-- the truth of the bound at each position of the span
abbrev pub bound_along : Along → Span → List (Option Value) → Bound → List Bool
bound_along along span frame b = marks_in (bound_ahead (plain_problem along.task.now.problem) (assignment_in frame) b)
    (states_along along) span

-- where there are labels, they are those of the fact
abbrev pub GivesFactLabels : {E : Type 0} → Along → Span → Key → Result (Option (List Bool)) E → Type 0
GivesFactLabels along span k r = IfOk r (λ found. IfSome found (λ labels. labels ≡ fact_along along span k))

-- those of the atom
abbrev pub GivesAtomLabels : {E : Type 0} → Along → Span → List (Option Value) → ℕ → Terms → Result (Option (List Bool)) E → Type 0
GivesAtomLabels along span frame q ts r = IfOk r (λ found. IfSome found (λ labels. labels ≡ atom_along along span frame q ts))

-- those of the bound
abbrev pub GivesBoundLabels : {E : Type 0} → Along → Span → List (Option Value) → Bound → Result (Option (List Bool)) E → Type 0
GivesBoundLabels along span frame b r = IfOk r (λ found. IfSome found (λ labels. labels ≡ bound_along along span frame b))

-- the labels of the instance say where its bound is true under the values of the frame
abbrev pub IsInstanceAlong : Along → Span → List (Option Value) → Instance → Type 0
IsInstanceAlong along span frame i = i.there ≡ bound_along along span frame i.binder.bound.now

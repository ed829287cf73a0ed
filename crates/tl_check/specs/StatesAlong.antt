-- The states of a plan along which formulas are labelled, and answers that may want them kept.
use Rattle.std.specs.Prelude.{◌≡◌, List, [], length, drop, Result, Ok, Err, unwrap_or}
use Rattle.tl_action.specs.declared.check_fault.CheckFault.{CheckFault}
use Rattle.tl_check.specs.Ahead.{Course}
use Rattle.tl_check.specs.declared.along.Along.{Along}
use Rattle.tl_check.specs.declared.unlabelled.Unlabelled.{Unlabelled}
use Rattle.tl_check.specs.declared.unlabelled.Unlabelled.TheVariants as unlabelled
use Rattle.tl_syntax.specs.declared.action.Action.{Action}
use Rattle.tl_terms.specs.Acceptance.{states}
use Rattle.tl_terms.specs.Problem.{PlainProblem}
use Rattle.tl_terms.specs.ProblemMeaning.{plain_problem}
use Rattle.tl_terms.specs.World.{World}

-- the states of a plan all of whose actions execute
unfoldable pub states_of : PlainProblem → List Action → List World
states_of p plan = unwrap_or (states p plan) []

-- the states of the plan, whether they are kept or not
abbrev pub states_along : Along → List World
states_along along = states_of (plain_problem along.task.now.problem) along.plan.now

-- how they go on after the last one: from a position of theirs on they come again
abbrev pub course_along : Along → Course
course_along along = record { problem = plain_problem along.task.now.problem; again = drop along.again (states_along along) }

-- the states are not all kept
abbrev pub KeepsFew : Along → Type 0
KeepsFew along = length along.kept.now ≡ along.count → ⊥

-- what is said of an answer, or the states are not all kept
abbrev pub UnlessFew : {A : Type 0} → Along → (Result A CheckFault → Type 0) → Result A Unlabelled → Type 0
UnlessFew along says (Ok x) = says (Ok x)
UnlessFew along says (Err (unlabelled.Fault fault)) = says (Err fault)
UnlessFew along says (Err unlabelled.NotKept) = KeepsFew along

-- The verdict on a plan by what is kept of its states.
use Rattle.std.specs.Prelude.{◌≡◌, ◌↔◌, ◌-◌, ℕ, Bool, true, false, List, length, take, Result, Ok, Err, slice_get}
use Rattle.tl_action.specs.declared.check_fault.CheckFault.{CheckFault}
use Rattle.tl_action.specs.declared.check_fault.CheckFault.TheVariants as fault
use Rattle.tl_check.specs.Ahead.{Course, true_ahead}
use Rattle.tl_check.specs.Labelled.{looked_at}
use Rattle.tl_check.specs.Rounds.{lasso_run}
use Rattle.tl_check.specs.StatesAlong.{UnlessFew, course_along, states_along, states_of}
use Rattle.tl_check.specs.Trails.{Follows, HasStates}
use Rattle.tl_check.specs.Verdicts.{IsCause}
use Rattle.tl_check.specs.declared.along.Along.{Along}
use Rattle.tl_check.specs.declared.following.Follow.{Follow}
use Rattle.tl_check.specs.declared.rounds.Round.{Round}
use Rattle.tl_check.specs.declared.trail.Trail.{Trail}
use Rattle.tl_check.specs.declared.unlabelled.Unlabelled.{Unlabelled}
use Rattle.tl_check.specs.declared.unlabelled.Unlabelled.TheVariants as unlabelled
use Rattle.tl_eval.specs.Notes.{Tells}
use Rattle.tl_syntax.specs.declared.action.Action.{Action}
use Rattle.tl_syntax.specs.Assignment.{no_values}
use Rattle.tl_terms.specs.Looked.{looked_after}
use Rattle.tl_terms.specs.Problem.{PlainProblem}
use Rattle.tl_terms.specs.ProblemMeaning.{plain_problem}
use Rattle.tl_terms.specs.Run.{Satisfies}
use Rattle.tl_terms.specs.World.{World}

-- whether the control formula is true ahead of the worlds, or a note of an operation that it looks
-- at along them
abbrev pub Obeys : Course → List World → Result Bool CheckFault → Type 0
Obeys c ws (Ok b) = b ≡ true_ahead c no_values c.problem.control ws
Obeys c ws (Err (fault.Range k note)) = Tells (looked_at c ws k no_values c.problem.control) note
Obeys c ws (Err fault.NoMemory) = Unit {0}

-- so it is along the states of a plan, or they are not all kept
abbrev pub ObeysAlong : Along → Result Bool Unlabelled → Type 0
ObeysAlong along r = UnlessFew along (Obeys (course_along along) (states_along along)) r

-- the states of a plan but the last of them
abbrev pub front_states : PlainProblem → List Action → List World
front_states p plan = take (length (states_of p plan) - 1) (states_of p plan)

-- whether the control formula holds at the first position of the run of worlds of which those from
-- one on come again, or a note of an operation that it looks at in one of them, each tuple making
-- its bound true in any of them
abbrev pub ObeysOn : PlainProblem → ℕ → List World → Result Bool CheckFault → Type 0
ObeysOn p n ws (Ok b) = Satisfies p (lasso_run p n ws) 0 p.control ↔ (b ≡ true)
ObeysOn p n ws (Err (fault.Range k note)) = Tells (looked_after p ws (slice_get ws k) p.control) note
ObeysOn p n ws (Err fault.NoMemory) = Unit {0}

-- so it is along the states of a plan that goes round
abbrev pub ObeysRound : PlainProblem → Round → Result Bool CheckFault → Type 0
ObeysRound p round r = ObeysOn p round.again (front_states p round.plan.now) r

-- all actions of the plan execute, and all its states are kept
abbrev pub IsKept : PlainProblem → List Action → Trail → Type 0
IsKept p plan trail = HasStates p plan × Follows true (states_of p plan) trail

-- this is kept of the plan's states, with all of them or none
abbrev pub IsTrailOf : PlainProblem → List Action → Trail → Type 0
IsTrailOf p plan trail = (keeps : Bool) × Follows keeps (states_of p plan) trail

-- a cause why there is no verdict, or the states are not kept
abbrev pub IsCauseByTrail : PlainProblem → List Action → Trail → Unlabelled → Type 0
IsCauseByTrail p plan trail (unlabelled.Fault fault) = IsCause p plan fault
IsCauseByTrail p plan trail unlabelled.NotKept = trail.kept.items ≡ states_of p plan → ⊥

-- a cause why there is no verdict, or the states are not to be kept
abbrev pub IsCauseUnlessKept : PlainProblem → List Action → Bool → Unlabelled → Type 0
IsCauseUnlessKept p plan keeps (unlabelled.Fault fault) = IsCause p plan fault
IsCauseUnlessKept p plan keeps unlabelled.NotKept = keeps ≡ false

-- so it is where the plan is followed in this way
abbrev pub IsCauseFollowing : Follow → List Action → Unlabelled → Type 0
IsCauseFollowing follow plan u = IsCauseUnlessKept (plain_problem follow.task.now.problem) plan follow.keeps u

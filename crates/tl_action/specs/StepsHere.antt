-- What is said of the step of an action in a world of a task.
use Rattle.std.specs.Prelude.{◌≡◌, Option, IfSome}
use Rattle.tl_action.specs.declared.changes.Changes.{Changes}
use Rattle.tl_eval.specs.declared.fault.EvalFault.{EvalFault}
use Rattle.tl_action.specs.declared.here.Here.{Here}
use Rattle.tl_action.specs.Actions.{HasOperator, IsCausedByAction, IsExecutable, StaysNamed, name_count}
use Rattle.tl_action.specs.ChangedWorlds.{AreChangesOf, LeaveNamed, MakeWorldAfter}
use Rattle.tl_action.specs.UnderFrames.{problem_here}
use Rattle.tl_syntax.specs.declared.action.Action.{Action}
use Rattle.tl_terms.specs.Step.{step}
use Rattle.tl_terms.specs.World.{World}

-- the action's operator exists and has as many parameters as the action has arguments
abbrev pub HasOperatorHere : Here → Action → Type 0
HasOperatorHere here a = HasOperator (problem_here here) a

-- the action has a step in the world
abbrev pub IsExecutableHere : Here → Action → Type 0
IsExecutableHere here a = IsExecutable (problem_here here) here.world.now a

-- the changes make the world after the action
abbrev pub MakeWorldHere : Here → Action → Changes → Type 0
MakeWorldHere here a c = MakeWorldAfter (problem_here here) here.world.now a c

-- where the world and the arguments of the action are named, so is the world that the changes make
abbrev pub KeepNamesHere : Here → Action → Changes → Type 0
KeepNamesHere here a c = LeaveNamed (name_count here.task.now) here.world.now a c

-- the world after the action, or none exactly where it has no step
abbrev pub IsStepHere : Here → Action → Option World → Type 0
IsStepHere here a next = next ≡ step (problem_here here) here.world.now a

-- the changes make the world after the action; none exactly where it has no step
abbrev pub AreChangesHere : Here → Action → Option Changes → Type 0
AreChangesHere here a changes = AreChangesOf (problem_here here) here.world.now a changes

-- where the world and the arguments of the action are named, so is the world after the action
abbrev pub StaysNamedHere : Here → Action → Option World → Type 0
StaysNamedHere here a next = IfSome next (StaysNamed (name_count here.task.now) here.world.now a)

-- and so is the world that the changes make
abbrev pub LeaveNamedHere : Here → Action → Option Changes → Type 0
LeaveNamedHere here a changes = IfSome changes (LeaveNamed (name_count here.task.now) here.world.now a)

-- the note is of an operation that the action looks at, and which is past range; want of memory has
-- no cause
abbrev pub IsFaultHere : Here → Action → EvalFault → Type 0
IsFaultHere here a fault = IsCausedByAction (problem_here here) here.world.now a fault

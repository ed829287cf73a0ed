-- The actions of a world, and why their list is not given.
use Rattle.std.specs.Prelude.{◌↔◌, ℕ, List, length, map, IsTrue, is_some}
use Rattle.tl_eval.specs.declared.fault.EvalFault.{EvalFault}
use Rattle.tl_eval.specs.declared.fault.EvalFault.TheVariants as fault
use Rattle.tl_eval.specs.Faults.{IsCausedBy}
use Rattle.tl_eval.specs.Notes.{Tells}
use Rattle.tl_syntax.specs.declared.action.Action.{Action}
use Rattle.tl_syntax.specs.declared.value.Value.{Value}
use Rattle.tl_syntax.specs.Lists.{Each, Among}
use Rattle.tl_syntax.specs.Named.{ValueIsNamed}
use Rattle.tl_syntax.specs.Signature.{Takes}
use Rattle.tl_terms.specs.Looked.{looked_by_action}
use Rattle.tl_terms.specs.NamedWorlds.{WorldIsNamed}
use Rattle.tl_terms.specs.Problem.{PlainProblem}
use Rattle.tl_terms.specs.Step.{step}
use Rattle.tl_terms.specs.World.{World}
use Rattle.tl_world.specs.declared.task.Task.{Task}

-- the action's operator exists and has as many parameters as the action has arguments
abbrev pub HasOperator : PlainProblem → Action → Type 0
HasOperator p a = Takes (map (λ o. length o.params) p.operators) a.op (length a.args)

-- the action has a step in the world
abbrev pub IsExecutable : PlainProblem → World → Action → Type 0
IsExecutable p w a = IsTrue (is_some (step p w a))

-- the action of an operator with these arguments
abbrev pub action_of : ℕ → List Value → Action
action_of op t = record { op = op; args = t }

-- the list has exactly the actions that have a step in the world
abbrev pub AreActions : PlainProblem → World → List Action → Type 0
AreActions p w actions = (a : Action) → Among a actions ↔ IsTrue (is_some (step p w a))

-- the arguments are named
abbrev pub ArgumentsAreNamed : ℕ → Action → Type 0
ArgumentsAreNamed n a = Each (ValueIsNamed n) a.args

-- where the world is named, so are the arguments of the actions
abbrev pub ActionsAreNamed : ℕ → World → List Action → Type 0
ActionsAreNamed n w actions = WorldIsNamed n w → Each (ArgumentsAreNamed n) actions

-- where a world and the arguments of an action are named, so is the world after the action
abbrev pub StaysNamed : ℕ → World → Action → World → Type 0
StaysNamed n w a next = WorldIsNamed n w → ArgumentsAreNamed n a → WorldIsNamed n next

-- how many names the problem of the task has
abbrev pub name_count : Task → ℕ
name_count task = length task.problem.names

-- the note is of an operation that the action looks at, and which is past range; want of memory has
-- no cause
abbrev pub IsCausedByAction : PlainProblem → World → Action → EvalFault → Type 0
IsCausedByAction p w a x = IsCausedBy (looked_by_action p w a) x

-- the note is of an operation that some action looks at, and which is past range; want of memory
-- has no cause
abbrev pub IsCausedBySome : PlainProblem → World → EvalFault → Type 0
IsCausedBySome p w (fault.Range note) = (a : Action) × Tells (looked_by_action p w a) note
IsCausedBySome p w fault.NoMemory = Unit {0}

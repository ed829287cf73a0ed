-- Why a space answers that an operation is past range.
use Rattle.std.specs.Prelude.{◌≡◌, Some}
use Rattle.tl_syntax.specs.declared.action.Action.{Action}
use Rattle.tl_terms.specs.World.{World}
use Rattle.tl_terms.specs.Problem.{PlainProblem}
use Rattle.tl_terms.specs.Step.{step}
use Rattle.tl_terms.specs.Pairs.{Pair}
use Rattle.tl_terms.specs.Looked.{looked_by_progressing, looked_by_idling, looked_by_action}
use Rattle.tl_eval.specs.Notes.{Tells}
use Rattle.tl_search.specs.declared.fault.SpaceFault.{SpaceFault}
use Rattle.tl_search.specs.declared.fault.SpaceFault.TheVariants as fault

-- the root: progressing the control formula in the initial world looks at it; want of memory has no
-- cause
abbrev pub IsRootFault : PlainProblem → SpaceFault → Type 0
IsRootFault p (fault.RangeHere note) = Tells (looked_by_progressing p p.first p.control) note
IsRootFault p (fault.RangeAfter note) = ⊥
IsRootFault p fault.NoMemory = Unit {0}

-- the actions of a pair: some action looks at it in the world of the pair
abbrev pub IsCausedByActions : PlainProblem → Pair → SpaceFault → Type 0
IsCausedByActions p x (fault.RangeHere note) = (a : Action) × Tells (looked_by_action p x.world a) note
IsCausedByActions p x (fault.RangeAfter note) = ⊥
IsCausedByActions p x fault.NoMemory = Unit {0}

-- the acceptance of a pair: the idling check of the pair looks at it
abbrev pub IsCausedByAcceptance : PlainProblem → Pair → SpaceFault → Type 0
IsCausedByAcceptance p x (fault.RangeHere note) = Tells (looked_by_idling p x.world x.formula) note
IsCausedByAcceptance p x (fault.RangeAfter note) = ⊥
IsCausedByAcceptance p x fault.NoMemory = Unit {0}

-- the pair after an action: the action looks at it in the world of the pair, or progressing the
-- pair's formula does in the world after the action
abbrev pub IsCausedByChild : PlainProblem → Pair → Action → SpaceFault → Type 0
IsCausedByChild p x a (fault.RangeHere note) = Tells (looked_by_action p x.world a) note
IsCausedByChild p x a (fault.RangeAfter note) = (w : World) × (step p x.world a ≡ Some w) × Tells (looked_by_progressing p w x.formula) note
IsCausedByChild p x a fault.NoMemory = Unit {0}

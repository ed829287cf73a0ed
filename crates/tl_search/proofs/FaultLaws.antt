-- Which of a space's faults come of which of its calls.
use Rattle.tl_terms.specs.Pairs.{Pair}
use Rattle.tl_terms.specs.Problem.{PlainProblem}
use Rattle.tl_search.specs.Causes.{IsRootFault, IsCausedByActions, IsCausedByAcceptance}
use Rattle.tl_search.specs.Faults.{IsOfPair}
use Rattle.tl_search.specs.declared.fault.SpaceFault.{SpaceFault}
use Rattle.tl_search.specs.declared.fault.SpaceFault.TheVariants as space

-- the pair of the empty path is looked at in the first world
pub root-of-pair : (p : PlainProblem) (s : SpaceFault) → IsRootFault p s → IsOfPair s
root-of-pair p (space.RangeHere note) h = tt
root-of-pair p (space.RangeAfter note) h = h
root-of-pair p space.NoMemory h = tt

-- to list the actions of a pair looks at no world after an action
pub actions-of-pair : (p : PlainProblem) (x : Pair) (s : SpaceFault) → IsCausedByActions p x s → IsOfPair s
actions-of-pair p x (space.RangeHere note) h = tt
actions-of-pair p x (space.RangeAfter note) h = h
actions-of-pair p x space.NoMemory h = tt

-- nor does its acceptance
pub acceptance-of-pair : (p : PlainProblem) (x : Pair) (s : SpaceFault) → IsCausedByAcceptance p x s → IsOfPair s
acceptance-of-pair p x (space.RangeHere note) h = tt
acceptance-of-pair p x (space.RangeAfter note) h = h
acceptance-of-pair p x space.NoMemory h = tt

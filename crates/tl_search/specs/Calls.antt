-- What the calls of a space answer for the pair of a number.
use Rattle.std.specs.Prelude.{◌≡◌, ◌↔◌, ℕ, Bool, List, [], ◌∷◌, ◌++◌, length, slice_get, Some, IsTrue, is_some}
use Rattle.tl_syntax.specs.declared.action.Action.{Action}
use Rattle.tl_syntax.specs.Lists.{Each}
use Rattle.tl_syntax.specs.Named.{ValueIsNamed}
use Rattle.tl_terms.specs.Pairs.{pair_of, IsPairAccepted}
use Rattle.tl_terms.specs.Problem.{PlainProblem}
use Rattle.tl_terms.specs.Step.{step}
use Rattle.tl_world.specs.declared.task.Task.{Task}
use Rattle.tl_search.specs.Arrivals.{Arrives}
use Rattle.tl_search.specs.Causes.{IsCausedByActions, IsCausedByAcceptance, IsCausedByChild}
use Rattle.tl_search.specs.KeptPairs.{KeptPair}
use Rattle.tl_search.specs.ListedActions.{ListsActions}
use Rattle.tl_search.specs.PairGraph.{next_pair}
use Rattle.tl_search.specs.declared.arrival.Arrival.{Arrival}
use Rattle.tl_search.specs.declared.fault.SpaceFault.{SpaceFault}

-- so it is for the pair of the number
abbrev pub ForPair : List KeptPair → ℕ → (KeptPair → Type 0) → Type 0
ForPair kept at P = (x : KeptPair) → slice_get kept at ≡ Some x → P x

-- the action has a step in the pair's world
abbrev pub IsExecutableAt : PlainProblem → List KeptPair → ℕ → Action → Type 0
IsExecutableAt p kept at a = ForPair kept at (λ x. IsTrue (is_some (step p x.node.world a)))

-- the pair of the empty path arrives
abbrev pub RootArrives : PlainProblem → List KeptPair → List KeptPair → Arrival → Type 0
RootArrives p old new arrival = Arrives old new (pair_of p []) [] arrival

-- the pair after the action arrives, by the pair's path and the action
abbrev pub ChildArrives : PlainProblem → List KeptPair → List KeptPair → ℕ → Action → Arrival → Type 0
ChildArrives p old new at a arrival = ForPair old at (λ x. Arrives old new (next_pair p x.node a) (x.path ++ a ∷ []) arrival)

-- these are the executable actions of the pair
abbrev pub ListsActionsAt : PlainProblem → List KeptPair → ℕ → List Action → Type 0
ListsActionsAt p kept at listed = ForPair kept at (λ x. ListsActions p x.node.world listed)

-- the answer says whether the pair is accepted
abbrev pub TellsAcceptance : PlainProblem → List KeptPair → ℕ → Bool → Type 0
TellsAcceptance p kept at answer = ForPair kept at (λ x. IsTrue answer ↔ IsPairAccepted p x.node)

-- the path is the one by which the pair was met first
abbrev pub IsPathOf : List KeptPair → ℕ → List Action → Type 0
IsPathOf kept at path = ForPair kept at (λ x. path ≡ x.path)

-- the arguments of the actions are named in the problem of the task
abbrev pub AreNamedIn : Task → List Action → Type 0
AreNamedIn task actions = Each (λ a. Each (ValueIsNamed (length task.problem.names)) a.args) actions

-- why the actions of the pair are not listed
abbrev pub IsActionsFault : PlainProblem → List KeptPair → ℕ → SpaceFault → Type 0
IsActionsFault p kept at fault = ForPair kept at (λ x. IsCausedByActions p x.node fault)

-- why its acceptance is not told
abbrev pub IsAcceptanceFault : PlainProblem → List KeptPair → ℕ → SpaceFault → Type 0
IsAcceptanceFault p kept at fault = ForPair kept at (λ x. IsCausedByAcceptance p x.node fault)

-- why the pair after the action does not arrive
abbrev pub IsChildFault : PlainProblem → List KeptPair → ℕ → Action → SpaceFault → Type 0
IsChildFault p kept at a fault = ForPair kept at (λ x. IsCausedByChild p x.node a fault)

-- Whether an operator whose bounds are true can be applied, and what it then changes.
use Rattle.std.specs.Prelude.{◌≡◌, ℕ, List, flat_map, Bool, true, false, ◌&&◌, Option, Some, None, Result, Ok, Err, IsTrue, is_some}
use Rattle.std.specs.List.{list_all}
use Rattle.tl_action.specs.declared.changes.Changes.{Changes}
use Rattle.tl_eval.specs.declared.fault.EvalFault.{EvalFault}
use Rattle.tl_eval.specs.Faults.{IsCausedBy}
use Rattle.tl_action.specs.Collected.{no_changes, HasMore}
use Rattle.tl_syntax.specs.Assignment.{Assignment}
use Rattle.tl_syntax.specs.Keys.{no_clash}
use Rattle.tl_syntax.specs.Lists.{Each}
use Rattle.tl_terms.specs.Definitions.{situation_of}
use Rattle.tl_terms.specs.Looked.{followed_if, looked_in_state, looked_in_effects, looks_of}
use Rattle.tl_terms.specs.Operations.{Operation}
use Rattle.tl_terms.specs.Problem.{PlainOperator, PlainProblem}
use Rattle.tl_terms.specs.Step.{EffectInstance, all_instances, is_defined, given}
use Rattle.tl_terms.specs.Truth.{state_true}
use Rattle.tl_terms.specs.World.{World}

-- each of the slots has a value
abbrev pub HaveValues : List ℕ → Assignment → Type 0
HaveValues qs e = Each (λ q. IsTrue (is_some (e q))) qs

-- the instances of the operator's effects
abbrev pub instances_of : PlainProblem → World → Assignment → PlainOperator → List EffectInstance
instances_of p w e o = all_instances (situation_of p w) e o.effects

-- the precondition is true, each instance is defined, and no two set one place to different values
abbrev pub is_prepared : PlainProblem → World → Assignment → PlainOperator → Bool
is_prepared p w e o = state_true (situation_of p w) e o.pre && (list_all is_defined (instances_of p w e o) && no_clash
    (flat_map given (instances_of p w e o)))

-- what the precondition looks at and, where it is true, the effects
abbrev pub looked_prepared : PlainProblem → World → Assignment → PlainOperator → List Operation
looked_prepared p w e o =
    let s = situation_of p w in
    let before = looked_in_state (looks_of p w) s e o.pre in
    followed_if (state_true s e o.pre) before (looked_in_effects (looks_of p w) s e o.effects)

-- the changes that the effects make; none where an instance is undefined or two clash; or a fault
-- with its cause
abbrev pub CollectsWhole : PlainProblem → World → Assignment → PlainOperator → Result (Option Changes) EvalFault → Type 0
CollectsWhole p w e o (Ok (Some changes)) = (no_clash (flat_map given (instances_of p w e o)) ≡ true) ×
    HasMore (instances_of p w e o) no_changes changes
CollectsWhole p w e o (Ok None) = (list_all is_defined (instances_of p w e o) && no_clash (flat_map given (instances_of p w e o))) ≡ false
CollectsWhole p w e o (Err fault) = IsCausedBy (looked_in_effects (looks_of p w) (situation_of p w) e o.effects) fault

-- the changes, where it can be applied; none where it cannot; or a fault with its cause
abbrev pub Prepares : PlainProblem → World → Assignment → PlainOperator → Result (Option Changes) EvalFault → Type 0
Prepares p w e o (Ok (Some changes)) = (is_prepared p w e o ≡ true) × HasMore (instances_of p w e o) no_changes changes
Prepares p w e o (Ok None) = is_prepared p w e o ≡ false
Prepares p w e o (Err fault) = IsCausedBy (looked_prepared p w e o) fault

-- What the parts of the crate say in a world of a task, under the values of a frame.
use Rattle.std.specs.Global.{Vec}
use Rattle.std.specs.List.{list_all}
use Rattle.std.specs.Prelude.{ℕ, List, [], length, take, Bool, Option, Result, IfOk}
use Rattle.tl_action.specs.declared.arranged.Arranged.{Arranged}
use Rattle.tl_action.specs.declared.changes.Changes.{Changes}
use Rattle.tl_action.specs.declared.collect.ForEach.{ForEach}
use Rattle.tl_action.specs.declared.collect.Setting.{Setting}
use Rattle.tl_eval.specs.declared.fault.EvalFault.{EvalFault}
use Rattle.tl_action.specs.declared.here.Here.{Here}
use Rattle.tl_action.specs.Agreement.{Agree, EffectReads, EffectsRead, EachReads, EffectLeaves, EffectsLeave, EachLeaves}
use Rattle.tl_action.specs.Answers.{Answers}
use Rattle.tl_action.specs.Collected.{Collects, CollectsEach, GivesFact, GivesPlace}
use Rattle.tl_action.specs.Join.{arranged, variables, HasNoCompletion, IsPassed, IsRowFault, JoinsFrom, JoinsRow, AgreeOnSeen}
use Rattle.tl_action.specs.Prepared.{CollectsWhole, Prepares, is_prepared, looked_prepared}
use Rattle.tl_action.specs.RowLists.{AreRowsOf}
use Rattle.tl_eval.specs.Frames.{assignment_in}
use Rattle.tl_syntax.specs.declared.bound.Bound.{Bound}
use Rattle.tl_syntax.specs.declared.effect.Effect.{Effect}
use Rattle.tl_syntax.specs.declared.effect.Effects.{Effects}
use Rattle.tl_syntax.specs.declared.fact.Fact.{Fact}
use Rattle.tl_syntax.specs.declared.operator.Operator.{Operator}
use Rattle.tl_syntax.specs.declared.place_value.PlaceValue.{PlaceValue}
use Rattle.tl_syntax.specs.declared.term.Term.{Term}
use Rattle.tl_syntax.specs.declared.term.Terms.{Terms}
use Rattle.tl_syntax.specs.declared.value.Value.{Value}
use Rattle.tl_syntax.specs.declared.variable.Var.{Var}
use Rattle.tl_syntax.specs.Fits.{BoundFits, TermFits, TermsFit}
use Rattle.tl_syntax.specs.FreeVariables.{slots_of}
use Rattle.tl_syntax.specs.Kept.{OperatorKeeps}
use Rattle.tl_syntax.specs.Lists.{Each}
use Rattle.tl_syntax.specs.Signature.{Signature, signature_of}
use Rattle.tl_syntax.specs.TreeOfEffect.{tree_of_effect, tree_of_effects}
use Rattle.tl_syntax.specs.TreeOfTerm.{tree_of_term, tree_of_terms}
use Rattle.tl_terms.specs.Bounds.{bound_true, tuples}
use Rattle.tl_terms.specs.Definitions.{situation_of}
use Rattle.tl_terms.specs.Looked.{looked_in_each, looked_in_term, looked_in_effect, looked_in_effects, looks_of}
use Rattle.tl_terms.specs.Operations.{Operation}
use Rattle.tl_terms.specs.Problem.{PlainProblem}
use Rattle.tl_terms.specs.ProblemMeaning.{plain_operator, plain_problem}
use Rattle.tl_terms.specs.Situation.{Situation}
use Rattle.tl_terms.specs.Step.{effect_instances, all_instances}
use Rattle.tl_terms.specs.Terms.{term_value, term_values}

-- the problem of the task
abbrev pub problem_here : Here → PlainProblem
problem_here here = plain_problem here.task.now.problem

-- its signature
abbrev pub signature_here : Here → Signature
signature_here here = signature_of here.task.now.problem.domain

-- the problem in the world
abbrev pub situation_here : Here → Situation
situation_here here = situation_of (problem_here here) here.world.now

-- the terms fit the signature
abbrev pub TermsFitHere : Here → Terms → Type 0
TermsFitHere here ts = TermsFit (signature_here here) (tree_of_terms ts)

-- the term does
abbrev pub TermFitsHere : Here → Term → Type 0
TermFitsHere here t = TermFits (signature_here here) (tree_of_term t)

-- the bounds do
abbrev pub BoundsFitHere : Here → List Bound → Type 0
BoundsFitHere here bs = Each (BoundFits (signature_here here)) bs

-- the effect can be read there
abbrev pub EffectReadsHere : Here → Effect → Type 0
EffectReadsHere here x = EffectReads (signature_here here) (tree_of_effect x)

-- the effects can
abbrev pub EffectsReadHere : Here → Effects → Type 0
EffectsReadHere here xs = EffectsRead (signature_here here) (tree_of_effects xs)

-- the effects below variables can
abbrev pub EachReadsHere : Here → ForEach → Type 0
EachReadsHere here each = EachReads (signature_here here) each.vars.now (tree_of_effects each.effects.now)

-- all bounds are true in the world under the values of the frame
abbrev pub bounds_true : Here → List (Option Value) → List Bound → Bool
bounds_true here frame bs = list_all (bound_true (situation_here here) (assignment_in frame)) bs

-- the values of the terms, where all are defined
abbrev pub values_here : Here → List (Option Value) → Terms → Option (List Value)
values_here here frame ts = term_values here.world.now (assignment_in frame) (tree_of_terms ts)

-- what is looked at for them
abbrev pub looked_for_values : Here → List (Option Value) → Terms → List Operation
looked_for_values here frame ts = looked_in_each here.world.now (assignment_in frame) (tree_of_terms ts)

-- these values, where all are defined; or a fault with its cause
abbrev pub AnswersValues : Here → List (Option Value) → Terms → Result (Option (List Value)) EvalFault → Type 0
AnswersValues here frame ts r =
    Answers (values_here here frame ts) (looked_for_values here frame ts) r

-- the values of the variables, where all have one
abbrev pub row_here : Here → List (Option Value) → List Var → Option (List Value)
row_here here frame ss = term_values here.world.now (assignment_in frame) (variables ss)

-- true where the terms are defined, and the fact with their values is then collected; false where
-- they are not; or a fault with its cause
abbrev pub FactIsCollected : Here → List (Option Value) → ℕ → Terms → List Fact → List Fact → Result Bool EvalFault → Type 0
FactIsCollected here frame pred ts before after r =
    GivesFact pred (values_here here frame ts) (looked_for_values here frame ts) before after r

-- and so for a place that an effect sets, with its value
abbrev pub PlaceIsCollected : Here → List (Option Value) → Setting → List PlaceValue → List PlaceValue → Result Bool EvalFault → Type 0
PlaceIsCollected here frame s before after r =
    let value = term_value here.world.now (assignment_in frame) (tree_of_term s.value.now) in
    let looked = looked_in_term here.world.now (assignment_in frame) (tree_of_term s.value.now) in
    GivesPlace s.fun (values_here here frame s.args.now) value (looked_for_values here frame s.args.now) looked before after r

-- true where all instances of the effect are defined, whose changes are then collected; false where
-- some is not; or a fault with its cause
abbrev pub EffectIsCollected : Here → List (Option Value) → Effect → Changes → Changes → Result Bool EvalFault → Type 0
EffectIsCollected here frame x before after r =
    let e = assignment_in frame in
    let looked = looked_in_effect (looks_of (problem_here here) here.world.now) (situation_here here) e (tree_of_effect x) in
    Collects (effect_instances (situation_here here) e (tree_of_effect x)) looked before after r

-- and so for a list of effects
abbrev pub AreCollected : Here → List (Option Value) → Effects → Changes → Changes → Result Bool EvalFault → Type 0
AreCollected here frame xs before after r =
    let e = assignment_in frame in
    let looked = looked_in_effects (looks_of (problem_here here) here.world.now) (situation_here here) e (tree_of_effects xs) in
    Collects (all_instances (situation_here here) e (tree_of_effects xs)) looked before after r

-- and for effects below variables, for each tuple of their values that makes the bound true
abbrev pub EachIsCollected : Here → List (Option Value) → ForEach → Changes → Changes → Result Bool EvalFault → Type 0
EachIsCollected here frame each before after r =
    let e = assignment_in frame in
    CollectsEach (problem_here here) here.world.now e each.vars.now (tree_of_effects each.effects.now)
    (tuples (situation_here here) e each.vars.now each.bound.now) before after r

-- only slots of variables that the effect quantifies got other values in the frame
abbrev pub EffectLeavesFrame : Here → Effect → List (Option Value) → List (Option Value) → Type 0
EffectLeavesFrame here x old new = EffectLeaves (signature_here here) (tree_of_effect x) (assignment_in old) (assignment_in new)

-- and so for a list of effects
abbrev pub EffectsLeaveFrame : Here → Effects → List (Option Value) → List (Option Value) → Type 0
EffectsLeaveFrame here xs old new = EffectsLeave (signature_here here) (tree_of_effects xs) (assignment_in old) (assignment_in new)

-- and for effects below variables
abbrev pub EachLeavesFrame : Here → ForEach → List (Option Value) → List (Option Value) → Type 0
EachLeavesFrame here each old new =
    EachLeaves (signature_here here) each.vars.now (tree_of_effects each.effects.now) (assignment_in old) (assignment_in new)

-- the changes that the operator's effects make; none where an instance is undefined or two clash;
-- or a fault with its cause
abbrev pub ChangesAreCollected : Here → Operator → List (Option Value) → Result (Option Changes) EvalFault → Type 0
ChangesAreCollected here o frame r = CollectsWhole (problem_here here) here.world.now (assignment_in frame) (plain_operator o) r

-- the changes, where the operator can be applied; none where it cannot; or a fault with its cause
abbrev pub ChangesArePrepared : Here → Operator → List (Option Value) → Result (Option Changes) EvalFault → Type 0
ChangesArePrepared here o frame r = Prepares (problem_here here) here.world.now (assignment_in frame) (plain_operator o) r

-- whether the operator can be applied with its parameters' values in the frame; or a fault with its
-- cause
abbrev pub AnswersPrepared : Here → Operator → List (Option Value) → Result Bool EvalFault → Type 0
AnswersPrepared here o frame r =
    let e = assignment_in frame in
    let looked = looked_prepared (problem_here here) here.world.now e (plain_operator o) in
    Answers (is_prepared (problem_here here) here.world.now e (plain_operator o)) looked r

-- the bounds from the j-th to the k-th have no new parameter and are true under the values of the
-- frame
abbrev pub IsPassedUnder : Here → Arranged → List (Option Value) → ℕ → ℕ → Type 0
IsPassedUnder here a frame j k = IsPassed (problem_here here) here.world.now (arranged a) (assignment_in frame) j k

-- no row completes the frame from the j-th bound on
abbrev pub HasNoneUnder : Here → Arranged → List (Option Value) → ℕ → Type 0
HasNoneUnder here a frame j = HasNoCompletion (problem_here here) here.world.now (arranged a) (assignment_in frame) j

-- the row of the values in the frame is added, where the operator can be applied with it; or a
-- fault with its cause
abbrev pub RowIsJoined : Here → Arranged → List (Option Value) → Vec (List Value) → Vec (List Value) → Result (Unit {0}) EvalFault → Type 0
RowIsJoined here a frame before after r =
    JoinsRow (problem_here here) here.world.now (arranged a) (assignment_in frame) before.items after.items r

-- the rows that complete the frame from the j-th bound on are added; or a fault with its cause
abbrev pub RowsAreJoined : Here → Arranged → ℕ → List (Option Value) → Vec (List Value) → Vec (List Value) → Result (Unit {0}) EvalFault →
    Type 0
RowsAreJoined here a j frame before after r =
    JoinsFrom (problem_here here) here.world.now (arranged a) j (assignment_in frame) before.items after.items r

-- the parameters of the first j bounds keep their values in the frame
abbrev pub KeepsKnown : Arranged → ℕ → List (Option Value) → List (Option Value) → Type 0
KeepsKnown a j old new = AgreeOnSeen (take j (arranged a).bounds) a.operator.now.params (assignment_in new) (assignment_in old)

-- the parameters keep their values in the frame
abbrev pub KeepsParameters : Operator → List (Option Value) → List (Option Value) → Type 0
KeepsParameters o old new = Agree (slots_of o.params) (assignment_in new) (assignment_in old)

-- the operator keeps what those of the task's problem keep
abbrev pub OperatorIsKept : Here → Operator → Type 0
OperatorIsKept here o = OperatorKeeps (signature_here here) (length here.task.now.problem.names) o

-- the rows with which the operator can be applied, in order, each once
abbrev pub AreRowsUnder : Here → Operator → List (Option Value) → List (List Value) → Type 0
AreRowsUnder here o frame rows = AreRowsOf (problem_here here) here.world.now (plain_operator o) (assignment_in frame) rows

-- the rows that are answered are those
abbrev pub GivesRowsUnder : Here → Operator → List (Option Value) → Result (Vec (List Value)) EvalFault → Type 0
GivesRowsUnder here o frame result = IfOk result (λ rows. AreRowsUnder here o frame rows.items)

-- a range fault tells an operation that is looked at with the values of a row that the bounds allow
abbrev pub IsRowFaultUnder : Here → Operator → List (Option Value) → EvalFault → Type 0
IsRowFaultUnder here o frame fault = IsRowFault (problem_here here) here.world.now (plain_operator o) [] o.bounds
    (assignment_in frame) fault

-- What calls take and answer where formulas are read: in a world of a task, with what is known
-- there.
use Rattle.std.specs.Borrow.{Bor}
use Rattle.std.specs.Prelude.{◌≡◌, ◌<◌, ℕ, length, List, Bool, Option, Some, None, Result, IfOk, IfErr, IfSome, IfNone, IsTrue, nat_eq}
use Rattle.indexmap.specs.IndexMap.{get}
use Rattle.tl_eval.specs.Frames.{assignment_in}
use Rattle.tl_eval.specs.BoundTuples.{ReadsBound}
use Rattle.tl_eval.specs.Reading.{situation_in}
use Rattle.tl_eval.specs.Remembered.{Remembered}
use Rattle.tl_eval.specs.StateTruth.{Remembers}
use Rattle.tl_nodes.specs.declared.nodes.Nodes.{Nodes}
use Rattle.tl_nodes.specs.Fits.{all_below}
use Rattle.tl_nodes.specs.Numbers.{trees, tree_in, Denotes}
use Rattle.tl_eval.specs.declared.fault.EvalFault.{EvalFault}
use Rattle.tl_progress.specs.declared.here.Here.{Here}
use Rattle.tl_progress.specs.declared.here.FormulasHere.{FormulasHere}
use Rattle.tl_progress.specs.declared.joined.Joined.{Joined}
use Rattle.tl_progress.specs.declared.joined.OpenParts.{OpenParts}
use Rattle.tl_progress.specs.declared.known.WorkedOut.{WorkedOut}
use Rattle.tl_progress.specs.declared.layers.Join.{Join}
use Rattle.tl_progress.specs.declared.layers.Quantified.{Quantified}
use Rattle.tl_progress.specs.declared.quantifier.Quantifier.{Quantifier}
use Rattle.tl_progress.specs.declared.residuals.Residuals.{Residuals}
use Rattle.tl_eval.specs.Faults.{IsCausedBy}
use Rattle.tl_progress.specs.Calls.{IsDecided, AreOpenIn, KeepsRightly, join_of_residuals, FitsTask, IsSentenceIn, AreTruthsIn}
use Rattle.tl_progress.specs.Calls.{AreResidualsIn, IsRightIn, state_true_in, looked_in_world, idly_true_at, looked_idly_at, join_at}
use Rattle.tl_progress.specs.Calls.{idly_true_join, looked_idly_join, quantified_at, idly_true_over, looked_idly_over, residual_at}
use Rattle.tl_progress.specs.Calls.{looked_for_residual_at}
use Rattle.tl_progress.specs.Quantifiers.{ReadsAt}
use Rattle.tl_syntax.specs.declared.value.Value.{Value}
use Rattle.tl_syntax.specs.Trees.{FormulaTree}
use Rattle.tl_terms.specs.Progression.{constant}
use Rattle.tl_world.specs.MatchReading.{Reading}

-- the formula fits below some quantifiers of the task
abbrev pub FitsHere : Here → FormulaTree → Type 0
FitsHere here f = FitsTask here.task.now f

-- the formula is a sentence of the task
abbrev pub IsSentenceHere : Here → FormulaTree → Type 0
IsSentenceHere here f = IsSentenceIn here.task.now f

-- this is right of the world
abbrev pub AreRightHere : Here → Nodes → WorkedOut → Type 0
AreRightHere here nodes known = IsRightIn here.task.now here.world.now nodes known

-- the truths that are known of numbers' trees, where something is known
abbrev pub truths_in : Option (Bor WorkedOut) → ℕ → Option Bool
truths_in None k = None
truths_in (Some known) k = get nat_eq known.now.truths k

-- the numbers that are known
abbrev pub residuals_in : Option (Bor WorkedOut) → ℕ → Option ℕ
residuals_in None k = None
residuals_in (Some known) k = get nat_eq known.now.residuals k

-- the truths that are known are right of the world
abbrev pub KnowsTruths : Here → Nodes → Type 0
KnowsTruths here nodes = AreTruthsIn here.task.now here.world.now nodes (truths_in here.known)

-- the number is one of a formula that can be read there, and the truths that are known are right
pub record IsReadable (formulas : FormulasHere) (i : ℕ) : Type 0 where
  pub at : i < length (trees formulas.nodes.now)
  pub fits : FitsHere formulas.here.now (tree_in formulas.nodes.now i)
  pub known : KnowsTruths formulas.here.now formulas.nodes.now

-- the number is one of a sentence of the task
pub record IsSentenceAt (here : Here) (nodes : Nodes) (i : ℕ) : Type 0 where
  pub at : i < length (trees nodes)
  pub sentence : IsSentenceHere here (tree_in nodes i)

-- what is known is right of it
pub record KnowsRightly (here : Here) (nodes : Nodes) : Type 0 where
  pub truths : KnowsTruths here nodes
  pub residuals : AreResidualsIn here.task.now here.world.now nodes (residuals_in here.known)

-- what is kept for the world, by its number, is right of it
abbrev pub KeepsRightlyHere : Here → Nodes → Residuals → ℕ → Type 0
KeepsRightlyHere here nodes kept n = KeepsRightly here.task.now here.world.now nodes kept n

-- the truths of definitions that are remembered are those in the world
abbrev pub RemembersHere : Here → List Remembered → Type 0
RemembersHere here rs = Remembers here.task.now here.world.now rs

-- the frame is as it was, and what is remembered is right
pub record LeavesFrame (here : Here) (old new : List (Option Value)) (rs : List Remembered) : Type 0 where
  pub frame : new ≡ old
  pub remembers : RemembersHere here rs

-- the tree of a conjunction or a disjunction
abbrev pub tree_of_join : Nodes → Join → FormulaTree
tree_of_join nodes join = join_at nodes join.junction join.parts.now

-- the tree of a quantified formula
abbrev pub tree_of_quantified : Nodes → Quantified → FormulaTree
tree_of_quantified nodes q = quantified_at nodes q.junction q.vars.now q.bound.now q.part

-- the join can be read there, its parts come before it, and the truths that are known are right
pub record IsReadableJoin (formulas : FormulasHere) (join : Join) : Type 0 where
  pub at : join.at < length (trees formulas.nodes.now)
  pub below : IsTrue (all_below join.at join.parts.now)
  pub fits : FitsHere formulas.here.now (tree_of_join formulas.nodes.now join)
  pub known : KnowsTruths formulas.here.now formulas.nodes.now

-- the quantified formula can be read there, and the truths that are known are right
pub record IsReadableOver (formulas : FormulasHere) (q : Quantified) : Type 0 where
  pub part : q.part < length (trees formulas.nodes.now)
  pub fits : FitsHere formulas.here.now (tree_of_quantified formulas.nodes.now q)
  pub known : KnowsTruths formulas.here.now formulas.nodes.now

-- it is the truth of a formula without temporal words, under the values of the frame
abbrev pub IsStateTruth : Here → List (Option Value) → FormulaTree → Result Bool EvalFault → Type 0
IsStateTruth here frame f result = IfOk result (λ b. b ≡ state_true_in here.task.now here.world.now frame f)

-- or a fault of what is looked at for it
abbrev pub IsStateFault : Here → List (Option Value) → FormulaTree → Result Bool EvalFault → Type 0
IsStateFault here frame f result = IfErr result (IsCausedBy (looked_in_world here.task.now here.world.now frame f))

-- it is the truth of a number's tree where the world is repeated for ever
abbrev pub IsTruthAt : FormulasHere → List (Option Value) → ℕ → Result Bool EvalFault → Type 0
IsTruthAt formulas frame i result = IfOk result (λ b. b ≡ idly_true_at formulas.here.now.task.now formulas.here.now.world.now frame
    formulas.nodes.now i)

-- or a fault of what is looked at for it
abbrev pub IsTruthFault : FormulasHere → List (Option Value) → ℕ → Result Bool EvalFault → Type 0
IsTruthFault formulas frame i result = IfErr result (IsCausedBy (looked_idly_at formulas.here.now.task.now formulas.here.now.world.now frame
    formulas.nodes.now i))

-- it is the truth of a join
abbrev pub IsJoinTruth : FormulasHere → List (Option Value) → Join → Result Bool EvalFault → Type 0
IsJoinTruth formulas frame join result = IfOk result (λ b. b ≡ idly_true_join formulas.here.now.task.now formulas.here.now.world.now frame
    formulas.nodes.now join.junction join.parts.now)

-- or a fault of what is looked at for it
abbrev pub IsJoinFault : FormulasHere → List (Option Value) → Join → Result Bool EvalFault → Type 0
IsJoinFault formulas frame join result = IfErr result (IsCausedBy (looked_idly_join formulas.here.now.task.now formulas.here.now.world.now
    frame formulas.nodes.now join.junction join.parts.now))

-- it is the truth of a quantified formula
abbrev pub IsQuantifiedTruth : FormulasHere → List (Option Value) → Quantified → Result Bool EvalFault → Type 0
IsQuantifiedTruth formulas frame q result = IfOk result (λ b. b ≡ idly_true_over formulas.here.now.task.now formulas.here.now.world.now
    frame formulas.nodes.now q.junction q.vars.now q.bound.now q.part)

-- or a fault of what is looked at for it
abbrev pub IsQuantifiedFault : FormulasHere → List (Option Value) → Quantified → Result Bool EvalFault → Type 0
IsQuantifiedFault formulas frame q result = IfErr result (IsCausedBy (looked_idly_over formulas.here.now.task.now
    formulas.here.now.world.now frame formulas.nodes.now q.junction q.vars.now q.bound.now q.part))

-- the tuples are those of a quantified formula, under the values of the frame
abbrev pub ReadsQuantified : Here → Quantified → List (Option Value) → Reading → Type 0
ReadsQuantified here q frame r = ReadsBound (situation_in here.task.now here.world.now) q.vars.now (assignment_in frame) q.bound.now r

-- the tuples are those of the quantifier's bound, under the values of the frame
abbrev pub ReadsInstances : Here → Nodes → Quantifier → List (Option Value) → Reading → Type 0
ReadsInstances here nodes q frame r = ReadsAt here.task.now here.world.now nodes q frame r

-- what has to hold next for a number's tree is the constant of this truth
abbrev pub IsNextConstant : FormulasHere → List (Option Value) → ℕ → Result Bool EvalFault → Type 0
IsNextConstant formulas frame i result = IfOk result (λ b. residual_at formulas.here.now.task.now formulas.here.now.world.now frame
    formulas.nodes.now i ≡ constant b)

-- it is the number of what has to hold next for a number's tree
abbrev pub IsResidual : Here → List (Option Value) → Nodes → ℕ → Nodes → Result ℕ EvalFault → Type 0
IsResidual here frame old i new result = IfOk result (λ n. Denotes new n (residual_at here.task.now here.world.now frame old i))

-- or a fault of what is looked at for it
abbrev pub IsResidualFault : {A : Type 0} → Here → List (Option Value) → Nodes → ℕ → Result A EvalFault → Type 0
IsResidualFault here frame nodes i result = IfErr result (IsCausedBy (looked_for_residual_at here.task.now here.world.now frame nodes i))

-- it is the number of what has to hold next, and no node is added for it
abbrev pub IsKnownResidual : FormulasHere → List (Option Value) → ℕ → Result ℕ EvalFault → Type 0
IsKnownResidual formulas frame i result = IfOk result (λ n. Denotes formulas.nodes.now n
    (residual_at formulas.here.now.task.now formulas.here.now.world.now frame formulas.nodes.now i))

-- or a fault of what is looked at for it
abbrev pub IsNextFault : {A : Type 0} → FormulasHere → List (Option Value) → ℕ → Result A EvalFault → Type 0
IsNextFault formulas frame i result = IfErr result (IsCausedBy (looked_for_residual_at formulas.here.now.task.now
    formulas.here.now.world.now frame formulas.nodes.now i))

-- it is that number, where one was found
abbrev pub IsEarlyResidual : FormulasHere → List (Option Value) → ℕ → Result (Option ℕ) EvalFault → Type 0
IsEarlyResidual formulas frame i result = IfOk result (λ o. IfSome o (λ n.
    Denotes formulas.nodes.now n (residual_at formulas.here.now.task.now formulas.here.now.world.now frame formulas.nodes.now i)))

-- none is left where a part decides the join
abbrev pub IsDecidedEarly : FormulasHere → List (Option Value) → Joined → Result (Option (List ℕ)) EvalFault → Type 0
IsDecidedEarly formulas frame joined result = IfOk result (λ o. IfNone o
    (IsDecided formulas.here.now.task.now formulas.here.now.world.now frame formulas.nodes.now joined))

-- else these are the parts with temporal words
abbrev pub AreOpenParts : FormulasHere → List (Option Value) → Joined → Result (Option (List ℕ)) EvalFault → Type 0
AreOpenParts formulas frame joined result = IfOk result (λ o. IfSome o
    (λ ids. AreOpenIn formulas.here.now.task.now formulas.here.now.world.now frame formulas.nodes.now joined ids))

-- it is the number of the join of what has to hold next for the parts
abbrev pub IsOpenResidual : Here → List (Option Value) → Nodes → OpenParts → Nodes → Result ℕ EvalFault → Type 0
IsOpenResidual here frame old o new result = IfOk result (λ n. Denotes new n
    (join_of_residuals here.task.now here.world.now frame old o.joined o.parts.now))

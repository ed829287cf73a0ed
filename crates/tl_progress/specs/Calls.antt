-- What calls take and answer, by their arguments: a task, a world, the values of a frame, and
-- formulas by their numbers.
use Rattle.std.specs.Prelude.{◌≡◌, ◌↔◌, ℕ, suc, List, length, map, Bool, Option, Result, IfOk, IfErr}
use Rattle.tl_eval.specs.Frames.{assignment_in}
use Rattle.tl_nodes.specs.declared.nodes.Nodes.{Nodes}
use Rattle.tl_nodes.specs.Joins.{join_node, simplified_join}
use Rattle.tl_nodes.specs.NodeTrees.{tree_at, trees_at, tree_of_node}
use Rattle.tl_nodes.specs.Numbers.{trees, Denotes}
use Rattle.tl_eval.specs.declared.fault.EvalFault.{EvalFault}
use Rattle.tl_progress.specs.declared.joined.Joined.{Joined}
use Rattle.tl_progress.specs.declared.known.WorkedOut.{WorkedOut}
use Rattle.tl_progress.specs.declared.residuals.Residuals.{Residuals}
use Rattle.tl_eval.specs.Faults.{IsCausedBy}
use Rattle.tl_progress.specs.Answers.{idly_true, looked_idly, residual, looked_for_residual}
use Rattle.tl_progress.specs.KeptResiduals.{AreOpen, found_in}
use Rattle.tl_progress.specs.Known.{AreTruths, AreResiduals, IsRightlyKnown}
use Rattle.tl_progress.specs.Sentences.{IsSentence, FitsSomewhere}
use Rattle.tl_syntax.specs.declared.bound.Bound.{Bound}
use Rattle.tl_syntax.specs.declared.junction.Junction.{Junction}
use Rattle.tl_syntax.specs.declared.value.Value.{Value}
use Rattle.tl_syntax.specs.declared.variable.Var.{Var}
use Rattle.tl_syntax.specs.Assignment.{no_values}
use Rattle.tl_syntax.specs.Junctions.{deciding_truth, quantified}
use Rattle.tl_syntax.specs.Named.{IsNamed}
use Rattle.tl_syntax.specs.Signature.{signature_of}
use Rattle.tl_syntax.specs.Trees.{FormulaTree}
use Rattle.tl_terms.specs.Definitions.{situation_of}
use Rattle.tl_terms.specs.Looked.{looks_of, looked_in_state, looked_by_idling, looked_by_progressing}
use Rattle.tl_terms.specs.NamedWorlds.{WorldIsNamed}
use Rattle.tl_terms.specs.Operations.{Operation}
use Rattle.tl_terms.specs.ProblemMeaning.{plain_problem}
use Rattle.tl_terms.specs.Progression.{constant, progressed}
use Rattle.tl_terms.specs.Run.{Run, Worlds, Satisfies, SatisfiesAlong, idle_run, state_at}
use Rattle.tl_terms.specs.Truth.{state_true}
use Rattle.tl_terms.specs.World.{World}
use Rattle.tl_world.specs.declared.task.Task.{Task}

-- the formula fits below some quantifiers of the task
abbrev pub FitsTask : Task → FormulaTree → Type 0
FitsTask task f = FitsSomewhere (signature_of task.problem.domain) f

-- the formula is a sentence of the task
abbrev pub IsSentenceIn : Task → FormulaTree → Type 0
IsSentenceIn task f = IsSentence (signature_of task.problem.domain) f

-- the truths are those of the numbers' trees where the task's world is repeated for ever
abbrev pub AreTruthsIn : Task → World → Nodes → (ℕ → Option Bool) → Type 0
AreTruthsIn task w nodes found = AreTruths (plain_problem task.problem) w (trees nodes) found

-- the numbers are those of what has to hold next for the numbers' trees
abbrev pub AreResidualsIn : Task → World → Nodes → (ℕ → Option ℕ) → Type 0
AreResidualsIn task w nodes found = AreResiduals (plain_problem task.problem) w (trees nodes) found

-- what is kept for the world, by its number, are those numbers
abbrev pub KeepsRightly : Task → World → Nodes → Residuals → ℕ → Type 0
KeepsRightly task w nodes kept n = AreResidualsIn task w nodes (found_in kept n)

-- what is known is right of the task's world
abbrev pub IsRightIn : Task → World → Nodes → WorkedOut → Type 0
IsRightIn task w nodes known = IsRightlyKnown (plain_problem task.problem) w (trees nodes) known

-- truth of a formula without temporal words in the world, under the values of the frame
abbrev pub state_true_in : Task → World → List (Option Value) → FormulaTree → Bool
state_true_in task w frame f = state_true (situation_of (plain_problem task.problem) w) (assignment_in frame) f

-- what is looked at for it
abbrev pub looked_in_world : Task → World → List (Option Value) → FormulaTree → List Operation
looked_in_world task w frame f = looked_in_state (looks_of (plain_problem task.problem) w) (situation_of (plain_problem task.problem) w)
    (assignment_in frame) f

-- truth of a number's tree where the world is repeated for ever, under the values of the frame
abbrev pub idly_true_at : Task → World → List (Option Value) → Nodes → ℕ → Bool
idly_true_at task w frame nodes i = idly_true (plain_problem task.problem) w (assignment_in frame) (tree_at (trees nodes) i)

-- what is looked at for it
abbrev pub looked_idly_at : Task → World → List (Option Value) → Nodes → ℕ → List Operation
looked_idly_at task w frame nodes i = looked_idly (plain_problem task.problem) w (assignment_in frame) (tree_at (trees nodes) i)

-- the conjunction or the disjunction of the numbers' trees
abbrev pub join_at : Nodes → Junction → List ℕ → FormulaTree
join_at nodes junction ids = tree_of_node (trees nodes) (join_node junction ids)

-- its truth
abbrev pub idly_true_join : Task → World → List (Option Value) → Nodes → Junction → List ℕ → Bool
idly_true_join task w frame nodes junction ids = idly_true (plain_problem task.problem) w (assignment_in frame)
    (tree_of_node (trees nodes) (join_node junction ids))

-- what is looked at for it
abbrev pub looked_idly_join : Task → World → List (Option Value) → Nodes → Junction → List ℕ → List Operation
looked_idly_join task w frame nodes junction ids = looked_idly (plain_problem task.problem) w (assignment_in frame)
    (tree_of_node (trees nodes) (join_node junction ids))

-- the quantified formula over the number's tree
abbrev pub quantified_at : Nodes → Junction → List Var → Bound → ℕ → FormulaTree
quantified_at nodes junction ss b i = quantified junction ss b (tree_at (trees nodes) i)

-- its truth
abbrev pub idly_true_over : Task → World → List (Option Value) → Nodes → Junction → List Var → Bound → ℕ → Bool
idly_true_over task w frame nodes junction ss b i = idly_true (plain_problem task.problem) w (assignment_in frame)
    (quantified junction ss b (tree_at (trees nodes) i))

-- what is looked at for it
abbrev pub looked_idly_over : Task → World → List (Option Value) → Nodes → Junction → List Var → Bound → ℕ → List Operation
looked_idly_over task w frame nodes junction ss b i = looked_idly (plain_problem task.problem) w (assignment_in frame)
    (quantified junction ss b (tree_at (trees nodes) i))

-- what has to hold next for a number's tree, under the values of the frame
abbrev pub residual_at : Task → World → List (Option Value) → Nodes → ℕ → FormulaTree
residual_at task w frame nodes i = residual (plain_problem task.problem) w (assignment_in frame) (tree_at (trees nodes) i)

-- what is looked at for it
abbrev pub looked_for_residual_at : Task → World → List (Option Value) → Nodes → ℕ → List Operation
looked_for_residual_at task w frame nodes i = looked_for_residual (plain_problem task.problem) w (assignment_in frame)
    (tree_at (trees nodes) i)

-- the join of what has to hold next for the parts
abbrev pub join_of_residuals : Task → World → List (Option Value) → Nodes → Joined → List ℕ → FormulaTree
join_of_residuals task w frame nodes joined parts = simplified_join joined.junction
    (map (residual (plain_problem task.problem) w (assignment_in frame)) (trees_at (trees nodes) parts))

-- what has to hold next for the join is the constant that decides it
abbrev pub IsDecided : Task → World → List (Option Value) → Nodes → Joined → Type 0
IsDecided task w frame nodes joined = residual (plain_problem task.problem) w (assignment_in frame) (tree_at (trees nodes) joined.at) ≡
    constant (deciding_truth joined.junction)

-- these are parts of the join, and what has to hold next for it is the join of that for them
abbrev pub AreOpenIn : Task → World → List (Option Value) → Nodes → Joined → List ℕ → Type 0
AreOpenIn task w frame nodes joined parts = AreOpen (plain_problem task.problem) w (assignment_in frame)
    (trees nodes) joined.at joined.junction parts

-- a sentence holds where the world is repeated for ever
abbrev pub HoldsIdly : Task → World → FormulaTree → Type 0
HoldsIdly task w f = Satisfies (plain_problem task.problem) (idle_run w) 0 f

-- what is looked at for a number's sentence where the world is repeated for ever
abbrev pub looked_by_idling_at : Task → World → Nodes → ℕ → List Operation
looked_by_idling_at task w nodes i = looked_by_idling (plain_problem task.problem) w (tree_at (trees nodes) i)

-- a number's sentence progressed through the world
abbrev pub progressed_at : Task → World → Nodes → ℕ → FormulaTree
progressed_at task w nodes i = progressed (situation_of (plain_problem task.problem) w) no_values (tree_at (trees nodes) i)

-- what is looked at for it
abbrev pub looked_by_progressing_at : Task → World → Nodes → ℕ → List Operation
looked_by_progressing_at task w nodes i = looked_by_progressing (plain_problem task.problem) w (tree_at (trees nodes) i)

-- on each run the one number's tree holds at the world just where the other's holds at the position
-- after it, and on each infinite sequence of worlds it fails just where the other's does
pub record IsProgression (task : Task) (w : World) (old : Nodes) (i : ℕ) (new : Nodes) (n : ℕ) : Type 0 where
  pub holds : (r : Run) (k : ℕ) → state_at r k ≡ w
      → Satisfies (plain_problem task.problem) r k (tree_at (trees old) i) ↔
      Satisfies (plain_problem task.problem) r (suc k) (tree_at (trees new) n)
  pub fails : (s : Worlds) (k : ℕ) → s k ≡ w
      → (SatisfiesAlong (plain_problem task.problem) s k (tree_at (trees old) i) → ⊥)
      ↔ (SatisfiesAlong (plain_problem task.problem) s (suc k) (tree_at (trees new) n) → ⊥)

-- where the task names all that the world and the one number's tree have, it names all that the
-- other's has
abbrev pub StaysNamed : Task → World → Nodes → ℕ → Nodes → ℕ → Type 0
StaysNamed task w old i new n = WorldIsNamed (length task.problem.names) w → IsNamed (length task.problem.names) (tree_at (trees old) i) →
    IsNamed (length task.problem.names) (tree_at (trees new) n)

-- no tree is added
abbrev pub AddsNoTree : Nodes → Nodes → Type 0
AddsNoTree old new = trees new ≡ trees old

-- it is the number of a number's sentence progressed through the world
abbrev pub IsProgressed : Task → World → Nodes → ℕ → Nodes → Result ℕ EvalFault → Type 0
IsProgressed task w old i new result = IfOk result (λ n. Denotes new n (progressed_at task w old i))

-- or a fault of what is looked at for it
abbrev pub IsProgressFault : Task → World → Nodes → ℕ → Result ℕ EvalFault → Type 0
IsProgressFault task w nodes i result = IfErr result (IsCausedBy (looked_by_progressing_at task w nodes i))

-- a number that is answered is such a progression
abbrev pub GivesProgression : Task → World → Nodes → ℕ → Nodes → Result ℕ EvalFault → Type 0
GivesProgression task w old i new result = IfOk result (λ n. IsProgression task w old i new n)

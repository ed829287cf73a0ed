-- Quantifiers that stand in nodes, and steps from one instance to the next.
use Rattle.std.specs.Prelude.{◌≡◌, List, [], length, Bool, true, false, Option, None, Some}
use Rattle.tl_eval.specs.BoundTuples.{ReadsBound}
use Rattle.tl_eval.specs.Frames.{assignment_in, AgreeElsewhere, AreKept}
use Rattle.tl_eval.specs.PatternOf.{IsPatternOf}
use Rattle.tl_nodes.specs.declared.nodes.Nodes.{Nodes}
use Rattle.tl_nodes.specs.NodeTrees.{tree_at}
use Rattle.tl_nodes.specs.Numbers.{trees}
use Rattle.tl_progress.specs.declared.quantifier.Quantifier.{Quantifier}
use Rattle.tl_syntax.specs.declared.bound.Bound.{Bound}
use Rattle.tl_syntax.specs.declared.bound.Bound.TheVariants as bound
use Rattle.tl_syntax.specs.declared.value.Value.{Value}
use Rattle.tl_syntax.specs.declared.variable.Var.{Var}
use Rattle.tl_syntax.specs.Assignment.{Assignment, bind}
use Rattle.tl_syntax.specs.Junctions.{quantified}
use Rattle.tl_syntax.specs.Trees.{FormulaTree, for_all, for_some}
use Rattle.tl_terms.specs.Bounds.{bound_true}
use Rattle.tl_terms.specs.Definitions.{situation_of}
use Rattle.tl_terms.specs.ProblemMeaning.{plain_problem}
use Rattle.tl_terms.specs.Situation.{Situation}
use Rattle.tl_terms.specs.World.{World}
use Rattle.tl_world.specs.declared.task.Task.{Task}
use Rattle.tl_match.specs.declared.pattern.Pattern.{Pattern}
use Rattle.tl_world.specs.MatchReading.{Reading}
use Rattle.tl_match.specs.Next.{IsNext}

-- the variables of a quantified formula; another formula has none
abbrev pub vars_in : FormulaTree → List Var
vars_in (for_all ss b f) = ss
vars_in (for_some ss b f) = ss
vars_in f = []

-- the bound of a quantified formula; that of another formula means nothing
abbrev pub bound_in : FormulaTree → Bound
bound_in (for_all ss b f) = b
bound_in (for_some ss b f) = b
bound_in f = bound.Fact 0 []

-- the formula is the quantified formula of its variables, its bound and the part
abbrev pub quantified_in : FormulaTree → Quantifier → FormulaTree → FormulaTree
quantified_in f q g = quantified q.junction (vars_in f) (bound_in f) g

-- the quantifier stands in its node
abbrev pub Stands : List FormulaTree → Quantifier → Type 0
Stands ts q = tree_at ts q.at ≡ quantified_in (tree_at ts q.at) q (tree_at ts q.part)

-- the variables and the bound of the quantifier's node
abbrev pub node_vars : List FormulaTree → Quantifier → List Var
node_vars ts q = vars_in (tree_at ts q.at)

abbrev pub node_bound : List FormulaTree → Quantifier → Bound
node_bound ts q = bound_in (tree_at ts q.at)

-- the same, of a table of nodes
abbrev pub vars_at : Nodes → Quantifier → List Var
vars_at nodes q = node_vars (trees nodes) q

abbrev pub bound_at : Nodes → Quantifier → Bound
bound_at nodes q = node_bound (trees nodes) q

-- the pattern is that of the quantifier's bound under the values of the frame
abbrev pub StandsForBoundAt : Nodes → Quantifier → List (Option Value) → Option Pattern → Type 0
StandsForBoundAt nodes q frame p = IsPatternOf (node_vars (trees nodes) q) (assignment_in frame) (node_bound (trees nodes) q) p

-- they are the tuples of the quantifier's bound in the task's world, under the values of the frame
abbrev pub ReadsAt : Task → World → Nodes → Quantifier → List (Option Value) → Reading → Type 0
ReadsAt task w nodes q frame r = ReadsBound (situation_of (plain_problem task.problem) w) (node_vars (trees nodes) q) (assignment_in frame)
    (node_bound (trees nodes) q) r

-- so it is of whatever frame the pattern is made
abbrev pub ReadsPatternAt : Task → World → Nodes → Quantifier → Option Pattern → Reading → Type 0
ReadsPatternAt task w nodes q p r = (frame : List (Option Value)) → StandsForBoundAt nodes q frame p → ReadsAt task w nodes q frame r

-- they are the tuples of some bound for the variables
abbrev pub IsReader : List Var → Reading → Type 0
IsReader ss r = (s : Situation) × (b : Bound) × (e : Assignment) × ReadsBound s ss e b r

-- a step to the next instance: the tuples are gone on with, and the variables get the values of the
-- one that is found
pub record HasStepped (s : Situation) (ss : List Var) (b : Bound) (before after : Reading) (old new : List (Option Value))
    (found : Bool) : Type 0 where
  pub reads : (e : Assignment) → ReadsBound s ss e b before → ReadsBound s ss e b after
  pub next : (e : Assignment) → ReadsBound s ss e b before → IsNext (length ss) (λ t. bound_true s (bind ss t e) b) before.tuple after.tuple
  pub put : found ≡ true → (t : List Value) × (after.tuple ≡ Some t) × (assignment_in new ≡ bind ss t (assignment_in old))
  pub done : found ≡ false → after.tuple ≡ None
  pub elsewhere : AgreeElsewhere ss (assignment_in new) (assignment_in old)

-- so it is of whatever bound the tuples are, and in whatever situation
abbrev pub HasSteppedOver : List Var → Reading → Reading → List (Option Value) → List (Option Value) → Bool → Type 0
HasSteppedOver ss before after old new found = (s : Situation) (b : Bound) → HasStepped s ss b before after old new found

-- and for the variables of the quantifier of a node
abbrev pub HasSteppedAt : Nodes → Quantifier → Reading → Reading → List (Option Value) → List (Option Value) → Bool → Type 0
HasSteppedAt nodes q before after old new found = HasSteppedOver (node_vars (trees nodes) q) before after old new found

-- of whatever frame the variables' values were kept, where the old frame agrees with it elsewhere,
-- it is the new one
abbrev pub GivesBack : List Var → List (Option Value) → List (Option Value) → List (Option Value) → Type 0
GivesBack ss kept old new = (frame : List (Option Value)) → AreKept ss frame kept →
    AgreeElsewhere ss (assignment_in old) (assignment_in frame) → new ≡ frame

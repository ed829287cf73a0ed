-- What the parts of an explanation say to each other.
use Rattle.std.specs.Prelude.{◌≡◌, ◌⊎◌, ℕ, ◌<◌, ◌+◌, List, [], ◌++◌, length, Bool, true, false, Some, None, Result, Ok, Err}
use Rattle.tl_syntax.specs.declared.action.Action.{Action}
use Rattle.tl_syntax.specs.declared.problem.Problem.{Problem}
use Rattle.tl_syntax.specs.Named.{IsNamed}
use Rattle.tl_syntax.specs.Signature.{signature_of}
use Rattle.tl_syntax.specs.Trees.{FormulaTree}
use Rattle.tl_terms.specs.Looked.{looked_by_action, looked_by_progressing}
use Rattle.tl_terms.specs.NamedWorlds.{WorldIsNamed}
use Rattle.tl_terms.specs.Operations.{Operation}
use Rattle.tl_terms.specs.ProblemMeaning.{plain_problem}
use Rattle.tl_terms.specs.Step.{step}
use Rattle.tl_terms.specs.World.{World}
use Rattle.tl_eval.specs.Notes.{Tells}
use Rattle.tl_eval.specs.declared.fault.EvalFault.{EvalFault}
use Rattle.tl_eval.specs.declared.fault.EvalFault.TheVariants as eval
use Rattle.tl_nodes.specs.NodeTrees.{tree_at}
use Rattle.tl_nodes.specs.Numbers.{trees}
use Rattle.tl_progress.specs.Sentences.{IsSentence}
use Rattle.tl_explain.specs.declared.explanation.Explanation.{Explanation}
use Rattle.tl_explain.specs.declared.fault.ExplainFault.{ExplainFault}
use Rattle.tl_explain.specs.declared.fault.ExplainFault.TheVariants as fault
use Rattle.tl_explain.specs.Explain.{action_line, progressed_in, state_line}

-- the fault of an action that comes after so many others, or of progression in the state there
abbrev pub fault_after : ℕ → EvalFault → ExplainFault
fault_after k (eval.Range note) = fault.Range k note
fault_after k eval.NoMemory = fault.NoMemory

-- the formula of an explanation
abbrev pub formula_in : Explanation → FormulaTree
formula_in x = tree_at (trees x.nodes) x.label

-- the formula can be progressed through the world, and both name only what the problem names
pub record IsFit (p : Problem) (x : Explanation) : Type 0 where
  pub inside : x.label < length (trees x.nodes)
  pub sentence : IsSentence (signature_of p.domain) (formula_in x)
  pub named : IsNamed (length p.names) (formula_in x)
  pub world_named : WorldIsNamed (length p.names) x.world

-- nothing is written, and the control formula comes in to the first world
pub record AwaitsFirst (p : Problem) (x : Explanation) : Type 0 where
  pub fit : IsFit p x
  pub world : x.world ≡ (plain_problem p).first
  pub formula : formula_in x ≡ (plain_problem p).control
  pub text : x.text ≡ []

-- the formula that came in is progressed through the world, and the state, which k actions come
-- before, has its line
pub record ArrivesAtState (p : Problem) (k : ℕ) (old new : Explanation) : Type 0 where
  pub fit : IsFit p new
  pub world : new.world ≡ old.world
  pub formula : formula_in new ≡ progressed_in p old.world (formula_in old)
  pub text : new.text ≡ old.text ++ state_line p k (formula_in new)

-- the action has a step, and its line and that of the state after it follow
pub record FollowsAction (p : Problem) (k : ℕ) (a : Action) (old new : Explanation) : Type 0 where
  pub fit : IsFit p new
  pub steps : step (plain_problem p) old.world a ≡ Some new.world
  pub formula : formula_in new ≡ progressed_in p new.world (formula_in old)
  pub text : new.text ≡ old.text ++ (action_line p a ++ state_line p (k + 1) (formula_in new))

-- the action has no step, and no line is added
pub record Stops (p : Problem) (a : Action) (old new : Explanation) : Type 0 where
  pub stuck : step (plain_problem p) old.world a ≡ None
  pub text : new.text ≡ old.text

-- one of the operations is past range after so many actions; want of memory has no cause
abbrev pub IsToldAfter : ℕ → List Operation → ExplainFault → Type 0
IsToldAfter k looked (fault.Range after note) = (after ≡ k) × Tells looked note
IsToldAfter k looked fault.NoMemory = Unit {0}

-- progressing the formula in the world is the cause, after so many actions
abbrev pub IsArrivalFault : Problem → ℕ → World → FormulaTree → ExplainFault → Type 0
IsArrivalFault p k w f x = IsToldAfter k (looked_by_progressing (plain_problem p) w f) x

-- the action is the cause, or progressing the formula in the world after it
abbrev pub IsFollowFault : Problem → ℕ → Action → Explanation → ExplainFault → Type 0
IsFollowFault p k a old x =
    IsToldAfter k (looked_by_action (plain_problem p) old.world a) x
    ⊎ ((w : World) × (step (plain_problem p) old.world a ≡ Some w) × IsArrivalFault p (k + 1) w (formula_in old) x)

-- what comes of an action after k others
abbrev pub ComesOf : Problem → ℕ → Action → Explanation → Explanation → Result Bool ExplainFault → Type 0
ComesOf p k a old new (Ok true) = FollowsAction p k a old new
ComesOf p k a old new (Ok false) = Stops p a old new
ComesOf p k a old new (Err x) = IsFollowFault p k a old x

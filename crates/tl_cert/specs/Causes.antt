-- The operations past range at which the check of a proof ends.
use Rattle.std.specs.Prelude.{◌≡◌, ◌⊎◌, ℕ, List, [], ◌∷◌, ◌++◌, take, slice_get, Option, Some, IsSome}
use Rattle.tl_syntax.specs.declared.action.Action.{Action}
use Rattle.tl_syntax.specs.Lists.{Among}
use Rattle.tl_terms.specs.Acceptance.{states}
use Rattle.tl_terms.specs.Looked.{looked_by_progressing, looked_by_idling, looked_by_action}
use Rattle.tl_terms.specs.Operations.{Operation, IsPastRange}
use Rattle.tl_terms.specs.Problem.{PlainProblem}
use Rattle.tl_terms.specs.Step.{step}
use Rattle.tl_terms.specs.World.{World}
use Rattle.tl_eval.specs.Notes.{operation_of}
use Rattle.tl_search.specs.KeptPairs.{KeptPair}
use Rattle.tl_search.specs.declared.fault.SearchFault.{SearchFault}
use Rattle.tl_search.specs.declared.fault.SearchFault.TheVariants as fault
use Rattle.tl_cert.specs.Covers.{MustBeClosed}
use Rattle.tl_cert.specs.Links.{Lists}
use Rattle.tl_cert.specs.declared.proof.Link.{Link}
use Rattle.tl_cert.specs.declared.proof.Proof.{Proof}

-- some of the links from the first on are good, and this is a node that they list
pub record IsListedBySome (p : PlainProblem) (bound : Option ℕ) (links : List Link) (x : KeptPair) : Type 0 where
  pub count : ℕ
  pub listed : List KeptPair
  pub lists : Lists p bound (take count links) listed
  pub number : ℕ
  pub node : slice_get listed number ≡ Some x

-- a link starts from the node by the action, and all links before it are good
pub record HasLink (p : PlainProblem) (bound : Option ℕ) (links : List Link) (x : KeptPair) (a : Action) : Type 0 where
  pub before : ℕ
  pub link : Link
  pub is_link : slice_get links before ≡ Some link
  pub listed : List KeptPair
  pub lists : Lists p bound (take before links) listed
  pub from : slice_get listed link.from ≡ Some x
  pub action : link.action ≡ a

-- all links are good, and the node is listed and has to be closed
pub record IsAsked (p : PlainProblem) (bound : Option ℕ) (links : List Link) (x : KeptPair) : Type 0 where
  pub listed : List KeptPair
  pub lists : Lists p bound links listed
  pub number : ℕ
  pub node : slice_get listed number ≡ Some x
  pub asked : MustBeClosed bound x.path

-- the proof visits the path of the node followed by the action: a link says so, or the node has to
-- be closed
abbrev pub IsVisited : PlainProblem → Option ℕ → List Link → KeptPair → Action → Type 0
IsVisited p bound links x a = HasLink p bound links x a ⊎ IsAsked p bound links x

-- at the root: progressing the control formula in the first world looks at it
abbrev pub LooksAtRoot : PlainProblem → List Action → Operation → Type 0
LooksAtRoot p path o = (path ≡ []) × Among o (looked_by_progressing p p.first p.control)

-- after a visited action: progressing the formula of the node in the world after it does
pub record LooksAfterAction (p : PlainProblem) (bound : Option ℕ) (links : List Link) (path : List Action) (o : Operation) : Type 0 where
  pub node : KeptPair
  pub action : Action
  pub visited : IsVisited p bound links node action
  pub is_path : path ≡ node.path ++ action ∷ []
  pub world : World
  pub steps : step p node.node.world action ≡ Some world
  pub looked : Among o (looked_by_progressing p world node.node.formula)

-- at a listed node: its idling check does
pub record LooksByIdling (p : PlainProblem) (bound : Option ℕ) (links : List Link) (path : List Action) (o : Operation) : Type 0 where
  pub node : KeptPair
  pub is_listed : IsListedBySome p bound links node
  pub is_path : path ≡ node.path
  pub looked : Among o (looked_by_idling p node.node.world node.node.formula)

-- at a node from which an action is visited: some action does in its world
pub record LooksByActing (p : PlainProblem) (bound : Option ℕ) (links : List Link) (path : List Action) (o : Operation) : Type 0 where
  pub node : KeptPair
  pub visits : Action
  pub visited : IsVisited p bound links node visits
  pub is_path : path ≡ node.path
  pub action : Action
  pub looked : Among o (looked_by_action p node.node.world action)

-- the path executes, and in its last world the operation is past range and is looked at by the
-- check of the proof
pub record IsNoneCause (p : PlainProblem) (bound : Option ℕ) (links : List Link) (path : List Action) (o : Operation) : Type 0 where
  pub executes : IsSome (states p path)
  pub past : IsPastRange o
  pub looked : LooksAtRoot p path o ⊎ (LooksAfterAction p bound links path o ⊎
      (LooksByIdling p bound links path o ⊎ LooksByActing p bound links path o))

-- past range has its cause; want of memory has none
abbrev pub IsNoneFaultOf : PlainProblem → Option ℕ → List Link → SearchFault → Type 0
IsNoneFaultOf p bound links (fault.Range path note) = IsNoneCause p bound links path (operation_of note)
IsNoneFaultOf p bound links fault.NoMemory = Unit {0}

-- why the check of a proof gives no verdict
abbrev pub IsNoneFault : PlainProblem → Proof → SearchFault → Type 0
IsNoneFault p proof f = IsNoneFaultOf p proof.bound proof.links f

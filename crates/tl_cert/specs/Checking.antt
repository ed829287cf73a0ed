-- What the check of a proof knows on its way, and what its parts answer.
use Rattle.std.specs.Prelude.{◌≡◌, ◌≤◌, ◌<◌, ◌+◌, ◌⊎◌, ℕ, List, [], ◌∷◌, ◌++◌, length, map, slice_get, Bool, true, false, Option, Some}
use Rattle.std.specs.Prelude.{None, nat_lt, nat_le}
use Rattle.tl_syntax.specs.declared.action.Action.{Action}
use Rattle.tl_terms.specs.Looked.{looked_by_progressing, looked_by_idling, looked_by_action}
use Rattle.tl_terms.specs.Pairs.{IsPairAccepted}
use Rattle.tl_terms.specs.Problem.{PlainProblem}
use Rattle.tl_terms.specs.Step.{step}
use Rattle.tl_terms.specs.World.{World}
use Rattle.tl_eval.specs.Notes.{Tells}
use Rattle.tl_eval.specs.declared.range.RangeNote.{RangeNote}
use Rattle.tl_world.specs.declared.task.Task.{Task}
use Rattle.tl_search.specs.Calls.{ForPair, AreNamedIn, ListsActionsAt}
use Rattle.tl_search.specs.KeptPairs.{KeptPair}
use Rattle.tl_search.specs.NamedAnswers.{IsNamedIn}
use Rattle.tl_search.specs.declared.fault.SearchFault.{SearchFault}
use Rattle.tl_search.specs.declared.fault.SearchFault.TheVariants as fault
use Rattle.tl_cert.specs.Covers.{IsRightNode, MustBeClosed, StaysInside}
use Rattle.tl_cert.specs.Links.{IsGood, Lists}
use Rattle.tl_cert.specs.Verdicts.{ComesTo, IsFirstBad, IsFirstOut, IsOpenBy, LeadsOut}
use Rattle.tl_cert.specs.declared.checking.Checking.{Checking}
use Rattle.tl_cert.specs.declared.known.NodeActions.{NodeActions}
use Rattle.tl_cert.specs.declared.proof.Link.{Link}
use Rattle.tl_cert.specs.declared.verdict.NoneVerdict.{NoneVerdict}
use Rattle.tl_cert.specs.declared.verdict.NoneVerdict.TheVariants.{Proved, BadLink, Accepts, Open}

-- ---- faults

-- the root: progressing the control formula in the first world looks at it
abbrev pub IsRootCause : PlainProblem → SearchFault → Type 0
IsRootCause p (fault.Range path note) = (path ≡ []) × Tells (looked_by_progressing p p.first p.control) note
IsRootCause p fault.NoMemory = Unit {0}

-- at the node an action looks at it in its world
abbrev pub IsActingCause : PlainProblem → KeptPair → List Action → RangeNote → Type 0
IsActingCause p x path note = (path ≡ x.path) × ((b : Action) × Tells (looked_by_action p x.node.world b) note)

-- after the action progressing the formula of the node looks at it
abbrev pub IsProgressingCause : PlainProblem → KeptPair → Action → List Action → RangeNote → Type 0
IsProgressingCause p x a path note = (path ≡ x.path ++ a ∷ []) × ((w : World) × (step p x.node.world a ≡ Some w) ×
    Tells (looked_by_progressing p w x.node.formula) note)

-- where the action is visited at the node, one of these is the cause
abbrev pub IsVisitCause : PlainProblem → Action → KeptPair → SearchFault → Type 0
IsVisitCause p a x (fault.Range path note) = IsActingCause p x path note ⊎ IsProgressingCause p x a path note
IsVisitCause p a x fault.NoMemory = Unit {0}

-- so it is at the node of the number
abbrev pub IsVisitFault : PlainProblem → List KeptPair → ℕ → Action → SearchFault → Type 0
IsVisitFault p kept at a f = ForPair kept at (λ x. IsVisitCause p a x f)

-- where the actions of the node are listed, an action is the cause
abbrev pub IsListingCause : PlainProblem → KeptPair → SearchFault → Type 0
IsListingCause p x (fault.Range path note) = IsActingCause p x path note
IsListingCause p x fault.NoMemory = Unit {0}

-- so it is at the node of the number
abbrev pub IsListingFault : PlainProblem → List KeptPair → ℕ → SearchFault → Type 0
IsListingFault p kept at f = ForPair kept at (λ x. IsListingCause p x f)

-- where it is tested whether the node is accepted, the idling check is the cause
abbrev pub IsIdlingCause : PlainProblem → KeptPair → SearchFault → Type 0
IsIdlingCause p x (fault.Range path note) = (path ≡ x.path) × Tells (looked_by_idling p x.node.world x.node.formula) note
IsIdlingCause p x fault.NoMemory = Unit {0}

-- so it is at the node of the number
abbrev pub IsIdlingFault : PlainProblem → List KeptPair → ℕ → SearchFault → Type 0
IsIdlingFault p kept at f = ForPair kept at (λ x. IsIdlingCause p x f)

-- where all actions of the node are tried, one of them is the cause
abbrev pub IsTurnCause : PlainProblem → KeptPair → SearchFault → Type 0
IsTurnCause p x (fault.Range path note) = IsActingCause p x path note ⊎ ((a : Action) × IsProgressingCause p x a path note)
IsTurnCause p x fault.NoMemory = Unit {0}

-- so it is at the node of the number
abbrev pub IsTurnFault : PlainProblem → List KeptPair → ℕ → SearchFault → Type 0
IsTurnFault p kept at f = ForPair kept at (λ x. IsTurnCause p x f)

-- where the node is judged, its acceptance or, where it has to be closed, one of its actions is the
-- cause
abbrev pub IsJudgingCause : PlainProblem → Option ℕ → KeptPair → SearchFault → Type 0
IsJudgingCause p bound x f = IsIdlingCause p x f ⊎ (MustBeClosed bound x.path × IsTurnCause p x f)

-- so it is at the node of the number
abbrev pub IsJudgingFault : PlainProblem → Option ℕ → List KeptPair → ℕ → SearchFault → Type 0
IsJudgingFault p bound kept at f = ForPair kept at (λ x. IsJudgingCause p bound x f)

-- so it is at one of the nodes
abbrev pub IsNodesFault : PlainProblem → Option ℕ → List KeptPair → SearchFault → Type 0
IsNodesFault p bound kept f = (at : ℕ) × (x : KeptPair) × (slice_get kept at ≡ Some x) × IsJudgingCause p bound x f

-- ---- the nodes so far

-- how many actions the paths of the nodes have
abbrev pub depths_of : List KeptPair → List ℕ
depths_of kept = map (λ x. length x.path) kept

-- a path has no more actions than the number of its node says
abbrev pub AreShort : List KeptPair → Type 0
AreShort listed = (i : ℕ) (x : KeptPair) → slice_get listed i ≡ Some x → length x.path ≤ i

-- these are the actions of the node of their number, with named arguments
pub record AreActionsAt (task : Task) (p : PlainProblem) (kept : List KeptPair) (known : NodeActions) : Type 0 where
  pub inside : known.at < length kept
  pub actions : ListsActionsAt p kept known.at known.actions
  pub named : AreNamedIn task known.actions

-- so they are, where some are known
abbrev pub AreKnownActions : Task → PlainProblem → List KeptPair → Option NodeActions → Type 0
AreKnownActions task p kept None = Unit {0}
AreKnownActions task p kept (Some known) = AreActionsAt task p kept known

-- what is known of the nodes that are listed so far is right
pub record IsRightSoFar (task : Task) (p : PlainProblem) (kept : List KeptPair) (c : Checking) : Type 0 where
  pub depths : c.depths ≡ depths_of kept
  pub short : AreShort kept
  pub known : AreKnownActions task p kept c.known

-- a path of one action more than this number is within the bound
abbrev pub goes_on : Option ℕ → ℕ → Bool
goes_on None depth = true
goes_on (Some n) depth = nat_lt depth n

-- the second path has at most one action more than the first, where there is a bound
abbrev pub is_no_farther : Option ℕ → ℕ → ℕ → Bool
is_no_farther None depth other = true
is_no_farther (Some n) depth other = nat_le other (depth + 1)

-- ---- what the parts answer

-- the link is good, and its node is listed now; or it is not
abbrev pub ListsLink : PlainProblem → Option ℕ → List KeptPair → List KeptPair → Link → Bool → Type 0
ListsLink p bound old new link true = (next : KeptPair) × IsGood p bound old link next × (new ≡ old ++ next ∷ [])
ListsLink p bound old new link false = (next : KeptPair) → IsGood p bound old link next → ⊥

-- all links are good; or this is the first that is not
abbrev pub ListsLinks : PlainProblem → Option ℕ → List Link → List KeptPair → Option ℕ → Type 0
ListsLinks p bound links kept None = Lists p bound links kept
ListsLinks p bound links kept (Some k) = IsFirstBad p bound links k

-- the action stays inside at the node of the number; or it leads out
abbrev pub TellsInside : PlainProblem → Option ℕ → List KeptPair → ℕ → Action → Bool → Type 0
TellsInside p bound kept at a true = ForPair kept at (λ x. StaysInside p bound kept x a)
TellsInside p bound kept at a false = ForPair kept at (λ x. LeadsOut p bound kept x a)

-- each action stays inside; or this is the first that leads out
abbrev pub TellsClosed : PlainProblem → Option ℕ → List KeptPair → ℕ → Option Action → Type 0
TellsClosed p bound kept at None = ForPair kept at (λ x. (a : Action) → StaysInside p bound kept x a)
TellsClosed p bound kept at (Some a) = ForPair kept at (λ x. IsFirstOut p bound kept x a)

-- the node of the number is right; or this verdict says why not
abbrev pub JudgesNode : PlainProblem → Option ℕ → List KeptPair → ℕ → Option NoneVerdict → Type 0
JudgesNode p bound kept at None = ForPair kept at (λ x. IsRightNode p bound kept x)
JudgesNode p bound kept at (Some Proved) = ⊥
JudgesNode p bound kept at (Some (BadLink k)) = ⊥
JudgesNode p bound kept at (Some (Accepts k)) = (k ≡ at) × ForPair kept at (λ x. IsPairAccepted p x.node)
JudgesNode p bound kept at (Some (Open k a)) = (k ≡ at) × ForPair kept at (λ x. IsOpenBy p bound kept x a)

-- each node is right; or the first that is not has this verdict
abbrev pub JudgesNodes : PlainProblem → Option ℕ → List KeptPair → NoneVerdict → Type 0
JudgesNodes p bound kept Proved = (k : ℕ) (x : KeptPair) → slice_get kept k ≡ Some x → IsRightNode p bound kept x
JudgesNodes p bound kept (BadLink k) = ⊥
JudgesNodes p bound kept (Accepts k) = (x : KeptPair) × ComesTo p bound kept k x × IsPairAccepted p x.node
JudgesNodes p bound kept (Open k a) = (x : KeptPair) × ComesTo p bound kept k x × IsOpenBy p bound kept x a

-- ---- names

-- the action of the verdict is named, where there is one
abbrev pub VerdictIsNamed : Task → NoneVerdict → Type 0
VerdictIsNamed task Proved = Unit {0}
VerdictIsNamed task (BadLink k) = Unit {0}
VerdictIsNamed task (Accepts k) = Unit {0}
VerdictIsNamed task (Open k a) = IsNamedIn task a

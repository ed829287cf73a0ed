-- Which verdict is right of a proof.
use Rattle.std.specs.Prelude.{◌≡◌, ◌≢◌, ◌<◌, ◌+◌, ℕ, List, take, slice_get, Option, Some}
use Rattle.std.specs.declared.cmp.Ordering.TheVariants.{Less}
use Rattle.tl_syntax.specs.declared.action.Action.{Action}
use Rattle.tl_syntax.specs.Trees.{falsum}
use Rattle.tl_terms.specs.Orders.{action_cmp}
use Rattle.tl_terms.specs.Pairs.{Pair, IsPairAccepted}
use Rattle.tl_terms.specs.Problem.{PlainProblem}
use Rattle.tl_search.specs.KeptPairs.{KeptPair}
use Rattle.tl_search.specs.PairGraph.{next_pair}
use Rattle.tl_cert.specs.Covers.{Covers, IsListedNear, IsRightNode, MustBeClosed, StaysInside}
use Rattle.tl_cert.specs.Links.{IsGood, Lists}
use Rattle.tl_cert.specs.declared.proof.Link.{Link}
use Rattle.tl_cert.specs.declared.proof.Proof.{Proof}
use Rattle.tl_cert.specs.declared.verdict.NoneVerdict.{NoneVerdict}
use Rattle.tl_cert.specs.declared.verdict.NoneVerdict.TheVariants.{Proved, BadLink, Accepts, Open}

-- the link of this number, counted from 1, is the first that is not good
pub record IsFirstBad (p : PlainProblem) (bound : Option ℕ) (links : List Link) (k : ℕ) : Type 0 where
  pub before : ℕ
  pub number : k ≡ before + 1
  pub link : Link
  pub is_link : slice_get links before ≡ Some link
  pub listed : List KeptPair
  pub good : Lists p bound (take before links) listed
  pub bad : (next : KeptPair) → IsGood p bound listed link next → ⊥

-- this is the node of number k, and all nodes before it are right
pub record ComesTo (p : PlainProblem) (bound : Option ℕ) (listed : List KeptPair) (k : ℕ) (x : KeptPair) : Type 0 where
  pub node : slice_get listed k ≡ Some x
  pub right : (i : ℕ) (y : KeptPair) → slice_get listed i ≡ Some y → i < k → IsRightNode p bound listed y

-- the action has a step at the node, and leads neither to the formula FALSE nor to a listed pair
pub record LeadsOut (p : PlainProblem) (bound : Option ℕ) (listed : List KeptPair) (x : KeptPair) (a : Action) : Type 0 where
  pub next : Pair
  pub leads : next_pair p x.node a ≡ Some next
  pub unpruned : next.formula ≢ falsum
  pub unlisted : IsListedNear bound listed x.path next → ⊥

-- the action is the first that leads out
pub record IsFirstOut (p : PlainProblem) (bound : Option ℕ) (listed : List KeptPair) (x : KeptPair) (a : Action) : Type 0 where
  pub out : LeadsOut p bound listed x a
  pub first : (b : Action) → action_cmp b a ≡ Less → StaysInside p bound listed x b

-- the node is not accepted and has to be closed, and the action is the first that leads out
pub record IsOpenBy (p : PlainProblem) (bound : Option ℕ) (listed : List KeptPair) (x : KeptPair) (a : Action) : Type 0 where
  pub unaccepted : IsPairAccepted p x.node → ⊥
  pub asked : MustBeClosed bound x.path
  pub first_out : IsFirstOut p bound listed x a

-- all links are good, and the node of number k is the first that is not right: it is accepted
pub record IsFirstAccepted (p : PlainProblem) (bound : Option ℕ) (links : List Link) (k : ℕ) : Type 0 where
  pub listed : List KeptPair
  pub lists : Lists p bound links listed
  pub node : KeptPair
  pub comes : ComesTo p bound listed k node
  pub accepted : IsPairAccepted p node.node

-- all links are good, and the node of number k is the first that is not right: it is open by the
-- action
pub record IsFirstOpen (p : PlainProblem) (bound : Option ℕ) (links : List Link) (k : ℕ) (a : Action) : Type 0 where
  pub listed : List KeptPair
  pub lists : Lists p bound links listed
  pub node : KeptPair
  pub comes : ComesTo p bound listed k node
  pub is_open : IsOpenBy p bound listed node a

-- the verdict that is right of the proof
abbrev pub IsNoneVerdict : PlainProblem → Proof → NoneVerdict → Type 0
IsNoneVerdict p proof Proved = Covers p proof
IsNoneVerdict p proof (BadLink k) = IsFirstBad p proof.bound proof.links k
IsNoneVerdict p proof (Accepts k) = IsFirstAccepted p proof.bound proof.links k
IsNoneVerdict p proof (Open k a) = IsFirstOpen p proof.bound proof.links k a

-- What the parts of a space say to each other.
use Rattle.std.specs.Prelude.{◌≡◌, ◌≢◌, ◌<◌, ◌≤◌, ◌++◌, ◌∷◌, [], ℕ, suc, List, length, slice_get, Some}
use Rattle.tl_syntax.specs.Assignment.{no_values}
use Rattle.tl_syntax.specs.Lists.{Each}
use Rattle.tl_syntax.specs.Signature.{signature_of}
use Rattle.tl_syntax.specs.declared.action.Action.{Action}
use Rattle.tl_syntax.specs.Trees.{falsum}
use Rattle.tl_terms.specs.Definitions.{situation_of}
use Rattle.tl_terms.specs.Looked.{looked_by_progressing}
use Rattle.tl_terms.specs.Pairs.{Pair}
use Rattle.tl_terms.specs.Problem.{PlainProblem}
use Rattle.tl_terms.specs.Progression.{progressed}
use Rattle.tl_terms.specs.Step.{step}
use Rattle.tl_terms.specs.World.{World}
use Rattle.tl_nodes.specs.NodeTrees.{tree_at}
use Rattle.tl_nodes.specs.Numbers.{trees}
use Rattle.tl_eval.specs.Faults.{IsCausedBy}
use Rattle.tl_eval.specs.declared.fault.EvalFault.{EvalFault}
use Rattle.tl_search.specs.Arrivals.{Arrives}
use Rattle.tl_search.specs.Calls.{ForPair}
use Rattle.tl_search.specs.Graphs.{walk}
use Rattle.tl_search.specs.PairGraph.{pair_graph}
use Rattle.tl_search.specs.declared.arrival.Arrival.{Arrival}
use Rattle.tl_space.specs.declared.numbers.Found.{Found}
use Rattle.tl_space.specs.declared.numbers.Found.TheVariants as found
use Rattle.tl_space.specs.declared.numbers.Met.{Met}
use Rattle.tl_space.specs.declared.numbers.Numbers.{Numbers}
use Rattle.tl_space.specs.declared.space.Space.{Space}
use Rattle.tl_space.specs.Kept.{world_at, node_at, nodes_at, path_at, path_by, paths_of, IsLabel, AreNumbers}
use Rattle.tl_known.specs.NumberedLists.{Stay}
use Rattle.tl_space.specs.Remembered.{pair_in_at, IsKnown}
use Rattle.tl_space.specs.Spaces.{problem_of, name_count, kept_of}
use Rattle.tl_known.specs.WorldNumbers.{worlds_in}

-- the pair of these numbers
abbrev pub node_in : Space → Numbers → Pair
node_in s n = node_at (worlds_in s.worlds) (trees s.nodes) n

-- the pairs that are kept
abbrev pub nodes_in : Space → List Pair
nodes_in s = nodes_at (worlds_in s.worlds) (trees s.nodes) s.pairs.keys

-- the pair of the arrival in a world with a formula
abbrev pub arriving_in : Space → Numbers → Pair
arriving_in s n = pair_in_at (problem_of s) (worlds_in s.worlds) (trees s.nodes) n

-- the number is that of a sentence that names only what the table of names has
abbrev pub IsLabelIn : Space → ℕ → Type 0
IsLabelIn s l = IsLabel (signature_of s.task.problem.domain) (name_count s) (trees s.nodes) l

-- the numbers are those of a world and of such a sentence
abbrev pub AreNumbersIn : Space → Numbers → Type 0
AreNumbersIn s n = AreNumbers (signature_of s.task.problem.domain) (name_count s) (worlds_in s.worlds) (trees s.nodes) n

-- this is known of the arrival
abbrev pub IsKnownIn : Space → Numbers → Arrival → Type 0
IsKnownIn s n r = IsKnown (nodes_in s) (arriving_in s n) r

-- the task and the pairs stay, and worlds and trees keep their numbers
pub record KeepsPairs (old new : Space) : Type 0 where
  pub task : new.task ≡ old.task
  pub worlds : Stay (worlds_in old.worlds) (worlds_in new.worlds)
  pub trees : Stay (trees old.nodes) (trees new.nodes)
  pub pairs : new.pairs.keys ≡ old.pairs.keys
  pub from : new.from ≡ old.from

-- the worlds stay, and what is remembered of arrivals
pub record KeepsMet (old new : Space) : Type 0 where
  pub worlds : new.worlds ≡ old.worlds
  pub arrivals : new.arrivals ≡ old.arrivals

-- one world more has a number at most, and what is remembered of arrivals stays
pub record MeetsOneMore (old new : Space) : Type 0 where
  pub worlds : length (worlds_in new.worlds) ≤ suc (length (worlds_in old.worlds))
  pub arrivals : new.arrivals ≡ old.arrivals

-- the number is that of the last world, and all kept pairs and all arrivals that are remembered are
-- of worlds before it
pub record IsLastUnmet (s : Space) (n : ℕ) : Type 0 where
  pub last : suc n ≡ length (worlds_in s.worlds)
  pub pairs : (i : ℕ) (m : Numbers) → slice_get s.pairs.keys i ≡ Some m → m.world < n
  pub arrivals : Each (λ (e : Numbers × Arrival). e.0.world < n) s.arrivals

-- the pair of these numbers is not pruned, and is not kept
pub record IsNew (s : Space) (n : Numbers) : Type 0 where
  pub unpruned : (node_in s n).formula ≢ falsum
  pub absent : (i : ℕ) → slice_get s.pairs.keys i ≢ Some n

-- the pair of these numbers is the new pair of the arrival
pub record IsToKeep (s : Space) (key n : Numbers) : Type 0 where
  pub numbers : AreNumbersIn s n
  pub new : IsNew s n
  pub arrives : node_in s n ≡ arriving_in s key

-- what is found of an arrival
abbrev pub IsArrivalFound : Space → Numbers → Found → Type 0
IsArrivalFound s key (found.Known r) = IsKnownIn s key r
IsArrivalFound s key (found.New n) = IsToKeep s key n

-- progressing the formula of the arrival in its world is the cause
abbrev pub IsProgressFault : Space → Numbers → EvalFault → Type 0
IsProgressFault s n fault = IsCausedBy (looked_by_progressing (problem_of s) (world_at (worlds_in s.worlds) n.world)
    (tree_at (trees s.nodes) n.label)) fault

-- these numbers are of the arrival at the empty path: the first world, in which the control formula
-- comes in
pub record IsRootKey (s : Space) (n : Numbers) : Type 0 where
  pub world : slice_get (worlds_in s.worlds) n.world ≡ Some (problem_of s).first
  pub label : slice_get (trees s.nodes) n.label ≡ Some (problem_of s).control

-- these numbers are of the arrival by an action: the world after it, in which the pair's formula
-- comes in
pub record IsKeyAfter (p : PlainProblem) (x : Pair) (a : Action) (s : Space) (n : Numbers) : Type 0 where
  pub world : World
  pub steps : step p x.world a ≡ Some world
  pub number : slice_get (worlds_in s.worlds) n.world ≡ Some world
  pub label : slice_get (trees s.nodes) n.label ≡ Some x.formula

-- the action leads to a world in which the pair's formula leaves FALSE
abbrev pub IsPrunedAfter : PlainProblem → Pair → Action → Type 0
IsPrunedAfter p x a = (w : World) × (step p x.world a ≡ Some w) × (progressed (situation_of p w) no_values x.formula ≡ falsum)

-- so they are of the arrival by an action of the pair of a number
abbrev pub IsChildKey : Space → Space → ℕ → Action → Numbers → Type 0
IsChildKey old new at a n = ForPair (kept_of old) at (λ x. IsKeyAfter (problem_of old) x.node a new n)

-- so it is for the pair of the number
abbrev pub IsChildPruned : Space → ℕ → Action → Type 0
IsChildPruned s at a = ForPair (kept_of s) at (λ x. IsPrunedAfter (problem_of s) x.node a)

-- the path by which a pair is met in this way
abbrev pub way_in : Space → Met → List Action
way_in s m = path_by (paths_of s.from) m

-- the path of a pair with one action more
abbrev pub way_after : Space → ℕ → Action → List Action
way_after s at a = path_at (paths_of s.from) at ++ a ∷ []

-- the path is a walk to the pair
abbrev pub IsWalk : Space → List Action → Pair → Type 0
IsWalk s path x = walk (pair_graph (problem_of s)) path ≡ Some x

-- where the pair of the arrival is not pruned, the path is a walk to it
abbrev pub LeadsTo : Space → List Action → Numbers → Type 0
LeadsTo s path key = (arriving_in s key).formula ≢ falsum → IsWalk s path (arriving_in s key)

-- the pair of the arrival arrives by the path
abbrev pub ArrivesBy : Space → Space → Numbers → List Action → Arrival → Type 0
ArrivesBy old new key path r = Arrives (kept_of old) (kept_of new) (Some (arriving_in old key)) path r

-- the pair with its path is kept behind those before
abbrev pub IsKeptLast : Space → Space → Pair → List Action → Type 0
IsKeptLast old new x path = kept_of new ≡ kept_of old ++ record { node = x; path = path } ∷ []

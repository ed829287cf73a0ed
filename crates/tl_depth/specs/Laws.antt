-- What is proved of depth-first search with a memory of remaining depths.
use Rattle.std.specs.Prelude.{◌≡◌, ◌≢◌, ◌≤◌, ◌*◌, ◌↔◌, ℕ, List, [], ◌∷◌, ◌++◌, length, slice_get, Some}
use Rattle.tl_syntax.specs.declared.action.Action.{Action}
use Rattle.tl_syntax.specs.Lists.{Each, Among}
use Rattle.tl_syntax.specs.Trees.{falsum}
use Rattle.tl_terms.specs.Problem.{PlainProblem}
use Rattle.tl_terms.specs.Pairs.{Pair, pair_of, IsOpen, IsPairAccepted}
use Rattle.tl_depth.specs.ActionGraphs.{node_after}
use Rattle.tl_depth.specs.Search.{Reports}
use Rattle.tl_depth.specs.Levels.{IsRunning, path_of}
use Rattle.tl_depth.specs.PairGraph.{first_pair, graph_of}
use Rattle.tl_search.specs.PairGraph.{next_pair, unless_pruned}
use Rattle.tl_terms.proofs.SamePairs.{pair_discrete}
use Rattle.tl_search.specs.RangeCauses.{HasNoSimplePlanBefore}
use Rattle.tl_search.specs.Plans.{IsFirstSimplePlan}
use Rattle.tl_depth.specs.Answers.{IsLed, AreLed, IsExhausted, IsActionSum}
use Rattle.tl_depth.specs.declared.level.Level.{Level}

-- the arrivals are among these
abbrev pub Told : List (Pair × Action) → Reports Pair
Told told x a = Among (x, a) told

-- a walk of the pairs' graph is an open path with its pair
abbrev pub WalksAreOpenPaths : Type 0
WalksAreOpenPaths = (p : PlainProblem) → (first_pair p).formula ≢ falsum → (path : List Action) (x : Pair)
    → node_after (graph_of p) path ≡ Some x ↔ (IsOpen p path × (pair_of p path ≡ Some x))

-- where nothing is left to expand, the kept pairs are those of open paths of at most n actions, and
-- what follows for plans
abbrev pub DepthFirstEnds : Type 0
DepthFirstEnds = (p : PlainProblem) (n : ℕ) → (first_pair p).formula ≢ falsum →
    (told : List (Pair × Action)) (kept : List Pair) (most : List ℕ) (calls : ℕ)
    → IsRunning pair_discrete (graph_of p) n (Told told) kept most [] calls → IsExhausted p n (Told told) kept most

-- what a pair is that is met for the first time: a leading path has it; where it is accepted, that
-- path is the first simple plan; with it the kept pairs are a cause of giving up
pub record IsMetFirst (p : PlainProblem) (n : ℕ) (kept : List Pair) (path : List Action) (q : Pair) : Type 0 where
  pub led : IsLed p n q
  pub plan : IsPairAccepted p q → IsFirstSimplePlan p n path
  pub spent : AreLed p n (length kept) (kept ++ q ∷ [])

-- while the top level takes an action, no simple plan comes before the path, and a fresh pair is
-- met by a leading path
abbrev pub DepthFirstMeets : Type 0
DepthFirstMeets = (p : PlainProblem) (n : ℕ) → (first_pair p).formula ≢ falsum
    → (told : List (Pair × Action)) (kept : List Pair) (most : List ℕ) (front : List Level) (c : Level) (calls : ℕ) (a : Action) (x : Pair)
    → IsRunning pair_discrete (graph_of p) n (Told told) kept most (front ++ c ∷ []) calls
    → slice_get c.actions c.tried ≡ Some a → slice_get kept c.at ≡ Some x
    → HasNoSimplePlanBefore p n (path_of (front ++ c ∷ [])) × ((q : Pair) → unless_pruned (next_pair p x a) ≡ Some q →
    Each (λ y. y ≢ q) kept → IsMetFirst p n kept (path_of (front ++ c ∷ [])) q)

-- the calls are at most n times the number of executable actions of kept pairs of a distance below
-- n
abbrev pub DepthFirstCallsAreFew : Type 0
DepthFirstCallsAreFew = (p : PlainProblem) (n : ℕ) → (first_pair p).formula ≢ falsum
    → (told : List (Pair × Action)) (kept : List Pair) (most : List ℕ) (levels : List Level) (calls : ℕ)
    → IsRunning pair_discrete (graph_of p) n (Told told) kept most levels calls
    → (s : ℕ) × IsActionSum p n kept s × (calls ≤ n * s)

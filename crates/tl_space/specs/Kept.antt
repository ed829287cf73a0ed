-- The kept pairs by their numbers: a world and a formula, each by its number, and how the pair was
-- met first.
use Rattle.std.specs.Prelude.{◌≡◌, ◌<◌, ℕ, List, [], ◌∷◌, ◌++◌, fold, map, length, slice_get, slice_index_or, Some}
use Rattle.tl_syntax.specs.declared.action.Action.{Action}
use Rattle.tl_syntax.specs.Lists.{Each}
use Rattle.tl_syntax.specs.Named.{IsNamed}
use Rattle.tl_syntax.specs.Signature.{Signature}
use Rattle.tl_syntax.specs.Trees.{FormulaTree}
use Rattle.tl_terms.specs.Pairs.{Pair}
use Rattle.tl_terms.specs.Problem.{PlainProblem}
use Rattle.tl_terms.specs.ProblemMeaning.{world_of}
use Rattle.tl_terms.specs.World.{World}
use Rattle.tl_nodes.specs.NodeTrees.{tree_at}
use Rattle.tl_progress.specs.Sentences.{IsSentence}
use Rattle.tl_search.specs.KeptPairs.{KeptPair}
use Rattle.tl_search.specs.Graphs.{walk}
use Rattle.tl_search.specs.PairGraph.{pair_graph}
use Rattle.tl_action.specs.Actions.{ArgumentsAreNamed}
use Rattle.tl_known.specs.NumberedLists.{IsOnce}
use Rattle.tl_space.specs.declared.numbers.Numbers.{Numbers}
use Rattle.tl_space.specs.declared.numbers.Met.{Met}
use Rattle.tl_space.specs.declared.numbers.Met.TheVariants as met

-- the world of a number that is below the length; it is named only under this condition
abbrev pub world_at : List World → ℕ → World
world_at ws i = slice_index_or ws i (world_of [] [])

-- the pair of these numbers
unfoldable pub node_at : List World → List FormulaTree → Numbers → Pair
node_at ws ts n = record { world = world_at ws n.world; formula = tree_at ts n.label }

-- the pairs of these numbers
abbrev pub nodes_at : List World → List FormulaTree → List Numbers → List Pair
nodes_at ws ts ns = map (node_at ws ts) ns

-- the path of a number that is below the length
abbrev pub path_at : List (List Action) → ℕ → List Action
path_at ps i = slice_index_or ps i []

-- the path of a pair, after those of the pairs before it
unfoldable pub path_by : List (List Action) → Met → List Action
path_by ps met.First = []
path_by ps (met.After j a) = path_at ps j ++ a ∷ []

-- the paths by which the pairs were met first
unfoldable pub paths_of : List Met → List (List Action)
paths_of ms = fold (λ ps m. ps ++ path_by ps m ∷ []) [] ms

-- the pairs with their paths
unfoldable pub kept_over : List World → List FormulaTree → List Numbers → List (List Action) → List KeptPair
kept_over ws ts [] ps = []
kept_over ws ts (n ∷ ns) [] = []
kept_over ws ts (n ∷ ns) (p ∷ ps) = record { node = node_at ws ts n; path = p } ∷ kept_over ws ts ns ps

-- the number is given, and its tree is a sentence that names only what the table of names has
pub record IsLabel (g : Signature) (c : ℕ) (ts : List FormulaTree) (l : ℕ) : Type 0 where
  pub inside : l < length ts
  pub sentence : IsSentence g (tree_at ts l)
  pub named : IsNamed c (tree_at ts l)

-- both numbers are given, and the formula is such a sentence
pub record AreNumbers (g : Signature) (c : ℕ) (ws : List World) (ts : List FormulaTree) (n : Numbers) : Type 0 where
  pub world : n.world < length ws
  pub label : IsLabel g c ts n.label

-- each pair was met from one before it
abbrev pub ComeFromEarlier : List Met → Type 0
ComeFromEarlier ms = (i j : ℕ) (a : Action) → slice_get ms i ≡ Some (met.After j a) → j < i

-- the first path is the empty one
abbrev pub BeginsEmpty : List Met → Type 0
BeginsEmpty ms = (q : List Action) → slice_get (paths_of ms) 0 ≡ Some q → length q ≡ 0

-- each path is a walk to its pair
abbrev pub AreWalks : PlainProblem → List KeptPair → Type 0
AreWalks p kept = (i : ℕ) (x : KeptPair) → slice_get kept i ≡ Some x → walk (pair_graph p) x.path ≡ Some x.node

-- the action by which a pair was met has named arguments
abbrev pub IsNamedMet : ℕ → Met → Type 0
IsNamedMet c met.First = Unit {0}
IsNamedMet c (met.After j a) = ArgumentsAreNamed c a

-- the next pair may be met so
abbrev pub MayMeet : List Met → Met → Type 0
MayMeet ms met.First = ms ≡ []
MayMeet ms (met.After j a) = j < length ms

-- what is kept: each pair once, with the way by which it was met first, which leads to it from the
-- pairs before it
pub record AreKeptBy (g : Signature) (c : ℕ) (p : PlainProblem) (ws : List World) (ts : List FormulaTree) (ns : List Numbers)
    (ms : List Met) : Type 0 where
  pub all_met : length ms ≡ length ns
  pub once : IsOnce ns
  pub numbers : (i : ℕ) (n : Numbers) → slice_get ns i ≡ Some n → AreNumbers g c ws ts n
  pub earlier : ComeFromEarlier ms
  pub begins : BeginsEmpty ms
  pub walks : AreWalks p (kept_over ws ts ns (paths_of ms))
  pub named : Each (IsNamedMet c) ms

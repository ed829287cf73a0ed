-- The search nodes that the links of a proof list, each with the path that the links give for it.
use Rattle.std.specs.Prelude.{◌≡◌, ◌≢◌, ◌≤◌, ◌⊎◌, ℕ, List, [], ◌∷◌, ◌++◌, length, slice_get, Option, Some, None}
use Rattle.tl_syntax.specs.declared.action.Action.{Action}
use Rattle.tl_syntax.specs.Trees.{falsum}
use Rattle.tl_terms.specs.Pairs.{Pair, pair_of}
use Rattle.tl_terms.specs.Problem.{PlainProblem}
use Rattle.tl_search.specs.KeptPairs.{KeptPair}
use Rattle.tl_search.specs.PairGraph.{next_pair}
use Rattle.tl_cert.specs.declared.proof.Link.{Link}

-- the path has no more actions than the bound, where there is one
abbrev pub IsWithinBound : Option ℕ → List Action → Type 0
IsWithinBound None path = Unit {0}
IsWithinBound (Some n) path = length path ≤ n

-- after these listed nodes the link is good, and lists this one: its action has a step at the
-- listed node that it starts from, and leads to a new pair, whose formula is not FALSE, within the
-- bound
pub record IsGood (p : PlainProblem) (bound : Option ℕ) (listed : List KeptPair) (link : Link) (next : KeptPair) : Type 0 where
  pub from : KeptPair
  pub is_from : slice_get listed link.from ≡ Some from
  pub leads : next_pair p from.node link.action ≡ Some next.node
  pub unpruned : next.node.formula ≢ falsum
  pub new : (i : ℕ) (x : KeptPair) → slice_get listed i ≡ Some x → x.node ≢ next.node
  pub path : next.path ≡ from.path ++ link.action ∷ []
  pub near : IsWithinBound bound next.path

-- the node of number 0: that of the empty path, which is not listed where its formula is FALSE
abbrev pub ListsRoot : PlainProblem → List KeptPair → Type 0
ListsRoot p listed = (x : Pair) × (pair_of p [] ≡ Some x) × (((x.formula ≡ falsum) × (listed ≡ [])) ⊎
    ((x.formula ≢ falsum) × (listed ≡ record { node = x; path = [] } ∷ [])))

-- after the first nodes the links are good, one after another, and in the end these nodes are
-- listed
abbrev pub AreGood : PlainProblem → Option ℕ → List KeptPair → List Link → List KeptPair → Type 0
AreGood p bound old [] new = new ≡ old
AreGood p bound old (link ∷ links) new = (next : KeptPair) × IsGood p bound old link next × AreGood p bound (old ++ next ∷ []) links new

-- the links are good, and list these nodes by their numbers
abbrev pub Lists : PlainProblem → Option ℕ → List Link → List KeptPair → Type 0
Lists p bound links listed = (first : List KeptPair) × ListsRoot p first × AreGood p bound first links listed

-- What joins open to, by the numbers of a table of nodes.
use Rattle.std.specs.Borrow.{Bor}
use Rattle.std.specs.Prelude.{◌≡◌, ◌<◌, ℕ, List, [], ◌∷◌, Option, MatchOption}
use Rattle.std.specs.List.{flat_map, sum_by}
use Rattle.tl_syntax.specs.declared.junction.Junction.{Junction}
use Rattle.tl_terms.specs.Simplification.{without_repeats}
use Rattle.tl_nodes.specs.declared.nodes.Nodes.{Nodes}
use Rattle.tl_nodes.specs.Joins.{junction_parts, breadth}
use Rattle.tl_nodes.specs.NodeTrees.{tree_at, trees_at}
use Rattle.tl_nodes.specs.Numbers.{trees, tree_in}

-- the number's tree is no join of this kind: it is the only part of itself
abbrev pub IsSingle : Nodes → Junction → ℕ → Type 0
IsSingle s junction i = junction_parts junction (tree_at (trees s) i) ≡ tree_at (trees s) i ∷ []

-- the number's tree opens to what the parts open to
abbrev pub OpensTo : Nodes → Junction → ℕ → List ℕ → Type 0
OpensTo s junction i parts = junction_parts junction (tree_at (trees s) i) ≡ flat_map (junction_parts junction) (trees_at (trees s) parts)

-- these are the parts that it opens to, or it is the only part of itself
abbrev pub AreNested : Nodes → Junction → ℕ → Option (Bor (List ℕ)) → Type 0
AreNested s junction i found = MatchOption found (IsSingle s junction i) (λ parts. OpensTo s junction i parts.now)

-- but for repeats, the numbers' trees are what the parts open to
abbrev pub AreOpened : Nodes → Junction → List ℕ → List ℕ → Type 0
AreOpened s junction parts flat = without_repeats (trees_at (trees s) flat) ≡
    without_repeats (flat_map (junction_parts junction) (trees_at (trees s) parts))

-- the breadths of the numbers' trees together
abbrev pub breadths_in : Nodes → List ℕ → ℕ
breadths_in s ids = sum_by (λ i. breadth (tree_at (trees s) i)) ids

-- they are smaller than that of the one number's tree
abbrev pub AreSmaller : Nodes → ℕ → List ℕ → Type 0
AreSmaller s i ids = breadths_in s ids < breadth (tree_in s i)

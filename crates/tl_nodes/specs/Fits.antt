-- Which nodes may be added: their parts are there already.
use Rattle.std.specs.Prelude.{◌≡◌, ℕ, List, ◌∷◌, Bool, true, false, ◌&&◌, nat_lt, slice_get, Some}
use Rattle.std.specs.List.{list_all}
use Rattle.tl_syntax.specs.Basic.{is_basic}
use Rattle.tl_syntax.specs.TreeOfFormula.{tree_of_formula}
use Rattle.tl_nodes.specs.declared.node.Node.{Node}
use Rattle.tl_nodes.specs.declared.node.Node.TheVariants as node

-- each number is below n
abbrev pub all_below : ℕ → List ℕ → Bool
all_below n ids = list_all (λ i. nat_lt i n) ids

-- the parts of the node have numbers below n, and the formula of a Basic is a basic formula
unfoldable pub fits : ℕ → Node → Bool
fits n node.True = true
fits n node.False = true
fits n (node.Basic f) = is_basic (tree_of_formula f)
fits n (node.Not i) = nat_lt i n
fits n (node.And ids) = all_below n ids
fits n (node.Or ids) = all_below n ids
fits n (node.Next i) = nat_lt i n
fits n (node.Always i) = nat_lt i n
fits n (node.Eventually i) = nat_lt i n
fits n (node.Until i j) = nat_lt i n && nat_lt j n
fits n (node.Within k i) = nat_lt i n
fits n (node.During k i) = nat_lt i n
fits n (node.ForAll vs b i) = nat_lt i n
fits n (node.Exists vs b i) = nat_lt i n

-- the parts of each node have smaller numbers than the node
abbrev pub EachFits : List Node → Type 0
EachFits ns = (i : ℕ) (n : Node) → slice_get ns i ≡ Some n → fits i n ≡ true

-- number 0 is True and number 1 is False
unfoldable pub begins_with_constants : List Node → Bool
begins_with_constants (node.True ∷ node.False ∷ ns) = true
begins_with_constants _ = false

-- Trees with values put in, by their numbers.
use Rattle.std.specs.Prelude.{◌≡◌, ℕ, List}
use Rattle.tl_nodes.specs.declared.nodes.Nodes.{Nodes}
use Rattle.tl_nodes.specs.Numbers.{trees_of_numbers, all_filled_at}
use Rattle.tl_syntax.specs.declared.substitution.Binding.{Binding}

-- the new numbers denote the trees of the old ones with the values put in
abbrev pub AreAllFilled : Nodes → List Binding → List ℕ → Nodes → List ℕ → Type 0
AreAllFilled old bs ids new filled = trees_of_numbers new filled ≡ all_filled_at old bs ids

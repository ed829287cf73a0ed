-- Trees with values put in that are remembered.
use Rattle.std.specs.Prelude.{◌≡◌, ◌<◌, ◌≤◌, ◌&&◌, ◌==◌, List, [], ◌∷◌, length, take, slice_get, Bool, true, false, Option, Some, None}
use Rattle.tl_nodes.specs.declared.nodes.filled.Filled.{Filled}
use Rattle.tl_nodes.specs.NodeTrees.{tree_at}
use Rattle.tl_syntax.specs.declared.substitution.Binding.{Binding}
use Rattle.tl_syntax.specs.declared.value.Value.{Value}
use Rattle.tl_syntax.specs.Bindings.{assignment_of}
use Rattle.tl_syntax.specs.DerivedTests.{value_eq}
use Rattle.tl_syntax.specs.Lists.{Each}
use Rattle.tl_syntax.specs.Substitution.{substituted}
use Rattle.tl_syntax.specs.Trees.{FormulaTree}

-- the bindings of an entry
abbrev pub bindings_in : Filled → List Binding
bindings_in m = take m.count m.bindings

-- the number is that of the tree with the values put in
pub record IsFilled (ts : List FormulaTree) (m : Filled) : Type 0 where
  pub few : m.count ≤ 4
  pub inside : m.at < length ts
  pub is : slice_get ts m.number ≡ Some (substituted (assignment_of (bindings_in m)) (tree_at ts m.at))

-- so it is for each that is remembered
abbrev pub AreFilled : List FormulaTree → List Filled → Type 0
AreFilled ts ms = Each (IsFilled ts) ms

-- whether both are there and the same, or neither is
abbrev pub same_option : Option Value → Option Value → Bool
same_option None None = true
same_option (Some u) (Some v) = value_eq u v
same_option u v = false

-- whether the bindings are the same
abbrev pub same_bindings : List Binding → List Binding → Bool
same_bindings [] [] = true
same_bindings [] (b ∷ bs) = false
same_bindings (a ∷ as') [] = false
same_bindings (a ∷ as') (b ∷ bs) = ((a.slot == b.slot) && same_option a.value b.value) && same_bindings as' bs

-- the bindings of the entry are these
abbrev pub HasBindings : Filled → List Binding → Type 0
HasBindings m bs = same_bindings (bindings_in m) bs ≡ true

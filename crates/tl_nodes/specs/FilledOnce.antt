-- That what is remembered is right has at most one proof.
use Rattle.std.specs.Prelude.{List, [], ◌∷◌, slice_get, Some}
use Rattle.std.proofs.Props.{props}
use mathlib.Core.HLevel.{hedberg}
use Rattle.tl_nodes.specs.declared.nodes.filled.Filled.{Filled}
use Rattle.tl_nodes.specs.Filled.{IsFilled, AreFilled, bindings_in}
use Rattle.tl_nodes.specs.NodeTrees.{tree_at}
use Rattle.tl_syntax.specs.Bindings.{assignment_of}
use Rattle.tl_syntax.proofs.Same.{formula_discrete, option_discrete}
use Rattle.tl_syntax.specs.Substitution.{substituted}
use Rattle.tl_syntax.specs.Trees.{FormulaTree}

one-filled : (ts : List FormulaTree) (m : Filled) → IsProp (IsFilled ts m)
one-filled ts m = hlevel (
  props,
  hedberg (option_discrete formula_discrete) (slice_get ts m.number)
      (Some (substituted (assignment_of (bindings_in m)) (tree_at ts m.at))),
)

pub filled-prop : (ts : List FormulaTree) (ms : List Filled) → IsProp (AreFilled ts ms)
filled-prop ts [] = hlevel
filled-prop ts (m ∷ ms) = hlevel (one-filled ts m, filled-prop ts ms)

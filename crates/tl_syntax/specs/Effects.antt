-- Effects of operators as plain trees.
use Rattle.std.specs.Prelude.{ℕ, List}
use Rattle.tl_syntax.specs.declared.variable.Var.{Var}
use Rattle.tl_syntax.specs.declared.bound.Bound.{Bound}
use Rattle.tl_syntax.specs.Trees.{TermTree, TermTrees, FormulaTree}

mutual
  -- an ADL effect (Pednault 1989): a fact that is added or deleted, a place that is set, effects
  -- under a condition, and effects for every tuple of a bound
  pub data EffectTree : Type 0 where
    add : ℕ → TermTrees → EffectTree
    del : ℕ → TermTrees → EffectTree
    assign : ℕ → TermTrees → TermTree → EffectTree
    when : FormulaTree → EffectTrees → EffectTree
    each : List Var → Bound → EffectTrees → EffectTree

  pub data EffectTrees : Type 0 where
    no_effect : EffectTrees
    more_effects : EffectTree → EffectTrees → EffectTrees

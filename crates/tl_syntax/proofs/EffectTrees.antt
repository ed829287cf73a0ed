-- The plain trees of effects made by their variants, and of lists of effects.
use Rattle.std.proofs.Common.{◌≡◌, ℕ, List, map, ap, sym, ◌∙◌}
use Rattle.tl_syntax.specs.declared.variable.Var.{Var}
use Rattle.tl_syntax.specs.declared.bound.Bound.{Bound}
use Rattle.tl_syntax.specs.declared.term.Term.{Term}
use Rattle.tl_syntax.specs.declared.term.Terms.{Terms}
use Rattle.tl_syntax.specs.declared.formula.Formula.{Formula}
use Rattle.tl_syntax.specs.Effects.{EffectTree, EffectTrees, add, del, assign, when, each}
use Rattle.tl_syntax.specs.TreeOfTerm.{tree_of_term, tree_of_terms}
use Rattle.tl_syntax.specs.TreeOfFormula.{tree_of_formula}
use Rattle.tl_syntax.specs.TreeOfEffect.{tree_of_effect, tree_of_effects, effect_step, effects_step, effects_of_list}
use Rattle.tl_syntax.specs.declared.effect.Effect.{fold-Effect, fold-roll-Effect}
use Rattle.tl_syntax.specs.declared.effect.Effect.TheVariants as variant
use Rattle.tl_syntax.specs.declared.effect.Effect.TheOpen as layer
use Rattle.tl_syntax.specs.declared.effect.Effects.{Effects, fold_out-Effects}

pub tree-Add : (x0 : ℕ) (x1 : Terms) → tree_of_effect (variant.Add x0 x1) ≡ add x0 (tree_of_terms x1)
unfolding tree_of_effect tree_of_effects
tree-Add x0 x1 = ap (fold-Effect EffectTree EffectTrees effect_step effects_step) (sym (variant.rolls-Add x0 x1)) ∙
    fold-roll-Effect EffectTree EffectTrees effect_step effects_step (layer.Add x0 x1)

pub tree-Del : (x0 : ℕ) (x1 : Terms) → tree_of_effect (variant.Del x0 x1) ≡ del x0 (tree_of_terms x1)
unfolding tree_of_effect tree_of_effects
tree-Del x0 x1 = ap (fold-Effect EffectTree EffectTrees effect_step effects_step) (sym (variant.rolls-Del x0 x1)) ∙
    fold-roll-Effect EffectTree EffectTrees effect_step effects_step (layer.Del x0 x1)

pub tree-Assign : (x0 : ℕ) (x1 : Terms) (x2 : Term) → tree_of_effect (variant.Assign x0 x1 x2) ≡
    assign x0 (tree_of_terms x1) (tree_of_term x2)
unfolding tree_of_effect tree_of_effects
tree-Assign x0 x1 x2 = ap (fold-Effect EffectTree EffectTrees effect_step effects_step) (sym (variant.rolls-Assign x0 x1 x2)) ∙
    fold-roll-Effect EffectTree EffectTrees effect_step effects_step (layer.Assign x0 x1 x2)

pub tree-When : (x0 : Formula) (x1 : Effects) → tree_of_effect (variant.When x0 x1) ≡ when (tree_of_formula x0) (tree_of_effects x1)
unfolding tree_of_effect tree_of_effects
tree-When x0 x1 = ap (fold-Effect EffectTree EffectTrees effect_step effects_step) (sym (variant.rolls-When x0 x1)) ∙
    fold-roll-Effect EffectTree EffectTrees effect_step effects_step (layer.When x0 x1)

pub tree-Each : (x0 : List Var) (x1 : Bound) (x2 : Effects) → tree_of_effect (variant.Each x0 x1 x2) ≡ each x0 x1 (tree_of_effects x2)
unfolding tree_of_effect tree_of_effects
tree-Each x0 x1 x2 = ap (fold-Effect EffectTree EffectTrees effect_step effects_step) (sym (variant.rolls-Each x0 x1 x2)) ∙
    fold-roll-Effect EffectTree EffectTrees effect_step effects_step (layer.Each x0 x1 x2)

pub trees-Effects : (xs : Effects) → tree_of_effects xs ≡ effects_of_list (map tree_of_effect xs.items.items)
unfolding tree_of_effect tree_of_effects
trees-Effects xs = fold_out-Effects EffectTree EffectTrees effect_step effects_step xs

pub ruleset effect_trees = (tree-Add, tree-Del, tree-Assign, tree-When, tree-Each)

-- The plain trees of effects.
use Rattle.std.specs.Prelude.{List, [], ◌∷◌}
use Rattle.tl_syntax.specs.declared.effect.Effect.{Effect, Effect-F, fold-Effect}
use Rattle.tl_syntax.specs.declared.effect.Effect.TheOpen as layer
use Rattle.tl_syntax.specs.declared.effect.Effects.{Effects, Effects-F, fold-Effects}
use Rattle.tl_syntax.specs.Effects.{EffectTree, EffectTrees, add, del, assign, when, each, no_effect, more_effects}
use Rattle.tl_syntax.specs.TreeOfTerm.{tree_of_term, tree_of_terms}
use Rattle.tl_syntax.specs.TreeOfFormula.{tree_of_formula}

-- the effects of a list as a list of trees
abbrev pub effects_of_list : List EffectTree → EffectTrees
effects_of_list [] = no_effect
effects_of_list (e ∷ es) = more_effects e (effects_of_list es)

-- one layer of an effect, whose parts are trees already
abbrev pub effect_step : Effect-F EffectTree EffectTrees → EffectTree
effect_step (layer.Add p ts) = add p (tree_of_terms ts)
effect_step (layer.Del p ts) = del p (tree_of_terms ts)
effect_step (layer.Assign f ts t) = assign f (tree_of_terms ts) (tree_of_term t)
effect_step (layer.When f es) = when (tree_of_formula f) es
effect_step (layer.Each vs b es) = each vs b es

-- one layer of a list, whose effects are trees already
abbrev pub effects_step : Effects-F EffectTree EffectTrees → EffectTrees
effects_step es = effects_of_list es.items.items

-- the plain tree of an effect
unfoldable pub tree_of_effect : Effect → EffectTree
tree_of_effect = fold-Effect EffectTree EffectTrees effect_step effects_step

-- the plain trees of a list of effects
unfoldable pub tree_of_effects : Effects → EffectTrees
tree_of_effects = fold-Effects EffectTree EffectTrees effect_step effects_step

-- the effects of a list, in their order
abbrev pub effects_in : Effects → List Effect
effects_in es = es.items.items

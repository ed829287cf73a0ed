use Rattle.std.proofs.Common.{map, drop}
use Rattle.tl_action.proofs.EffectSizes.{effect_nodes, effects_nodes}
use Rattle.tl_action.proofs.SureWalk.{SurePassed}
use Rattle.tl_syntax.specs.TreeOfEffect.{tree_of_effect, tree_of_effects, effects_of_list}
use Rattle.tl_action.proofs.sure.+sure.Given as goal

abbrev pub decreases-is_sure : goal.decreases-is_sure
decreases-is_sure l = effect_nodes (tree_of_effect l.effect.now)

abbrev pub decreases-are_sure : goal.decreases-are_sure
decreases-are_sure l = effects_nodes (tree_of_effects l.effects.now)

abbrev pub invariant-are_sure-loop-effect : goal.invariant-are_sure-loop-effect
invariant-are_sure-loop-effect l = SurePassed (tree_of_effects l.effects)
    (effects_of_list (map tree_of_effect (drop l.effect-index l.effect-items)))

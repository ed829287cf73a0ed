-- How many nodes effects have, by which walks over them end.
use Rattle.std.proofs.Common.{ℕ, ◌+◌}
use Rattle.tl_syntax.specs.Effects.{EffectTree, EffectTrees, add, del, assign, when, each, no_effect, more_effects}

unfoldable mutual
  pub effect_nodes : EffectTree → ℕ
  effect_nodes (add p ts) = 1
  effect_nodes (del p ts) = 1
  effect_nodes (assign f ts t) = 1
  effect_nodes (when f es) = 1 + effects_nodes es
  effect_nodes (each ss b es) = 2 + effects_nodes es

  pub effects_nodes : EffectTrees → ℕ
  effects_nodes no_effect = 0
  effects_nodes (more_effects e es) = 1 + (effect_nodes e + effects_nodes es)

-- The plain trees of effects, part by part.
use Rattle.std.proofs.Common.{◌≡◌, List, [], ◌∷◌, ◌++◌, map, refl, ap, sym, ◌∙◌}
use Rattle.tl_syntax.specs.declared.effect.Effect.{Effect}
use Rattle.tl_syntax.specs.declared.effect.Effects.{Effects}
use Rattle.tl_syntax.specs.Effects.{EffectTree, EffectTrees, no_effect, more_effects}
use Rattle.tl_syntax.specs.TreeOfEffect.{effects_of_list, tree_of_effect, tree_of_effects}
use Rattle.tl_syntax.proofs.EffectTrees.{tree-Add, tree-Del, tree-Assign, tree-When, tree-Each, trees-Effects}

-- these effects, and after them the others
abbrev pub after_effects : List EffectTree → EffectTrees → EffectTrees
after_effects [] es = es
after_effects (d ∷ ds) es = more_effects d (after_effects ds es)

after_effects-end : (es : List EffectTree) → after_effects es no_effect ≡ effects_of_list es
after_effects-end [] = refl
after_effects-end (e ∷ es) = ap (more_effects e) (after_effects-end es)

-- an effect more
pub effects-more : (ds es : List Effect) (e : Effect) (rest : EffectTrees) → es ≡ ds ++ e ∷ [] →
    after_effects (map tree_of_effect es) rest ≡ after_effects (map tree_of_effect ds) (more_effects (tree_of_effect e) rest)
effects-more ds es e rest is = ap (λ xs. after_effects (map tree_of_effect xs) rest) is ∙ pushed ds
  where
    pushed : (xs : List Effect) → after_effects (map tree_of_effect (xs ++ e ∷ [])) rest ≡
        after_effects (map tree_of_effect xs) (more_effects (tree_of_effect e) rest)
    pushed [] = refl
    pushed (x ∷ xs) = ap (more_effects (tree_of_effect x)) (pushed xs)

-- all effects
pub effects-whole : (es : Effects) → tree_of_effects es ≡ after_effects (map tree_of_effect es.items.items) no_effect
effects-whole es = trees-Effects es ∙ sym (after_effects-end (map tree_of_effect es.items.items))

pub ruleset effect_trees = (tree-Add, tree-Del, tree-Assign, tree-When, tree-Each, trees-Effects)

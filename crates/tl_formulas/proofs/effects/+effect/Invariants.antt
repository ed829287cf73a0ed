use Rattle.std.proofs.Common.{◌≡◌, ◌+◌, ◌*◌, ◌≤◌, map, drop}
use Rattle.tl_sexpr.specs.Tree.{tree_of}
use Rattle.tl_syntax.specs.TreeOfEffect.{tree_of_effect}
use Rattle.tl_formulas.specs.MeaningOfEffects.{effects_meant}
use Rattle.tl_rules.specs.Parts.{size, sizes}
use Rattle.tl_formulas.specs.Effects.{effects_breaks}
use Rattle.tl_formulas.specs.Shapes.{elements_of_change}
use Rattle.tl_rules.specs.Reads.{trees_in}
use Rattle.tl_formulas.proofs.EffectTrees.{after_effects}
use Rattle.tl_formulas.proofs.effects.+effect.Given as goal

abbrev pub decreases-effect : goal.decreases-effect
decreases-effect l = 6 * size (tree_of l.form.now)

abbrev pub decreases-effect_call : goal.decreases-effect_call
decreases-effect_call l = 6 * sizes (trees_in l.call.rest.now) + 4

abbrev pub decreases-shaped_effect : goal.decreases-shaped_effect
decreases-shaped_effect l = 6 * sizes (elements_of_change l.parts) + 3

abbrev pub decreases-when : goal.decreases-when
decreases-when l = 6 * sizes (trees_in l.forms.now) + 1

abbrev pub decreases-each : goal.decreases-each
decreases-each l = 6 * sizes (trees_in l.forms.now) + 1

abbrev pub decreases-effects : goal.decreases-effects
decreases-effects l = 6 * sizes (trees_in l.forms.now)

-- the effects so far, and after them those that are left
abbrev pub invariant-effects-loop-form : goal.invariant-effects-loop-form
invariant-effects-loop-form l = record {
  breaks : effects_breaks l.vocabulary.declared.now l.scope (trees_in l.forms) ≡
      effects_breaks l.vocabulary.declared.now l.scope (trees_in (drop l.form-index l.forms));
  meant : effects_meant l.vocabulary.names.now l.vocabulary.declared.now l.scope (trees_in l.forms) ≡
      after_effects (map tree_of_effect l.effects.items.items) (effects_meant l.vocabulary.names.now l.vocabulary.declared.now l.scope
      (trees_in (drop l.form-index l.forms)));
  fewer : sizes (trees_in (drop l.form-index l.forms)) ≤ sizes (trees_in l.forms);
}

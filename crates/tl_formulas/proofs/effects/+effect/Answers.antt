use Rattle.std.proofs.lemmas.Result.{err_from_is_err_and}
use Rattle.std.proofs.Common.{◌≡◌, ◌+◌, [], ◌++◌, map, drop, sym, ap, ◌∙◌, arith}
use Rattle.tl_sexpr.specs.Tree.{tree_of}
use Rattle.tl_syntax.specs.Effects.{more_effects}
use Rattle.tl_syntax.specs.TreeOfEffect.{tree_of_effect}
use Rattle.tl_formulas.specs.MeaningOfEffects.{effect_meant, effects_meant}
use Rattle.tl_rules.specs.Parts.{sizes}
use Rattle.tl_formulas.specs.Effects.{effect_breaks, effects_breaks}
use Rattle.tl_rules.specs.Reads.{IsFirst, trees_in}
use Rattle.tl_rules.proofs.Composed.{first-front}
use Rattle.tl_rules.proofs.Loops.{trees-next, trees-end}
use Rattle.tl_formulas.proofs.EffectTrees.{after_effects, effects-more, effects-whole}
use Rattle.tl_formulas.proofs.effects.+effect.Goals as goal

pub effects-loop-form-preserved : goal.effects-loop-form-preserved
unfolding effect_breaks effect_meant
effects-loop-form-preserved t c =
    let next = trees-next c.args.forms.now c.loop-form.form-index c.form-item.result c.loop-form-test.true c.form-item.is in
    let later = trees_in (drop (c.loop-form.form-index + 1) c.args.forms.now) in
    let read : (effect_breaks c.args.vocabulary.now.declared.now c.args.scope.now (tree_of c.form-item.result) ≡ []) ×
    (tree_of_effect c.in_ok-one.one ≡ effect_meant c.args.vocabulary.now.names.now c.args.vocabulary.now.declared.now c.args.scope.now
    (tree_of c.form-item.result)) = c.in_ok-one.ensures in
    record {
      breaks = c.loop-form.invariant.breaks ∙ ap (effects_breaks c.args.vocabulary.now.declared.now c.args.scope.now) next ∙
          ap (λ bs. bs ++ effects_breaks c.args.vocabulary.now.declared.now c.args.scope.now later) read.0;
      meant = c.loop-form.invariant.meant
          ∙ ap (λ fs. after_effects (map tree_of_effect c.loop-form.effects.items.items)
          (effects_meant c.args.vocabulary.now.names.now c.args.vocabulary.now.declared.now c.args.scope.now fs)) next
          ∙ ap (λ u. after_effects (map tree_of_effect c.loop-form.effects.items.items)
          (more_effects u (effects_meant c.args.vocabulary.now.names.now c.args.vocabulary.now.declared.now c.args.scope.now later)))
          (sym read.1)
          ∙ sym (effects-more c.loop-form.effects.items.items c.push.new.self.items.items c.in_ok-one.one
          (effects_meant c.args.vocabulary.now.names.now c.args.vocabulary.now.declared.now c.args.scope.now later)
          c.in_ok-push.ensures.added);
      fewer = omega (arith, ap sizes next, c.loop-form.invariant.fewer);
    }

pub effects-returns : goal.effects-returns
unfolding effect_breaks effect_meant
effects-returns t c =
    let end = trees-end c.args.forms.now c.loop-form.form-index c.loop-form-test.false in (
      c.loop-form.invariant.breaks ∙ ap (effects_breaks c.args.vocabulary.now.declared.now c.args.scope.now) end,
      effects-whole c.loop-form.effects ∙ sym (c.loop-form.invariant.meant ∙
          ap (λ fs. after_effects (map tree_of_effect c.loop-form.effects.items.items)
          (effects_meant c.args.vocabulary.now.names.now c.args.vocabulary.now.declared.now c.args.scope.now fs)) end),
    )

pub effects-returns-in_err-one : goal.effects-returns-in_err-one
unfolding effect_breaks effect_meant
effects-returns-in_err-one t c =
    let next = trees-next c.args.forms.now c.loop-form.form-index c.form-item.result c.loop-form-test.true c.form-item.is in
    let later = trees_in (drop (c.loop-form.form-index + 1) c.args.forms.now) in
    let fault = c.in_err-one.field-0.0 in
    let here : IsFirst (effect_breaks c.args.vocabulary.now.declared.now c.args.scope.now (tree_of c.form-item.result)) fault =
    c.in_err-one.ensures in
    let first : IsFirst (effect_breaks c.args.vocabulary.now.declared.now c.args.scope.now (tree_of c.form-item.result) ++
    effects_breaks c.args.vocabulary.now.declared.now c.args.scope.now later) fault = first-front _ _ fault here in
    let all : effects_breaks c.args.vocabulary.now.declared.now c.args.scope.now (trees_in c.args.forms.now) ≡
    effect_breaks c.args.vocabulary.now.declared.now c.args.scope.now (tree_of c.form-item.result) ++
    effects_breaks c.args.vocabulary.now.declared.now c.args.scope.now later = c.loop-form.invariant.breaks ∙
    ap (effects_breaks c.args.vocabulary.now.declared.now c.args.scope.now) next in
    let p = err_from_is_err_and c.from_residual.result c.from_residual.ensures.1 in
    rw (p.1, p.2, all) first

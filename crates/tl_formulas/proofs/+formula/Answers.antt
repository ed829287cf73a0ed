use Rattle.std.proofs.lemmas.Result.{err_from_is_err_and}
use Rattle.std.proofs.Common.{◌≡◌, ◌+◌, [], ◌++◌, map, drop, sym, ap, ◌∙◌, arith}
use Rattle.tl_sexpr.specs.Tree.{tree_of}
use Rattle.tl_syntax.specs.Trees.{more_formulas}
use Rattle.tl_syntax.specs.TreeOfFormula.{tree_of_formula}
use Rattle.tl_formulas.specs.MeaningOfFormulas.{formula_meant, formulas_meant}
use Rattle.tl_rules.specs.Parts.{sizes}
use Rattle.tl_formulas.specs.Formulas.{formula_breaks, formulas_breaks}
use Rattle.tl_rules.specs.Reads.{IsFirst, trees_in}
use Rattle.tl_rules.proofs.Composed.{first-front}
use Rattle.tl_rules.proofs.Loops.{trees-next, trees-end}
use Rattle.tl_formulas.proofs.FormulaTrees.{after_formulas, formulas-more, formulas-whole}
use Rattle.tl_formulas.proofs.+formula.Goals as goal

pub formulas::formulas-loop-form-preserved : goal.formulas::formulas-loop-form-preserved
unfolding formula_breaks formula_meant
formulas::formulas-loop-form-preserved t c =
    let next = trees-next c.args.forms.now c.loop-form.form-index c.form-item.result c.loop-form-test.true c.form-item.is in
    let later = trees_in (drop (c.loop-form.form-index + 1) c.args.forms.now) in
    let read : (formula_breaks c.args.role c.args.vocabulary.now.declared.now c.args.scope.now (tree_of c.form-item.result) ≡ []) ×
    (tree_of_formula c.in_ok-one.one ≡ formula_meant c.args.vocabulary.now.names.now c.args.vocabulary.now.declared.now c.args.scope.now
    (tree_of c.form-item.result)) = c.in_ok-one.ensures in
    record {
      breaks = c.loop-form.invariant.breaks ∙ ap (formulas_breaks c.args.role c.args.vocabulary.now.declared.now c.args.scope.now) next ∙
          ap (λ bs. bs ++ formulas_breaks c.args.role c.args.vocabulary.now.declared.now c.args.scope.now later) read.0;
      meant = c.loop-form.invariant.meant
          ∙ ap (λ fs. after_formulas (map tree_of_formula c.loop-form.formulas.items.items)
          (formulas_meant c.args.vocabulary.now.names.now c.args.vocabulary.now.declared.now c.args.scope.now fs)) next
          ∙ ap (λ u. after_formulas (map tree_of_formula c.loop-form.formulas.items.items)
          (more_formulas u (formulas_meant c.args.vocabulary.now.names.now c.args.vocabulary.now.declared.now c.args.scope.now later)))
          (sym read.1)
          ∙ sym (formulas-more c.loop-form.formulas.items.items c.push.new.self.items.items c.in_ok-one.one
          (formulas_meant c.args.vocabulary.now.names.now c.args.vocabulary.now.declared.now c.args.scope.now later)
          c.in_ok-push.ensures.added);
      fewer = omega (arith, ap sizes next, c.loop-form.invariant.fewer);
    }

pub formulas::formulas-returns : goal.formulas::formulas-returns
unfolding formula_breaks formula_meant
formulas::formulas-returns t c =
    let end = trees-end c.args.forms.now c.loop-form.form-index c.loop-form-test.false in (
      c.loop-form.invariant.breaks ∙ ap (formulas_breaks c.args.role c.args.vocabulary.now.declared.now c.args.scope.now) end,
      formulas-whole c.loop-form.formulas ∙ sym (c.loop-form.invariant.meant ∙
          ap (λ fs. after_formulas (map tree_of_formula c.loop-form.formulas.items.items)
          (formulas_meant c.args.vocabulary.now.names.now c.args.vocabulary.now.declared.now c.args.scope.now fs)) end),
    )

pub formulas::formulas-returns-in_err-one : goal.formulas::formulas-returns-in_err-one
unfolding formula_breaks formula_meant
formulas::formulas-returns-in_err-one t c =
    let next = trees-next c.args.forms.now c.loop-form.form-index c.form-item.result c.loop-form-test.true c.form-item.is in
    let later = trees_in (drop (c.loop-form.form-index + 1) c.args.forms.now) in
    let fault = c.in_err-one.field-0.0 in
    let here : IsFirst (formula_breaks c.args.role c.args.vocabulary.now.declared.now c.args.scope.now (tree_of c.form-item.result)) fault =
    c.in_err-one.ensures in
    let first : IsFirst (formula_breaks c.args.role c.args.vocabulary.now.declared.now c.args.scope.now (tree_of c.form-item.result) ++
    formulas_breaks c.args.role c.args.vocabulary.now.declared.now c.args.scope.now later) fault = first-front _ _ fault here in
    let all : formulas_breaks c.args.role c.args.vocabulary.now.declared.now c.args.scope.now (trees_in c.args.forms.now) ≡
    formula_breaks c.args.role c.args.vocabulary.now.declared.now c.args.scope.now (tree_of c.form-item.result) ++
    formulas_breaks c.args.role c.args.vocabulary.now.declared.now c.args.scope.now later = c.loop-form.invariant.breaks ∙
    ap (formulas_breaks c.args.role c.args.vocabulary.now.declared.now c.args.scope.now) next in
    let p = err_from_is_err_and c.from_residual.result c.from_residual.ensures.1 in
    rw (p.1, p.2, all) first

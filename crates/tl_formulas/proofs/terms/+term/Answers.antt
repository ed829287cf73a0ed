use Rattle.std.proofs.lemmas.Result.{err_from_is_err_and}
use Rattle.std.proofs.Common.{◌≡◌, ◌+◌, [], ◌++◌, map, drop, sym, ap, ◌∙◌, arith}
use Rattle.tl_sexpr.specs.Tree.{tree_of}
use Rattle.tl_syntax.specs.Trees.{more_terms}
use Rattle.tl_syntax.specs.TreeOfTerm.{tree_of_term}
use Rattle.tl_formulas.specs.MeaningOfTerms.{term_meant, terms_meant}
use Rattle.tl_rules.specs.Parts.{sizes}
use Rattle.tl_formulas.specs.Terms.{term_breaks, terms_breaks}
use Rattle.tl_rules.specs.Reads.{IsFirst, trees_in}
use Rattle.tl_rules.proofs.Composed.{first-front}
use Rattle.tl_rules.proofs.Loops.{trees-next, trees-end}
use Rattle.tl_formulas.proofs.TermTrees.{after_terms, terms-more, terms-whole}
use Rattle.tl_formulas.proofs.terms.+term.Goals as goal

pub terms-loop-form-preserved : goal.terms-loop-form-preserved
unfolding term_breaks term_meant
terms-loop-form-preserved t c =
    let next = trees-next c.args.forms.now c.loop-form.form-index c.form-item.result c.loop-form-test.true c.form-item.is in
    let later = trees_in (drop (c.loop-form.form-index + 1) c.args.forms.now) in
    let read : (term_breaks c.args.vocabulary.now.declared.now.functions c.args.scope.now (tree_of c.form-item.result) ≡ []) ×
    (tree_of_term c.in_ok-one.one ≡ term_meant c.args.vocabulary.now.names.now c.args.vocabulary.now.declared.now.functions
    c.args.scope.now (tree_of c.form-item.result)) = c.in_ok-one.ensures in
    record {
      breaks = c.loop-form.invariant.breaks ∙ ap (terms_breaks c.args.vocabulary.now.declared.now.functions c.args.scope.now) next ∙
          ap (λ bs. bs ++ terms_breaks c.args.vocabulary.now.declared.now.functions c.args.scope.now later) read.0;
      meant = c.loop-form.invariant.meant
          ∙ ap (λ fs. after_terms (map tree_of_term c.loop-form.terms.items.items)
          (terms_meant c.args.vocabulary.now.names.now c.args.vocabulary.now.declared.now.functions c.args.scope.now fs)) next
          ∙ ap (λ u. after_terms (map tree_of_term c.loop-form.terms.items.items)
          (more_terms u (terms_meant c.args.vocabulary.now.names.now c.args.vocabulary.now.declared.now.functions c.args.scope.now
          later))) (sym read.1)
          ∙ sym (terms-more c.loop-form.terms.items.items c.push.new.self.items.items c.in_ok-one.one
          (terms_meant c.args.vocabulary.now.names.now c.args.vocabulary.now.declared.now.functions c.args.scope.now later)
          c.in_ok-push.ensures.added);
      fewer = omega (arith, ap sizes next, c.loop-form.invariant.fewer);
    }

pub terms-returns : goal.terms-returns
unfolding term_breaks term_meant
terms-returns t c =
    let end = trees-end c.args.forms.now c.loop-form.form-index c.loop-form-test.false in (
      c.loop-form.invariant.breaks ∙ ap (terms_breaks c.args.vocabulary.now.declared.now.functions c.args.scope.now) end,
      terms-whole c.loop-form.terms ∙ sym (c.loop-form.invariant.meant ∙
          ap (λ fs. after_terms (map tree_of_term c.loop-form.terms.items.items)
          (terms_meant c.args.vocabulary.now.names.now c.args.vocabulary.now.declared.now.functions c.args.scope.now fs)) end),
    )

pub terms-returns-in_err-one : goal.terms-returns-in_err-one
unfolding term_breaks term_meant
terms-returns-in_err-one t c =
    let functions = c.args.vocabulary.now.declared.now.functions in
    let scope = c.args.scope.now in
    let next = trees-next c.args.forms.now c.loop-form.form-index c.form-item.result c.loop-form-test.true c.form-item.is in
    let later = trees_in (drop (c.loop-form.form-index + 1) c.args.forms.now) in
    let fault = c.in_err-one.field-0.0 in
    let here : IsFirst (term_breaks functions scope (tree_of c.form-item.result)) fault = c.in_err-one.ensures in
    let first : IsFirst (term_breaks functions scope (tree_of c.form-item.result) ++ terms_breaks functions scope later) fault =
    first-front _ _ fault here in
    let all : terms_breaks functions scope (trees_in c.args.forms.now) ≡ term_breaks functions scope (tree_of c.form-item.result) ++
    terms_breaks functions scope later = c.loop-form.invariant.breaks ∙ ap (terms_breaks functions scope) next in
    let p = err_from_is_err_and c.from_residual.result c.from_residual.ensures.1 in
    rw (p.1, p.2, all) first

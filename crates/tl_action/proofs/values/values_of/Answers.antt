use Rattle.std.proofs.Common.{refl, sym, ap, ◌∙◌, subst}
use Rattle.tl_action.proofs.TermLists.{values-begun, value-fits, values-on, values-undefined, values-noted, values-ended}
use Rattle.tl_eval.specs.Frames.{assignment_in}
use Rattle.tl_eval.specs.Notes.{Tells}
use Rattle.tl_syntax.specs.Signature.{signature_of}
use Rattle.tl_syntax.specs.TreeOfTerm.{tree_of_term, tree_of_terms}
use Rattle.tl_terms.specs.Looked.{looked_in_term}
use Rattle.tl_terms.specs.Terms.{term_value}
use Rattle.tl_action.proofs.values.values_of.Goals as goal

pub loop-one-init : goal.loop-one-init
loop-one-init c = record {
  frame = refl;
  passed = values-begun (signature_of c.args.here.now.task.now.problem.domain) c.args.here.now.world.now
      (assignment_in c.args.env.now) c.args.terms.now c.as_slice-one-items.result.now c.new-values.result c.as_slice-one-items.ensures
      c.new-values.ensures c.requires;
}

pub term-requires : goal.term-requires
term-requires c = record {
  fits = value-fits (signature_of c.args.here.now.task.now.problem.domain) c.args.here.now.world.now
      (assignment_in c.args.env.now) (tree_of_terms c.args.terms.now) c.as_slice-one-items.result.now c.loop-one.one-index c.one-item.result
      c.loop-one.values c.loop-one-test.true c.one-item.is c.loop-one.invariant.passed;
}

pub returns-in-Ok-None-clause-values : goal.returns-in-Ok-None-clause-values
returns-in-Ok-None-clause-values c =
    values-undefined (signature_of c.args.here.now.task.now.problem.domain) c.args.here.now.world.now (assignment_in c.args.env.now)
    (tree_of_terms c.args.terms.now) c.as_slice-one-items.result.now c.loop-one.one-index c.one-item.result c.loop-one.values
    c.loop-one-test.true c.one-item.is c.loop-one.invariant.passed
    (sym c.in-Ok-None.field-0-is ∙ (c.in-Ok-None.ensures.value ∙ ap (λ env.
    term_value c.args.here.now.world.now (assignment_in env) (tree_of_term c.one-item.result)) c.loop-one.invariant.frame))

pub returns-in-Err-clause-values : goal.returns-in-Err-clause-values
returns-in-Err-clause-values c =
    values-noted (signature_of c.args.here.now.task.now.problem.domain) c.args.here.now.world.now (assignment_in c.args.env.now)
    (tree_of_terms c.args.terms.now) c.as_slice-one-items.result.now c.loop-one.one-index c.one-item.result c.loop-one.values
    c.loop-one-test.true c.one-item.is c.loop-one.invariant.passed c.in-Err.note
    (subst (λ env. Tells (looked_in_term c.args.here.now.world.now (assignment_in env) (tree_of_term c.one-item.result)) c.in-Err.note)
    c.loop-one.invariant.frame c.in-Err.ensures.note)

pub loop-one-preserved : goal.loop-one-preserved
loop-one-preserved c = record {
  frame = c.term.ensures.frame ∙ c.loop-one.invariant.frame;
  passed = values-on (signature_of c.args.here.now.task.now.problem.domain) c.args.here.now.world.now (assignment_in c.args.env.now)
      (tree_of_terms c.args.terms.now) c.as_slice-one-items.result.now c.loop-one.one-index c.one-item.result c.loop-one.values
      c.loop-one-test.true c.one-item.is c.loop-one.invariant.passed c.push.new.self c.in-Ok-Some.value
      (sym c.in-Ok-Some.field-0-is ∙ (c.in-Ok-Some.ensures.value ∙ ap (λ env.
      term_value c.args.here.now.world.now (assignment_in env) (tree_of_term c.one-item.result)) c.loop-one.invariant.frame))
      c.in_ok-push-in-Ok-Some.ensures;
}

pub returns-clause-values : goal.returns-clause-values
returns-clause-values c = values-ended (signature_of c.args.here.now.task.now.problem.domain) c.args.here.now.world.now
    (assignment_in c.args.env.now) (tree_of_terms c.args.terms.now) c.as_slice-one-items.result.now c.loop-one.one-index c.loop-one.values
    c.loop-one-test.false c.loop-one.invariant.passed

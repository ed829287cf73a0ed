use Rattle.tl_check.proofs.AtomLaws.{terms-begun, terms-on, terms-end}
use Rattle.tl_eval.specs.Frames.{assignment_in}
use Rattle.tl_check.proofs.atoms.row_of_terms.Goals as goal

pub loop-term-init : goal.loop-term-init
loop-term-init c = terms-begun (assignment_in c.args.env.now) c.args.terms.now c.as_slice-term-items.result.now
    c.as_slice-term-items.ensures c.new-row.result c.new-row.ensures

pub loop-term-preserved : goal.loop-term-preserved
loop-term-preserved c =
    terms-on (assignment_in c.args.env.now) c.args.terms.now c.as_slice-term-items.result.now c.as_slice-term-items.ensures
    c.loop-term.term-index c.term-item.result c.loop-term.row c.push.new.self c.in-Some.value c.loop-term-test.true c.term-item.is
    c.in-Some.ensures c.in_ok-push-in-Some.ensures c.loop-term.invariant

pub returns : goal.returns
returns c = terms-end (assignment_in c.args.env.now) c.args.terms.now c.as_slice-term-items.result.now c.as_slice-term-items.ensures
    c.loop-term.term-index c.loop-term.row c.loop-term-test.false c.loop-term.invariant

use Rattle.std.proofs.Common.{refl}
use Rattle.tl_action.specs.Early.{is_known_term}
use Rattle.tl_action.proofs.Walks.{all-on, all-stop, all-end}
use Rattle.tl_syntax.specs.TreeOfTerm.{tree_of_term}
use Rattle.tl_action.proofs.early.are_known.Goals as goal

pub loop-term-init : goal.loop-term-init
loop-term-init c = refl

pub returns-then-not-is_known : goal.returns-then-not-is_known
returns-then-not-is_known c = all-stop (λ t. is_known_term c.args.bounds.now c.args.j (tree_of_term t)) c.args.terms.now
    c.loop-term.term-index c.term-item.result c.loop-term-test.true c.term-item.is c.is_known.result c.is_known.ensures
    c.loop-term.invariant c.if-not-is_known.true

pub loop-term-preserved : goal.loop-term-preserved
loop-term-preserved c = all-on (λ t. is_known_term c.args.bounds.now c.args.j (tree_of_term t)) c.args.terms.now
    c.loop-term.term-index c.term-item.result c.loop-term-test.true c.term-item.is c.is_known.result c.is_known.ensures
    c.loop-term.invariant c.if-not-is_known.false

pub returns : goal.returns
returns c = all-end (λ t. is_known_term c.args.bounds.now c.args.j (tree_of_term t)) c.args.terms.now c.loop-term.term-index
    c.loop-term-test.false c.loop-term.invariant

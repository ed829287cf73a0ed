use Rattle.tl_eval.proofs.PlainLaws.{plain-Atom, plain-Compare}
use Rattle.tl_eval.proofs.plain_truth.plain_state.Goals as goal

pub returns-in-Atom : goal.returns-in-Atom
returns-in-Atom c = plain-Atom c.args.w.now c.args.env.now c.frame.result.now c.args.f.now c.in-Atom.pred c.in-Atom.args c.plain_atom.result
    c.frame.ensures c.in-Atom.is c.plain_atom.ensures

pub returns-in-Compare : goal.returns-in-Compare
returns-in-Compare c = plain-Compare c.args.w.now c.args.env.now c.frame-in-Compare.result.now c.args.f.now c.in-Compare.cmp
    c.in-Compare.left c.in-Compare.right c.plain_comparison.result c.frame-in-Compare.ensures c.in-Compare.is c.plain_comparison.ensures

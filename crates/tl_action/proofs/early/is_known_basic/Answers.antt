use Rattle.std.proofs.Common.{sym, ◌∙◌}
use Rattle.tl_action.proofs.EarlyParts.{known-terms, known-Atom, known-Compare}
use Rattle.tl_action.proofs.early.is_known_basic.Goals as goal

pub returns-in-Atom : goal.returns-in-Atom
returns-in-Atom c h = known-Atom c.args.bounds.now c.args.j c.args.f.now c.in-Atom.field-0 c.in-Atom.args c.in-Atom.is
    (known-terms c.args.bounds.now c.args.j c.in-Atom.args c.as_slice.result.now c.as_slice.ensures (sym c.are_known.ensures ∙ h))

pub returns-in-Compare : goal.returns-in-Compare
returns-in-Compare c h = known-Compare c.args.bounds.now c.args.j c.args.f.now c.in-Compare.field-0 c.in-Compare.left c.in-Compare.right
    c.in-Compare.is (sym c.both_known.ensures ∙ h)

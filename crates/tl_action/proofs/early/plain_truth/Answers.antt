use Rattle.std.proofs.Common.{sym, ◌∙◌}
use Rattle.tl_action.specs.UnderFrames.{problem_here}
use Rattle.tl_action.proofs.EarlyParts.{truth-alone}
use Rattle.tl_eval.specs.Frames.{assignment_in}
use Rattle.tl_action.proofs.early.plain_truth.Goals as goal

pub returns-in-Atom : goal.returns-in-Atom
returns-in-Atom c = c.holds.ensures ∙ truth-alone (problem_here c.args.here.now) c.args.here.now.world.now (assignment_in c.args.env.now)
    c.args.f.now c.in-Atom.pred c.in-Atom.args c.as_slice.result.now c.in-Atom.is c.as_slice.ensures
    (sym c.is_empty.ensures ∙ c.if-is_empty.true)

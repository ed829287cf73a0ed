use Rattle.tl_syntax.specs.Signature.{signature_of}
use Rattle.tl_syntax.specs.TreeOfFormula.{tree_of_formula}
use Rattle.tl_progress.proofs.Basics.{basic-fits}
use Rattle.tl_progress.proofs.truth.basic_truth.Goals as goal

pub state_in-requires-clause-fits : goal.state_in-requires-clause-fits
state_in-requires-clause-fits c = basic-fits (signature_of c.args.here.now.task.now.problem.domain) c.requires.fits.around
    (tree_of_formula c.args.f.now) c.requires.basic c.requires.fits.fits

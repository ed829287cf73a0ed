use Rattle.tl_run.proofs.Standing.{forms_stop}
use Rattle.tl_run.proofs.turn.prices_in.Goals as goal

pub returns-in-Err-clause-stop : goal.returns-in-Err-clause-stop
returns-in-Err-clause-stop c = rw c.of_forms.ensures (forms_stop c.args.number _ c.in-Err.fault (c.in-Err.ensures.least c.requires))

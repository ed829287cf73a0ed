use Rattle.std.proofs.Common.{refl}
use Rattle.tl_run.specs.Inputs.{a_problem}
use Rattle.tl_run.proofs.Standing.{forms_stop}
use Rattle.tl_run.proofs.turn.problem_in.Goals as goal

pub returns-in-Ok-clause-held : goal.returns-in-Ok-clause-held
returns-in-Ok-clause-held c =
    let files = c.in-Ok.ensures.problem in
    record { input = a_problem c.in-Ok.problem; lawful = files.problem_lawful; meant = files; is_held = refl }

pub returns-in-Err-clause-stop : goal.returns-in-Err-clause-stop
returns-in-Err-clause-stop c = rw c.of_forms.ensures (forms_stop c.args.number _ c.in-Err.fault (c.in-Err.ensures.least c.requires.as_read))

use Rattle.std.proofs.Common.{refl}
use Rattle.tl_run.specs.Inputs.{some_costs}
use Rattle.tl_run.proofs.turn.costs_in.Goals as goal

pub returns-in-Ok-clause-held : goal.returns-in-Ok-clause-held
returns-in-Ok-clause-held c =
    let read = c.in-Ok.ensures in
    record { input = some_costs c.args.problem c.in-Ok.costs; lawful = read.lawful; meant = (refl, read.meant); is_held = (refl, refl) }

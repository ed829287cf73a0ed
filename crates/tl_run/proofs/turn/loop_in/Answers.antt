use Rattle.std.proofs.Common.{refl}
use Rattle.tl_run.specs.Inputs.{a_loop}
use Rattle.tl_run.proofs.turn.loop_in.Goals as goal

pub returns-in-Ok-clause-held : goal.returns-in-Ok-clause-held
returns-in-Ok-clause-held c =
    let read = c.in-Ok.ensures in
    record { input = a_loop c.args.problem c.in-Ok.plan; lawful = read.lawful; meant = (refl, read.meant); is_held = (refl, refl) }

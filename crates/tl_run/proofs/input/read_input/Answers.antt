use Rattle.std.proofs.Common.{inl, refl, sym, subst}
use Rattle.tl_run.specs.Turns.{BeginsFirst, CallsTold}
use Rattle.tl_run.specs.Words.{command_meant}
use Rattle.tl_run.proofs.Begins.{begins_none}
use Rattle.tl_run.proofs.Standing.{no_sample_fault}
use Rattle.tl_run.proofs.input.read_input.Goals as goal

pub returns-in-Sample-clause-calls : goal.returns-in-Sample-clause-calls
returns-in-Sample-clause-calls g c =
    let cmd = command_meant c.args.command in
    let told : CallsTold = record { before = g.S.Store.calls c.args.store.now; after = g.S.Store.calls c.args.store.now } in (
      0,
      inl refl,
      subst (BeginsFirst cmd told 0) (sym (no_sample_fault c.read_sample.result _ c.read_sample.ensures.stop))
          (begins_none cmd (g.S.Store.calls c.args.store.now)),
    )

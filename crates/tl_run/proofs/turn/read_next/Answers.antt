use Rattle.std.proofs.Common.{Bool, List, ℕ, sym, subst}
use Rattle.std.proofs.lemmas.Result.{IfErr-weaker, on_ok_weaker}
use Rattle.tl_outside.specs.Calls.{ReadsBy}
use Rattle.tl_run.specs.Inputs.{Input, IsBroken, StandsFor}
use Rattle.tl_run.specs.Held.{HoldsFile, IsHeld}
use Rattle.tl_run.specs.Stops.{IsFileStop, IsTurnStop}
use Rattle.tl_run.proofs.Standing.{no_fault, read_stop, same_fault, turn_stop}
use Rattle.tl_run.proofs.turn.read_next.Goals as goal

pub returns-in-Ok-clause-held : goal.returns-in-Ok-clause-held
returns-in-Ok-clause-held g c = λ x is.
    let f = c.args.file.now in
    let bytes = c.in-Ok.bytes in
    let files = g.S.Store.files c.args.store.now in
    let after = c.add_bytes.new.input in
    on_ok_weaker {P = (y : Input) × StandsFor f.role x bytes y × IsHeld after y} {Q = HoldsFile files f.role f.name.now x after}
    c.add_bytes.result
    (λ h. record { input = h.0; bytes = bytes; content = c.in-Ok.ensures.content; stands = h.1; is_held = h.2 })
    (rw c.as_slice.ensures at (c.add_bytes.ensures.held x is))

pub returns-in-Ok-clause-stop : goal.returns-in-Ok-clause-stop
returns-in-Ok-clause-stop g c = λ x is.
    let f = c.args.file.now in
    let bytes = c.in-Ok.bytes in
    let files = g.S.Store.files c.args.store.now in
    let new = c.read_whole.new.store in
    IfErr-weaker c.add_bytes.result (IsFileStop c.args.number (IsBroken f.role x bytes))
    (IsTurnStop files f.role f.name.now x c.args.number (g.S.Store.faults c.args.store.now) (g.S.Store.faults new))
    (λ stop h. turn_stop files f.role f.name.now x c.args.number bytes _ _ stop c.in-Ok.ensures.content h)
    (rw c.as_slice.ensures at (c.add_bytes.ensures.stop x is))

pub returns-in-Err-clause-stop : goal.returns-in-Err-clause-stop
returns-in-Err-clause-stop g c = λ x is.
    rw c.of_reading.ensures
    (read_stop (g.S.Store.files c.args.store.now) c.args.file.now.role c.args.file.now.name.now x c.args.number _ _ c.in-Err.fault
    c.in-Err.ensures.failed (λ e. (c.in-Err.ensures.too_long e).1))

pub returns-in-Ok-clause-calls : goal.returns-in-Ok-clause-calls
returns-in-Ok-clause-calls g c = λ x is.
    let f = c.args.file.now in
    subst (λ (failed : Bool). ReadsBy (g.S.Store.calls c.args.store.now) (g.S.Store.calls c.read_whole.new.store) f.name.now 4194304 failed)
    (sym (no_fault c.add_bytes.result c.args.number (IsBroken f.role x c.in-Ok.bytes)
    (rw c.as_slice.ensures at (c.add_bytes.ensures.stop x is)))) c.in-Ok.ensures.calls

pub returns-in-Err-clause-calls : goal.returns-in-Err-clause-calls
returns-in-Err-clause-calls g c = λ x is.
    rw c.of_reading.ensures
    (subst (λ (failed : Bool). ReadsBy (g.S.Store.calls c.args.store.now)
    (g.S.Store.calls c.read_whole.new.store) c.args.file.now.name.now 4194304 failed)
    (same_fault (List ℕ) c.args.number c.in-Err.fault) c.in-Err.ensures.calls)

use Rattle.std.proofs.Common.{ℕ, ◌+◌, [], map, get_or, false, inl, refl, ap, ◌∙◌, subst, arith}
use Rattle.std.proofs.lemmas.Result.{err_from_is_err_and}
use Rattle.std.specs.Prelude.{Option}
use Rattle.tl_outside.specs.Told.{Files}
use Rattle.tl_run.specs.declared.words.File.{File}
use Rattle.tl_run.specs.declared.words.Role.TheVariants as role
use Rattle.tl_run.specs.Commands.{files_of}
use Rattle.tl_run.specs.Held.{HoldsFile}
use Rattle.tl_run.specs.Stops.{IsStop, IsTurnStop, is_fault}
use Rattle.tl_run.specs.Turns.{BeginsFirst, CallsTold}
use Rattle.tl_run.specs.Words.{command_meant, file_meant}
use Rattle.tl_run.proofs.Begins.{begins_more, begins_none}
use Rattle.tl_run.proofs.Reading.{begun_next, file_at, has_read_more, next_in_order, next_of, next_stops}
use Rattle.tl_run.proofs.Standing.{handed_fault, handed_on}
use Rattle.tl_run.proofs.input.read_files.Goals as goal

pub read_next-requires-clause-in_order : goal.read_next-requires-clause-in_order
read_next-requires-clause-in_order g c =
    let files = g.S.Store.files c.args.store.now in
    let cmd = command_meant c.args.command in
    let d : File = record { role = role.Domain; name = record { ref_ptr = (0, 0); now = [] } } in
    let held = c.deref-file-items.result.now in
    let i = c.loop-file.file-index in
    let at = file_at held (files_of cmd) i d (ap (map file_meant) c.deref-file-items.ensures.value ∙ c.in_ok-files.ensures.files)
    c.loop-file-test.true in
    let f = file_meant (get_or held i d) in
    let known = c.loop-file.invariant in
    next_in_order files cmd i f c.loop-file.input at known.read

pub returns-in_err-read_next-clause-stop : goal.returns-in_err-read_next-clause-stop
returns-in_err-read_next-clause-stop g c =
    let files = g.S.Store.files c.args.store.now in
    let cmd = command_meant c.args.command in
    let d : File = record { role = role.Domain; name = record { ref_ptr = (0, 0); now = [] } } in
    let held = c.deref-file-items.result.now in
    let i = c.loop-file.file-index in
    let at = file_at held (files_of cmd) i d (ap (map file_meant) c.deref-file-items.ensures.value ∙ c.in_ok-files.ensures.files)
    c.loop-file-test.true in
    let f = file_meant (get_or held i d) in
    let known = c.loop-file.invariant in
    let x = known.read.input in
    let start = g.S.Store.faults c.args.store.now in
    let mid = g.S.Store.faults c.loop-file.store in
    let now = g.S.Store.faults c.read_next.new.store in
    let told : CallsTold = record { before = g.S.Store.calls c.args.store.now; after = g.S.Store.calls c.read_next.new.store } in
    let stop = c.in_err-read_next.field-0.0 in
    let begins : BeginsFirst cmd told (i + 1) (is_fault stop) = begins_more cmd _ _ _ i f 4194304 (is_fault stop) at known.calls
    (c.in_err-read_next.ensures.calls x known.read.is_held) in
    handed_on c.from_residual-in_err-read_next.result stop (IsStop files cmd told start now) c.from_residual-in_err-read_next.ensures.1
    (next_stops files cmd i f x told start mid now stop c.requires (next_of files cmd i f c.loop-file.input at known.read) known.later
    begins
    (subst (λ (told : Option Files). IsTurnStop told f.0 f.1 x (i + 1) mid now stop) known.files
    (subst (λ (n : ℕ). IsTurnStop (g.S.Store.files c.loop-file.store) f.0 f.1 x (n + 1) mid now stop) known.number
    (c.in_err-read_next.ensures.stop x known.read.is_held))))

pub returns-in_err-read_next-clause-calls : goal.returns-in_err-read_next-clause-calls
returns-in_err-read_next-clause-calls g c =
    let files = g.S.Store.files c.args.store.now in
    let cmd = command_meant c.args.command in
    let d : File = record { role = role.Domain; name = record { ref_ptr = (0, 0); now = [] } } in
    let held = c.deref-file-items.result.now in
    let i = c.loop-file.file-index in
    let at = file_at held (files_of cmd) i d (ap (map file_meant) c.deref-file-items.ensures.value ∙ c.in_ok-files.ensures.files)
    c.loop-file-test.true in
    let f = file_meant (get_or held i d) in
    let known = c.loop-file.invariant in
    let x = known.read.input in
    let told : CallsTold = record { before = g.S.Store.calls c.args.store.now; after = g.S.Store.calls c.read_next.new.store } in
    let stop = c.in_err-read_next.field-0.0 in
    let begins : BeginsFirst cmd told (i + 1) (is_fault stop) = begins_more cmd _ _ _ i f 4194304 (is_fault stop) at known.calls
    (c.in_err-read_next.ensures.calls x known.read.is_held) in (
      i + 1,
      begun_next files cmd i f x (next_of files cmd i f c.loop-file.input at known.read),
      subst (BeginsFirst cmd told (i + 1)) (handed_fault c.from_residual-in_err-read_next.result stop
          c.from_residual-in_err-read_next.ensures.1) begins,
    )

pub returns-clause-calls : goal.returns-clause-calls
returns-clause-calls g c =
    let known = c.loop-file.invariant in
    (c.loop-file.file-index, known.begun, known.calls)

pub loop-file-preserved : goal.loop-file-preserved
loop-file-preserved g c =
    let files = g.S.Store.files c.args.store.now in
    let cmd = command_meant c.args.command in
    let d : File = record { role = role.Domain; name = record { ref_ptr = (0, 0); now = [] } } in
    let held = c.deref-file-items.result.now in
    let i = c.loop-file.file-index in
    let at = file_at held (files_of cmd) i d (ap (map file_meant) c.deref-file-items.ensures.value ∙ c.in_ok-files.ensures.files)
    c.loop-file-test.true in
    let f = file_meant (get_or held i d) in
    let known = c.loop-file.invariant in
    let x = known.read.input in
    let after = c.read_next.new.input in
    let passes = subst (λ (told : Option Files). HoldsFile told f.0 f.1 x after) known.files
    (c.in_ok-read_next.ensures.held x known.read.is_held) in
    record {
      read = has_read_more files cmd i f c.loop-file.input after at known.read passes c.in_ok-read_next.ensures.keeps
          c.in_ok-read_next.ensures.last;
      begun = begun_next files cmd i f x (next_of files cmd i f c.loop-file.input at known.read);
      calls = begins_more cmd _ _ _ i f 4194304 false at known.calls (c.in_ok-read_next.ensures.calls x known.read.is_held);
      number = ap (λ (n : ℕ). n + 1) known.number;
      files = c.read_next.ensures.files ∙ known.files;
      later = omega (arith, known.later, c.read_next.ensures.later);
    }

pub returns-in_err-files-clause-calls : goal.returns-in_err-files-clause-calls
returns-in_err-files-clause-calls g c =
    let p = err_from_is_err_and c.from_residual.result c.from_residual.ensures.1 in
    rw (p.1, p.2) (0, inl refl, begins_none (command_meant c.args.command) (g.S.Store.calls c.args.store.now))

use Rattle.std.proofs.Common.{◌≡◌, ◌≤◌, false}
use Rattle.tl_run.specs.Turns.{BeginsFirst, BegunInTurn}
use Rattle.tl_run.specs.Words.{command_meant}
use Rattle.tl_run.proofs.Reading.{HasRead}
use Rattle.tl_run.proofs.input.read_files.Given as goal

abbrev pub invariant-loop-file : goal.invariant-loop-file
invariant-loop-file g l = record {
  read : HasRead (g.S.Store.files l.initial.store) (command_meant l.fn.command) l.file-index l.input;
  begun : BegunInTurn (g.S.Store.files l.initial.store) (command_meant l.fn.command) l.file-index;
  calls : BeginsFirst (command_meant l.fn.command) (record { before = g.S.Store.calls l.initial.store; after = g.S.Store.calls l.store })
      l.file-index false;
  number : l.number ≡ l.file-index;
  files : g.S.Store.files l.store ≡ g.S.Store.files l.initial.store;
  later : g.S.Store.faults l.initial.store ≤ g.S.Store.faults l.store;
}

use Rattle.std.proofs.Common.{◌⊎◌, map, refl, subst}
use Rattle.std.specs.Prelude.{Some}
use Rattle.std.specs.String.{string_bytes}
use Rattle.tl_outside.specs.Causes.{Rose}
use Rattle.tl_run.specs.Commands.{Command, command_in}
use Rattle.tl_run.specs.Promises.{AnswersRightly, Writes}
use Rattle.tl_run.specs.Sent.{SinkTold}
use Rattle.tl_run.specs.Stops.{is_read_fault}
use Rattle.tl_run.specs.Turns.{BeginsInTurn, CallsTold, LacksFile}
use Rattle.tl_run.specs.Words.{command_meant}
use Rattle.tl_run.proofs.Promised.{has_lines, rightly}
use Rattle.tl_run.proofs.Sent.{bare_no_usage, bare_no_write_fault, bare_read_fault, bare_writes, no_words, same_command, sent_no_read_fault}
use Rattle.tl_run.proofs.Sent.{sent_no_usage, sent_without_fault, sent_writes}
use Rattle.tl_run.proofs.command.run.Goals as goal

pub send-requires : goal.send-requires
send-requires g c =
    let calls : CallsTold = record { before = g.S.Store.calls c.args.store.now; after = g.S.Store.calls c.reply_to.new.store } in
    let reply = c.in-Ok.reply in
    has_lines (g.S.Store.files c.args.store.now) (command_meant c.in-Some.command) calls reply.status reply.text c.in-Ok.ensures.answer

pub returns-in-Ok-clause-calls : goal.returns-in-Ok-clause-calls
returns-in-Ok-clause-calls g c = λ cmd e.
    let reply = c.in-Ok.reply in
    let files = g.S.Store.files c.args.store.now in
    let calls : CallsTold = record { before = g.S.Store.calls c.args.store.now; after = g.S.Store.calls c.reply_to.new.store } in
    let old : SinkTold = record { bytes = g.K.Sink.bytes c.args.out.now; puts = g.K.Sink.puts c.args.out.now } in
    let new : SinkTold = record { bytes = g.K.Sink.bytes c.send.new.out; puts = g.K.Sink.puts c.send.new.out } in
    let lines = has_lines files (command_meant c.in-Some.command) calls reply.status reply.text c.in-Ok.ensures.answer in
    subst (λ (x : Command). BeginsInTurn files x calls (is_read_fault c.send.result))
    (same_command (command_in (map string_bytes c.args.words.now)) (command_meant c.in-Some.command) cmd c.in-Some.ensures.command e)
    (subst (BeginsInTurn files (command_meant c.in-Some.command) calls)
    (sent_without_fault old new reply.status c.send.result reply.text lines c.send.ensures.sent) c.in-Ok.ensures.calls)

pub returns-in-Ok-clause-answers : goal.returns-in-Ok-clause-answers
returns-in-Ok-clause-answers g c = λ cmd e.
    let files = g.S.Store.files c.args.store.now in
    let calls : CallsTold = record { before = g.S.Store.calls c.args.store.now; after = g.S.Store.calls c.reply_to.new.store } in
    let old : SinkTold = record { bytes = g.K.Sink.bytes c.args.out.now; puts = g.K.Sink.puts c.args.out.now } in
    let new : SinkTold = record { bytes = g.K.Sink.bytes c.send.new.out; puts = g.K.Sink.puts c.send.new.out } in
    let a = command_meant c.in-Some.command in
    let reply = c.in-Ok.reply in
    let answer = c.in-Ok.ensures.answer in
    let right = rightly c.laws.ensures files a calls reply.status reply.text answer in
    subst (λ (x : Command). Writes (AnswersRightly files x calls) old new c.send.result)
    (same_command (command_in (map string_bytes c.args.words.now)) a cmd c.in-Some.ensures.command e)
    (sent_writes (AnswersRightly files a calls) old new reply.status c.send.result reply.text
    (has_lines files a calls reply.status reply.text answer) right c.send.ensures.sent)

pub returns-in-Ok-clause-usage : goal.returns-in-Ok-clause-usage
returns-in-Ok-clause-usage g c =
    let reply = c.in-Ok.reply in
    let calls : CallsTold = record { before = g.S.Store.calls c.args.store.now; after = g.S.Store.calls c.reply_to.new.store } in
    let lines = has_lines (g.S.Store.files c.args.store.now) (command_meant c.in-Some.command) calls reply.status reply.text
    c.in-Ok.ensures.answer in (
      λ e. absurd (sent_no_usage (record { bytes = g.K.Sink.bytes c.args.out.now; puts = g.K.Sink.puts c.args.out.now })
          (record { bytes = g.K.Sink.bytes c.send.new.out; puts = g.K.Sink.puts c.send.new.out }) reply.status c.send.result reply.text
          lines c.send.ensures.sent e),
      λ e. absurd (no_words (command_in (map string_bytes c.args.words.now)) (command_meant c.in-Some.command) c.in-Some.ensures.command e),
    )

pub returns-in-Ok-clause-untouched : goal.returns-in-Ok-clause-untouched
returns-in-Ok-clause-untouched g c = λ e.
    let reply = c.in-Ok.reply in
    let calls : CallsTold = record { before = g.S.Store.calls c.args.store.now; after = g.S.Store.calls c.reply_to.new.store } in
    let lines = has_lines (g.S.Store.files c.args.store.now) (command_meant c.in-Some.command) calls reply.status reply.text
    c.in-Ok.ensures.answer in
    absurd (sent_no_usage (record { bytes = g.K.Sink.bytes c.args.out.now; puts = g.K.Sink.puts c.args.out.now })
    (record { bytes = g.K.Sink.bytes c.send.new.out; puts = g.K.Sink.puts c.send.new.out }) reply.status c.send.result reply.text lines
    c.send.ensures.sent e)

pub returns-in-Ok-clause-read_fault : goal.returns-in-Ok-clause-read_fault
returns-in-Ok-clause-read_fault g c = λ cmd is e.
    let reply = c.in-Ok.reply in
    let calls : CallsTold = record { before = g.S.Store.calls c.args.store.now; after = g.S.Store.calls c.reply_to.new.store } in
    let lines = has_lines (g.S.Store.files c.args.store.now) (command_meant c.in-Some.command) calls reply.status reply.text
    c.in-Ok.ensures.answer in
    absurd (sent_no_read_fault (record { bytes = g.K.Sink.bytes c.args.out.now; puts = g.K.Sink.puts c.args.out.now })
    (record { bytes = g.K.Sink.bytes c.send.new.out; puts = g.K.Sink.puts c.send.new.out }) reply.status c.send.result reply.text lines
    c.send.ensures.sent e)

pub returns-in-Err-clause-usage : goal.returns-in-Err-clause-usage
returns-in-Err-clause-usage g c = (
  λ e. absurd (bare_no_usage (g.S.Store.files c.args.store.now) (command_meant c.in-Some.command) (g.S.Store.faults c.args.store.now)
      (g.S.Store.faults c.reply_to.new.store) c.in-Err.status c.in-Err.ensures.bare e),
  λ e. absurd (no_words (command_in (map string_bytes c.args.words.now)) (command_meant c.in-Some.command) c.in-Some.ensures.command e),
)

pub returns-in-Err-clause-untouched : goal.returns-in-Err-clause-untouched
returns-in-Err-clause-untouched g c = λ e. absurd (bare_no_usage (g.S.Store.files c.args.store.now) (command_meant c.in-Some.command)
    (g.S.Store.faults c.args.store.now) (g.S.Store.faults c.reply_to.new.store) c.in-Err.status c.in-Err.ensures.bare e)

pub returns-in-Err-clause-calls : goal.returns-in-Err-clause-calls
returns-in-Err-clause-calls g c = λ cmd e.
    let files = g.S.Store.files c.args.store.now in
    let calls : CallsTold = record { before = g.S.Store.calls c.args.store.now; after = g.S.Store.calls c.reply_to.new.store } in
    subst (λ (x : Command). BeginsInTurn files x calls (is_read_fault c.in-Err.status))
    (same_command (command_in (map string_bytes c.args.words.now)) (command_meant c.in-Some.command) cmd c.in-Some.ensures.command e)
    c.in-Err.ensures.calls

pub returns-in-Err-clause-read_fault : goal.returns-in-Err-clause-read_fault
returns-in-Err-clause-read_fault g c = λ cmd e is.
    let files = g.S.Store.files c.args.store.now in
    let before = g.S.Store.faults c.args.store.now in
    let now = g.S.Store.faults c.reply_to.new.store in
    subst (λ (x : Command). LacksFile files x ⊎ Rose before now) (same_command (command_in (map string_bytes c.args.words.now))
    (command_meant c.in-Some.command) cmd c.in-Some.ensures.command e)
    (bare_read_fault files (command_meant c.in-Some.command) before now c.in-Err.status c.in-Err.ensures.bare is)

pub returns-in-Err-clause-write_fault : goal.returns-in-Err-clause-write_fault
returns-in-Err-clause-write_fault g c = λ e. absurd (bare_no_write_fault (g.S.Store.files c.args.store.now)
    (command_meant c.in-Some.command) (g.S.Store.faults c.args.store.now)
    (g.S.Store.faults c.reply_to.new.store) c.in-Err.status c.in-Err.ensures.bare e)

pub returns-in-Err-clause-answers : goal.returns-in-Err-clause-answers
returns-in-Err-clause-answers g c = λ cmd e.
    let files = g.S.Store.files c.args.store.now in
    let calls : CallsTold = record { before = g.S.Store.calls c.args.store.now; after = g.S.Store.calls c.reply_to.new.store } in
    let old : SinkTold = record { bytes = g.K.Sink.bytes c.args.out.now; puts = g.K.Sink.puts c.args.out.now } in
    bare_writes (AnswersRightly files cmd calls) files (command_meant c.in-Some.command) (g.S.Store.faults c.args.store.now)
    (g.S.Store.faults c.reply_to.new.store) old old c.in-Err.status c.in-Err.ensures.bare refl

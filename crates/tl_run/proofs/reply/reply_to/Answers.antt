use Rattle.tl_run.specs.Turns.{CallsTold}
use Rattle.tl_run.specs.Words.{command_meant}
use Rattle.tl_run.proofs.Fitting.{fits}
use Rattle.tl_run.proofs.Replied.{reply_answers, refusal_answers}
use Rattle.tl_run.proofs.reply.reply_to.Goals as goal

pub reply_over-requires : goal.reply_over-requires
reply_over-requires g c =
    let h = c.in-Ok.ensures.held in
    record {
      fits = fits (g.S.Store.files c.args.store.now) (command_meant c.args.command) c.in-Ok.input h.0 h.1 h.2;
      limits =
          c.requires;
      keeps = c.in-Ok.ensures.keeps;
    }

pub returns-in_ok-reply_over-in-Ok-clause-answer : goal.returns-in_ok-reply_over-in-Ok-clause-answer
returns-in_ok-reply_over-in-Ok-clause-answer g c =
    let told : CallsTold = record { before = g.S.Store.calls c.args.store.now; after = g.S.Store.calls c.read_input.new.store } in
    let h = c.in-Ok.ensures.held in
    reply_answers (g.S.Store.files c.args.store.now) (command_meant c.args.command) told h.0 _ h.1
    (c.in_ok-reply_over-in-Ok.ensures h.0 h.2)

pub returns-in_ok-refusal-in-Err-Refused-clause-answer : goal.returns-in_ok-refusal-in-Err-Refused-clause-answer
returns-in_ok-refusal-in-Err-Refused-clause-answer g c =
    let told : CallsTold = record { before = g.S.Store.calls c.args.store.now; after = g.S.Store.calls c.read_input.new.store } in
    let reply = c.in_ok-refusal-in-Err-Refused.ensures in
    refusal_answers (g.S.Store.files c.args.store.now) (command_meant c.args.command) told c.in-Err-Refused.number c.in-Err-Refused.broken _
    _ (rw c.in-Err-Refused.field-0-is at c.in-Err-Refused.ensures.stop) reply.status reply.text

use Rattle.std.proofs.Common.{sym}
use Rattle.tl_label.proofs.Lines.{after-none, after-long, after-fits, seen-long, seen-short}
use Rattle.tl_label.proofs.line.Line.put.Goals as goal

pub returns-then-self : goal.returns-then-self
returns-then-self c =
    let e = seen-long c.self.inside.is_long (c.self.inside.text, c.self.inside.room) c.args.self.now c.self.view_is c.if-self.true in
    rw e (sym (after-none c.args.more.now))

pub returns-then-more-self : goal.returns-then-more-self
returns-then-more-self c =
    let e = seen-short c.self.inside.is_long (c.self.inside.text, c.self.inside.room) c.args.self.now c.self.view_is c.if-self.false in
    rw e (sym (after-long (c.self.inside.text, c.self.inside.room) c.args.more.now c.if-more-self.true))

pub returns : goal.returns
returns c =
    let e = seen-short c.self.inside.is_long (c.self.inside.text, c.self.inside.room) c.args.self.now c.self.view_is c.if-self.false in
    rw (e, c.if-self.false, c.in_ok-extend.ensures) (sym (after-fits (c.self.inside.text, c.self.inside.room) c.args.more.now
    c.if-more-self.false))

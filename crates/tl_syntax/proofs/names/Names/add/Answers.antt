use Rattle.std.proofs.Common.{◌∙◌, sym}
use Rattle.tl_syntax.proofs.Texts.{number_of-Some, number_of-pushed, with_text-known, with_text-new, slice_get-pushed, slice_get-before}
use Rattle.tl_syntax.proofs.names.Names.add.Goals as goal

pub returns-in-Some-clause-added : goal.returns-in-Some-clause-added
returns-in-Some-clause-added c = sym (with_text-known c.args.self.now c.args.text.now c.in-Some.number (sym c.in-Some.ensures.number))

pub returns-in-Some-clause-text : goal.returns-in-Some-clause-text
returns-in-Some-clause-text c = number_of-Some c.args.self.now c.args.text.now c.in-Some.number (sym c.in-Some.ensures.number)

pub returns-in_ok-append-in-None-clause-added : goal.returns-in_ok-append-in-None-clause-added
returns-in_ok-append-in-None-clause-added c =
    c.in_ok-append-in-None.ensures.added ∙ sym (with_text-new c.args.self.now c.args.text.now (sym c.in-None.ensures.number))

pub returns-in_ok-append-in-None-clause-number : goal.returns-in_ok-append-in-None-clause-number
returns-in_ok-append-in-None-clause-number c =
    rw (c.in_ok-append-in-None.ensures.added, c.in_ok-append-in-None.ensures.number)
    (number_of-pushed c.args.self.now c.args.text.now (sym c.in-None.ensures.number))

pub returns-in_ok-append-in-None-clause-text : goal.returns-in_ok-append-in-None-clause-text
returns-in_ok-append-in-None-clause-text c =
    rw c.in_ok-append-in-None.ensures.added (slice_get-pushed c.args.self.now c.args.text.now c.in_ok-append-in-None.field-0
    c.in_ok-append-in-None.ensures.number)

pub returns-in_ok-append-in-None-clause-kept : goal.returns-in_ok-append-in-None-clause-kept
returns-in_ok-append-in-None-clause-kept c = λ n before.
    rw c.in_ok-append-in-None.ensures.added (slice_get-before c.args.self.now c.args.text.now n before)

use Rattle.std.proofs.Common.{◌≡◌, ◌+◌, ◌∙◌, length, subst, sym}
use Rattle.tl_known.specs.TableNumbers.{AreNumbered}
use Rattle.tl_known.proofs.TableNumbers.{noted, not-noted}
use Rattle.tl_known.proofs.table_numbers.TableNumbers.add.Goals as goal

pub returns-in-Ok-push : goal.returns-in-Ok-push
returns-in-Ok-push c =
    let s = c.args.self.now in
    let size : c.len-else-number-len.result ≡ length c.args.worlds.now.keys = c.len-else-number-len.ensures.len in
    let last : c.args.number + 1 ≡ length c.args.worlds.now.keys = c.if-number-len-2.false ∙ size in
    noted c.args.worlds.now.keys s.starts.items s.all.items c.numbers_of.new.self.starts.items c.numbers_of.new.self.all.items
    c.push.new.self.starts.items c.push.new.self.all.items c.as_slice.result.now c.in-Ok.numbers.items c.args.number
    c.requires.numbered c.numbers_of.ensures.starts c.numbers_of.ensures.all (c.if-number-len.false ∙ (c.len.ensures ∙ s.starts.ok.0)) last
    c.in-Ok.ensures.many (λ w e. c.in-Ok.ensures.numbers w e (c.requires.source w e)) c.as_slice.ensures.value c.in-Ok-push.ensures.starts
    c.in-Ok-push.ensures.all

pub returns-in-Ok : goal.returns-in-Ok
returns-in-Ok c =
    let s = c.args.self.now in
    not-noted c.args.worlds.now.keys s.starts.items s.all.items c.numbers_of.new.self.starts.items c.numbers_of.new.self.all.items
    c.push.new.self.starts.items c.push.new.self.all.items c.as_slice.result.now
    c.requires.numbered c.numbers_of.ensures.starts c.numbers_of.ensures.all c.in-Err-push.ensures.refused c.in-Err-push.ensures.rest

pub returns : goal.returns
returns c =
    let ws = c.args.worlds.now.keys in
    subst (λ s. AreNumbered ws s c.numbers_of.new.self.all.items) (sym c.numbers_of.ensures.starts)
    (subst (AreNumbered ws c.args.self.now.starts.items) (sym c.numbers_of.ensures.all) c.requires.numbered)

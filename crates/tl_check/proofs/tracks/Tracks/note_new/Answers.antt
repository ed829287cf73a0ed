use Rattle.std.proofs.Common.{OnOk, subst}
use Rattle.tl_check.specs.Tracks.{TellsOf}
use Rattle.tl_syntax.specs.declared.fact.Fact.{Fact}
use Rattle.tl_check.proofs.tracks.Tracks.note_new.Goals as goal

pub returns-clause-told : goal.returns-clause-told
returns-clause-told c = subst (λ (f : Fact). OnOk c.note.result (TellsOf f c.args.change c.args.self.now.lines c.note.new.self.lines))
    c.in_ok-copy.ensures.same c.note.ensures.told

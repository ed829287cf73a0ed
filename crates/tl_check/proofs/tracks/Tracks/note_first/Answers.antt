use Rattle.tl_check.specs.Tracks.{line_in}
use Rattle.tl_check.proofs.ToldLaws.{first-none, first-told}
use Rattle.tl_check.proofs.tracks.Tracks.note_first.Goals as goal

pub returns-in_ok-note_rows-in-Some-clause-told : goal.returns-in_ok-note_rows-in-Some-clause-told
returns-in_ok-note_rows-in-Some-clause-told c = first-told c.args.pred c.args.first.now (line_in c.args.self.now.lines)
    (line_in c.note_rows.new.self.lines) c.in-Some.rows.now c.in-Some.ensures.facts c.in_ok-note_rows-in-Some.ensures.noted

pub returns-in-None-clause-told : goal.returns-in-None-clause-told
returns-in-None-clause-told c = first-none c.args.pred c.args.first.now (line_in c.args.self.now.lines)
    (line_in c.args.self.now.lines) c.in-None.ensures.none

use Rattle.tl_check.proofs.TrackLaws.{line-covered}
use Rattle.tl_check.proofs.tracks.Tracks.note_span.Goals as goal

pub returns-clause-covered : goal.returns-clause-covered
returns-clause-covered c = line-covered c.args.self.now.lines c.take_line.new.self.lines c.insert.new.self c.args.fact c.add_span.new.line
    c.in_ok-line.ensures.lines c.in_ok-insert.ensures.updates.0 c.take_line.new.self.seen.items c.in_ok-line.ensures.seen
    (λ g k. c.in_ok-line.ensures.stay g (c.requires.covered g k))

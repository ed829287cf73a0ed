use Rattle.tl_check.proofs.TrackLaws.{line-noted, line-covered, tells-added}
use Rattle.tl_check.specs.Tracks.{line_in}
use Rattle.tl_check.proofs.tracks.Tracks.note.Goals as goal

pub returns-clause-told : goal.returns-clause-told
returns-clause-told c =
    tells-added c.args.fact c.args.change (line_in c.args.self.now.lines) (line_in c.insert.new.self)
    (line-noted c.args.self.now.lines c.take_line.new.self.lines c.insert.new.self c.args.fact c.push.new.self c.in_ok-line.ensures.lines
    c.in_ok-insert.ensures.updates.0 c.args.change c.in_ok-line.line.items c.in_ok-line.ensures.line c.in_ok-push.ensures.items)

pub returns-clause-covered : goal.returns-clause-covered
returns-clause-covered c = line-covered c.args.self.now.lines c.take_line.new.self.lines c.insert.new.self c.args.fact c.push.new.self
    c.in_ok-line.ensures.lines c.in_ok-insert.ensures.updates.0 c.take_line.new.self.seen.items c.in_ok-line.ensures.seen
    (λ g k. c.in_ok-line.ensures.stay g (c.requires g k))

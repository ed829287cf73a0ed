use Rattle.std.proofs.Common.{length-take-le, Some, None, arith}
use Rattle.tl_match.specs.Patterns.{parts_of}
use Rattle.tl_match.proofs.Later.{least-later}
use Rattle.tl_match.proofs.Truths.{occurs-among}
use Rattle.tl_world.proofs.match_reader.put_next_from.Goals as goal

pub put_first-requires-clause-each : goal.put_first-requires-clause-each
put_first-requires-clause-each c n p = (occurs-among n (parts_of c.args.pattern.now)).0 ((c.requires.pattern.each n).1 p)

pub put_first-requires-clause-slots : goal.put_first-requires-clause-slots
put_first-requires-clause-slots c n o = (c.requires.pattern.each n).0 ((occurs-among n (parts_of c.args.pattern.now)).1 o)

pub returns-in-Some-clause-puts : goal.returns-in-Some-clause-puts
returns-in-Some-clause-puts c =
    least-later (parts_of c.args.pattern.now) c.args.rows.now c.args.pattern.now.free c.args.begun c.args.tuple.now c.args.place.now
    (Some (record { values = c.put_first.new.values; len = c.args.pattern.now.free }))
    (length-take-le c.args.pattern.now.free c.args.tuple.now.values (omega
    (arith, c.requires.pattern.variables, c.room.ensures.nine, c.room.ensures.values)))
    c.requires.later c.in-Some.ensures.least

pub returns-in-None-clause-puts : goal.returns-in-None-clause-puts
returns-in-None-clause-puts c =
    least-later (parts_of c.args.pattern.now) c.args.rows.now c.args.pattern.now.free c.args.begun c.args.tuple.now c.args.place.now None
    (length-take-le c.args.pattern.now.free c.args.tuple.now.values (omega
    (arith, c.requires.pattern.variables, c.room.ensures.nine, c.room.ensures.values)))
    c.requires.later c.in-None.ensures.least

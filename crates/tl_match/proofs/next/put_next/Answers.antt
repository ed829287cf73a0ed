use Rattle.std.proofs.Common.{length-take-le, Some, None, arith}
use Rattle.tl_match.proofs.Later.{least-later}
use Rattle.tl_match.proofs.next.put_next.Goals as goal

pub returns-in-Some-put_first : goal.returns-in-Some-put_first
returns-in-Some-put_first c =
    least-later c.args.parts.now c.args.rows.now c.args.free c.args.begun c.args.tuple.now c.in-Some.from
    (Some (record { values = c.put_first.new.values; len = c.args.free }))
    (length-take-le c.args.free c.args.tuple.now.values (omega (arith, c.requires.few)))
    c.in-Some.ensures.later c.in-Some-put_first.ensures.least

pub returns-in-None-put_first : goal.returns-in-None-put_first
returns-in-None-put_first c =
    least-later c.args.parts.now c.args.rows.now c.args.free c.args.begun c.args.tuple.now c.in-Some.from None
    (length-take-le c.args.free c.args.tuple.now.values (omega (arith, c.requires.few)))
    c.in-Some.ensures.later c.in-None-put_first.ensures.least

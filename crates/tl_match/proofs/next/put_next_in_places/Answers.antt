use Rattle.std.proofs.Common.{length-take-le, map, Some, None, arith}
use Rattle.tl_rows.specs.Tables.{whole_row}
use Rattle.tl_match.proofs.Later.{least-later}
use Rattle.tl_match.proofs.next.put_next_in_places.Goals as goal

pub returns-in-Some-put_first_place : goal.returns-in-Some-put_first_place
returns-in-Some-put_first_place c =
    least-later c.args.parts.now (map whole_row c.args.rows.now) c.args.free c.args.begun c.args.tuple.now c.in-Some.from
    (Some (record { values = c.put_first_place.new.values; len = c.args.free }))
    (length-take-le c.args.free c.args.tuple.now.values (omega (arith, c.requires.few)))
    c.in-Some.ensures.later c.in-Some-put_first_place.ensures

pub returns-in-None-put_first_place : goal.returns-in-None-put_first_place
returns-in-None-put_first_place c =
    least-later c.args.parts.now (map whole_row c.args.rows.now) c.args.free c.args.begun c.args.tuple.now c.in-Some.from None
    (length-take-le c.args.free c.args.tuple.now.values (omega (arith, c.requires.few)))
    c.in-Some.ensures.later c.in-None-put_first_place.ensures

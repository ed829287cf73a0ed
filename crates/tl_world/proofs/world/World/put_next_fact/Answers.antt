use Rattle.std.proofs.Common.{false, ap, ◌&&◌}
use Rattle.tl_match.specs.Least.{IsLeast, fits_some, above, match_in_place}
use Rattle.tl_match.specs.Patterns.{parts_of, filled, is_true_of}
use Rattle.tl_match.proofs.Least.{least-same}
use Rattle.tl_match.proofs.Truths.{fact-truth, occurs-among}
use Rattle.tl_world.proofs.world.World.put_next_fact.Goals as goal

pub put_next_in_table-requires-clause-each : goal.put_next_in_table-requires-clause-each
put_next_in_table-requires-clause-each c n p = (occurs-among n (parts_of c.args.pattern.now)).0 ((c.requires.pattern.each n).1 p)

pub put_next_in_table-requires-clause-slots : goal.put_next_in_table-requires-clause-slots
put_next_in_table-requires-clause-slots c n o = (c.requires.pattern.each n).0 ((occurs-among n (parts_of c.args.pattern.now)).1 o)

pub returns-in-Some : goal.returns-in-Some
returns-in-Some c =
    let p = c.args.pattern.now in
    let parts = parts_of p in
    let after = match_in_place c.args.begun c.args.tuple.now in
    least-same p.free (match_in_place c.put_next_in_table.result c.put_next_in_table.new.tuple)
    (λ t. fits_some parts c.in-Some.rows.now t && above after p.free t)
    (λ t. is_true_of c.args.self.now false p.name (filled parts t) && above after p.free t)
    (λ t size. ap (λ b. b && above after p.free t) (fact-truth c.args.self.now p.name c.in-Some.rows.now c.in-Some.ensures.facts parts t
    p.free (λ n o. (c.requires.pattern.each n).0 ((occurs-among n parts).1 o)) size))
    c.put_next_in_table.ensures

pub returns-in-None : goal.returns-in-None
unfolding IsLeast
returns-in-None c t size = ap (λ b. b && above (match_in_place c.args.begun c.args.tuple.now) c.args.pattern.now.free t)
    (c.in-None.ensures.none (filled (parts_of c.args.pattern.now) t))

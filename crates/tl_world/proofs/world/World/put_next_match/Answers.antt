use Rattle.std.proofs.Common.{sym, subst, ◌&&◌}
use Rattle.tl_match.specs.Least.{IsLeast, above, match_in_place}
use Rattle.tl_match.specs.Patterns.{makes_true, parts_of, filled, is_true_of}
use Rattle.tl_match.proofs.Chains.{next-in-place, size-of-next}
use Rattle.tl_world.proofs.world.World.put_next_match.Goals as goal

pub returns-then-pattern-clause-next : goal.returns-then-pattern-clause-next
returns-then-pattern-clause-next c =
    let p = c.args.pattern.now in
    next-in-place p.free (makes_true c.args.self.now p) c.args.begun c.args.tuple.now c.put_next_place.result c.put_next_place.new.tuple
    c.requires.before
    (subst (λ b. IsLeast p.free (λ t. is_true_of c.args.self.now b p.name (filled (parts_of p) t) && above
    (match_in_place c.args.begun c.args.tuple.now) p.free t) (match_in_place c.put_next_place.result c.put_next_place.new.tuple))
    (sym c.if-pattern.true) c.put_next_place.ensures)

pub returns-then-pattern-clause-len : goal.returns-then-pattern-clause-len
returns-then-pattern-clause-len c = size-of-next c.args.pattern.now.free _ c.put_next_place.result c.put_next_place.new.tuple
    c.put_next_place.ensures

pub returns-else-pattern-clause-next : goal.returns-else-pattern-clause-next
returns-else-pattern-clause-next c =
    let p = c.args.pattern.now in
    next-in-place p.free (makes_true c.args.self.now p) c.args.begun c.args.tuple.now c.put_next_fact.result c.put_next_fact.new.tuple
    c.requires.before
    (subst (λ b. IsLeast p.free (λ t. is_true_of c.args.self.now b p.name (filled (parts_of p) t) && above
    (match_in_place c.args.begun c.args.tuple.now) p.free t) (match_in_place c.put_next_fact.result c.put_next_fact.new.tuple))
    (sym c.if-pattern.false) c.put_next_fact.ensures)

pub returns-else-pattern-clause-len : goal.returns-else-pattern-clause-len
returns-else-pattern-clause-len c = size-of-next c.args.pattern.now.free _ c.put_next_fact.result c.put_next_fact.new.tuple
    c.put_next_fact.ensures

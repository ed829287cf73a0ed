use Rattle.tl_rows.proofs.SameParts.{parts-alike}
use Rattle.tl_rows.proofs.runs.Runs.same_from.Goals as goal

pub returns-then-eq-clause-same : goal.returns-then-eq-clause-same
returns-then-eq-clause-same c =
    parts-alike c.args.self.now c.args.other.now c.part_of-from.result.0.now c.part_of-start.result.0.now c.part_of-from.result.1
    c.part_of-start.result.1 c.args.k c.args.l c.len.result c.eq.result
    c.part_of-from.ensures.part c.part_of-start.ensures.part c.if-from-k.true c.if-start-l.true c.len.ensures.len c.eq.ensures c.if-eq.true

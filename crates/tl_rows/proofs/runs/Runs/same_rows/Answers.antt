use Rattle.tl_rows.proofs.SameParts.{parts-same}
use Rattle.tl_rows.proofs.runs.Runs.same_rows.Goals as goal

pub returns-clause-same : goal.returns-clause-same
returns-clause-same c =
    parts-same c.args.self.now c.args.other.now c.part_of-from.result.0.now c.part_of-start.result.0.now c.part_of-from.result.1
    c.part_of-start.result.1 c.args.k c.args.l c.same_rows.result
    c.part_of-from.ensures.part c.part_of-start.ensures.part c.part_of-from.ensures.from c.part_of-start.ensures.from
    (c.part_of-from.ensures.to c.requires.row) (c.part_of-start.ensures.to c.requires.other) c.same_rows.ensures.same
    c.same_rows.ensures.many

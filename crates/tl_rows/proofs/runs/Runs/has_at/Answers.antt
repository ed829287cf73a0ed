use Rattle.std.proofs.Common.{sym, ◌∙◌}
use Rattle.tl_rows.proofs.SameParts.{part-tells}
use Rattle.tl_rows.proofs.runs.Runs.has_at.Goals as goal

pub returns-then-len : goal.returns-then-len
returns-then-len c = part-tells c.args.self.now c.part_of-from.result.0.now c.args.rows.now c.part_of-from.result.1 c.args.at c.eq.result
    c.part_of-from.ensures.part c.if-from-at.true (sym c.len.ensures.len ∙ (c.if-len.true ∙ c.len-then-from-at.ensures.len)) c.eq.ensures

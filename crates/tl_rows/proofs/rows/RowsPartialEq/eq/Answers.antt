use Rattle.tl_rows.proofs.SameParts.{codes-differ}
use Rattle.tl_rows.proofs.rows.RowsPartialEq.eq.Goals as goal

pub returns-then-self-other : goal.returns-then-self-other
returns-then-self-other c = codes-differ c.self.inside.runs c.other.inside.runs c.args.self.now c.args.other.now c.self.inside.code
    c.other.inside.code c.self.invariant.0 c.other.invariant.0 c.self.view_is c.other.view_is c.if-self-other.true

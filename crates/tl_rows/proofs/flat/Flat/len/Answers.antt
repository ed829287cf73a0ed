use Rattle.tl_rows.proofs.EvenRows.{many}
use Rattle.tl_rows.proofs.flat.Flat.len.Goals as goal

pub returns-clause-len : goal.returns-clause-len
returns-clause-len c = many c.self.inside.width c.self.inside.count c.self.inside.values.items c.args.self.now c.self.invariant.0
    c.self.view_is

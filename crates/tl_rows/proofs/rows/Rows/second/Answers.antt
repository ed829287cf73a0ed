use Rattle.tl_rows.proofs.Exchanged.{kept-some}
use Rattle.tl_rows.proofs.rows.Rows.second.Goals as goal

pub returns : goal.returns
returns c = kept-some c.self.inside.runs c.args.self.now c.self.inside.second c.rows.result c.self.view_is c.self.invariant.1
    c.rows.ensures.some

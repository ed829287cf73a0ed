use Rattle.std.proofs.Common.{take, ap, ◌∙◌}
use Rattle.tl_space.proofs.MetWays.{ways-taken, mets-taken}
use Rattle.tl_space.proofs.ways.Ways.truncate.Goals as goal

pub invariant_of-self : goal.invariant_of-self
invariant_of-self c = ways-taken c.self.inside.actions.keys c.args.count c.self.inside.ways.items _ c.truncate.ensures.items
    c.self.invariant

pub returns : goal.returns
returns c = mets-taken c.self.inside.actions.keys c.args.count c.self.inside.ways.items _ c.truncate.ensures.items ∙
    ap (take c.args.count) c.self.view_is

use Rattle.std.proofs.Common.{refl, sym}
use Rattle.tl_nodes.specs.Numbers.{trees}
use Rattle.tl_progress.proofs.QuantifierNodes.{bound-ForAll, bound-Exists, no-quantifier}
use Rattle.tl_progress.proofs.quantifier.Quantifier.bound.Goals as goal

pub returns-in-ForAll : goal.returns-in-ForAll
returns-in-ForAll c = sym (bound-ForAll (trees c.args.nodes.now) c.args.self.at c.get.result.now c.get.ensures.tree c.in-ForAll.field-0
    c.in-ForAll.bound c.in-ForAll.field-2 c.in-ForAll.is)

pub returns-in-Exists : goal.returns-in-Exists
returns-in-Exists c = sym (bound-Exists (trees c.args.nodes.now) c.args.self.at c.get.result.now c.get.ensures.tree c.in-Exists.field-0
    c.in-Exists.bound c.in-Exists.field-2 c.in-Exists.is)

pub unreachable-requires : goal.unreachable-requires
unreachable-requires c = no-quantifier (trees c.args.nodes.now) c.args.self.at c.get.result.now c.get.ensures.tree c.get.ensures.parts
    c.in_default.not-ForAll c.in_default.not-Exists c.args.self refl c.requires.stands

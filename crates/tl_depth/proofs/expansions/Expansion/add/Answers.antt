use Rattle.std.proofs.Common.{rules}
use Rattle.tl_depth.proofs.expansions.Expansion.add.Goals as goal

pub returns-clause-arrivals : goal.returns-clause-arrivals
returns-clause-arrivals c = search rules

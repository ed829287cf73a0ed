use Rattle.std.proofs.Common.{rules}
use Rattle.tl_eval.proofs.env.Env.lend_memory.Goals as goal

pub returns-clause-nothing : goal.returns-clause-nothing
returns-clause-nothing c = search rules

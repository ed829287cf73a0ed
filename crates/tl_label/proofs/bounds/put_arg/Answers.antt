use Rattle.std.proofs.Common.{rules}
use Rattle.tl_label.proofs.bounds.put_arg.Goals as goal

pub returns-in-Var : goal.returns-in-Var
returns-in-Var c = search rules

use Rattle.tl_sexpr.proofs.Once.{spelled_once}
use Rattle.tl_sexpr.proofs.laws.one_spelling.Goals as goal

pub returns : goal.returns
returns c = spelled_once

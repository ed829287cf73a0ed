use Rattle.tl_sexpr.proofs.Rising.{spelled_rise}
use Rattle.tl_sexpr.proofs.laws.offsets_rise.Goals as goal

pub returns : goal.returns
returns c = spelled_rise

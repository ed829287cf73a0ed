use Rattle.tl_terms.proofs.TuplesRise.{tuples-rise}
use Rattle.tl_terms.proofs.laws.tuples.tuples_rise.Goals as goal

pub returns : goal.returns
returns c = tuples-rise

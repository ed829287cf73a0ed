use Rattle.tl_terms.proofs.Tuples.{all-tuples}
use Rattle.tl_terms.proofs.laws.tuples.tuples_are_those_of_the_bound.Goals as goal

pub returns : goal.returns
returns c = all-tuples

use Rattle.tl_eval.proofs.TupleChain.{first-of_rest}
use Rattle.tl_eval.proofs.laws.next_tuple_is_the_first_of_the_rest.Goals as goal

pub returns : goal.returns
returns c = first-of_rest

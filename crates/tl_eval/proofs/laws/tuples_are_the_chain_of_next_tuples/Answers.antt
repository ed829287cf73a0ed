use Rattle.tl_eval.proofs.TupleChain.{chain-exactly}
use Rattle.tl_eval.proofs.laws.tuples_are_the_chain_of_next_tuples.Goals as goal

pub returns : goal.returns
returns c = chain-exactly

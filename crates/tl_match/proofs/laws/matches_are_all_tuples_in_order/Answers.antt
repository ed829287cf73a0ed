use Rattle.tl_match.proofs.Chains.{chain-has-all}
use Rattle.tl_match.proofs.Finite.{matches-end}
use Rattle.tl_match.proofs.laws.matches_are_all_tuples_in_order.Goals as goal

pub returns : goal.returns
returns c = record { all = chain-has-all; end = matches-end }

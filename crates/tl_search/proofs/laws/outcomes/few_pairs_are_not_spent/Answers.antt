use Rattle.tl_search.proofs.OutcomeLaws.{few-not-spent}
use Rattle.tl_search.proofs.laws.outcomes.few_pairs_are_not_spent.Goals as goal

pub returns : goal.returns
returns c = few-not-spent

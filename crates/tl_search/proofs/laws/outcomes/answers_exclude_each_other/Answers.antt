use Rattle.tl_search.proofs.OutcomeLaws.{answers-exclude}
use Rattle.tl_search.proofs.laws.outcomes.answers_exclude_each_other.Goals as goal

pub returns : goal.returns
returns c = answers-exclude

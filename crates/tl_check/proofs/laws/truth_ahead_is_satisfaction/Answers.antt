use Rattle.tl_check.proofs.AheadLaws.{satisfies-ahead}
use Rattle.tl_check.proofs.laws.truth_ahead_is_satisfaction.Goals as goal

pub returns : goal.returns
returns c = satisfies-ahead

use Rattle.tl_check.proofs.VerdictLaws.{one-verdict}
use Rattle.tl_check.proofs.laws.plan_has_one_verdict.Goals as goal

pub returns : goal.returns
returns c = one-verdict

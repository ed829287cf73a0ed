use Rattle.tl_lasso.proofs.VerdictLaws.{one-verdict}
use Rattle.tl_lasso.proofs.laws.one_loop_verdict.Goals as goal

pub returns : goal.returns
returns c = one-verdict

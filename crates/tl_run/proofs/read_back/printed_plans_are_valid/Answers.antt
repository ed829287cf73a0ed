use Rattle.tl_run.proofs.ReadBack.{printed-plans-valid}
use Rattle.tl_run.proofs.read_back.printed_plans_are_valid.Goals as goal

pub returns : goal.returns
returns c = printed-plans-valid

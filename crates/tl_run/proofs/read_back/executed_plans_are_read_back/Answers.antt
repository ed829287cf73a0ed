use Rattle.tl_run.proofs.ReadBack.{executed-plans-read-back}
use Rattle.tl_run.proofs.read_back.executed_plans_are_read_back.Goals as goal

pub returns : goal.returns
returns c = executed-plans-read-back

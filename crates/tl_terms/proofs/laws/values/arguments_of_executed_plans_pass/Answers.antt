use Rattle.tl_terms.proofs.PassingSteps.{arguments-of-executed-pass}
use Rattle.tl_terms.proofs.laws.values.arguments_of_executed_plans_pass.Goals as goal

pub returns : goal.returns
returns c = arguments-of-executed-pass

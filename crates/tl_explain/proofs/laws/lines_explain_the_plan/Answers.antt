use Rattle.tl_explain.proofs.ExplainLaws.{text-explains}
use Rattle.tl_explain.proofs.laws.lines_explain_the_plan.Goals as goal

pub returns : goal.returns
returns c = text-explains

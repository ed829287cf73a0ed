use Rattle.tl_run.proofs.CheapestLaws.{right_outcomes}
use Rattle.tl_run.proofs.commands.cheapest.searched.Goals as goal

pub returns-clause-outcome : goal.returns-clause-outcome
returns-clause-outcome g c = right_outcomes c.args.nodes _ c.args.costs.now _ c.cheapest.result c.cheapest.ensures.outcome

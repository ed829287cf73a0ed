use Rattle.tl_cost.proofs.Searching.{calm-answers}
use Rattle.tl_cost.proofs.uniform_cost.cheapest.Goals as goal

pub returns-clause-calm : goal.returns-clause-calm
returns-clause-calm g c = calm-answers _ c.args.costs.now c.args.nodes
    (g.S.SearchSpace.kept c.outcome.new.space) c.outcome.result c.outcome.ensures.outcome c.outcome.ensures.fault

use Rattle.tl_known.proofs.Unchanged.{fact-is}
use Rattle.tl_known.proofs.named_facts.is_fact.Goals as goal

pub returns-then-fact-pred : goal.returns-then-fact-pred
returns-then-fact-pred c = fact-is c.args.fact.now.pred c.args.pred c.args.fact.now.args c.args.args.now c.as_slice.result.now
    c.is_same_row.result c.if-fact-pred.true c.as_slice.ensures c.is_same_row.ensures

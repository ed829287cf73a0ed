use Rattle.tl_text.proofs.outcomes.outcome_text.Goals as goal

pub returns-in-Spent-clause-text : goal.returns-in-Spent-clause-text
returns-in-Spent-clause-text c = rw c.in-Spent.is c.spent_text.ensures

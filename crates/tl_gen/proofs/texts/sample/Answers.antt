use Rattle.tl_gen.proofs.texts.sample.Goals as goal

pub returns-clause-problem : goal.returns-clause-problem
returns-clause-problem c = c.in_ok-problem.ensures.text

use Rattle.tl_space.proofs.space.Space.find_in_new.Goals as goal

pub returns-else-leaves_itself-clause-met : goal.returns-else-leaves_itself-clause-met
returns-else-leaves_itself-clause-met c = c.find_progressed.ensures.met

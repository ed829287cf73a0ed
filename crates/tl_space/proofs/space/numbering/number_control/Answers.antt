use Rattle.tl_terms.specs.ProblemMeaning.{plain_problem}
use Rattle.tl_space.proofs.space.numbering.number_control.Goals as goal

pub returns-clause-number : goal.returns-clause-number
unfolding plain_problem
returns-clause-number c = c.of_tree.ensures.number

use Rattle.tl_sexpr.specs.Tree.{trees_of}
use Rattle.tl_problem.specs.Readers.{sections_in}
use Rattle.tl_problem.proofs.ReadProblems.{init-said, said-keeps, least-read}
use Rattle.tl_problem.proofs.problem.problem_of.Goals as goal

pub problem_with-requires-clause-said : goal.problem_with-requires-clause-said
problem_with-requires-clause-said c =
    let read = c.in-Ok.ensures in
    said-keeps c.args.names c.args.domain (trees_of c.args.forms.now) (sections_in c.in-Ok.said) read.0 c.requires.named read.1

pub problem_with-requires-clause-init : goal.problem_with-requires-clause-init
problem_with-requires-clause-init c = init-said c.args.names c.args.domain (trees_of c.args.forms.now)
    (sections_in c.in-Ok.said) c.in-Ok.ensures.1

pub returns-in-Err-clause-least : goal.returns-in-Err-clause-least
returns-in-Err-clause-least c = least-read c.args.names c.args.domain (trees_of c.args.forms.now) c.in-Err.fault c.in-Err.ensures

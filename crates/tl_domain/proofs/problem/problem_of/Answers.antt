use Rattle.tl_sexpr.specs.Tree.{trees_of}
use Rattle.tl_domain.proofs.FilesStand.{read-in-order, read-have, problem-stands, first-after, least-after}
use Rattle.tl_domain.proofs.problem.problem_of.Goals as goal

pub problem_of-requires-clause-order : goal.problem_of-requires-clause-order
problem_of-requires-clause-order c = read-in-order (trees_of c.args.first)
    (trees_of c.args.second.now) c.in_ok-names.names c.in_ok-names.domain c.in_ok-names.ensures.read

pub problem_of-requires-clause-named : goal.problem_of-requires-clause-named
problem_of-requires-clause-named c = read-have (trees_of c.args.first)
    (trees_of c.args.second.now) c.in_ok-names.names c.in_ok-names.domain c.in_ok-names.ensures.read

pub returns-clause-problem : goal.returns-clause-problem
returns-clause-problem c =
    let e = c.problem_of.ensures in
    problem-stands (trees_of c.args.first) (trees_of c.args.second.now) c.in_ok-names.names c.in_ok-names.domain c.in_ok-names.ensures.read
    c.problem_of.result c.requires.lawful e.lawful e.problem

pub returns-clause-fault : goal.returns-clause-fault
returns-clause-fault c = first-after (trees_of c.args.first) (trees_of c.args.second.now) c.in_ok-names.names c.in_ok-names.domain
    c.in_ok-names.ensures.read c.problem_of.result c.problem_of.ensures.fault

pub returns-clause-least : goal.returns-clause-least
returns-clause-least c = λ read. least-after (trees_of c.args.first) (trees_of c.args.second.now) c.in_ok-names.names c.in_ok-names.domain
    c.in_ok-names.ensures.read c.problem_of.result (c.problem_of.ensures.least read)

use Rattle.tl_gen.proofs.Lines.{problem_parts, short_problem}
use Rattle.tl_gen.proofs.problem.problem_text.Goals as goal

pub returns-clause-text : goal.returns-clause-text
returns-clause-text c = let p = problem_parts c.args.balls in rw (
  c.in_ok-extend-5.ensures,
  c.in_ok-put_balls-2.ensures,
  c.in_ok-extend-4.ensures,
  c.in_ok-extend-3.ensures,
  c.in_ok-put_balls.ensures,
  c.in_ok-extend-2.ensures,
  c.in_ok-extend.ensures,
  c.new-text.ensures,
) p

pub returns-clause-short : goal.returns-clause-short
returns-clause-short c = rw (returns-clause-text c) (short_problem c.args.balls c.requires)

use Rattle.tl_eval.proofs.ArityLaws.{declared-few}
use Rattle.tl_eval.proofs.PatternLaws.{few-variables, bound-few}
use Rattle.tl_syntax.specs.Signature.{signature_of}
use Rattle.tl_eval.proofs.bound_tuples.BoundPattern.open_at.Goals as goal

pub put_pattern_of-self-inside-requires-clause-few : goal.put_pattern_of-self-inside-requires-clause-few
put_pattern_of-self-inside-requires-clause-few c =
    let problem = c.args.task.now.problem in
    bound-few (signature_of problem.domain) (declared-few _ _ problem.domain_keeps.predicates)
    (declared-few _ _ problem.domain_keeps.functions) c.args.b.now c.requires.fits

pub returns-clause-few : goal.returns-clause-few
returns-clause-few c =
    let problem = c.args.task.now.problem in
    few-variables c.args.vars.now c.args.b.now c.requires.differ c.requires.occur
    (bound-few (signature_of problem.domain) (declared-few _ _ problem.domain_keeps.predicates)
    (declared-few _ _ problem.domain_keeps.functions) c.args.b.now c.requires.fits)

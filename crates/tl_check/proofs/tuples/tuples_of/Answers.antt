use Rattle.std.proofs.Common.{Option, IfSome, refl, subst}
use Rattle.tl_check.proofs.TupleLaws.{guided-have, gathered-have}
use Rattle.tl_check.specs.Gathered.{AreGathered}
use Rattle.tl_check.specs.StatesAlong.{states_along}
use Rattle.tl_check.specs.declared.tracks.Tracks.{Tracks}
use Rattle.tl_eval.specs.Frames.{assignment_in}
use Rattle.tl_terms.specs.ProblemMeaning.{plain_problem}
use Rattle.tl_check.proofs.tuples.tuples_of.Goals as goal

pub returns-in-Some-clause-tuples : goal.returns-in-Some-clause-tuples
returns-in-Some-clause-tuples c =
    let a = c.args.along.now in
    let b = c.args.binder.now in
    record {
      bound = refl;
      have = guided-have (plain_problem a.task.now.problem) (states_along a)
          (assignment_in c.args.env.now) b.vars.now b.bound.now c.args.span c.requires.differ c.requires.occur c.in-Some.guide.now
          c.in-Some.ensures c.in_ok-facts.facts.items c.in_ok-facts.ensures;
      lines = tt;
    }

pub returns-in-Some-2-clause-tuples : goal.returns-in-Some-2-clause-tuples
returns-in-Some-2-clause-tuples c =
    let a = c.args.along.now in
    let b = c.args.binder.now in
    let tell = subst (λ (o : Option Tracks). IfSome o (AreGathered a c.args.env.now b c.args.span)) c.in-Some-2.is
    c.in_ok-tracks.ensures.gathered in
    record {
      bound = refl;
      have = gathered-have (plain_problem a.task.now.problem) (states_along a)
          (assignment_in c.args.env.now) b.vars.now b.bound.now c.args.span c.in-Some-2.tracks tell;
      lines = tell.tell;
    }

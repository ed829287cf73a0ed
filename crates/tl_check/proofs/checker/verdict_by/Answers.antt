use Rattle.std.proofs.Common.{Ok, subst}
use Rattle.tl_check.proofs.KeptLaws.{cause-unless, followed-noted}
use Rattle.tl_check.specs.Trails.{IsFollowedBy}
use Rattle.tl_check.specs.declared.following.Followed.{Followed}
use Rattle.tl_terms.specs.ProblemMeaning.{plain_problem}
use Rattle.tl_check.proofs.checker.verdict_by.Goals as goal

pub verdict_of-requires-clause-executes : goal.verdict_of-requires-clause-executes
verdict_of-requires-clause-executes c = (subst (λ (x : Followed). IsFollowedBy c.args.follow.now c.args.plan.now (Ok x)) c.in-Ended.is
    c.in_ok-k.ensures).0

pub verdict_of-requires-clause-trail : goal.verdict_of-requires-clause-trail
verdict_of-requires-clause-trail c = (
  c.args.follow.now.keeps,
  (subst (λ (x : Followed).
      IsFollowedBy c.args.follow.now c.args.plan.now (Ok x)) c.in-Ended.is c.in_ok-k.ensures).1,
)

pub returns-in-Ended-clause-cause : goal.returns-in-Ended-clause-cause
returns-in-Ended-clause-cause c =
    let ends = subst (λ (x : Followed). IsFollowedBy c.args.follow.now c.args.plan.now (Ok x)) c.in-Ended.is c.in_ok-k.ensures in
    cause-unless (plain_problem c.args.follow.now.task.now.problem) c.args.plan.now c.args.follow.now.keeps c.in-Ended.trail ends.1
    c.verdict_of.result c.verdict_of.ensures.cause

pub returns-in_err-k-clause-cause : goal.returns-in_err-k-clause-cause
returns-in_err-k-clause-cause c =
    followed-noted (plain_problem c.args.follow.now.task.now.problem) c.args.follow.now.keeps c.args.plan.now c.from_residual.result
    c.in_err-k.field-0.0 c.from_residual.ensures.1 c.in_err-k.ensures

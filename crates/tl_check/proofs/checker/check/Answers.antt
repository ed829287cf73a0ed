use Rattle.tl_check.proofs.JudgeLaws.{valid-tells, valid-of}
use Rattle.tl_terms.specs.ProblemMeaning.{plain_problem}
use Rattle.tl_check.proofs.checker.check.Goals as goal

pub returns-then-not-is_plain-clause-valid : goal.returns-then-not-is_plain-clause-valid
returns-then-not-is_plain-clause-valid c = valid-of (plain_problem c.args.task.now.problem) c.args.plan.now c.verdict_by_states.result
    c.verdict_by_states.ensures.verdict

pub returns-in-Ok-clause-valid : goal.returns-in-Ok-clause-valid
returns-in-Ok-clause-valid c = valid-tells (plain_problem c.args.task.now.problem) c.args.plan.now c.in-Ok.verdict c.in-Ok.ensures.verdict

pub returns-clause-valid : goal.returns-clause-valid
returns-clause-valid c = valid-of (plain_problem c.args.task.now.problem) c.args.plan.now c.verdict_by_states-in-Err-NotKept.result
    c.verdict_by_states-in-Err-NotKept.ensures.verdict

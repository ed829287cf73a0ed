use Rattle.std.proofs.Common.{◌≡◌, sym, ◌∙◌, subst}
use Rattle.tl_cert.specs.Causes.{IsNoneFault}
use Rattle.tl_cert.specs.Checking.{VerdictIsNamed}
use Rattle.tl_cert.specs.Verdicts.{IsNoneVerdict}
use Rattle.tl_world.specs.declared.task.Task.{Task}
use Rattle.tl_space.specs.Spaces.{task_of}
use Rattle.tl_search.specs.NamedAnswers.{FaultIsNamed}
use Rattle.tl_terms.specs.ProblemMeaning.{plain_problem}
use Rattle.tl_run.proofs.NamedProofs.{none_path_is_named, verdict_is_named}
use Rattle.tl_run.proofs.commands.check_none.space_reply.Goals as goal

pub verdict_reply-requires-clause-right : goal.verdict_reply-requires-clause-right
verdict_reply-requires-clause-right c =
    let same : task_of c.args.space.now ≡ c.task.result.now = sym c.checked-answer.ensures.task ∙ sym c.task.ensures in
    subst (λ (t : Task). IsNoneVerdict (plain_problem t.problem) c.args.proof.now c.in-Ok.verdict) same c.in-Ok.ensures.verdict

pub verdict_reply-requires-clause-named : goal.verdict_reply-requires-clause-named
verdict_reply-requires-clause-named c =
    let task = c.task.result.now in
    let v = c.in-Ok.verdict in
    let same : task_of c.args.space.now ≡ task = sym c.checked-answer.ensures.task ∙ sym c.task.ensures in
    verdict_is_named c.step_is_by_its_conditions.ensures task c.args.proof.now v
    (subst (λ (t : Task). IsNoneVerdict (plain_problem t.problem) c.args.proof.now v) same c.in-Ok.ensures.verdict)
    (subst (λ (t : Task). VerdictIsNamed t v) same c.in-Ok.ensures.named)

pub fault_reply-requires-clause-cause : goal.fault_reply-requires-clause-cause
fault_reply-requires-clause-cause c =
    let same : task_of c.args.space.now ≡ c.task.result.now = sym c.checked-answer.ensures.task ∙ sym c.task.ensures in
    subst (λ (t : Task). IsNoneFault (plain_problem t.problem) c.args.proof.now c.in-Err.fault) same c.in-Err.ensures.fault

pub fault_reply-requires-clause-named : goal.fault_reply-requires-clause-named
fault_reply-requires-clause-named c =
    let task = c.task.result.now in
    let f = c.in-Err.fault in
    let same : task_of c.args.space.now ≡ task = sym c.checked-answer.ensures.task ∙ sym c.task.ensures in
    none_path_is_named c.step_is_by_its_conditions.ensures task c.args.proof.now f
    (subst (λ (t : Task). IsNoneFault (plain_problem t.problem) c.args.proof.now f) same c.in-Err.ensures.fault)
    (subst (λ (t : Task). FaultIsNamed t f) same c.in-Err.ensures.path_named)

use Rattle.std.proofs.Common.{◌≡◌, refl, sym, ◌∙◌, subst}
use Rattle.tl_world.specs.declared.task.Task.{Task}
use Rattle.tl_space.specs.Spaces.{kept_of, task_of}
use Rattle.tl_search.specs.NamedAnswers.{EventsAreNamed, FaultIsNamed, OutcomeIsNamed}
use Rattle.tl_terms.specs.ProblemMeaning.{plain_problem}
use Rattle.tl_run.specs.Searched.{IsSearchFault, IsTraceReport}
use Rattle.tl_run.proofs.NamedEvents.{lines_are_named}
use Rattle.tl_run.proofs.NamedPlans.{path_is_named}
use Rattle.tl_run.proofs.commands.prove_none.space_reply.Goals as goal

pub report_reply-requires-clause-right : goal.report_reply-requires-clause-right
report_reply-requires-clause-right c =
    let same : task_of c.args.space.now ≡ task_of c.searched.new.space = sym c.searched.ensures.task in
    subst (λ (t : Task). IsTraceReport c.args.search (plain_problem t.problem) (kept_of c.searched.new.space) c.in-Ok.report) same
    (c.in-Ok.ensures.trace refl)

pub report_reply-requires-clause-named : goal.report_reply-requires-clause-named
report_reply-requires-clause-named c =
    let task = task_of c.searched.new.space in
    let same : task_of c.args.space.now ≡ task = sym c.searched.ensures.task in
    lines_are_named c.step_is_by_its_conditions.ensures c.args.search task (kept_of c.searched.new.space) c.in-Ok.report
    (subst (λ (t : Task). IsTraceReport c.args.search (plain_problem t.problem) (kept_of c.searched.new.space) c.in-Ok.report) same
    (c.in-Ok.ensures.trace refl))
    (subst (λ (t : Task). EventsAreNamed t c.in-Ok.report.events) same c.in-Ok.ensures.events_named)
    (subst (λ (t : Task). OutcomeIsNamed t c.in-Ok.report.outcome) same c.in-Ok.ensures.named)

pub fault_reply-requires-clause-named : goal.fault_reply-requires-clause-named
fault_reply-requires-clause-named c =
    let task = c.task.result.now in
    let same : task_of c.args.space.now ≡ task = sym c.searched.ensures.task ∙ sym c.task.ensures in
    path_is_named c.step_is_by_its_conditions.ensures c.args.search task c.in-Err.fault
    (subst (λ (t : Task). IsSearchFault c.args.search (plain_problem t.problem) c.in-Err.fault) same c.in-Err.ensures.fault)
    (subst (λ (t : Task). FaultIsNamed t c.in-Err.fault) same c.in-Err.ensures.path_named)

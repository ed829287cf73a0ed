use Rattle.std.proofs.Common.{◌≡◌, ◌*◌, sym, ◌∙◌, subst}
use Rattle.tl_search.specs.KeptPairs.{pairs_of}
use Rattle.tl_search.specs.NamedAnswers.{OutcomeIsNamed, FaultIsNamed}
use Rattle.tl_search.specs.Spent.{AreNear}
use Rattle.tl_space.specs.Spaces.{kept_of, problem_of, task_of}
use Rattle.tl_terms.specs.ProblemMeaning.{plain_problem}
use Rattle.tl_world.specs.declared.task.Task.{Task}
use Rattle.tl_run.specs.declared.search.Search.{Search}
use Rattle.tl_run.specs.Plan.{IsOutcome}
use Rattle.tl_run.specs.Sample.{HasPrefixes, KeepsNodes, sample_search}
use Rattle.tl_run.specs.Searched.{IsSearchFault}
use Rattle.tl_run.proofs.NamedPlans.{path_is_named, plan_is_named}
use Rattle.tl_run.proofs.SamplePrefixes.{keeps_nodes}
use Rattle.tl_run.proofs.commands.sample.space_reply.Goals as goal

pub outcome_reply-requires-clause-right : goal.outcome_reply-requires-clause-right
outcome_reply-requires-clause-right c =
    let o = c.in-Ok.report.outcome in
    let same : task_of c.args.space.now ≡ c.task.result.now = sym c.searched.ensures.task ∙ sym c.task.ensures in
    subst (λ (t : Task). IsOutcome (sample_search c.args.balls) (plain_problem t.problem) o) same
    (subst (λ (s : Search). IsOutcome s (problem_of c.args.space.now) o) c.search_of-search.ensures.search c.in-Ok.ensures.outcome)

pub outcome_reply-requires-clause-keeps : goal.outcome_reply-requires-clause-keeps
outcome_reply-requires-clause-keeps c =
    let o = c.in-Ok.report.outcome in
    let space = c.searched.new.space in
    let within = subst (λ (s : Search). AreNear (problem_of c.args.space.now) s.within (pairs_of (kept_of space)))
    c.search_of-search.ensures.search c.in-Ok.ensures.near in
    let near = subst (λ (t : Task). AreNear (plain_problem t.problem) (3 * c.args.balls) (pairs_of (kept_of space)))
    (sym c.searched.ensures.task) within in
    let prefixes = subst (λ (t : Task). HasPrefixes (plain_problem t.problem) (pairs_of (kept_of space)) o)
    (sym c.searched.ensures.task) c.in-Ok.ensures.prefixes in
    subst (λ (t : Task). KeepsNodes (plain_problem t.problem) (3 * c.args.balls) o c.kept.result) (sym c.task.ensures)
    (keeps_nodes (problem_of space) (3 * c.args.balls) (kept_of space) o c.kept.result c.kept.ensures.count near prefixes)

pub outcome_reply-requires-clause-named : goal.outcome_reply-requires-clause-named
outcome_reply-requires-clause-named c =
    let task = c.task.result.now in
    let o = c.in-Ok.report.outcome in
    let same : task_of c.args.space.now ≡ task = sym c.searched.ensures.task ∙ sym c.task.ensures in
    plan_is_named c.step_is_by_its_conditions.ensures c.search_of-search.result task o
    (subst (λ (t : Task). IsOutcome c.search_of-search.result (plain_problem t.problem) o) same c.in-Ok.ensures.outcome)
    (subst (λ (t : Task). OutcomeIsNamed t o) same c.in-Ok.ensures.named)

pub fault_reply-requires-clause-named : goal.fault_reply-requires-clause-named
fault_reply-requires-clause-named c =
    let task = c.task-in-Err.result.now in
    let f = c.in-Err.fault in
    let same : task_of c.args.space.now ≡ task = sym c.searched.ensures.task ∙ sym c.task-in-Err.ensures in
    path_is_named c.step_is_by_its_conditions.ensures c.search_of-search.result task f
    (subst (λ (t : Task). IsSearchFault c.search_of-search.result (plain_problem t.problem) f) same c.in-Err.ensures.fault)
    (subst (λ (t : Task). FaultIsNamed t f) same c.in-Err.ensures.path_named)

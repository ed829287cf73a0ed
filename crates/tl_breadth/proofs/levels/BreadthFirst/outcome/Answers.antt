use Rattle.tl_search.proofs.FaultLaws.{root-of-pair}
use Rattle.tl_breadth.specs.Events.{Ticks}
use Rattle.tl_breadth.proofs.Growing.{err-map}
use Rattle.tl_search.specs.NamedAnswers.{OutcomeIsNamed, FaultIsNamed, EventsAreNamed}
use Rattle.tl_search.proofs.NamedLaws.{events-named}
use Rattle.tl_search.proofs.HistoryLaws.{ends-at-root}
use Rattle.std.proofs.Common.{ℕ, [], Some, Ok, IfOk, IfErr, OnOk, sym, ap, ◌∙◌, subst}
use Rattle.tl_breadth.specs.Outcomes.{IsBreadthFirstOutcome, AwaitsJudgement}
use Rattle.tl_search.specs.declared.event.Event.TheVariants as event
use Rattle.tl_search.specs.Events.{events_after}
use Rattle.tl_breadth.specs.Events.{IsReported, HasReported, EndsWithPath}
use Rattle.tl_breadth.proofs.Growing.{ok-at}
use Rattle.tl_breadth.proofs.Reporting.{ended, ends-at-last, report-root, report-no-root}
use Rattle.tl_breadth.proofs.Expanding.{root-awaits, root-not-seen, root-pruned, root-fault}
use Rattle.tl_breadth.proofs.levels.BreadthFirst.outcome.Goals as goal

pub outcome_at-requires : goal.outcome_at-requires
outcome_at-requires g c = subst (λ p. AwaitsJudgement p c.args.self.now.within c.args.self.now.nodes
    (g.S.SearchSpace.kept c.root.new.self) c.in-Ok-Fresh.k) (sym c.root.ensures.same.problem)
    (root-awaits _ _ _ _ (g.S.SearchSpace.kept c.root.new.self) c.in-Ok-Fresh.k c.requires.empty
    (rw c.in-Ok-Fresh.field-0-is at c.in-Ok-Fresh.ensures.arrival) c.requires.nodes)

pub returns-in-Some-clause-outcome : goal.returns-in-Some-clause-outcome
returns-in-Some-clause-outcome g c =
    subst (λ xs. IsBreadthFirstOutcome (g.S.SearchSpace.problem c.args.space.now) c.args.self.now.within c.args.self.now.nodes xs
    c.in-Some.outcome) (sym c.outcome_at.ensures.kept)
    (subst (λ p. IsBreadthFirstOutcome p c.args.self.now.within c.args.self.now.nodes
    (g.S.SearchSpace.kept c.root.new.self) c.in-Some.outcome) c.root.ensures.same.problem
    (rw c.in-Some.is at c.in_ok-outcome-in-Ok-Fresh.ensures.outcome))

pub returns-in-Ok-Pruned-clause-outcome : goal.returns-in-Ok-Pruned-clause-outcome
returns-in-Ok-Pruned-clause-outcome g c = root-pruned _ c.args.self.now.within _ _ _ c.requires.empty
    (rw c.in-Ok-Pruned.field-0-is at c.in-Ok-Pruned.ensures.arrival)

pub returns-clause-outcome : goal.returns-clause-outcome
returns-clause-outcome g c =
    subst (λ p. IfOk c.all_levels.result (IsBreadthFirstOutcome p c.args.self.now.within c.args.self.now.nodes
    (g.S.SearchSpace.kept c.all_levels.new.space))) (c.outcome_at.ensures.same.problem ∙ c.root.ensures.same.problem)
    c.all_levels.ensures.outcome

pub returns-in-Some-clause-reported : goal.returns-in-Some-clause-reported
returns-in-Some-clause-reported g c =
    let p = g.S.SearchSpace.problem c.args.space.now in
    let later = c.report_root.new.events in
    ended p c.args.self.now.within c.args.self.now.watch c.args.steps.now
    (g.S.SearchSpace.kept c.outcome_at.new.space) later c.args.steps.now c.in-Some.outcome
    (rw c.in-Some.is at c.in_ok-outcome-in-Ok-Fresh.ensures.early) (
      0,
      [],
      subst (λ xs. IsReported p c.args.self.now.within c.args.self.now.watch c.args.steps.now xs 0 [] later c.args.steps.now)
          (sym c.outcome_at.ensures.kept)
          (report-root p c.args.self.now.within c.args.self.now.watch c.args.steps.now _
          (g.S.SearchSpace.kept c.root.new.self) c.in-Ok-Fresh.k later c.requires.empty
          (rw c.in-Ok-Fresh.field-0-is at c.in-Ok-Fresh.ensures.arrival)
          (c.in_ok-report_root-in-Ok-Fresh.ensures ∙ ap (λ es. events_after c.args.self.now.watch es event.RootKept)
          c.requires.events)),
    )

pub returns-in-Ok-Pruned-clause-reported : goal.returns-in-Ok-Pruned-clause-reported
returns-in-Ok-Pruned-clause-reported g c =
    report-no-root (g.S.SearchSpace.problem c.args.space.now) c.args.self.now.within c.args.self.now.watch c.args.steps.now _
    (g.S.SearchSpace.kept c.root.new.self) c.report_root-in-Ok-Pruned.new.events c.requires.empty
    (rw c.in-Ok-Pruned.field-0-is at c.in-Ok-Pruned.ensures.arrival)
    (c.in_ok-report_root-in-Ok-Pruned.ensures ∙ ap (λ es. events_after c.args.self.now.watch es event.RootPruned) c.requires.events)

pub returns-clause-reported : goal.returns-clause-reported
returns-clause-reported g c =
    let p = g.S.SearchSpace.problem c.args.space.now in
    let n = c.args.self.now.within in
    let w = c.args.self.now.watch in
    let kept = g.S.SearchSpace.kept c.outcome_at.new.space in
    let new = g.S.SearchSpace.kept c.all_levels.new.space in
    let later = c.report_root.new.events in
    let from = c.args.steps.now in
    ok-at c.all_levels.result (λ k. IsReported p n w k kept 0 [] later from)
    (λ k. HasReported p n w k new c.all_levels.new.events c.all_levels.new.steps) from
    (subst (λ xs. IsReported p n w from xs 0 [] later from) (sym c.outcome_at.ensures.kept)
    (report-root p n w from _ (g.S.SearchSpace.kept c.root.new.self) c.in-Ok-Fresh.k later c.requires.empty
    (rw c.in-Ok-Fresh.field-0-is at c.in-Ok-Fresh.ensures.arrival)
    (c.in_ok-report_root-in-Ok-Fresh.ensures ∙ ap (λ es. events_after w es event.RootKept) c.requires.events)))
    (subst (λ q. IfOk c.all_levels.result (λ o. (k : ℕ) → IsReported q n w k kept 0 [] later from →
    HasReported q n w k new c.all_levels.new.events c.all_levels.new.steps o))
    (c.outcome_at.ensures.same.problem ∙ c.root.ensures.same.problem) c.all_levels.ensures.reported)

pub returns-in-Some-clause-ends : goal.returns-in-Some-clause-ends
returns-in-Some-clause-ends g c =
    let later = c.report_root.new.events in
    let new = g.S.SearchSpace.kept c.root.new.self in
    let w = c.args.self.now.watch in
    subst (λ xs. EndsWithPath w xs later c.in-Some.outcome) (sym c.outcome_at.ensures.kept)
    (ends-at-last {E = ℕ} w new later (Ok (Some c.in-Some.outcome)) (rw c.in-Some.is at c.in_ok-outcome-in-Ok-Fresh.ensures.early)
    (rw c.in-Some.is at c.in_ok-outcome-in-Ok-Fresh.ensures.last) (ends-at-root
    (g.S.SearchSpace.problem c.args.space.now) w _ new c.in-Ok-Fresh.k later c.requires.empty
    (rw c.in-Ok-Fresh.field-0-is at c.in-Ok-Fresh.ensures.arrival)
    (c.in_ok-report_root-in-Ok-Fresh.ensures ∙ ap (λ es. events_after w es event.RootKept) c.requires.events)))

pub returns-clause-ticked : goal.returns-clause-ticked
returns-clause-ticked g c =
    let n = c.args.self.now.within in
    let w = c.args.self.now.watch in
    let kept = g.S.SearchSpace.kept c.outcome_at.new.space in
    let new = g.S.SearchSpace.kept c.all_levels.new.space in
    let later = c.report_root.new.events in
    let from = c.args.steps.now in
    err-map _ _ c.all_levels.result
    (λ t. subst (λ q. Ticks q n w kept new 0 later from c.all_levels.new.steps)
    (c.outcome_at.ensures.same.problem ∙ c.root.ensures.same.problem) t from
    (subst (λ xs. IsReported (g.S.SearchSpace.problem c.args.space.now) n w from xs 0 [] later from) (sym c.outcome_at.ensures.kept)
    (report-root (g.S.SearchSpace.problem c.args.space.now) n w from _
    (g.S.SearchSpace.kept c.root.new.self) c.in-Ok-Fresh.k later c.requires.empty
    (rw c.in-Ok-Fresh.field-0-is at c.in-Ok-Fresh.ensures.arrival)
    (c.in_ok-report_root-in-Ok-Fresh.ensures ∙ ap (λ es. events_after w es event.RootKept) c.requires.events))))
    c.all_levels.ensures.ticked

pub unreachable-requires : goal.unreachable-requires
unreachable-requires g c = root-not-seen _ _ _ _ c.requires.empty (rw c.in-Ok-Seen.field-0-is at c.in-Ok-Seen.ensures.arrival)

pub all_levels-requires-clause-events : goal.all_levels-requires-clause-events
all_levels-requires-clause-events g c = events-named (g.S.SearchSpace.task c.outcome_at.new.space) c.args.self.now.watch []
    c.report_root.new.events event.RootKept tt tt (c.in_ok-report_root-in-Ok-Fresh.ensures ∙
    ap (λ es. events_after c.args.self.now.watch es event.RootKept) c.requires.events)

pub returns-in-Some-clause-plan_named : goal.returns-in-Some-clause-plan_named
returns-in-Some-clause-plan_named g c = subst (λ t. OutcomeIsNamed t c.in-Some.outcome) c.root.ensures.same.task
    (rw c.in-Some.is at c.in_ok-outcome-in-Ok-Fresh.ensures.plan_named)

pub returns-in-Some-clause-events_named : goal.returns-in-Some-clause-events_named
returns-in-Some-clause-events_named g c = events-named (g.S.SearchSpace.task c.args.space.now) c.args.self.now.watch []
    c.report_root.new.events event.RootKept tt tt (c.in_ok-report_root-in-Ok-Fresh.ensures ∙
    ap (λ es. events_after c.args.self.now.watch es event.RootKept) c.requires.events)

pub returns-in-Ok-Pruned-clause-events_named : goal.returns-in-Ok-Pruned-clause-events_named
returns-in-Ok-Pruned-clause-events_named g c = events-named (g.S.SearchSpace.task c.args.space.now) c.args.self.now.watch []
    c.report_root-in-Ok-Pruned.new.events event.RootPruned tt tt (c.in_ok-report_root-in-Ok-Pruned.ensures ∙
    ap (λ es. events_after c.args.self.now.watch es event.RootPruned) c.requires.events)

pub returns-clause-plan_named : goal.returns-clause-plan_named
returns-clause-plan_named g c = subst (λ t. IfOk c.all_levels.result (OutcomeIsNamed t))
    (c.outcome_at.ensures.same.task ∙ c.root.ensures.same.task) c.all_levels.ensures.plan_named

pub returns-clause-path_named : goal.returns-clause-path_named
returns-clause-path_named g c = subst (λ t. IfErr c.all_levels.result (FaultIsNamed t))
    (c.outcome_at.ensures.same.task ∙ c.root.ensures.same.task) c.all_levels.ensures.path_named

pub returns-clause-events_named : goal.returns-clause-events_named
returns-clause-events_named g c = subst (λ t. OnOk c.all_levels.result (EventsAreNamed t c.all_levels.new.events))
    (c.outcome_at.ensures.same.task ∙ c.root.ensures.same.task) c.all_levels.ensures.events_named

pub root_fault-requires : goal.root_fault-requires
root_fault-requires g c = root-of-pair _ c.in-Err.fault c.in-Err.ensures.cause

pub returns-in-Err-clause-fault : goal.returns-in-Err-clause-fault
returns-in-Err-clause-fault g c = root-fault _ c.args.self.now.within c.in-Err.fault c.root_fault.result c.root_fault.ensures.fault
    c.in-Err.ensures.cause

pub returns-in-Err-clause-path_named : goal.returns-in-Err-clause-path_named
returns-in-Err-clause-path_named g c = c.root_fault.ensures.named (g.S.SearchSpace.task c.args.space.now)

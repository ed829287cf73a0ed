use Rattle.std.proofs.Common.{◌≡◌, ◌+◌, length, Some, None, sym, ◌∙◌, subst, arith}
use Rattle.std.proofs.lemmas.Option.{slice_get_within}
use Rattle.tl_search.specs.NamedAnswers.{OutcomeIsNamed, EventsAreNamed}
use Rattle.tl_breadth.specs.Outcomes.{IsBreadthFirstOutcome, IsAtLevel, HasLevels}
use Rattle.tl_breadth.specs.Events.{ReportsTurn}
use Rattle.tl_breadth.proofs.Reporting.{ended, all-arrivals, arrivals-of-levels}
use Rattle.tl_breadth.proofs.Expanding.{end-none, end-far}
use Rattle.tl_search.proofs.SameTaskLaws.{same-task, same-task-after}
use Rattle.tl_breadth.proofs.levels.BreadthFirst.all_levels.Goals as goal

pub expand_level-requires-clause-start : goal.expand_level-requires-clause-start
expand_level-requires-clause-start g c = omega (arith, c.loop-depth.invariant.level.here, c.count-end.ensures.count)

pub returns-in-Some-clause-outcome : goal.returns-in-Some-clause-outcome
returns-in-Some-clause-outcome g c =
    subst (λ p. IsBreadthFirstOutcome p c.args.self.now.within c.args.self.now.nodes
    (g.S.SearchSpace.kept c.expand_level.new.space) c.in-Some.outcome) c.loop-depth.invariant.same.problem
    (rw c.in-Some.is at c.in_ok-outcome.ensures.outcome)

pub returns-then-at-count-clause-outcome : goal.returns-then-at-count-clause-outcome
returns-then-at-count-clause-outcome g c =
    let i = c.loop-depth.invariant in
    end-none _ _ _ _ _ i.level.searching (c.if-at-count.true ∙ c.count.ensures.count)

pub returns-else-at-count-clause-outcome : goal.returns-else-at-count-clause-outcome
returns-else-at-count-clause-outcome g c =
    let i = c.loop-depth.invariant in
    let same : c.loop-depth.depth ≡ c.args.self.now.within = omega (arith, c.loop-depth-test.false, c.loop-depth.auto.depth-end) in
    end-far _ _ _ _ c.loop-depth.at (subst (λ d. IsAtLevel (g.S.SearchSpace.problem c.args.space.now) c.args.self.now.within
    c.args.self.now.nodes (g.S.SearchSpace.kept c.loop-depth.space) c.loop-depth.at
    (length (g.S.SearchSpace.kept c.loop-depth.space)) d) same i.level)
    (omega (arith, i.level.here, c.if-at-count.false, c.count.ensures.count))

pub loop-depth-preserved : goal.loop-depth-preserved
loop-depth-preserved g c =
    let i = c.loop-depth.invariant in
    let new = g.S.SearchSpace.kept c.expand_level.new.space in
    record {
      same = same-task-after c.expand_level.ensures.same i.same;
      events_named = subst (λ t. EventsAreNamed t c.expand_level.new.events) i.same.task c.in_ok-outcome.ensures.events_named;
      level = subst (λ p. IsAtLevel p c.args.self.now.within c.args.self.now.nodes new c.count-end.result (length new)
          (c.loop-depth.depth + 1)) i.same.problem (rw c.in-None.is at c.in_ok-outcome.ensures.outcome);
      reported = λ from h. (subst (λ p. ReportsTurn p c.args.self.now.within c.args.self.now.watch (g.S.SearchSpace.kept c.loop-depth.space)
          (g.S.SearchSpace.kept c.expand_level.new.space) c.loop-depth.at c.count-end.result c.loop-depth.events c.expand_level.new.events
          c.loop-depth.steps c.expand_level.new.steps None) c.loop-depth.invariant.same.problem
          (rw c.in-None.is at c.in_ok-outcome.ensures.reported)) from (c.loop-depth.invariant.reported from h);
    }

pub returns-in-Some-clause-reported : goal.returns-in-Some-clause-reported
returns-in-Some-clause-reported g c from h = ended _ _ _ _ _ _ _ c.in-Some.outcome (rw c.in-Some.is at c.in_ok-outcome.ensures.early)
    ((subst (λ p. ReportsTurn p c.args.self.now.within c.args.self.now.watch (g.S.SearchSpace.kept c.loop-depth.space)
    (g.S.SearchSpace.kept c.expand_level.new.space) c.loop-depth.at c.count-end.result c.loop-depth.events c.expand_level.new.events
    c.loop-depth.steps c.expand_level.new.steps (Some c.in-Some.outcome)) c.loop-depth.invariant.same.problem
    (rw c.in-Some.is at c.in_ok-outcome.ensures.reported)) from (c.loop-depth.invariant.reported from h))

pub returns-then-at-count-clause-reported : goal.returns-then-at-count-clause-reported
returns-then-at-count-clause-reported g c from h = let s = c.loop-depth.invariant.reported from h in (
  c.loop-depth.at,
  s,
  all-arrivals _ _ _ from (g.S.SearchSpace.kept c.loop-depth.space) c.loop-depth.at _ _
      (λ i x e near. let b : ⊥ = omega (
        arith,
        slice_get_within (g.S.SearchSpace.kept c.loop-depth.space) i x e,
        c.if-at-count.true,
        c.count.ensures.count,
      ) in absurd b) s,
)

pub returns-else-at-count-clause-reported : goal.returns-else-at-count-clause-reported
returns-else-at-count-clause-reported g c from h = let s = c.loop-depth.invariant.reported from h in (
  c.loop-depth.at,
  s,
  arrivals-of-levels _ _ _ from (g.S.SearchSpace.kept c.loop-depth.space) c.loop-depth.at _ _
      (subst (λ d. HasLevels (g.S.SearchSpace.kept c.loop-depth.space) c.loop-depth.at (length (g.S.SearchSpace.kept c.loop-depth.space)) d)
      (let same : c.loop-depth.depth ≡ c.args.self.now.within = omega (arith, c.loop-depth-test.false, c.loop-depth.auto.depth-end) in same)
      c.loop-depth.invariant.level.levels) s,
)

pub returns-in-Some-clause-plan_named : goal.returns-in-Some-clause-plan_named
returns-in-Some-clause-plan_named g c = subst (λ t. OutcomeIsNamed t c.in-Some.outcome) c.loop-depth.invariant.same.task
    (rw c.in-Some.is at c.in_ok-outcome.ensures.plan_named)

pub returns-in-Some-clause-events_named : goal.returns-in-Some-clause-events_named
returns-in-Some-clause-events_named g c = subst (λ t. EventsAreNamed t c.expand_level.new.events) c.loop-depth.invariant.same.task
    c.in_ok-outcome.ensures.events_named

pub expand_level-requires-clause-events : goal.expand_level-requires-clause-events
expand_level-requires-clause-events g c = subst (λ t. EventsAreNamed t c.loop-depth.events)
    (sym c.loop-depth.invariant.same.task) c.loop-depth.invariant.events_named

pub loop-depth-init : goal.loop-depth-init
loop-depth-init g c = record {
  same = same-task;
  events_named = c.requires.events;
  level = c.requires.level;
  reported = λ from h.
      h;
}

pub expand_level-requires-clause-level : goal.expand_level-requires-clause-level
expand_level-requires-clause-level g c =
    let i = c.loop-depth.invariant in
    let kept = g.S.SearchSpace.kept c.loop-depth.space in
    let p = g.S.SearchSpace.problem c.loop-depth.space in
    subst (λ m. IsAtLevel p c.args.self.now.within c.args.self.now.nodes kept c.loop-depth.at m c.loop-depth.depth)
    (sym c.count-end.ensures.count)
    (subst (λ q. IsAtLevel q c.args.self.now.within c.args.self.now.nodes kept c.loop-depth.at (length kept) c.loop-depth.depth)
    (sym i.same.problem) i.level)

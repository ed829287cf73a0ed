use Rattle.std.proofs.Common.{◌≡◌, ◌+◌, [], length, Some, None, sym, subst, arith}
use Rattle.tl_search.specs.NamedAnswers.{OutcomeIsNamed, EventsAreNamed}
use Rattle.tl_breadth.specs.Outcomes.{IsBreadthFirstOutcome, IsReady, IsAtLevel, IsSearching}
use Rattle.tl_breadth.specs.Events.{IsReported, ReportsTurn}
use Rattle.tl_breadth.proofs.Expanding.{level-ready, level-on, level-next}
use Rattle.tl_search.proofs.SameTaskLaws.{same-task-after}
use Rattle.tl_breadth.proofs.levels.BreadthFirst.expand_level.Goals as goal

pub expand-requires : goal.expand-requires
expand-requires g c =
    let i = c.loop-at.invariant in
    record {
      events = subst (λ t. EventsAreNamed t c.loop-at.events) (sym i.same.task) i.events_named;
      ready =
          subst (λ p. IsReady p c.args.self.now.within c.args.self.now.nodes (g.S.SearchSpace.kept c.loop-at.space) c.loop-at.at)
          (sym i.same.problem) (level-ready _ _ _ _ _ c.args.level.end c.args.level.depth i.level c.loop-at-test.true c.requires.depth);
    }

pub returns-in-Some-clause-outcome : goal.returns-in-Some-clause-outcome
returns-in-Some-clause-outcome g c =
    subst (λ p. IsBreadthFirstOutcome p c.args.self.now.within c.args.self.now.nodes
    (g.S.SearchSpace.kept c.expand.new.space) c.in-Some.outcome) c.loop-at.invariant.same.problem
    (rw c.in-Some.is at c.in_ok-outcome.ensures.outcome)

pub loop-at-preserved : goal.loop-at-preserved
loop-at-preserved g c =
    let i = c.loop-at.invariant in
    let new = g.S.SearchSpace.kept c.expand.new.space in
    record {
      same = same-task-after c.expand.ensures.same i.same;
      events_named = subst (λ t. EventsAreNamed t c.expand.new.events) i.same.task c.in_ok-outcome.ensures.events_named;
      level = level-on _ _ _ (g.S.SearchSpace.kept c.loop-at.space) new c.loop-at.at _ _ i.level c.loop-at-test.true
          c.in_ok-outcome.ensures.grows
          (subst (λ p. IsSearching p c.args.self.now.within c.args.self.now.nodes new (c.loop-at.at + 1) []) i.same.problem
          (rw c.in-None.is at c.in_ok-outcome.ensures.outcome));
      inside = omega (arith, c.loop-at-test.true);
      reported = λ from h. (subst (λ p. ReportsTurn p c.args.self.now.within c.args.self.now.watch (g.S.SearchSpace.kept c.loop-at.space)
          (g.S.SearchSpace.kept c.expand.new.space) c.loop-at.at (c.loop-at.at + 1) c.loop-at.events c.expand.new.events c.loop-at.steps
          c.expand.new.steps None) c.loop-at.invariant.same.problem (rw c.in-None.is at c.in_ok-outcome.ensures.reported)) from
          (c.loop-at.invariant.reported from h);
    }

pub returns-clause-outcome : goal.returns-clause-outcome
returns-clause-outcome g c =
    let i = c.loop-at.invariant in
    let same : c.loop-at.at ≡ c.args.level.end = omega (arith, c.loop-at-test.false, i.inside) in
    subst (λ k. IsAtLevel (g.S.SearchSpace.problem c.args.space.now) c.args.self.now.within c.args.self.now.nodes
    (g.S.SearchSpace.kept c.loop-at.space) k (length (g.S.SearchSpace.kept c.loop-at.space)) (c.args.level.depth + 1)) same
    (level-next _ _ _ _ _ _ _ i.level c.loop-at-test.false)

pub returns-in-Some-clause-reported : goal.returns-in-Some-clause-reported
returns-in-Some-clause-reported g c from h = (subst (λ p. ReportsTurn p c.args.self.now.within c.args.self.now.watch
    (g.S.SearchSpace.kept c.loop-at.space) (g.S.SearchSpace.kept c.expand.new.space) c.loop-at.at
    (c.loop-at.at + 1) c.loop-at.events c.expand.new.events c.loop-at.steps c.expand.new.steps (Some c.in-Some.outcome))
    c.loop-at.invariant.same.problem (rw c.in-Some.is at c.in_ok-outcome.ensures.reported)) from (c.loop-at.invariant.reported from h)

pub returns-clause-reported : goal.returns-clause-reported
returns-clause-reported g c from h =
    let i = c.loop-at.invariant in
    let same : c.loop-at.at ≡ c.args.level.end = omega (arith, c.loop-at-test.false, i.inside) in
    subst (λ k. IsReported (g.S.SearchSpace.problem c.args.space.now) c.args.self.now.within c.args.self.now.watch from
    (g.S.SearchSpace.kept c.loop-at.space) k [] c.loop-at.events c.loop-at.steps) same (i.reported from h)

pub returns-in-Some-clause-plan_named : goal.returns-in-Some-clause-plan_named
returns-in-Some-clause-plan_named g c = subst (λ t. OutcomeIsNamed t c.in-Some.outcome) c.loop-at.invariant.same.task
    (rw c.in-Some.is at c.in_ok-outcome.ensures.plan_named)

pub returns-in-Some-clause-events_named : goal.returns-in-Some-clause-events_named
returns-in-Some-clause-events_named g c = subst (λ t. EventsAreNamed t c.expand.new.events) c.loop-at.invariant.same.task
    c.in_ok-outcome.ensures.events_named

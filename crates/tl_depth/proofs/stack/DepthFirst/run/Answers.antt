use Rattle.tl_search.specs.NamedAnswers.{OutcomeIsNamed, EventsAreNamed}
use Rattle.tl_depth.specs.NamedStacks.{SearchIsNamed}
use Rattle.tl_depth.proofs.Ending.{none-calls}
use Rattle.std.proofs.Common.{refl, subst}
use Rattle.tl_search.specs.Ends.{Ends, EndsIfAny}
use Rattle.tl_depth.proofs.Histories.{as-history}
use Rattle.tl_depth.proofs.Remembering.{as-remembered}
use Rattle.std.proofs.Common.{sym, ◌∙◌, arith}
use Rattle.tl_depth.proofs.Ending.{turned-some, turned-none, begun-none, as-outcome, as-few, as-ongoing, as-told, few-made}
use Rattle.tl_search.proofs.SameTaskLaws.{same-task-after}
use Rattle.tl_depth.proofs.stack.DepthFirst.run.Goals as goal

pub returns-in-Some-2-clause-outcome : goal.returns-in-Some-2-clause-outcome
returns-in-Some-2-clause-outcome g c =
    let i = c.turns.invariant in
    let s = turned-some _ _ _ c.turns.self c.turn.new.self _ _ _ _ _ (c.in_ok-outcome-2.ensures.turned i.ongoing.0 i.ongoing.1)
    c.in-Some-2.is in
    as-outcome _ _ _ _ _ _ _ i.same.problem i.within s.2

pub returns-in-Some-2-clause-calls : goal.returns-in-Some-2-clause-calls
returns-in-Some-2-clause-calls g c =
    let i = c.turns.invariant in
    let s = turned-some _ _ _ c.turns.self c.turn.new.self _ _ _ _ _ (c.in_ok-outcome-2.ensures.turned i.ongoing.0 i.ongoing.1)
    c.in-Some-2.is in
    (s.0, omega (arith, s.1, i.ongoing.2), as-few _ _ _ _ _ _ i.same.problem i.within s.3)

pub turns-init : goal.turns-init
turns-init g c =
    let b = begun-none _ _ _ c.args.self.now c.begin.new.self _ c.in_ok-outcome.ensures.begun c.in-None.is in
    record {
      same = c.begin.ensures.same;
      named = subst (λ t. SearchIsNamed t c.begin.new.self)
          (sym c.begin.ensures.same.task) c.in_ok-outcome.ensures.named;
      remembered =
          as-remembered (sym c.begin.ensures.same.problem) (sym c.begin.ensures.same.task) c.in_ok-outcome.ensures.remembered;
      within = b.1;
      watch = b.2;
      history = as-history _ _ _ _ _ _ _ _ (sym c.begin.ensures.same.problem)
          (sym b.2) refl refl c.in_ok-outcome.ensures.history;
      ongoing =
          (0, as-ongoing _ _ _ _ _ _ (sym c.begin.ensures.same.problem) b.0, omega arith);
    }

pub turns-smaller : goal.turns-smaller
turns-smaller g c =
    let i = c.turns.invariant in
    let s = turned-none _ _ _ c.turns.self c.turn.new.self _ _ _ _ (c.in_ok-outcome-2.ensures.turned i.ongoing.0 i.ongoing.1) c.in-None-2.is
    in
    s.3

pub turns-preserved : goal.turns-preserved
turns-preserved g c =
    let i = c.turns.invariant in
    let s = turned-none _ _ _ c.turns.self c.turn.new.self _ _ _ _ (c.in_ok-outcome-2.ensures.turned i.ongoing.0 i.ongoing.1) c.in-None-2.is
    in
    record {
      same = same-task-after c.turn.ensures.same i.same;
      named = subst (λ t. SearchIsNamed t c.turn.new.self) (sym c.turn.ensures.same.task) c.in_ok-outcome-2.ensures.named;
      remembered = as-remembered (sym c.turn.ensures.same.problem) (sym c.turn.ensures.same.task) c.in_ok-outcome-2.ensures.remembered;
      within = s.4 ∙ i.within;
      watch = s.5 ∙ i.watch;
      history = as-history _ _ _ _ _ _ _ _ (sym c.turn.ensures.same.problem) (sym s.5) refl refl
          (c.in_ok-outcome-2.ensures.history i.history);
      ongoing = (s.0, as-ongoing _ _ _ _ _ _ (sym c.turn.ensures.same.problem) s.2, omega (arith, s.1, i.ongoing.2));
    }

pub returns-clause-outcome : goal.returns-clause-outcome
returns-clause-outcome g c = let i = c.turns.invariant in as-outcome _ _ _ _ _ _ _ i.same.problem i.within c.none.ensures.outcome

pub returns-clause-calls : goal.returns-clause-calls
returns-clause-calls g c = let i = c.turns.invariant in (
  i.ongoing.0,
  i.ongoing.2,
  as-few _ _ _ _ _ _ i.same.problem i.within (few-made _ _ _ _ _ i.ongoing.1),
)

pub returns-in-Some-2-clause-told : goal.returns-in-Some-2-clause-told
returns-in-Some-2-clause-told g c =
    let i = c.turns.invariant in
    let s = turned-some _ _ _ c.turns.self c.turn.new.self _ _ _ _ _ (c.in_ok-outcome-2.ensures.turned i.ongoing.0 i.ongoing.1)
    c.in-Some-2.is in
    as-told _ _ _ _ _ _ _ _ _ i.same.problem i.within i.watch s.4

pub returns-clause-told : goal.returns-clause-told
returns-clause-told g c = let i = c.turns.invariant in as-told _ _ _ _ _ _ _ _ _ i.same.problem i.within i.watch c.none.ensures.told

pub returns-in-Some-2-clause-history : goal.returns-in-Some-2-clause-history
returns-in-Some-2-clause-history g c = let i = c.turns.invariant in as-history _ _ _ _ _ _ _ _ i.same.problem i.watch refl refl
    (c.in_ok-outcome-2.ensures.history i.history)

pub returns-clause-history : goal.returns-clause-history
returns-clause-history g c = let i = c.turns.invariant in as-history _ _ _ _ _ _ _ _ i.same.problem i.watch refl refl i.history

pub returns-in-Some-clause-ends : goal.returns-in-Some-clause-ends
returns-in-Some-clause-ends g c = subst (EndsIfAny c.args.self.now.watch (g.S.SearchSpace.kept c.begin.new.space) c.begin.new.self.events)
    c.in-Some.is c.in_ok-outcome.ensures.ends

pub returns-in-Some-2-clause-ends : goal.returns-in-Some-2-clause-ends
returns-in-Some-2-clause-ends g c =
    let i = c.turns.invariant in
    subst (λ b. Ends b (g.S.SearchSpace.kept c.turn.new.space) c.turn.new.self.events c.in-Some-2.outcome) i.watch
    (subst (EndsIfAny c.turns.self.watch (g.S.SearchSpace.kept c.turn.new.space) c.turn.new.self.events) c.in-Some-2.is
    c.in_ok-outcome-2.ensures.ends)

pub returns-clause-ends : goal.returns-clause-ends
returns-clause-ends g c = c.none.ensures.ends c.args.self.now.watch (g.S.SearchSpace.kept c.turns.space) c.turns.self.events

pub returns-in_err-outcome-clause-calls : goal.returns-in_err-outcome-clause-calls
returns-in_err-outcome-clause-calls g c = (0, omega arith, none-calls _ _ _)

pub returns-in_err-outcome-2-clause-calls : goal.returns-in_err-outcome-2-clause-calls
returns-in_err-outcome-2-clause-calls g c =
    let i = c.turns.invariant in
    let t = c.turn.ensures.calls i.ongoing.0 i.ongoing.1 in
    (t.0, omega (arith, t.1, i.ongoing.2), as-few _ _ _ _ _ _ i.same.problem i.within t.2)

pub returns-in-Some-clause-events_named : goal.returns-in-Some-clause-events_named
returns-in-Some-clause-events_named g c = c.in_ok-outcome.ensures.named.events

pub returns-in-Some-clause-plan_named : goal.returns-in-Some-clause-plan_named
returns-in-Some-clause-plan_named g c = rw c.in-Some.is at c.in_ok-outcome.ensures.plan_named

pub returns-in-Some-2-clause-events_named : goal.returns-in-Some-2-clause-events_named
returns-in-Some-2-clause-events_named g c = subst (λ t. EventsAreNamed t c.turn.new.self.events) c.turns.invariant.same.task
    c.in_ok-outcome-2.ensures.named.events

pub returns-in-Some-2-clause-plan_named : goal.returns-in-Some-2-clause-plan_named
returns-in-Some-2-clause-plan_named g c = subst (λ t. OutcomeIsNamed t c.in-Some-2.outcome) c.turns.invariant.same.task
    (rw c.in-Some-2.is at c.in_ok-outcome-2.ensures.plan_named)

pub returns-clause-events_named : goal.returns-clause-events_named
returns-clause-events_named g c = subst (λ t. EventsAreNamed t c.turns.self.events) c.turns.invariant.same.task
    c.turns.invariant.named.events

pub returns-clause-plan_named : goal.returns-clause-plan_named
returns-clause-plan_named g c = c.none.ensures.named (g.S.SearchSpace.task c.args.space.now)

use Rattle.tl_breadth.proofs.Growing.{err-anyway}
use Rattle.tl_breadth.specs.Events.{TicksArrival, Ticks}
use Rattle.std.proofs.Common.{◌≡◌, ◌+◌, [], take, slice_get, Some, refl, sym, subst}
use Rattle.std.proofs.lemmas.Option.{slice_get_read}
use Rattle.tl_syntax.proofs.ListLaws.{Each-Among}
use Rattle.tl_search.specs.Calls.{AreNamedIn}
use Rattle.tl_search.specs.NamedAnswers.{IsNamedIn, OutcomeIsNamed, EventsAreNamed, FaultIsNamed}
use Rattle.tl_search.proofs.ListLaws.{among-at}
use Rattle.tl_search.specs.ListedActions.{ListsActions}
use Rattle.tl_breadth.specs.Outcomes.{HasTurn, IsTriedThen, IsSearching, IsBreadthFirstOutcome}
use Rattle.tl_breadth.proofs.Growing.{grows-trans, grows-same}
use Rattle.tl_breadth.specs.Events.{IsReported, ReportsArrival}
use Rattle.tl_breadth.proofs.Reporting.{report-done}
use Rattle.tl_breadth.proofs.Expanding.{expand-turn, expand-on, expand-done, expand-fault}
use Rattle.tl_search.proofs.FaultLaws.{actions-of-pair}
use Rattle.tl_search.proofs.SameTaskLaws.{same-task-after}
use Rattle.tl_breadth.proofs.levels.BreadthFirst.expand.Goals as goal

pub arrive-requires : goal.arrive-requires
arrive-requires g c =
    let i = c.loop-a.invariant in
    let new = g.S.SearchSpace.kept c.loop-a.space in
    record {
      named = subst (λ t. IsNamedIn t c.a-item.result) (sym i.same.task) ((Each-Among
          (IsNamedIn (g.S.SearchSpace.task c.args.space.now)) c.as_slice-a-items.result.now).0 i.listed_named c.a-item.result
          (among-at c.as_slice-a-items.result.now c.loop-a.a-index c.a-item.result
          (slice_get_read _ _ c.loop-a.a-index c.a-item.result refl c.loop-a-test.true c.a-item.is)));
      events = subst (λ t. EventsAreNamed t c.loop-a.events) (sym i.same.task) i.events_named;
      turn = subst (λ p. HasTurn p c.args.self.now.within c.args.self.now.nodes new c.args.at c.a-item.result) (sym i.same.problem)
          (expand-turn _ _ _ _ _ c.requires.ready _ i.lists new i.grows c.loop-a.a-index c.a-item.result
          (slice_get_read _ _ c.loop-a.a-index c.a-item.result refl c.loop-a-test.true c.a-item.is) i.searching);
    }

pub returns-clause-outcome : goal.returns-clause-outcome
returns-clause-outcome g c =
    let i = c.loop-a.invariant in
    expand-done _ _ _ _ _ c.requires.ready _ i.lists (g.S.SearchSpace.kept c.loop-a.space) i.grows c.loop-a.a-index c.loop-a-test.false
    i.searching

pub returns-in-Some-clause-outcome : goal.returns-in-Some-clause-outcome
returns-in-Some-clause-outcome g c =
    subst (λ p. IsBreadthFirstOutcome p c.args.self.now.within c.args.self.now.nodes
    (g.S.SearchSpace.kept c.arrive.new.space) c.in-Some.outcome) c.loop-a.invariant.same.problem
    (rw c.in-Some.is at c.in_ok-outcome.ensures.outcome)

pub returns-in-Some-clause-grows : goal.returns-in-Some-clause-grows
returns-in-Some-clause-grows g c pair e =
    let h = c.loop-a.invariant.grows pair e in
    grows-trans _ _ _ _ h (c.in_ok-outcome.ensures.grows pair (h.stay c.args.at pair e))

pub loop-a-preserved : goal.loop-a-preserved
loop-a-preserved g c =
    let i = c.loop-a.invariant in
    let old = g.S.SearchSpace.kept c.loop-a.space in
    let new = g.S.SearchSpace.kept c.arrive.new.space in
    record {
      same = same-task-after c.arrive.ensures.same i.same;
      listed_named = i.listed_named;
      events_named = subst (λ t. EventsAreNamed t c.arrive.new.events) i.same.task c.in_ok-outcome.ensures.events_named;
      lists = i.lists;
      searching = expand-on _ _ _ _ _ c.requires.ready _ i.lists old i.grows c.loop-a.a-index c.a-item.result new
          (slice_get_read _ _ c.loop-a.a-index c.a-item.result refl c.loop-a-test.true c.a-item.is) i.searching
          (subst (λ p. IsTriedThen p c.args.self.now.within c.args.self.now.nodes old new c.args.at c.a-item.result) i.same.problem
          (rw c.in-None.is at c.in_ok-outcome.ensures.outcome));
      reported = λ from h.
          (let r = c.requires.ready in
          let q = i.grows r.pair r.is_pair in
          (subst (λ p. ReportsArrival p c.args.self.now.within c.args.self.now.watch old new c.args.at c.a-item.result c.loop-a.events
          c.arrive.new.events c.loop-a.steps c.arrive.new.steps) i.same.problem c.in_ok-outcome.ensures.reported)
          from c.loop-a.a-index r.pair c.as_slice-a-items.result.now (q.stay c.args.at r.pair r.is_pair) r.short (i.lists r.pair r.is_pair)
          (slice_get_read _ _ c.loop-a.a-index c.a-item.result refl c.loop-a-test.true c.a-item.is) (i.reported from h));
      grows = λ pair e. grows-trans _ _ _ _ (i.grows pair e) (c.in_ok-outcome.ensures.grows pair ((i.grows pair e).stay c.args.at pair e));
    }

pub returns-in-Some-clause-reported : goal.returns-in-Some-clause-reported
returns-in-Some-clause-reported g c from h =
    let i = c.loop-a.invariant in
    let r = c.requires.ready in
    let old = g.S.SearchSpace.kept c.loop-a.space in
    let new = g.S.SearchSpace.kept c.arrive.new.space in
    let q = i.grows r.pair r.is_pair in (
      c.args.at,
      take (c.loop-a.a-index + 1) c.as_slice-a-items.result.now,
      (subst (λ p. ReportsArrival p c.args.self.now.within c.args.self.now.watch old new c.args.at c.a-item.result c.loop-a.events
          c.arrive.new.events c.loop-a.steps c.arrive.new.steps) i.same.problem c.in_ok-outcome.ensures.reported)
          from c.loop-a.a-index r.pair c.as_slice-a-items.result.now (q.stay c.args.at r.pair r.is_pair) r.short (i.lists r.pair r.is_pair)
          (slice_get_read _ _ c.loop-a.a-index c.a-item.result refl c.loop-a-test.true c.a-item.is) (i.reported from h),
    )

pub returns-clause-reported : goal.returns-clause-reported
returns-clause-reported g c from h =
    let i = c.loop-a.invariant in
    let r = c.requires.ready in
    report-done _ _ _ from (g.S.SearchSpace.kept c.loop-a.space) c.args.at r.pair c.as_slice-a-items.result.now c.loop-a.a-index _ _
    c.loop-a-test.false ((i.grows r.pair r.is_pair).stay c.args.at r.pair r.is_pair) (i.lists r.pair r.is_pair) (i.reported from h)

pub loop-a-init : goal.loop-a-init
loop-a-init g c =
    let old = g.S.SearchSpace.kept c.args.space.now in
    record {
      same = c.actions.ensures.same;
      listed_named = subst (AreNamedIn (g.S.SearchSpace.task c.args.space.now)) (sym c.as_slice-a-items.ensures) c.in-Ok.ensures.named;
      events_named = c.requires.events;
      lists = λ x e. subst (ListsActions (g.S.SearchSpace.problem c.args.space.now) x.node.world) (sym c.as_slice-a-items.ensures)
          (c.in-Ok.ensures.actions x e);
      searching = subst (λ xs. IsSearching (g.S.SearchSpace.problem c.args.space.now) c.args.self.now.within c.args.self.now.nodes xs
          c.args.at []) (sym c.actions.ensures.kept) c.requires.ready.searching;
      grows = λ x e. grows-same _ _ _ c.actions.ensures.kept;
      reported = λ from h. subst (λ xs. IsReported (g.S.SearchSpace.problem c.args.space.now) c.args.self.now.within c.args.self.now.watch
          from xs c.args.at [] c.args.events.now c.args.steps.now) (sym c.actions.ensures.kept) h;
    }

pub returns-in_err-outcome-clause-ticked : goal.returns-in_err-outcome-clause-ticked
returns-in_err-outcome-clause-ticked g c = err-anyway (Ticks (g.S.SearchSpace.problem c.args.space.now) c.args.self.now.within
    c.args.self.now.watch (g.S.SearchSpace.kept c.args.space.now) (g.S.SearchSpace.kept c.arrive.new.space) c.args.at c.args.events.now
    c.args.steps.now c.arrive.new.steps) _ (λ from h.
    let i = c.loop-a.invariant in
    let r = c.requires.ready in
    let old = g.S.SearchSpace.kept c.loop-a.space in
    let new = g.S.SearchSpace.kept c.arrive.new.space in
    let q = i.grows r.pair r.is_pair in
    (subst (λ p. TicksArrival p c.args.self.now.within c.args.self.now.watch old new c.args.at c.a-item.result c.loop-a.events
    c.loop-a.steps c.arrive.new.steps) i.same.problem c.in_err-outcome.ensures.ticked)
    from c.loop-a.a-index r.pair c.as_slice-a-items.result.now (q.stay c.args.at r.pair r.is_pair) r.short (i.lists r.pair r.is_pair)
    (slice_get_read _ _ c.loop-a.a-index c.a-item.result refl c.loop-a-test.true c.a-item.is) (i.reported from h))

pub returns-in-Some-clause-plan_named : goal.returns-in-Some-clause-plan_named
returns-in-Some-clause-plan_named g c = subst (λ t. OutcomeIsNamed t c.in-Some.outcome) c.loop-a.invariant.same.task
    (rw c.in-Some.is at c.in_ok-outcome.ensures.plan_named)

pub returns-in-Some-clause-events_named : goal.returns-in-Some-clause-events_named
returns-in-Some-clause-events_named g c = subst (λ t. EventsAreNamed t c.arrive.new.events) c.loop-a.invariant.same.task
    c.in_ok-outcome.ensures.events_named

pub search_node_fault-requires-clause-here : goal.search_node_fault-requires-clause-here
search_node_fault-requires-clause-here g c =
    let r = c.requires.ready in
    actions-of-pair _ r.pair.node c.in-Err.fault (c.in-Err.ensures.cause r.pair r.is_pair)

pub returns-in-Err-clause-fault : goal.returns-in-Err-clause-fault
returns-in-Err-clause-fault g c =
    expand-fault _ _ _ _ _ c.requires.ready c.in-Err.fault c.search_node_fault.result
    (λ x e. c.search_node_fault.ensures.fault x (subst (λ xs. slice_get xs c.args.at ≡ Some x) (sym c.actions.ensures.kept) e))
    c.in-Err.ensures.cause

pub returns-in-Err-clause-path_named : goal.returns-in-Err-clause-path_named
returns-in-Err-clause-path_named g c = subst (λ t. FaultIsNamed t c.search_node_fault.result) c.actions.ensures.same.task
    c.search_node_fault.ensures.named

use Rattle.tl_search.proofs.HistoryLaws.{ends-by-keeping}
use Rattle.std.proofs.Common.{◌≡◌, ◌<◌, ◌+◌, ◌++◌, ◌∷◌, [], ◌≤◌, length, take, slice_get, Some, IfOk, IfErr, refl, sym, ◌∙◌, subst, add-one}
use Rattle.tl_search.specs.NamedAnswers.{IsNamedIn, EndIsNamed, FaultIsNamed}
use Rattle.tl_search.proofs.NamedLaws.{event-named, events-named}
use Rattle.std.proofs.lemmas.Option.{slice_get_within}
use Rattle.tl_search.specs.Kept.{AreKept}
use Rattle.tl_search.specs.PairGraph.{pair_graph}
use Rattle.tl_breadth.specs.BreadthFirst.{NoneAccepted}
use Rattle.tl_search.specs.declared.arrival.Arrival.TheVariants as arrival
use Rattle.tl_breadth.specs.Events.{IsReported, EndsWithPathIfAny}
use Rattle.tl_breadth.specs.Outcomes.{AwaitsJudgement, IsTriedThen, Leaves}
use Rattle.tl_search.proofs.WalkLaws.{length-snoc}
use Rattle.tl_breadth.proofs.Growing.{err-anyway, ok-anyway, grows-one, grows-same}
use Rattle.tl_breadth.proofs.Reporting.{ticked-child, report-step, ends-at-last}
use Rattle.tl_breadth.proofs.Arriving.{leaves-map, turn-executable, fresh-awaits, fresh-tried, seen-tried, pruned-tried, child-fault}
use Rattle.tl_breadth.proofs.levels.BreadthFirst.arrive.Goals as goal

pub child-requires-clause-executable : goal.child-requires-clause-executable
child-requires-clause-executable g c = turn-executable _ _ _ _ _ _ c.requires.turn

pub outcome_at-requires : goal.outcome_at-requires
outcome_at-requires g c =
    let t = c.requires.turn in
    let new = g.S.SearchSpace.kept c.child.new.self in
    subst (λ p. AwaitsJudgement p c.args.self.now.within c.args.self.now.nodes new c.in-Ok-Fresh.k) (sym c.child.ensures.same.problem)
    (fresh-awaits _ _ _ _ _ _ new t.pair t.is_pair c.in-Ok-Fresh.k t ((rw c.in-Ok-Fresh.field-0-is at c.in-Ok-Fresh.ensures.arrival) t.pair
    t.is_pair) (subst (λ p. AreKept (pair_graph p) new) c.child.ensures.same.problem c.child.ensures.kept))

pub returns-in_ok-report_arrival-in-Ok-Fresh-clause-outcome : goal.returns-in_ok-report_arrival-in-Ok-Fresh-clause-outcome
returns-in_ok-report_arrival-in-Ok-Fresh-clause-outcome g c =
    let t = c.requires.turn in
    let old = g.S.SearchSpace.kept c.args.space.now in
    let new = g.S.SearchSpace.kept c.child.new.self in
    let p = g.S.SearchSpace.problem c.args.space.now in
    let n = c.args.self.now.within in
    let b = c.args.self.now.nodes in
    let k = c.in-Ok-Fresh.k in
    subst (λ xs. IfOk c.outcome_at.result (Leaves p n b xs (IsTriedThen p n b old xs c.args.at c.args.a.now)))
    (sym c.outcome_at.ensures.kept)
    (leaves-map p n b new (NoneAccepted p new (k + 1) × (k + 1 ≤ b)) (IsTriedThen p n b old new c.args.at c.args.a.now) c.outcome_at.result
    (λ h. fresh-tried p n b old c.args.at c.args.a.now new t.pair t.is_pair k t
    ((rw c.in-Ok-Fresh.field-0-is at c.in-Ok-Fresh.ensures.arrival) t.pair t.is_pair)
    (subst (λ q. AreKept (pair_graph q) new) c.child.ensures.same.problem c.child.ensures.kept) h.0 h.1)
    (subst (λ q. IfOk c.outcome_at.result (Leaves q n b new (NoneAccepted q new (k + 1) × (k + 1 ≤ b)))) c.child.ensures.same.problem
    c.outcome_at.ensures.outcome))

pub returns-in_ok-report_arrival-in-Ok-Seen-clause-outcome : goal.returns-in_ok-report_arrival-in-Ok-Seen-clause-outcome
returns-in_ok-report_arrival-in-Ok-Seen-clause-outcome g c = seen-tried _ _ _ _ _ _
    (g.S.SearchSpace.kept c.child.new.self) c.requires.turn.pair c.requires.turn.is_pair _
    ((rw c.in-Ok-Seen.field-0-is at c.in-Ok-Seen.ensures.arrival) c.requires.turn.pair c.requires.turn.is_pair)

pub returns-in_ok-report_arrival-in-Ok-Pruned-clause-outcome : goal.returns-in_ok-report_arrival-in-Ok-Pruned-clause-outcome
returns-in_ok-report_arrival-in-Ok-Pruned-clause-outcome g c = pruned-tried _ _ _ _ _ _
    (g.S.SearchSpace.kept c.child.new.self) c.requires.turn.pair c.requires.turn.is_pair
    ((rw c.in-Ok-Pruned.field-0-is at c.in-Ok-Pruned.ensures.arrival) c.requires.turn.pair c.requires.turn.is_pair)

pub returns-in_ok-report_arrival-in-Ok-Fresh-clause-grows : goal.returns-in_ok-report_arrival-in-Ok-Fresh-clause-grows
returns-in_ok-report_arrival-in-Ok-Fresh-clause-grows g c = ok-anyway _ c.outcome_at.result (λ pair e.
    (let h = (rw c.in-Ok-Fresh.field-0-is at c.in-Ok-Fresh.ensures.arrival) pair e in
    grows-one _ _ _ (record { node = h.1.0; path = pair.path ++ c.args.a.now ∷ [] }) (c.outcome_at.ensures.kept ∙ h.1.3)
    (length-snoc pair.path c.args.a.now ∙ sym (add-one (length pair.path)))))

pub returns-in_ok-report_arrival-in-Ok-Seen-clause-grows : goal.returns-in_ok-report_arrival-in-Ok-Seen-clause-grows
returns-in_ok-report_arrival-in-Ok-Seen-clause-grows g c pair e = grows-same _ _ _
    ((rw c.in-Ok-Seen.field-0-is at c.in-Ok-Seen.ensures.arrival) pair e).0

pub returns-in_ok-report_arrival-in-Ok-Pruned-clause-grows : goal.returns-in_ok-report_arrival-in-Ok-Pruned-clause-grows
returns-in_ok-report_arrival-in-Ok-Pruned-clause-grows g c pair e = grows-same _ _ _
    ((rw c.in-Ok-Pruned.field-0-is at c.in-Ok-Pruned.ensures.arrival) pair e).0

pub returns-in_ok-report_arrival-in-Ok-Fresh-clause-reported : goal.returns-in_ok-report_arrival-in-Ok-Fresh-clause-reported
returns-in_ok-report_arrival-in-Ok-Fresh-clause-reported g c =
    let p = g.S.SearchSpace.problem c.args.space.now in
    let old = g.S.SearchSpace.kept c.args.space.now in
    let new = g.S.SearchSpace.kept c.child.new.self in
    let events = c.report_arrival.new.events in
    ok-anyway _ c.outcome_at.result (λ from k pair listed e short l turn s.
    subst (λ xs. IsReported p c.args.self.now.within c.args.self.now.watch from xs c.args.at (take (k + 1) listed) events c.child.new.steps)
    (sym c.outcome_at.ensures.kept)
    (subst (λ m. IsReported p c.args.self.now.within c.args.self.now.watch from new c.args.at (take (k + 1) listed) events m)
    (sym c.child.ensures.ticks)
    (report-step p c.args.self.now.within c.args.self.now.watch from old new c.args.at pair listed k c.args.a.now
    (arrival.Fresh c.in-Ok-Fresh.k) c.args.events.now events c.args.steps.now e short l turn
    ((rw c.in-Ok-Fresh.field-0-is at c.in-Ok-Fresh.ensures.arrival) pair e)
    (subst (λ q. AreKept (pair_graph q) new) c.child.ensures.same.problem c.child.ensures.kept) c.in_ok-report_arrival-in-Ok-Fresh.ensures
    s)))

pub returns-in_ok-report_arrival-in-Ok-Seen-clause-reported : goal.returns-in_ok-report_arrival-in-Ok-Seen-clause-reported
returns-in_ok-report_arrival-in-Ok-Seen-clause-reported g c from k pair listed e short l turn s =
    let p = g.S.SearchSpace.problem c.args.space.now in
    let old = g.S.SearchSpace.kept c.args.space.now in
    let new = g.S.SearchSpace.kept c.child.new.self in
    let events = c.report_arrival-in-Ok-Seen.new.events in
    subst (λ m. IsReported p c.args.self.now.within c.args.self.now.watch from new c.args.at (take (k + 1) listed) events m)
    (sym c.child.ensures.ticks)
    (report-step p c.args.self.now.within c.args.self.now.watch from old new c.args.at pair listed k c.args.a.now
    (arrival.Seen c.in-Ok-Seen.k) c.args.events.now events c.args.steps.now e short l turn
    ((rw c.in-Ok-Seen.field-0-is at c.in-Ok-Seen.ensures.arrival) pair e)
    (subst (λ q. AreKept (pair_graph q) new) c.child.ensures.same.problem c.child.ensures.kept) c.in_ok-report_arrival-in-Ok-Seen.ensures s)

pub returns-in_ok-report_arrival-in-Ok-Pruned-clause-reported : goal.returns-in_ok-report_arrival-in-Ok-Pruned-clause-reported
returns-in_ok-report_arrival-in-Ok-Pruned-clause-reported g c from k pair listed e short l turn s =
    let p = g.S.SearchSpace.problem c.args.space.now in
    let old = g.S.SearchSpace.kept c.args.space.now in
    let new = g.S.SearchSpace.kept c.child.new.self in
    let events = c.report_arrival-in-Ok-Pruned.new.events in
    subst (λ m. IsReported p c.args.self.now.within c.args.self.now.watch from new c.args.at (take (k + 1) listed) events m)
    (sym c.child.ensures.ticks)
    (report-step p c.args.self.now.within c.args.self.now.watch from old new c.args.at pair listed k c.args.a.now arrival.Pruned
    c.args.events.now events c.args.steps.now e short l turn ((rw c.in-Ok-Pruned.field-0-is at c.in-Ok-Pruned.ensures.arrival) pair e)
    (subst (λ q. AreKept (pair_graph q) new) c.child.ensures.same.problem c.child.ensures.kept) c.in_ok-report_arrival-in-Ok-Pruned.ensures
    s)

pub returns-in_ok-report_arrival-in-Ok-Fresh-clause-ends : goal.returns-in_ok-report_arrival-in-Ok-Fresh-clause-ends
returns-in_ok-report_arrival-in-Ok-Fresh-clause-ends g c =
    let t = c.requires.turn in
    let h = (rw c.in-Ok-Fresh.field-0-is at c.in-Ok-Fresh.ensures.arrival) t.pair t.is_pair in
    let new = g.S.SearchSpace.kept c.child.new.self in
    subst (λ xs. IfOk c.outcome_at.result (EndsWithPathIfAny c.args.self.now.watch xs c.report_arrival.new.events))
    (sym c.outcome_at.ensures.kept)
    (ends-at-last c.args.self.now.watch new c.report_arrival.new.events c.outcome_at.result c.outcome_at.ensures.early
    c.outcome_at.ensures.last (ends-by-keeping c.args.self.now.watch
    (g.S.SearchSpace.kept c.args.space.now) new c.args.events.now c.report_arrival.new.events c.args.at c.args.a.now c.in-Ok-Fresh.k
    (record { node = h.1.0; path = t.pair.path ++ c.args.a.now ∷ [] }) h.0 h.1.3 c.in_ok-report_arrival-in-Ok-Fresh.ensures))

pub returns-in_err-report_arrival-in-Ok-Fresh-clause-ticked : goal.returns-in_err-report_arrival-in-Ok-Fresh-clause-ticked
returns-in_err-report_arrival-in-Ok-Fresh-clause-ticked g c = err-anyway _ _
    (ticked-child _ c.args.self.now.within c.args.self.now.watch (g.S.SearchSpace.kept c.args.space.now)
    (g.S.SearchSpace.kept c.child.new.self) (g.S.SearchSpace.kept c.child.new.self) c.args.at c.args.a.now c.child.result c.args.events.now
    c.args.steps.now c.child.new.steps refl c.child.ensures.ticks c.child.ensures.arrival c.child.ensures.refused)

pub returns-in_err-report_arrival-in-Ok-Seen-clause-ticked : goal.returns-in_err-report_arrival-in-Ok-Seen-clause-ticked
returns-in_err-report_arrival-in-Ok-Seen-clause-ticked g c = err-anyway _ _
    (ticked-child _ c.args.self.now.within c.args.self.now.watch (g.S.SearchSpace.kept c.args.space.now)
    (g.S.SearchSpace.kept c.child.new.self) (g.S.SearchSpace.kept c.child.new.self) c.args.at c.args.a.now c.child.result c.args.events.now
    c.args.steps.now c.child.new.steps refl c.child.ensures.ticks c.child.ensures.arrival c.child.ensures.refused)

pub returns-in_err-report_arrival-in-Ok-Pruned-clause-ticked : goal.returns-in_err-report_arrival-in-Ok-Pruned-clause-ticked
returns-in_err-report_arrival-in-Ok-Pruned-clause-ticked g c = err-anyway _ _
    (ticked-child _ c.args.self.now.within c.args.self.now.watch (g.S.SearchSpace.kept c.args.space.now)
    (g.S.SearchSpace.kept c.child.new.self) (g.S.SearchSpace.kept c.child.new.self) c.args.at c.args.a.now c.child.result c.args.events.now
    c.args.steps.now c.child.new.steps refl c.child.ensures.ticks c.child.ensures.arrival c.child.ensures.refused)

pub returns-in_ok-report_arrival-in-Ok-Fresh-clause-ticked : goal.returns-in_ok-report_arrival-in-Ok-Fresh-clause-ticked
returns-in_ok-report_arrival-in-Ok-Fresh-clause-ticked g c = err-anyway _ c.outcome_at.result
    (ticked-child _ c.args.self.now.within c.args.self.now.watch (g.S.SearchSpace.kept c.args.space.now)
    (g.S.SearchSpace.kept c.child.new.self) (g.S.SearchSpace.kept c.outcome_at.new.space) c.args.at c.args.a.now c.child.result
    c.args.events.now c.args.steps.now c.child.new.steps c.outcome_at.ensures.kept c.child.ensures.ticks c.child.ensures.arrival
    c.child.ensures.refused)

pub returns-in_ok-report_arrival-in-Ok-Fresh-clause-plan_named : goal.returns-in_ok-report_arrival-in-Ok-Fresh-clause-plan_named
returns-in_ok-report_arrival-in-Ok-Fresh-clause-plan_named g c = subst
    (λ t. IfOk c.outcome_at.result (EndIsNamed t)) c.child.ensures.same.task c.outcome_at.ensures.plan_named

pub returns-in_ok-report_arrival-in-Ok-Fresh-clause-path_named : goal.returns-in_ok-report_arrival-in-Ok-Fresh-clause-path_named
returns-in_ok-report_arrival-in-Ok-Fresh-clause-path_named g c = subst
    (λ t. IfErr c.outcome_at.result (FaultIsNamed t)) c.child.ensures.same.task c.outcome_at.ensures.path_named

pub returns-in_ok-report_arrival-in-Ok-Fresh-clause-events_named : goal.returns-in_ok-report_arrival-in-Ok-Fresh-clause-events_named
returns-in_ok-report_arrival-in-Ok-Fresh-clause-events_named g c = ok-anyway _ c.outcome_at.result
    (events-named (g.S.SearchSpace.task c.args.space.now) c.args.self.now.watch c.args.events.now c.report_arrival.new.events _
    c.requires.events (event-named (g.S.SearchSpace.task c.args.space.now) c.args.at c.args.a.now
    (arrival.Fresh c.in-Ok-Fresh.k) c.requires.named) c.in_ok-report_arrival-in-Ok-Fresh.ensures)

pub returns-in_ok-report_arrival-in-Ok-Seen-clause-events_named : goal.returns-in_ok-report_arrival-in-Ok-Seen-clause-events_named
returns-in_ok-report_arrival-in-Ok-Seen-clause-events_named g c = events-named
    (g.S.SearchSpace.task c.args.space.now) c.args.self.now.watch c.args.events.now c.report_arrival-in-Ok-Seen.new.events _
    c.requires.events (event-named (g.S.SearchSpace.task c.args.space.now) c.args.at c.args.a.now
    (arrival.Seen c.in-Ok-Seen.k) c.requires.named) c.in_ok-report_arrival-in-Ok-Seen.ensures

pub returns-in_ok-report_arrival-in-Ok-Pruned-clause-events_named : goal.returns-in_ok-report_arrival-in-Ok-Pruned-clause-events_named
returns-in_ok-report_arrival-in-Ok-Pruned-clause-events_named g c = events-named
    (g.S.SearchSpace.task c.args.space.now) c.args.self.now.watch c.args.events.now c.report_arrival-in-Ok-Pruned.new.events _
    c.requires.events (event-named (g.S.SearchSpace.task c.args.space.now) c.args.at c.args.a.now arrival.Pruned c.requires.named)
    c.in_ok-report_arrival-in-Ok-Pruned.ensures

pub child_fault-requires : goal.child_fault-requires
child_fault-requires g c = record {
  at = subst (λ xs. c.args.at < length xs) (sym c.in-Err.ensures.refused)
      (slice_get_within _ _ c.requires.turn.pair c.requires.turn.is_pair);
  named = subst (λ t. IsNamedIn t c.args.a.now) (sym c.child.ensures.same.task) c.requires.named;
}

pub returns-in-Err-clause-fault : goal.returns-in-Err-clause-fault
returns-in-Err-clause-fault g c =
    child-fault _ _ _ _ _ c.args.a.now c.requires.turn c.in-Err.fault c.child_fault.result
    (λ x e. c.child_fault.ensures.fault x (subst (λ xs. slice_get xs c.args.at ≡ Some x) (sym c.in-Err.ensures.refused) e))
    c.in-Err.ensures.cause

pub returns-in-Err-clause-ticked : goal.returns-in-Err-clause-ticked
returns-in-Err-clause-ticked g c = ticked-child _ c.args.self.now.within c.args.self.now.watch (g.S.SearchSpace.kept c.args.space.now)
    (g.S.SearchSpace.kept c.child.new.self) (g.S.SearchSpace.kept c.child.new.self) c.args.at c.args.a.now c.child.result c.args.events.now
    c.args.steps.now c.child.new.steps refl c.child.ensures.ticks c.child.ensures.arrival c.child.ensures.refused

pub returns-in-Err-clause-path_named : goal.returns-in-Err-clause-path_named
returns-in-Err-clause-path_named g c = subst (λ t. FaultIsNamed t c.child_fault.result) c.child.ensures.same.task
    c.child_fault.ensures.named

use Rattle.std.proofs.Common.{◌≡◌, [], true, None, refl, sym, ap, ◌∙◌, subst}
use Rattle.tl_search.specs.Calls.{AreNamedIn}
use Rattle.tl_search.specs.Events.{events_after}
use Rattle.tl_search.specs.Ends.{EndsByKeeping}
use Rattle.tl_search.specs.History.{IsHistory}
use Rattle.tl_search.specs.KeptPairs.{pairs_of}
use Rattle.tl_search.specs.declared.arrival.Arrival.TheVariants as arrival
use Rattle.tl_search.specs.declared.event.Event.TheVariants as event
use Rattle.tl_search.specs.declared.outcome.Outcome.TheVariants as outcome
use Rattle.tl_search.proofs.FaultLaws.{acceptance-of-pair, root-of-pair}
use Rattle.tl_search.proofs.HistoryLaws.{history-pruned}
use Rattle.tl_search.proofs.NamedLaws.{events-named}
use Rattle.tl_depth.specs.Answers.{IsToldAlong}
use Rattle.tl_depth.specs.Entering.{AreInDepth}
use Rattle.tl_depth.specs.NamedStacks.{StackIsNamed, SearchIsNamed}
use Rattle.tl_depth.specs.Ongoing.{BeginsSearch}
use Rattle.tl_depth.specs.Outcomes.{AreFewCalls, IsDepthFirstOutcome, Reported, TellsInDepth}
use Rattle.tl_depth.proofs.Beginning.{RootIsKept, root-kept}
use Rattle.tl_depth.proofs.Ending.{begins-pruned, root-fault, root-judged-fault, first-plan, first-kept}
use Rattle.tl_depth.proofs.Following.{root-in-depth}
use Rattle.tl_depth.proofs.Histories.{root-not-seen, as-history}
use Rattle.tl_depth.proofs.Remembering.{nothing-remembered, as-remembered}
use Rattle.tl_search.specs.Kept.{AreKept}
use Rattle.tl_search.specs.PairGraph.{pair_graph}
use Rattle.tl_depth.proofs.SeenPairs.{root-as-pairs, accepted-pair, acceptance-pair}
use Rattle.tl_search.proofs.SameTaskLaws.{same-task-after}
use Rattle.tl_depth.proofs.stack.DepthFirst.begin.Goals as goal

pub root_fault-requires : goal.root_fault-requires
root_fault-requires g c = root-of-pair _ c.in-Err.fault c.in-Err.ensures.cause

pub returns-in-Err-clause-fault : goal.returns-in-Err-clause-fault
returns-in-Err-clause-fault g c = root-fault _ c.args.self.now.within c.in-Err.fault c.root_fault.result c.root_fault.ensures.fault
    c.in-Err.ensures.cause

pub returns-in-Err-clause-path_named : goal.returns-in-Err-clause-path_named
returns-in-Err-clause-path_named g c = c.root_fault.ensures.named (g.S.SearchSpace.task c.args.space.now)

pub returns-in-Ok-Pruned-clause-begun : goal.returns-in-Ok-Pruned-clause-begun
returns-in-Ok-Pruned-clause-begun g c =
    let a = root-as-pairs _ _ _ _ arrival.Pruned c.root.ensures.kept (rw c.in-Ok-Pruned.field-0-is at c.in-Ok-Pruned.ensures.arrival) in
    begins-pruned _ _ _ _ _ _ (a.0 ∙ ap pairs_of c.requires.empty) a.1
    (c.in_ok-report_root-in-Ok-Pruned.ensures ∙ ap (λ es. events_after c.args.self.now.watch es event.RootPruned) c.requires.events)

pub returns-in-Ok-true : goal.returns-in-Ok-true
returns-in-Ok-true g c = record {
  same = same-task-after c.accepted.ensures.same c.root.ensures.same;
  begun = begun;
  history = subst (λ xs. IsHistory (g.S.SearchSpace.problem c.args.space.now) c.args.self.now.watch xs c.report_root-2.new.events)
      (sym c.accepted.ensures.kept) r.history;
  ends = subst (λ xs. c.args.self.now.watch ≡ true → EndsByKeeping xs c.report_root-2.new.events) (sym c.accepted.ensures.kept) r.ends;
  fault = tt;
  named = record {
    stack = subst (StackIsNamed (g.S.SearchSpace.task c.args.space.now)) (sym c.requires.new.stack) tt;
    events =
        events-named (g.S.SearchSpace.task c.args.space.now) c.args.self.now.watch [] c.report_root-2.new.events event.RootKept tt tt
        (c.in_ok-report_root.ensures ∙ ap (λ es. events_after c.args.self.now.watch es event.RootKept) c.requires.events);
  };
  remembered = nothing-remembered c.root.ensures.same.problem (subst (λ ks.
      AreKept (pair_graph (g.S.SearchSpace.problem c.root.new.self)) ks)
      (sym c.accepted.ensures.kept) c.root.ensures.kept) c.requires.new.expansions;
  plan_named = subst (AreNamedIn (g.S.SearchSpace.task c.args.space.now)) (sym c.new.ensures) tt;
  path_named = tt;
}
  where
    r : RootIsKept (g.S.SearchSpace.problem c.args.space.now) c.args.self.now.watch
        (g.S.SearchSpace.kept c.root.new.self) c.report_root-2.new.events
    r = root-kept _ _ c.args.self.now.watch (g.S.SearchSpace.kept c.args.space.now)
        (g.S.SearchSpace.kept c.root.new.self) c.in-Ok-Fresh.field-0-0 _ c.report_root-2.new.events c.requires.empty c.requires.events
        c.root.ensures.kept (rw c.in-Ok-Fresh.field-0-is at c.in-Ok-Fresh.ensures.arrival) c.in_ok-report_root.ensures

    begun : IsDepthFirstOutcome (g.S.SearchSpace.problem c.args.space.now) c.args.self.now.within c.args.nodes
        (pairs_of (g.S.SearchSpace.kept c.accepted.new.self)) (outcome.Plan c.new.result) ×
        AreFewCalls (g.S.SearchSpace.problem c.args.space.now) c.args.self.now.within
        (pairs_of (g.S.SearchSpace.kept c.accepted.new.self)) 0 × (IsToldAlong (g.S.SearchSpace.problem c.args.space.now)
        (Reported c.args.self.now.watch (pairs_of (g.S.SearchSpace.kept c.accepted.new.self)) c.report_root-2.new.events) c.new.result ×
        TellsInDepth (g.S.SearchSpace.problem c.args.space.now) c.args.self.now.within c.args.self.now.watch
        (pairs_of (g.S.SearchSpace.kept c.accepted.new.self)) true c.report_root-2.new.events)
    begun = let t = first-plan _ _ _ _ _ _ r.pair c.requires.nodes r.unpruned r.alone c.root.ensures.same.problem
        (ap pairs_of c.accepted.ensures.kept) ((accepted-pair _ _ 0 _ c.in-Ok-true.ensures.accepted r.pair r.numbered).0
        c.in-Ok-true.field-0-test) c.new.result c.new.ensures (Reported c.args.self.now.watch
        (pairs_of (g.S.SearchSpace.kept c.accepted.new.self)) c.report_root-2.new.events) in (
          t.0,
          t.1,
          (
            t.2,
            λ w. subst (AreInDepth (g.S.SearchSpace.problem c.args.space.now) c.args.self.now.within
                (pairs_of (g.S.SearchSpace.kept c.accepted.new.self)) true)
                (sym (c.in_ok-report_root.ensures ∙ (ap (λ es. events_after c.args.self.now.watch es event.RootKept) c.requires.events ∙
                ap (λ x. events_after x [] event.RootKept) w))) (root-in-depth
                (g.S.SearchSpace.problem c.args.space.now) c.args.self.now.within
                (pairs_of (g.S.SearchSpace.kept c.accepted.new.self))),
          ),
        )

pub root_fault-requires-in-Err-accepted : goal.root_fault-requires-in-Err-accepted
root_fault-requires-in-Err-accepted g c =
    let r = root-kept _ _ c.args.self.now.watch (g.S.SearchSpace.kept c.args.space.now)
    (g.S.SearchSpace.kept c.root.new.self) c.in-Ok-Fresh.field-0-0 _ c.report_root-2.new.events c.requires.empty c.requires.events
    c.root.ensures.kept (rw c.in-Ok-Fresh.field-0-is at c.in-Ok-Fresh.ensures.arrival) c.in_ok-report_root.ensures in
    acceptance-of-pair _ r.pair c.in-Err-accepted.fault (acceptance-pair _ _ 0 _ c.in-Err-accepted.ensures.cause r.pair r.numbered)

pub returns-in-Err-accepted : goal.returns-in-Err-accepted
returns-in-Err-accepted g c =
    let r = root-kept _ _ c.args.self.now.watch (g.S.SearchSpace.kept c.args.space.now)
    (g.S.SearchSpace.kept c.root.new.self) c.in-Ok-Fresh.field-0-0 _ c.report_root-2.new.events c.requires.empty c.requires.events
    c.root.ensures.kept (rw c.in-Ok-Fresh.field-0-is at c.in-Ok-Fresh.ensures.arrival) c.in_ok-report_root.ensures in
    record {
      same = same-task-after c.accepted.ensures.same c.root.ensures.same;
      begun = tt;
      history = tt;
      ends = tt;
      fault = root-judged-fault _ _ c.args.self.now.within r.pair r.unpruned c.root.ensures.same.problem c.in-Err-accepted.fault
          c.root_fault-in-Err-accepted.result c.root_fault-in-Err-accepted.ensures.fault
          (acceptance-pair _ _ 0 _ c.in-Err-accepted.ensures.cause r.pair r.numbered);
      named = tt;
      remembered = tt;
      plan_named = tt;
      path_named = c.root_fault-in-Err-accepted.ensures.named (g.S.SearchSpace.task c.args.space.now);
    }

pub begun-requires-clause-first : goal.begun-requires-clause-first
begun-requires-clause-first g c =
    let r = root-kept _ _ c.args.self.now.watch (g.S.SearchSpace.kept c.args.space.now)
    (g.S.SearchSpace.kept c.root.new.self) c.in-Ok-Fresh.field-0-0 _ c.report_root-2.new.events c.requires.empty c.requires.events
    c.root.ensures.kept (rw c.in-Ok-Fresh.field-0-is at c.in-Ok-Fresh.ensures.arrival) c.in_ok-report_root.ensures in
    first-kept _ _ _ _ _ _ _ r.pair c.requires.nodes r.unpruned r.alone c.root.ensures.same.problem c.accepted.ensures.same.problem
    (ap pairs_of c.accepted.ensures.kept)
    (λ a. let t = (accepted-pair _ _ 0 _ c.in-Ok-false.ensures.accepted r.pair r.numbered).1 a in
    absurd (let z : c.in-Ok-false.field-0 ≡ true = t in let y = c.in-Ok-false.field-0-test in cc))
    (record {
      enters = c.requires.new.enters;
      most = c.requires.new.most;
      stack = c.requires.new.stack;
      expansions =
          c.requires.new.expansions;
    }) (c.in_ok-report_root.ensures ∙ ap
    (λ es. events_after c.args.self.now.watch es event.RootKept) c.requires.events)

pub returns-in-Ok-Pruned-clause-history : goal.returns-in-Ok-Pruned-clause-history
returns-in-Ok-Pruned-clause-history g c = history-pruned (g.S.SearchSpace.problem c.args.space.now) c.args.self.now.watch
    (g.S.SearchSpace.kept c.args.space.now) (g.S.SearchSpace.kept c.root.new.self) c.report_root.new.events c.requires.empty
    (rw c.in-Ok-Pruned.field-0-is at c.in-Ok-Pruned.ensures.arrival)
    (c.in_ok-report_root-in-Ok-Pruned.ensures ∙ ap (λ es. events_after c.args.self.now.watch es event.RootPruned) c.requires.events)

pub returns : goal.returns
returns g c =
    let r = root-kept _ _ c.args.self.now.watch (g.S.SearchSpace.kept c.args.space.now)
    (g.S.SearchSpace.kept c.root.new.self) c.in-Ok-Fresh.field-0-0 _ c.report_root-2.new.events c.requires.empty c.requires.events
    c.root.ensures.kept (rw c.in-Ok-Fresh.field-0-is at c.in-Ok-Fresh.ensures.arrival) c.in_ok-report_root.ensures in
    record {
      same = same-task-after c.begun.ensures.same (same-task-after c.accepted.ensures.same c.root.ensures.same);
      begun = subst (λ p. BeginsSearch p c.args.nodes (pairs_of (g.S.SearchSpace.kept c.begun.new.space)) c.args.self.now c.begun.new.self
          None) (c.accepted.ensures.same.problem ∙ c.root.ensures.same.problem) c.in_ok-begun.ensures.begun;
      history = as-history _ _ _ _ _ _ _ _ refl refl (sym (c.begun.ensures.kept ∙ c.accepted.ensures.kept))
          (sym c.begun.ensures.events) r.history;
      ends = tt;
      fault = tt;
      named = subst (λ t. SearchIsNamed t c.begun.new.self) (c.accepted.ensures.same.task ∙ c.root.ensures.same.task)
          c.in_ok-begun.ensures.named;
      remembered = as-remembered (c.accepted.ensures.same.problem ∙ c.root.ensures.same.problem)
          (c.accepted.ensures.same.task ∙ c.root.ensures.same.task) c.in_ok-begun.ensures.remembered;
      plan_named = tt;
      path_named = tt;
    }

pub unreachable-requires : goal.unreachable-requires
unreachable-requires g c = root-not-seen _ _ _ _ c.requires.empty (rw c.in-Ok-Seen.field-0-is at c.in-Ok-Seen.ensures.arrival)

pub begun-requires-clause-named : goal.begun-requires-clause-named
begun-requires-clause-named g c = record {
  stack = subst (StackIsNamed (g.S.SearchSpace.task c.accepted.new.self))
      (sym c.requires.new.stack) tt;
  events = events-named (g.S.SearchSpace.task c.accepted.new.self) c.args.self.now.watch []
      c.report_root-2.new.events event.RootKept tt tt (c.in_ok-report_root.ensures ∙
      ap (λ es. events_after c.args.self.now.watch es event.RootKept) c.requires.events);
}

pub returns-in-Ok-Pruned-clause-named : goal.returns-in-Ok-Pruned-clause-named
returns-in-Ok-Pruned-clause-named g c = record {
  stack = subst (StackIsNamed (g.S.SearchSpace.task c.args.space.now))
      (sym c.requires.new.stack) tt;
  events = events-named (g.S.SearchSpace.task c.args.space.now) c.args.self.now.watch []
      c.report_root.new.events event.RootPruned tt tt (c.in_ok-report_root-in-Ok-Pruned.ensures ∙
      ap (λ es. events_after c.args.self.now.watch es event.RootPruned) c.requires.events);
}

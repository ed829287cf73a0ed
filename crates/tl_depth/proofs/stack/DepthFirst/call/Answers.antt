use Rattle.tl_syntax.proofs.ListLaws.{Each-Among}
use Rattle.tl_search.specs.NamedAnswers.{IsNamedIn}
use Rattle.tl_search.proofs.ListLaws.{among-at}
use Rattle.tl_depth.specs.declared.stack.DepthFirst.{DepthFirst}
use Rattle.tl_search.specs.Calls.{AreNamedIn}
use Rattle.tl_depth.specs.NamedStacks.{StackIsNamed}
use Rattle.tl_depth.proofs.NamedStacks.{path-of-named, stack-split}
use Rattle.tl_search.proofs.NamedLaws.{event-named, events-named}
use Rattle.std.proofs.Common.{◌≡◌, sym, ap, ◌∙◌, subst}
use Rattle.tl_depth.specs.Levels.{path_of}
use Rattle.tl_depth.proofs.Ends.{before-top, range-holds, last-same}
use Rattle.tl_depth.proofs.Remembering.{grows-by-arrival}
use Rattle.tl_depth.proofs.Replaying.{came-of}
use Rattle.tl_depth.specs.Expansions.{CameOf, as_seen}
use Rattle.tl_depth.specs.declared.level.Level.{Level}
use Rattle.tl_depth.proofs.Trying.{few-next, top-executable, fault-here, fault-after, arrives-top}
use Rattle.tl_depth.proofs.Reading.{reads-got, reads-some, now-pair, few-called}
use Rattle.tl_search.proofs.KeptLaws.{kept-pair}
use Rattle.tl_depth.proofs.SeenPairs.{child-as-pairs, action-pair, after-pair}
use Rattle.tl_search.specs.Kept.{AreKept}
use Rattle.tl_search.specs.PairGraph.{pair_graph}
use Rattle.tl_search.proofs.HistoryLaws.{history-more}
use Rattle.tl_depth.proofs.Histories.{keeps-last}
use Rattle.tl_search.specs.NamedAnswers.{FaultIsNamed}
use Rattle.tl_depth.specs.Outcomes.{IsDepthFirstFault}
use Rattle.tl_depth.proofs.stack.DepthFirst.call.Goals as goal

pub child-requires-clause-executable : goal.child-requires-clause-executable
child-requires-clause-executable g c x e =
    let r = reads-got _ _ _ c.args.left _ _ c.requires.top c.as_slice.ensures.value c.as_slice-2.ensures.value c.index-as_slice-top.is
    c.in-Ok.ensures in
    top-executable _ _ _ _ c.requires.ongoing.0 c.requires.ongoing.1 r.level.front c.index-as_slice-top.result r.level.is c.in-Ok.action
    r.at_action x.node (kept-pair (g.S.SearchSpace.kept c.args.space.now) c.index-as_slice-top.result.at x e)

pub returns-in-Err-RangeHere-clause-fault : goal.returns-in-Err-RangeHere-clause-fault
returns-in-Err-RangeHere-clause-fault g c =
    let r = reads-got _ _ _ c.args.left _ _ c.requires.top c.as_slice.ensures.value c.as_slice-2.ensures.value c.index-as_slice-top.is
    c.in-Ok.ensures in
    range-holds (IsDepthFirstFault (g.S.SearchSpace.problem c.args.space.now) c.args.self.now.within) _ c.in-Err-RangeHere.note
    c.past_range.result c.past_range.ensures tt
    (λ path e. fault-here _ _ _ _ c.requires.ongoing.0 c.requires.ongoing.1 r.level.front c.index-as_slice-top.result r.level.is
    c.in-Ok.action r.at_action path
    (e ∙ ap path_of (before-top _ _ r.level.front c.index-as_slice-top.result _ r.level.is c.as_slice-in-Err-RangeHere.ensures.value
    r.level.last)) c.in-Err-RangeHere.note
    (action-pair _ (g.S.SearchSpace.kept c.args.space.now) c.index-as_slice-top.result.at _ _
    (rw c.in-Err-RangeHere.field-0-is at c.in-Err-RangeHere.ensures.cause)))

pub returns-in-Err-RangeAfter-clause-fault : goal.returns-in-Err-RangeAfter-clause-fault
returns-in-Err-RangeAfter-clause-fault g c =
    let r = reads-got _ _ _ c.args.left _ _ c.requires.top c.as_slice.ensures.value c.as_slice-2.ensures.value c.index-as_slice-top.is
    c.in-Ok.ensures in
    range-holds (IsDepthFirstFault (g.S.SearchSpace.problem c.args.space.now) c.args.self.now.within) _ c.in-Err-RangeAfter.note
    c.past_range-in-Err-RangeAfter.result c.past_range-in-Err-RangeAfter.ensures tt
    (λ path e. fault-after _ _ _ _ c.requires.ongoing.0 c.requires.ongoing.1 r.level.front c.index-as_slice-top.result r.level.is
    c.in-Ok.action r.at_action path
    (e ∙ ap path_of c.as_slice-in-Err-RangeAfter.ensures.value) c.in-Err-RangeAfter.note
    (after-pair _ (g.S.SearchSpace.kept c.args.space.now) c.index-as_slice-top.result.at _ _
    (rw c.in-Err-RangeAfter.field-0-is at c.in-Err-RangeAfter.ensures.cause)))

pub returns-clause-arrived : goal.returns-clause-arrived
returns-clause-arrived g c calls s =
    let r = reads-got _ _ _ c.args.left _ _ c.requires.top c.as_slice.ensures.value c.as_slice-2.ensures.value c.index-as_slice-top.is
    c.in-Ok.ensures in
    arrives-top _ _ _ _ calls s r.level.front c.index-as_slice-top.result r.level.is c.in-Ok.action r.at_action c.report.new.self _
    c.in-Ok-child.arrival _ c.report.ensures.rest (c.in_ok-report.ensures.told r.level.front c.index-as_slice-top.result c.in-Ok.action
    r.level.is r.at_action) r.remaining
    (child-as-pairs _ _ _ _ _ _ c.in-Ok-child.arrival c.child.ensures.kept c.in-Ok-child.ensures.arrival)

pub returns-clause-history : goal.returns-clause-history
returns-clause-history g c s =
    let r = reads-got _ _ _ c.args.left _ _ c.requires.top c.as_slice.ensures.value c.as_slice-2.ensures.value c.index-as_slice-top.is
    c.in-Ok.ensures in
    let x = now-pair _ _ (g.S.SearchSpace.kept c.args.space.now) _ c.requires.ongoing.0 _ c.args.left _ _ c.requires.ongoing.1 r in
    let h = c.in-Ok-child.ensures.arrival x.0 x.1 in
    history-more _ _ (g.S.SearchSpace.kept c.args.space.now) (g.S.SearchSpace.kept c.child.new.self) c.index-as_slice-top.result.at x.0
    c.in-Ok.action c.in-Ok-child.arrival _ c.report.new.self.events s x.1 h
    (subst (λ p. AreKept (pair_graph p) (g.S.SearchSpace.kept c.child.new.self)) c.child.ensures.same.problem c.child.ensures.kept)
    (c.in_ok-report.ensures.told r.level.front c.index-as_slice-top.result c.in-Ok.action r.level.is r.at_action)

pub returns-clause-ends : goal.returns-clause-ends
returns-clause-ends g c =
    let r = reads-got _ _ _ c.args.left _ _ c.requires.top c.as_slice.ensures.value c.as_slice-2.ensures.value c.index-as_slice-top.is
    c.in-Ok.ensures in
    let x = now-pair _ _ (g.S.SearchSpace.kept c.args.space.now) _ c.requires.ongoing.0 _ c.args.left _ _ c.requires.ongoing.1 r in
    let h = c.in-Ok-child.ensures.arrival x.0 x.1 in
    keeps-last _ (g.S.SearchSpace.kept c.args.space.now) (g.S.SearchSpace.kept c.child.new.self) c.index-as_slice-top.result.at
    c.in-Ok.action _ _ c.in-Ok-child.arrival _ c.report.new.self.events h
    (c.in_ok-report.ensures.told r.level.front c.index-as_slice-top.result c.in-Ok.action r.level.is r.at_action)

pub returns-in-Err-RangeHere-clause-calls : goal.returns-in-Err-RangeHere-clause-calls
returns-in-Err-RangeHere-clause-calls g c calls s =
    let r = reads-got _ _ _ c.args.left _ _ c.requires.top c.as_slice.ensures.value c.as_slice-2.ensures.value c.index-as_slice-top.is
    c.in-Ok.ensures in
    few-called _ _ (g.S.SearchSpace.kept c.args.space.now) _ calls _ c.args.left _ _ s r
    (g.S.SearchSpace.kept c.child.new.self) c.child.result c.child.ensures.arrival c.child.ensures.refused

pub returns-in-Err-RangeAfter-clause-calls : goal.returns-in-Err-RangeAfter-clause-calls
returns-in-Err-RangeAfter-clause-calls g c calls s =
    let r = reads-got _ _ _ c.args.left _ _ c.requires.top c.as_slice.ensures.value c.as_slice-2.ensures.value c.index-as_slice-top.is
    c.in-Ok.ensures in
    few-called _ _ (g.S.SearchSpace.kept c.args.space.now) _ calls _ c.args.left _ _ s r
    (g.S.SearchSpace.kept c.child.new.self) c.child.result c.child.ensures.arrival c.child.ensures.refused

pub returns-in-Err-NoMemory-clause-calls : goal.returns-in-Err-NoMemory-clause-calls
returns-in-Err-NoMemory-clause-calls g c calls s =
    let r = reads-got _ _ _ c.args.left _ _ c.requires.top c.as_slice.ensures.value c.as_slice-2.ensures.value c.index-as_slice-top.is
    c.in-Ok.ensures in
    few-called _ _ (g.S.SearchSpace.kept c.args.space.now) _ calls _ c.args.left _ _ s r
    (g.S.SearchSpace.kept c.child.new.self) c.child.result c.child.ensures.arrival c.child.ensures.refused

pub returns-in_default-clause-calls : goal.returns-in_default-clause-calls
returns-in_default-clause-calls g c calls s =
    let r = reads-some _ _ _ c.args.left _ c.requires.top c.as_slice.ensures.value c.as_slice-2.ensures.value c.index-as_slice-top.is in
    few-next _ _ _ _ calls s r.1.level.front c.index-as_slice-top.result r.1.level.is r.0 r.1.at_action

pub returns-in_err-report-clause-calls : goal.returns-in_err-report-clause-calls
returns-in_err-report-clause-calls g c calls s =
    let r = reads-got _ _ _ c.args.left _ _ c.requires.top c.as_slice.ensures.value c.as_slice-2.ensures.value c.index-as_slice-top.is
    c.in-Ok.ensures in
    few-called _ _ (g.S.SearchSpace.kept c.args.space.now) _ calls _ c.args.left _ _ s r
    (g.S.SearchSpace.kept c.child.new.self) c.child.result c.child.ensures.arrival c.child.ensures.refused

pub returns-clause-calls : goal.returns-clause-calls
returns-clause-calls g c calls s =
    let r = reads-got _ _ _ c.args.left _ _ c.requires.top c.as_slice.ensures.value c.as_slice-2.ensures.value c.index-as_slice-top.is
    c.in-Ok.ensures in
    few-called _ _ (g.S.SearchSpace.kept c.args.space.now) _ calls _ c.args.left _ _ s r
    (g.S.SearchSpace.kept c.child.new.self) c.child.result c.child.ensures.arrival c.child.ensures.refused

pub returns-clause-named : goal.returns-clause-named
returns-clause-named g c =
    let r = reads-got _ _ _ c.args.left _ _ c.requires.top c.as_slice.ensures.value c.as_slice-2.ensures.value c.index-as_slice-top.is
    c.in-Ok.ensures in
    let k = stack-split (g.S.SearchSpace.task c.args.space.now) c.args.self.now.stack.items r.level.front c.index-as_slice-top.result
    r.level.is c.requires.named.stack in
    record {
      stack = subst (λ (w : DepthFirst). StackIsNamed (g.S.SearchSpace.task c.args.space.now) w.stack.items)
          (sym c.report.ensures.rest) c.requires.named.stack;
      events = events-named (g.S.SearchSpace.task c.args.space.now) c.args.self.now.watch c.args.self.now.events c.report.new.self.events _
          c.requires.named.events
          (event-named (g.S.SearchSpace.task c.args.space.now) c.index-as_slice-top.result.at c.in-Ok.action c.in-Ok-child.arrival
          ((Each-Among (IsNamedIn (g.S.SearchSpace.task c.args.space.now)) c.index-as_slice-top.result.actions).0 k.1 c.in-Ok.action
          (among-at c.index-as_slice-top.result.actions c.index-as_slice-top.result.tried c.in-Ok.action r.at_action)))
          (c.in_ok-report.ensures.told r.level.front c.index-as_slice-top.result c.in-Ok.action r.level.is r.at_action);
    }

pub returns-in-Err-RangeHere-clause-path_named : goal.returns-in-Err-RangeHere-clause-path_named
returns-in-Err-RangeHere-clause-path_named g c =
    let r = reads-got _ _ _ c.args.left _ _ c.requires.top c.as_slice.ensures.value c.as_slice-2.ensures.value c.index-as_slice-top.is
    c.in-Ok.ensures in
    let k = stack-split (g.S.SearchSpace.task c.args.space.now) c.args.self.now.stack.items r.level.front c.index-as_slice-top.result
    r.level.is c.requires.named.stack in
    range-holds (FaultIsNamed (g.S.SearchSpace.task c.args.space.now)) _ c.in-Err-RangeHere.note c.past_range.result c.past_range.ensures tt
    (λ path e. subst (AreNamedIn (g.S.SearchSpace.task c.args.space.now))
    (sym (e ∙ ap path_of (before-top _ _ r.level.front c.index-as_slice-top.result _ r.level.is
    c.as_slice-in-Err-RangeHere.ensures.value r.level.last))) (path-of-named (g.S.SearchSpace.task c.args.space.now) r.level.front k.0))

pub returns-in-Err-RangeAfter-clause-path_named : goal.returns-in-Err-RangeAfter-clause-path_named
returns-in-Err-RangeAfter-clause-path_named g c =
    range-holds (FaultIsNamed (g.S.SearchSpace.task c.args.space.now)) _ c.in-Err-RangeAfter.note c.past_range-in-Err-RangeAfter.result
    c.past_range-in-Err-RangeAfter.ensures tt
    (λ path e. subst (AreNamedIn (g.S.SearchSpace.task c.args.space.now)) (sym (e ∙ ap path_of c.as_slice-in-Err-RangeAfter.ensures.value))
    (path-of-named (g.S.SearchSpace.task c.args.space.now) c.args.self.now.stack.items c.requires.named.stack))

pub returns-clause-came : goal.returns-clause-came
returns-clause-came g c front d e =
    let r = reads-got _ _ _ c.args.left _ _ c.requires.top c.as_slice.ensures.value c.as_slice-2.ensures.value c.index-as_slice-top.is
    c.in-Ok.ensures in
    let same : c.index-as_slice-top.result ≡ d = (last-same r.level.front front c.index-as_slice-top.result d (sym r.level.is ∙ e)).1 in
    subst (λ (l : Level). CameOf (g.S.SearchSpace.problem c.args.space.now) (g.S.SearchSpace.kept c.child.new.self) l.at l.tried
    (as_seen c.in-Ok-child.arrival)) same
    (came-of _ _ (g.S.SearchSpace.kept c.args.space.now) c.args.self.now c.requires.ongoing.0 c.requires.ongoing.1 r.level.front
    c.index-as_slice-top.result r.level.is c.in-Ok.action r.at_action c.in-Ok-child.arrival
    (g.S.SearchSpace.kept c.child.new.self) c.in-Ok-child.ensures.arrival)

pub returns-clause-grows : goal.returns-clause-grows
returns-clause-grows g c =
    let r = reads-got _ _ _ c.args.left _ _ c.requires.top c.as_slice.ensures.value c.as_slice-2.ensures.value c.index-as_slice-top.is
    c.in-Ok.ensures in
    let x = now-pair _ _ (g.S.SearchSpace.kept c.args.space.now) _ c.requires.ongoing.0 _ c.args.left _ _ c.requires.ongoing.1 r in
    grows-by-arrival (g.S.SearchSpace.problem c.args.space.now) (g.S.SearchSpace.kept c.args.space.now)
    (g.S.SearchSpace.kept c.child.new.self) c.index-as_slice-top.result.at x.0 c.in-Ok.action c.in-Ok-child.arrival x.1
    c.in-Ok-child.ensures.arrival

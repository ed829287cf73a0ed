use Rattle.std.proofs.Common.{sym, ap, ◌∙◌, subst}
use Rattle.tl_syntax.proofs.ListLaws.{Each-Among}
use Rattle.tl_search.specs.KeptPairs.{pairs_of}
use Rattle.tl_search.specs.NamedAnswers.{IsNamedIn}
use Rattle.tl_search.proofs.HistoryLaws.{history-more}
use Rattle.tl_search.proofs.ListLaws.{among-at}
use Rattle.tl_search.proofs.NamedLaws.{event-named, events-named}
use Rattle.tl_depth.specs.Expansions.{AreExpansions}
use Rattle.tl_depth.specs.NamedStacks.{StackIsNamed}
use Rattle.tl_depth.specs.declared.stack.DepthFirst.{DepthFirst}
use Rattle.tl_depth.proofs.Histories.{keeps-last}
use Rattle.tl_depth.proofs.NamedStacks.{stack-split}
use Rattle.tl_depth.proofs.Reading.{reads-some, now-pair}
use Rattle.tl_depth.proofs.Remembering.{stay-right}
use Rattle.tl_depth.proofs.Replaying.{replayed, as-learnt}
use Rattle.tl_depth.proofs.SeenPairs.{child-as-pairs}
use Rattle.tl_depth.proofs.Trying.{arrives-top, few-next}
use Rattle.tl_depth.proofs.stack.DepthFirst.attempt.Goals as goal

-- ---- what is remembered is replayed

pub returns-in_err-report-clause-calls : goal.returns-in_err-report-clause-calls
returns-in_err-report-clause-calls g c calls s =
    let r = reads-some _ _ _ c.args.left _ c.requires.top c.as_slice.ensures.value c.as_slice-2.ensures.value c.index-as_slice-top.is in
    few-next _ _ _ _ calls s r.1.level.front c.index-as_slice-top.result r.1.level.is r.0 r.1.at_action

pub returns-in-Some-clause-calls : goal.returns-in-Some-clause-calls
returns-in-Some-clause-calls g c calls s =
    let r = reads-some _ _ _ c.args.left _ c.requires.top c.as_slice.ensures.value c.as_slice-2.ensures.value c.index-as_slice-top.is in
    few-next _ _ _ _ calls s r.1.level.front c.index-as_slice-top.result r.1.level.is r.0 r.1.at_action

pub returns-in-Some-clause-arrived : goal.returns-in-Some-clause-arrived
returns-in-Some-clause-arrived g c calls s =
    let r = reads-some _ _ _ c.args.left _ c.requires.top c.as_slice.ensures.value c.as_slice-2.ensures.value c.index-as_slice-top.is in
    let came = c.in-Some.ensures (g.S.SearchSpace.problem c.args.space.now) (g.S.SearchSpace.task c.args.space.now)
    (g.S.SearchSpace.kept c.args.space.now) c.requires.remembered.expansions in
    arrives-top _ _ _ _ calls s r.1.level.front c.index-as_slice-top.result r.1.level.is r.0 r.1.at_action c.report.new.self _
    c.in-Some.known _ c.report.ensures.rest
    (c.in_ok-report.ensures.told r.1.level.front c.index-as_slice-top.result r.0 r.1.level.is r.1.at_action) r.1.remaining
    (child-as-pairs _ _ _ _ _ _ c.in-Some.known c.requires.remembered.kept_rightly
    (replayed (g.S.SearchSpace.problem c.args.space.now) c.args.nodes
    (g.S.SearchSpace.kept c.args.space.now) c.args.self.now calls s r.1.level.front c.index-as_slice-top.result r.1.level.is r.0
    r.1.at_action c.in-Some.known came))

pub returns-in-Some-clause-history : goal.returns-in-Some-clause-history
returns-in-Some-clause-history g c s =
    let r = reads-some _ _ _ c.args.left _ c.requires.top c.as_slice.ensures.value c.as_slice-2.ensures.value c.index-as_slice-top.is in
    let x = now-pair _ _ (g.S.SearchSpace.kept c.args.space.now) _ c.requires.ongoing.0 _ c.args.left _ _ c.requires.ongoing.1 r.1 in
    let came = c.in-Some.ensures (g.S.SearchSpace.problem c.args.space.now) (g.S.SearchSpace.task c.args.space.now)
    (g.S.SearchSpace.kept c.args.space.now) c.requires.remembered.expansions in
    history-more _ _ (g.S.SearchSpace.kept c.args.space.now) (g.S.SearchSpace.kept c.args.space.now) c.index-as_slice-top.result.at x.0 r.0
    c.in-Some.known _ c.report.new.self.events s x.1
    (replayed (g.S.SearchSpace.problem c.args.space.now) c.args.nodes (g.S.SearchSpace.kept c.args.space.now) c.args.self.now
    c.requires.ongoing.0 c.requires.ongoing.1 r.1.level.front c.index-as_slice-top.result r.1.level.is r.0 r.1.at_action c.in-Some.known
    came x.0 x.1)
    c.requires.remembered.kept_rightly (c.in_ok-report.ensures.told r.1.level.front c.index-as_slice-top.result r.0 r.1.level.is
    r.1.at_action)

pub returns-in-Some-clause-ends : goal.returns-in-Some-clause-ends
returns-in-Some-clause-ends g c =
    let r = reads-some _ _ _ c.args.left _ c.requires.top c.as_slice.ensures.value c.as_slice-2.ensures.value c.index-as_slice-top.is in
    let x = now-pair _ _ (g.S.SearchSpace.kept c.args.space.now) _ c.requires.ongoing.0 _ c.args.left _ _ c.requires.ongoing.1 r.1 in
    let came = c.in-Some.ensures (g.S.SearchSpace.problem c.args.space.now) (g.S.SearchSpace.task c.args.space.now)
    (g.S.SearchSpace.kept c.args.space.now) c.requires.remembered.expansions in
    keeps-last _ (g.S.SearchSpace.kept c.args.space.now) (g.S.SearchSpace.kept c.args.space.now) c.index-as_slice-top.result.at r.0 _ _
    c.in-Some.known _ c.report.new.self.events
    (replayed (g.S.SearchSpace.problem c.args.space.now) c.args.nodes (g.S.SearchSpace.kept c.args.space.now) c.args.self.now
    c.requires.ongoing.0 c.requires.ongoing.1 r.1.level.front c.index-as_slice-top.result r.1.level.is r.0 r.1.at_action c.in-Some.known
    came x.0 x.1)
    (c.in_ok-report.ensures.told r.1.level.front c.index-as_slice-top.result r.0 r.1.level.is r.1.at_action)

pub returns-in-Some-clause-named : goal.returns-in-Some-clause-named
returns-in-Some-clause-named g c =
    let r = reads-some _ _ _ c.args.left _ c.requires.top c.as_slice.ensures.value c.as_slice-2.ensures.value c.index-as_slice-top.is in
    let k = stack-split (g.S.SearchSpace.task c.args.space.now) c.args.self.now.stack.items r.1.level.front c.index-as_slice-top.result
    r.1.level.is c.requires.named.stack in
    record {
      stack = subst (λ (w : DepthFirst). StackIsNamed (g.S.SearchSpace.task c.args.space.now) w.stack.items)
          (sym c.report.ensures.rest) c.requires.named.stack;
      events = events-named (g.S.SearchSpace.task c.args.space.now) c.args.self.now.watch c.args.self.now.events c.report.new.self.events _
          c.requires.named.events
          (event-named (g.S.SearchSpace.task c.args.space.now) c.index-as_slice-top.result.at r.0 c.in-Some.known
          ((Each-Among (IsNamedIn (g.S.SearchSpace.task c.args.space.now)) c.index-as_slice-top.result.actions).0 k.1 r.0
          (among-at c.index-as_slice-top.result.actions c.index-as_slice-top.result.tried r.0 r.1.at_action)))
          (c.in_ok-report.ensures.told r.1.level.front c.index-as_slice-top.result r.0 r.1.level.is r.1.at_action);
    }

-- ---- what the space answered is remembered

pub returns-clause-arrived : goal.returns-clause-arrived
returns-clause-arrived g c calls s = as-learnt (g.S.SearchSpace.problem c.args.space.now) c.args.nodes
    (pairs_of (g.S.SearchSpace.kept c.call.new.space)) c.call.new.self c.remember_arrival.new.self c.in_ok-arrival.arrival c.args.left calls
    c.remember_arrival.ensures.rest (c.in_ok-arrival.ensures.arrived calls s)

pub returns-clause-remembered : goal.returns-clause-remembered
returns-clause-remembered g c =
    let r = reads-some _ _ _ c.args.left _ c.requires.top c.as_slice.ensures.value c.as_slice-2.ensures.value c.index-as_slice-top.is in
    let new = g.S.SearchSpace.kept c.call.new.space in
    let before = stay-right (g.S.SearchSpace.problem c.args.space.now) (g.S.SearchSpace.task c.args.space.now)
    (g.S.SearchSpace.kept c.args.space.now) new c.args.self.now.expansions c.in_ok-arrival.ensures.grows
    c.requires.remembered.expansions in
    record {
      kept_rightly = c.in_ok-arrival.ensures.kept;
      expansions = c.in_ok-remember_arrival.ensures.remembered r.1.level.front c.index-as_slice-top.result
          (ap (λ (w : DepthFirst). w.stack.items) c.call.ensures.rest ∙ r.1.level.is) (g.S.SearchSpace.problem c.args.space.now)
          (g.S.SearchSpace.task c.args.space.now) new
          (subst (λ (w : DepthFirst). AreExpansions (g.S.SearchSpace.problem c.args.space.now)
          (g.S.SearchSpace.task c.args.space.now) new w.expansions) (sym c.call.ensures.rest) before)
          (c.in_ok-arrival.ensures.came r.1.level.front c.index-as_slice-top.result r.1.level.is);
    }

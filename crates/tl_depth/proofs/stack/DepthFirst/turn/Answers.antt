use Rattle.tl_search.specs.NamedAnswers.{EndIsNamed, FaultIsNamed}
use Rattle.tl_depth.specs.NamedStacks.{SearchIsNamed}
use Rattle.tl_depth.proofs.NamedStacks.{stack-left, stack-split, search-with}
use Rattle.tl_depth.proofs.Replaying.{top-listed}
use Rattle.std.proofs.Common.{◌+◌, OnOk, IfOk, IfErr}
use Rattle.tl_depth.proofs.Counting.{few-same}
use Rattle.tl_depth.proofs.Ending.{few-made}
use Rattle.tl_depth.specs.declared.stack.DepthFirst.{DepthFirst}
use Rattle.tl_depth.proofs.Ends.{on-ok-if}
use Rattle.tl_depth.proofs.Histories.{as-history, as-ends, as-keeps}
use Rattle.tl_search.specs.KeptPairs.{pairs_of}
use Rattle.std.proofs.Common.{◌≡◌, ◌≤◌, ◌<◌, length, refl, sym, ap, subst, arith}
use Rattle.tl_depth.proofs.Ends.{if-ok}
use Rattle.tl_depth.proofs.Reading.{reads-last}
use Rattle.tl_depth.proofs.Arriving.{as-arrival}
use Rattle.tl_depth.proofs.Trying.{below-under, turned-left, turned-to, top-left}
use Rattle.tl_depth.proofs.PairAnswers.{get-there}
use Rattle.tl_depth.proofs.stack.DepthFirst.turn.Goals as goal

pub leave-requires : goal.leave-requires
leave-requires g c =
    let v = reads-last _ _ _ _ c.requires.some c.as_slice.ensures.value c.as_slice-2.ensures.value c.index-as_slice-top.is in (
      v.front,
      c.index-as_slice-top.result,
      v.is,
      below-under _ _ _ _ c.requires.ongoing.0 c.requires.ongoing.1 v.front
          c.index-as_slice-top.result v.is,
    )

pub returns-then-len-level-clause-turned : goal.returns-then-len-level-clause-turned
returns-then-len-level-clause-turned g c calls s =
    let v = reads-last _ _ _ _ c.requires.some c.as_slice.ensures.value c.as_slice-2.ensures.value c.index-as_slice-top.is in
    let o : length c.index-as_slice-top.result.actions ≤ c.index-as_slice-top.result.tried =
    omega (arith, c.len.ensures, c.if-len-level.true) in (
      calls,
      refl,
      turned-left _ _ _ _ calls s v.front c.index-as_slice-top.result v.is o c.leave.new.self c.leave.ensures.root
          c.leave.ensures.stack c.leave.ensures.rest,
    )

pub overflow_sub-left : goal.overflow_sub-left
overflow_sub-left g c =
    let v = reads-last _ _ _ _ c.requires.some c.as_slice.ensures.value c.as_slice-2.ensures.value c.index-as_slice-top.is in
    let o : c.index-as_slice-top.result.tried < length c.index-as_slice-top.result.actions =
    omega (arith, c.len.ensures, c.if-len-level.false) in
    let a = get-there c.index-as_slice-top.result.actions c.index-as_slice-top.result.tried o in
    let p : 0 < c.index-as_slice-top.result.left = top-left _ _ _ _ c.requires.ongoing.0 c.requires.ongoing.1 v.front
    c.index-as_slice-top.result v.is a.0 a.1 in
    omega (arith, p)

pub attempt-requires-clause-top : goal.attempt-requires-clause-top
attempt-requires-clause-top g c =
    let v = reads-last _ _ _ _ c.requires.some c.as_slice.ensures.value c.as_slice-2.ensures.value c.index-as_slice-top.is in
    let o : c.index-as_slice-top.result.tried < length c.index-as_slice-top.result.actions =
    omega (arith, c.len.ensures, c.if-len-level.false) in
    let a = get-there c.index-as_slice-top.result.actions c.index-as_slice-top.result.tried o in
    let p : 0 < c.index-as_slice-top.result.left = top-left _ _ _ _ c.requires.ongoing.0 c.requires.ongoing.1 v.front
    c.index-as_slice-top.result v.is a.0 a.1 in
    (v.front, c.index-as_slice-top.result, v.is, o, omega (arith, p))

pub returns-clause-turned : goal.returns-clause-turned
returns-clause-turned g c = if-ok c.arrived.result _ _ c.arrived.ensures.turned
    (λ o h calls s. turned-to _ _ _ _ _ c.args.self.now c.attempt.new.self _ calls _ _ o c.attempt.ensures.rest
    c.attempt.ensures.same.problem
    (sym (ap pairs_of c.arrived.ensures.kept)) c.attempt.ensures.ticks
    (h calls (as-arrival (sym c.attempt.ensures.same.problem) refl refl (c.in_ok-arrival.ensures.arrived calls s))))

pub returns-then-len-level-clause-history : goal.returns-then-len-level-clause-history
returns-then-len-level-clause-history g c s = as-history _ _ _ _ _ _ _ _ refl refl refl
    (sym (ap (λ (w : DepthFirst). w.events) c.leave.ensures.rest)) s

pub returns-clause-history : goal.returns-clause-history
returns-clause-history g c = on-ok-if c.arrived.result _ _ c.arrived.ensures.turned
    (λ o h s. as-history _ _ _ _ _ _ _ _ refl refl (sym c.arrived.ensures.kept) (sym c.arrived.ensures.events)
    (c.in_ok-arrival.ensures.history s))

pub returns-clause-ends : goal.returns-clause-ends
returns-clause-ends g c =
    let w : c.attempt.new.self.watch ≡ c.args.self.now.watch = ap (λ (w : DepthFirst). w.watch) c.attempt.ensures.rest in
    if-ok c.arrived.result _ _ c.arrived.ensures.ends (λ o h.
    as-ends c.attempt.new.self.watch c.args.self.now.watch (g.S.SearchSpace.kept c.attempt.new.space)
    (g.S.SearchSpace.kept c.arrived.new.space) c.attempt.new.self.events c.arrived.new.self.events o w (sym c.arrived.ensures.kept)
    (sym c.arrived.ensures.events)
    (h (as-keeps c.args.self.now.watch c.attempt.new.self.watch (g.S.SearchSpace.kept c.attempt.new.space) c.attempt.new.self.events
    c.in_ok-arrival.arrival (sym w) c.in_ok-arrival.ensures.ends)))

pub returns-then-len-level-clause-calls : goal.returns-then-len-level-clause-calls
returns-then-len-level-clause-calls g c calls s = (calls, refl, few-made _ _ _ _ calls s)

pub returns-in_err-arrival-clause-calls : goal.returns-in_err-arrival-clause-calls
returns-in_err-arrival-clause-calls g c calls s = (calls + 1, omega (arith, c.attempt.ensures.ticks), c.attempt.ensures.calls calls s)

pub returns-clause-calls : goal.returns-clause-calls
returns-clause-calls g c calls s = (
  calls + 1,
  omega (arith, c.attempt.ensures.ticks),
  few-same _ _ _ _ _ c.arrived.ensures.kept (c.attempt.ensures.calls calls s),
)

pub returns-then-len-level-clause-named : goal.returns-then-len-level-clause-named
returns-then-len-level-clause-named g c =
    let v = reads-last _ _ _ _ c.requires.some c.as_slice.ensures.value c.as_slice-2.ensures.value c.index-as_slice-top.is in
    search-with (g.S.SearchSpace.task c.args.space.now) c.args.self.now c.leave.new.self
    (stack-left (g.S.SearchSpace.task c.args.space.now) c.args.self.now.stack.items v.front c.leave.new.self.stack.items
    c.index-as_slice-top.result v.is c.leave.ensures.root c.leave.ensures.stack c.requires.named.stack)
    (ap (λ (w : DepthFirst). w.events) c.leave.ensures.rest) c.requires.named

pub arrived-requires-clause-named : goal.arrived-requires-clause-named
arrived-requires-clause-named g c = subst (λ t. SearchIsNamed t c.attempt.new.self)
    (sym c.attempt.ensures.same.task) c.in_ok-arrival.ensures.named

pub returns-clause-named : goal.returns-clause-named
returns-clause-named g c = subst (λ t. OnOk c.arrived.result (SearchIsNamed t c.arrived.new.self)) c.attempt.ensures.same.task
    c.arrived.ensures.named

pub returns-clause-plan_named : goal.returns-clause-plan_named
returns-clause-plan_named g c = subst (λ t. IfOk c.arrived.result (EndIsNamed t)) c.attempt.ensures.same.task c.arrived.ensures.plan_named

pub returns-clause-path_named : goal.returns-clause-path_named
returns-clause-path_named g c = subst (λ t. IfErr c.arrived.result (FaultIsNamed t)) c.attempt.ensures.same.task
    c.arrived.ensures.path_named

pub returns-then-len-level-clause-remembered : goal.returns-then-len-level-clause-remembered
returns-then-len-level-clause-remembered g c =
    let v = reads-last _ _ _ _ c.requires.some c.as_slice.ensures.value c.as_slice-2.ensures.value c.index-as_slice-top.is in
    let named = (stack-split (g.S.SearchSpace.task c.args.space.now) c.args.self.now.stack.items v.front c.index-as_slice-top.result v.is
    c.requires.named.stack).1 in
    record {
      kept_rightly = c.requires.remembered.kept_rightly;
      expansions = c.leave.ensures.remembered v.front c.index-as_slice-top.result v.is (g.S.SearchSpace.problem c.args.space.now)
          (g.S.SearchSpace.task c.args.space.now) (g.S.SearchSpace.kept c.args.space.now) c.requires.remembered.expansions
          (top-listed _ _ (g.S.SearchSpace.kept c.args.space.now) _ c.requires.ongoing.0 c.requires.ongoing.1 v.front
          c.index-as_slice-top.result v.is (g.S.SearchSpace.task c.args.space.now) named);
    }

use Rattle.std.proofs.Common.{refl, subst}
use Rattle.tl_cost.specs.Ongoing.{IsBetweenTurns}
use Rattle.tl_cost.specs.Outcomes.{IsCheapestOutcome}
use Rattle.tl_cost.specs.Ticks.{TicksTurn}
use Rattle.tl_cost.specs.declared.ways.Found.{Found}
use Rattle.tl_cost.proofs.Expanding.{turn-same}
use Rattle.tl_cost.proofs.Searching.{between-none, between-few, between-settles, between-unsettled, between-stay, turn-settled, turns-fall}
use Rattle.tl_cost.proofs.Searching.{counted-ticked}
use Rattle.tl_cost.proofs.Ticking.{ticked-turn, counted-turn}
use Rattle.tl_search.proofs.SameTaskLaws.{same-task, same-task-after}
use Rattle.tl_cost.proofs.turn.UniformCost.all_turns.Goals as goal

pub settle-requires : goal.settle-requires
settle-requires g c =
    let i = c.loop-next.invariant in
    let next = c.in-Some.next in
    record {
      turn = turn-same _ _ _ _ c.args.self.now.costs.now c.args.self.now.nodes (g.S.SearchSpace.kept c.loop-next.space) _
          (record { ways = c.loop-next.found.ways; open_list = c.take_first.new.self }) next.number _ i.same.problem i.same.task refl
          (between-settles _ _ _ _ _ c.loop-next.found i.between next c.take_first.new.self c.in-Some.ensures.member c.in-Some.ensures.drops
          c.in-Some.ensures.first c.in-Some.ensures.len);
      nodes = c.requires.nodes;
    }

pub loop-next-preserved : goal.loop-next-preserved
loop-next-preserved g c =
    let i = c.loop-next.invariant in
    let next = c.in-Some.next in
    let p = g.S.SearchSpace.problem c.args.space.now in
    let t = g.S.SearchSpace.task c.args.space.now in
    let popped : Found = record { ways = c.loop-next.found.ways; open_list = c.take_first.new.self } in
    let told = rw c.in-None.is at c.in_ok-outcome.ensures in
    let turn = between-settles _ _ _ _ _ c.loop-next.found i.between next c.take_first.new.self c.in-Some.ensures.member
    c.in-Some.ensures.drops c.in-Some.ensures.first c.in-Some.ensures.len in
    record {
      same = same-task-after c.settle.ensures.same i.same;
      between = subst (λ q. IsBetweenTurns q t c.args.self.now.costs.now c.args.self.now.nodes
          (g.S.SearchSpace.kept c.settle.new.space) c.settle.new.found) i.same.problem
          (subst (λ u. IsBetweenTurns (g.S.SearchSpace.problem c.loop-next.space) u c.args.self.now.costs.now c.args.self.now.nodes
          (g.S.SearchSpace.kept c.settle.new.space) c.settle.new.found) i.same.task told.outcome);
      counted = λ from h. counted-turn p from (g.S.SearchSpace.kept c.loop-next.space)
          (g.S.SearchSpace.kept c.settle.new.space) c.loop-next.found c.loop-next.steps c.settle.new.steps next.number
          c.settle.ensures.grows (i.counted from h)
          (between-unsettled _ _ _ _ _ c.loop-next.found i.between next c.take_first.new.self c.in-Some.ensures.member
          c.in-Some.ensures.drops)
          (subst (λ q. TicksTurn q (g.S.SearchSpace.kept c.settle.new.space) next.number c.loop-next.steps c.settle.new.steps)
          i.same.problem
          c.settle.ensures.ticks)
          c.settle.new.found
          (λ k s. c.in_ok-outcome.ensures.stay k (between-stay _ _ _ _ _ c.loop-next.found i.between next c.take_first.new.self
          c.in-Some.ensures.member c.in-Some.ensures.drops k s))
          (c.in_ok-outcome.ensures.stay next.number (turn-settled _ _ _ _ _ _ _ _ turn));
    }

pub loop-next-smaller : goal.loop-next-smaller
loop-next-smaller g c =
    let i = c.loop-next.invariant in
    let popped : Found = record { ways = c.loop-next.found.ways; open_list = c.take_first.new.self } in
    let told = rw c.in-None.is at c.in_ok-outcome.ensures in
    turns-fall c.args.self.now.nodes (g.S.SearchSpace.kept c.loop-next.space)
    (g.S.SearchSpace.kept c.settle.new.space) c.loop-next.found popped c.settle.new.found
    (between-few _ _ _ _ _ c.loop-next.found i.between) c.in-Some.ensures.len told.opens

pub loop-next-init : goal.loop-next-init
loop-next-init g c = record { same = same-task; between = c.requires.between; counted = λ from h. h }

pub returns : goal.returns
returns g c =
    let i = c.loop-next.invariant in
    record {
      same = i.same;
      outcome = between-none _ _ _ _ _ c.loop-next.found i.between c.in_default.ensures.none;
      steps = λ from h. counted-ticked _ from _ c.loop-next.found _ (i.counted from h);
      fault = tt;
      plan_named = tt;
      path_named = tt;
    }

pub returns-in_err-outcome-clause-steps : goal.returns-in_err-outcome-clause-steps
returns-in_err-outcome-clause-steps g c from h =
    let i = c.loop-next.invariant in
    let next = c.in-Some.next in
    ticked-turn (g.S.SearchSpace.problem c.args.space.now) from (g.S.SearchSpace.kept c.loop-next.space)
    (g.S.SearchSpace.kept c.settle.new.space) c.loop-next.found c.loop-next.steps c.settle.new.steps next.number c.settle.ensures.grows
    (i.counted from h)
    (between-unsettled _ _ _ _ _ c.loop-next.found i.between next c.take_first.new.self c.in-Some.ensures.member c.in-Some.ensures.drops)
    (subst (λ q. TicksTurn q (g.S.SearchSpace.kept c.settle.new.space) next.number c.loop-next.steps c.settle.new.steps) i.same.problem
    c.settle.ensures.ticks)

pub returns-in-Some-2-clause-steps : goal.returns-in-Some-2-clause-steps
returns-in-Some-2-clause-steps g c from h =
    let i = c.loop-next.invariant in
    let next = c.in-Some.next in
    ticked-turn (g.S.SearchSpace.problem c.args.space.now) from (g.S.SearchSpace.kept c.loop-next.space)
    (g.S.SearchSpace.kept c.settle.new.space) c.loop-next.found c.loop-next.steps c.settle.new.steps next.number c.settle.ensures.grows
    (i.counted from h)
    (between-unsettled _ _ _ _ _ c.loop-next.found i.between next c.take_first.new.self c.in-Some.ensures.member c.in-Some.ensures.drops)
    (subst (λ q. TicksTurn q (g.S.SearchSpace.kept c.settle.new.space) next.number c.loop-next.steps c.settle.new.steps) i.same.problem
    c.settle.ensures.ticks)

pub returns-in-Some-2-clause-outcome : goal.returns-in-Some-2-clause-outcome
returns-in-Some-2-clause-outcome g c = subst (λ p. IsCheapestOutcome p c.args.self.now.costs.now c.args.self.now.nodes
    (g.S.SearchSpace.kept c.settle.new.space) c.in-Some-2.outcome) c.loop-next.invariant.same.problem
    (rw c.in-Some-2.is at c.in_ok-outcome.ensures.outcome)

use Rattle.std.proofs.Common.{◌≡◌, ◌≤◌, true, length, slice_get, Some, refl, sym, subst, arith}
use Rattle.std.proofs.lemmas.Option.{slice_get_read}
use Rattle.tl_terms.specs.Pairs.{IsPairAccepted}
use Rattle.tl_search.proofs.ListLaws.{get-one}
use Rattle.tl_cost.specs.LeastCosts.{IsCheapestPlan}
use Rattle.tl_cost.specs.Outcomes.{IsUnaccepted}
use Rattle.tl_cost.specs.declared.ways.Way.{Way}
use Rattle.tl_cost.proofs.Answering.{turn-plan, turn-named}
use Rattle.tl_cost.proofs.Expanding.{turn-same}
use Rattle.tl_cost.proofs.Faulting.{fault-idling, fault-named, turn-inside, turn-linked}
use Rattle.tl_cost.proofs.Ticking.{ticks-none}
use Rattle.tl_cost.proofs.turn.UniformCost.settle.Goals as goal

pub path_to-requires : goal.path_to-requires
path_to-requires g c = record { at = turn-inside _ _ _ _ _ _ _ _ c.requires.turn; linked = turn-linked _ _ _ _ _ _ _ _ c.requires.turn }

pub expand-requires : goal.expand-requires
expand-requires g c =
    let unaccepted : IsUnaccepted (g.S.SearchSpace.problem c.args.space.now) (g.S.SearchSpace.kept c.args.space.now) c.args.at = λ x e a.
    (let t : c.in-Ok-false.field-0 ≡ true = (c.in-Ok-false.ensures.accepted x e).1 a in let y = c.in-Ok-false.field-0-test in cc) in
    record {
      turn = turn-same _ _ _ _ _ _ _ _ _ _ _ c.accepted.ensures.same.problem c.accepted.ensures.same.task c.accepted.ensures.kept
          c.requires.turn;
      unaccepted = λ x e a. unaccepted x (subst (λ xs. slice_get xs c.args.at ≡ Some x) c.accepted.ensures.kept e)
          (subst (λ p. IsPairAccepted p x.node) c.accepted.ensures.same.problem a);
      nodes = c.requires.nodes;
    }

pub returns-in_ok-plan-in-Ok-true : goal.returns-in_ok-plan-in-Ok-true
returns-in_ok-plan-in-Ok-true g c =
    let t = c.requires.turn in
    let p = g.S.SearchSpace.problem c.args.space.now in
    let f = c.in_ok-plan-in-Ok-true.ensures in
    let e : slice_get c.args.found.now.ways.items c.args.at ≡ Some c.index.result.now =
    slice_get_read _ _ c.args.at c.index.result.now refl (turn-inside _ _ _ _ _ _ _ _ t) c.index.ensures in
    let accepted : IsPairAccepted p t.pair.node = (c.in-Ok-true.ensures.accepted t.pair t.is_at.pair).0 c.in-Ok-true.field-0-test in
    record {
      same = c.accepted.ensures.same;
      outcome = (
        subst (λ (w : Way). IsCheapestPlan p c.args.self.now.costs.now c.in_ok-plan-in-Ok-true.plan w.cost)
            (get-one c.args.found.now.ways.items c.args.at t.way c.index.result.now t.is_at.way e)
            (turn-plan _ _ _ _ _ _ _ _ _ _ _ _ t.ongoing t.pair t.way t.is_at t.settled refl refl c.in_ok-plan-in-Ok-true.plan f accepted),
        subst (λ xs. length xs ≤ c.args.self.now.nodes) (sym c.accepted.ensures.kept) t.ongoing.few,
      );
      grows = λ i x q. subst (λ xs. slice_get xs i ≡ Some x) (sym c.accepted.ensures.kept) q;
      opens = tt;
      stay = λ k h. h;
      ticks = ticks-none p (g.S.SearchSpace.kept c.accepted.new.self) c.args.at c.args.steps.now t.pair
          (subst (λ xs. slice_get xs c.args.at ≡ Some t.pair) (sym c.accepted.ensures.kept) t.is_at.pair);
      fault = tt;
      plan_named = turn-named _ _ _ _ _ _ _ _ _ _ _ _ t.ongoing t.pair t.way t.is_at t.settled refl refl c.in_ok-plan-in-Ok-true.plan f;
      path_named = tt;
    }

pub unreachable-requires : goal.unreachable-requires
unreachable-requires g c = (rw c.in-Err-RangeAfter.field-0-is at c.in-Err-RangeAfter.ensures.cause) c.requires.turn.pair
    c.requires.turn.is_at.pair

pub returns-in-Err-RangeHere : goal.returns-in-Err-RangeHere
returns-in-Err-RangeHere g c =
    let t = c.requires.turn in
    let k = (rw c.in-Err-RangeHere.field-0-is at c.in-Err-RangeHere.ensures.cause) t.pair t.is_at.pair in
    record {
      same = c.accepted.ensures.same;
      outcome = tt;
      grows = λ i x e. subst (λ xs. slice_get xs i ≡ Some x) (sym c.accepted.ensures.kept) e;
      opens = tt;
      stay = tt;
      ticks = ticks-none _ (g.S.SearchSpace.kept c.accepted.new.self) c.args.at c.args.steps.now t.pair
          (subst (λ xs. slice_get xs c.args.at ≡ Some t.pair) (sym c.accepted.ensures.kept) t.is_at.pair);
      fault = fault-idling _ _ _ _ _ _ _ _ t c.in-Err-RangeHere.note c.range_at.result c.range_at.ensures k;
      plan_named = tt;
      path_named = fault-named _ _ _ _ _ _ _ _ t c.in-Err-RangeHere.note c.range_at.result c.range_at.ensures;
    }

pub returns-in_err-plan-in-Ok-true-clause-ticks : goal.returns-in_err-plan-in-Ok-true-clause-ticks
returns-in_err-plan-in-Ok-true-clause-ticks g c =
    let t = c.requires.turn in
    ticks-none _ (g.S.SearchSpace.kept c.accepted.new.self) c.args.at c.args.steps.now t.pair
    (subst (λ xs. slice_get xs c.args.at ≡ Some t.pair) (sym c.accepted.ensures.kept) t.is_at.pair)

pub returns-in-Err-NoMemory-clause-ticks : goal.returns-in-Err-NoMemory-clause-ticks
returns-in-Err-NoMemory-clause-ticks g c =
    let t = c.requires.turn in
    ticks-none _ (g.S.SearchSpace.kept c.accepted.new.self) c.args.at c.args.steps.now t.pair
    (subst (λ xs. slice_get xs c.args.at ≡ Some t.pair) (sym c.accepted.ensures.kept) t.is_at.pair)

pub index-requires : goal.index-requires
index-requires g c = let q = turn-inside _ _ _ _ _ _ _ _ c.requires.turn in omega (arith, q, c.args.found.now.ways.ok)

pub range_at-requires-clause-at : goal.range_at-requires-clause-at
range_at-requires-clause-at g c = turn-inside _ _ _ _ _ _ _ _ c.requires.turn

pub range_at-requires-clause-linked : goal.range_at-requires-clause-linked
range_at-requires-clause-linked g c = turn-linked _ _ _ _ _ _ _ _ c.requires.turn

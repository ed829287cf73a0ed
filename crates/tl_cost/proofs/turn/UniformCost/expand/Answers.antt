use Rattle.std.proofs.Common.{◌≡◌, ◌+◌, length, slice_get, Some, refl, sym, ap, subst, arith}
use Rattle.std.proofs.lemmas.Option.{slice_get_read}
use Rattle.tl_syntax.proofs.ListLaws.{Each-Among}
use Rattle.tl_search.specs.Calls.{AreNamedIn, IsExecutableAt}
use Rattle.tl_search.specs.ListedActions.{ListsActions}
use Rattle.tl_search.specs.NamedAnswers.{IsNamedIn}
use Rattle.tl_search.proofs.ListLaws.{among-at}
use Rattle.tl_cost.specs.Ongoing.{HasAction, IsTriedAt}
use Rattle.tl_cost.specs.Ways.{listed_len}
use Rattle.tl_cost.proofs.Expanding.{turn-begins, turn-next, turn-ends, listed-executable, opens-on}
use Rattle.tl_cost.proofs.Faulting.{fault-acting, fault-named, turn-linked}
use Rattle.tl_cost.proofs.Ticking.{ticks-listed, ticks-none}
use Rattle.tl_search.proofs.SameTaskLaws.{same-task-after}
use Rattle.tl_cost.proofs.turn.UniformCost.expand.Goals as goal

pub arrive-requires : goal.arrive-requires
arrive-requires g c =
    let i = c.loop-a.invariant in
    let r = c.requires.turn in
    let items = c.as_slice-a-items.result.now in
    let e = slice_get_read _ _ c.loop-a.a-index c.a-item.result refl c.loop-a-test.true c.a-item.is in
    let new = g.S.SearchSpace.kept c.loop-a.space in
    record {
      turn = subst (λ p. HasAction p (g.S.SearchSpace.task c.loop-a.space) c.args.self.now.costs.now c.args.self.now.nodes new
          c.loop-a.found c.args.at c.a-item.result) (sym i.same.problem)
          (subst (λ t. HasAction (g.S.SearchSpace.problem c.args.space.now) t c.args.self.now.costs.now c.args.self.now.nodes new
          c.loop-a.found c.args.at c.a-item.result) (sym i.same.task)
          (record { rest = _; turn = turn-next _ _ _ _ _ _ _ items c.loop-a.a-index i.turn c.a-item.result e }));
      executable = subst (λ p. IsExecutableAt p new c.args.at c.a-item.result) (sym i.same.problem)
          (listed-executable _ _ new c.args.at c.loop-a.a-index c.a-item.result items r.pair r.is_at.pair i.grows i.lists e);
      named = subst (λ t. IsNamedIn t c.a-item.result) (sym i.same.task) ((Each-Among
          (IsNamedIn (g.S.SearchSpace.task c.args.space.now)) items).0 i.listed_named c.a-item.result
          (among-at items c.loop-a.a-index c.a-item.result e));
      nodes = c.requires.nodes;
    }

pub loop-a-init : goal.loop-a-init
loop-a-init g c =
    let old = g.S.SearchSpace.kept c.args.space.now in
    record {
      same = c.actions.ensures.same;
      listed_named = subst (AreNamedIn (g.S.SearchSpace.task c.args.space.now)) (sym c.as_slice-a-items.ensures) c.in-Ok.ensures.named;
      lists = λ x e. subst (ListsActions (g.S.SearchSpace.problem c.args.space.now) x.node.world) (sym c.as_slice-a-items.ensures)
          (c.in-Ok.ensures.actions x e);
      turn = turn-begins _ _ _ _ _ _ old (g.S.SearchSpace.kept c.actions.new.self) c.as_slice-a-items.result.now c.actions.ensures.kept
          c.requires.turn c.requires.unaccepted (λ x e. subst (ListsActions (g.S.SearchSpace.problem c.args.space.now) x.node.world)
          (sym c.as_slice-a-items.ensures) (c.in-Ok.ensures.actions x e));
      grows = λ k x e. subst (λ xs. slice_get xs k ≡ Some x) (sym c.actions.ensures.kept) e;
      opens = ap (λ xs. length xs + listed_len c.args.found.now.open_list) c.actions.ensures.kept;
      stay = λ k h. h;
      ticks = omega arith;
    }

pub loop-a-preserved : goal.loop-a-preserved
loop-a-preserved g c =
    let i = c.loop-a.invariant in
    let items = c.as_slice-a-items.result.now in
    let e = slice_get_read _ _ c.loop-a.a-index c.a-item.result refl c.loop-a-test.true c.a-item.is in
    let old = g.S.SearchSpace.kept c.loop-a.space in
    let new = g.S.SearchSpace.kept c.arrive.new.space in
    let told = rw c.if-branch.false at c.in_ok-arrive.ensures in
    record {
      same = same-task-after c.arrive.ensures.same i.same;
      listed_named = i.listed_named;
      lists = i.lists;
      turn = subst (λ p. IsTriedAt p (g.S.SearchSpace.task c.args.space.now) c.args.self.now.costs.now c.args.self.now.nodes old new
          c.loop-a.found c.arrive.new.found c.args.at c.a-item.result) i.same.problem
          (subst (λ t. IsTriedAt (g.S.SearchSpace.problem c.loop-a.space) t c.args.self.now.costs.now c.args.self.now.nodes old new
          c.loop-a.found c.arrive.new.found c.args.at c.a-item.result) i.same.task told.outcome) _
          (turn-next _ _ _ _ _ _ _ items c.loop-a.a-index i.turn c.a-item.result e);
      grows = λ k x f. c.arrive.ensures.grows k x (i.grows k x f);
      opens = opens-on (g.S.SearchSpace.kept c.args.space.now) old new c.args.found.now c.loop-a.found c.arrive.new.found i.opens
          told.opens;
      stay = λ k h. c.in_ok-arrive.ensures.stay k (i.stay k h);
      ticks = omega (arith, c.arrive.ensures.ticks, i.ticks);
    }

pub returns-in-Err-RangeHere : goal.returns-in-Err-RangeHere
returns-in-Err-RangeHere g c =
    let t = c.requires.turn in
    let k = (rw c.in-Err-RangeHere.field-0-is at c.in-Err-RangeHere.ensures.cause) t.pair t.is_at.pair in
    record {
      same = c.actions.ensures.same;
      outcome = tt;
      grows = λ i x e. subst (λ xs. slice_get xs i ≡ Some x) (sym c.actions.ensures.kept) e;
      opens = tt;
      stay = tt;
      ticks = ticks-none _ (g.S.SearchSpace.kept c.actions.new.self) c.args.at c.args.steps.now t.pair
          (subst (λ xs. slice_get xs c.args.at ≡ Some t.pair) (sym c.actions.ensures.kept) t.is_at.pair);
      fault = fault-acting _ _ _ _ _ _ _ _ t c.in-Err-RangeHere.note k.0 c.range_at.result c.range_at.ensures k.1;
      path_named = fault-named _ _ _ _ _ _ _ _ t c.in-Err-RangeHere.note c.range_at.result c.range_at.ensures;
    }

pub unreachable-requires : goal.unreachable-requires
unreachable-requires g c = (rw c.in-Err-RangeAfter.field-0-is at c.in-Err-RangeAfter.ensures.cause) c.requires.turn.pair
    c.requires.turn.is_at.pair

pub returns : goal.returns
returns g c =
    let i = c.loop-a.invariant in
    let r = c.requires.turn in
    record {
      same = i.same;
      outcome = turn-ends _ _ _ _ _ _ _ c.as_slice-a-items.result.now c.loop-a.a-index i.turn c.loop-a-test.false;
      grows = i.grows;
      opens = i.opens;
      stay = i.stay;
      ticks = ticks-listed _ _ (g.S.SearchSpace.kept c.loop-a.space) c.args.at c.args.steps.now c.loop-a.steps c.loop-a.a-index r.pair
          c.as_slice-a-items.result.now r.is_at.pair i.grows (i.lists r.pair r.is_at.pair) c.loop-a.auto.a-index-end i.ticks;
      fault = tt;
      path_named = tt;
    }

pub range_at-requires-clause-linked : goal.range_at-requires-clause-linked
range_at-requires-clause-linked g c = turn-linked _ _ _ _ _ _ _ _ c.requires.turn

pub returns-in-Err-NoMemory-clause-ticks : goal.returns-in-Err-NoMemory-clause-ticks
returns-in-Err-NoMemory-clause-ticks g c =
    let t = c.requires.turn in
    ticks-none _ (g.S.SearchSpace.kept c.actions.new.self) c.args.at c.args.steps.now t.pair
    (subst (λ xs. slice_get xs c.args.at ≡ Some t.pair) (sym c.actions.ensures.kept) t.is_at.pair)

pub returns-in_err-arrive-clause-ticks : goal.returns-in_err-arrive-clause-ticks
returns-in_err-arrive-clause-ticks g c =
    let i = c.loop-a.invariant in
    let r = c.requires.turn in
    ticks-listed _ (g.S.SearchSpace.kept c.args.space.now) (g.S.SearchSpace.kept c.arrive.new.space) c.args.at c.args.steps.now
    c.arrive.new.steps (c.loop-a.a-index + 1) r.pair c.as_slice-a-items.result.now r.is_at.pair
    (λ k x f. c.arrive.ensures.grows k x (i.grows k x f)) (i.lists r.pair r.is_at.pair) (omega (arith, c.loop-a-test.true))
    (omega (arith, c.arrive.ensures.ticks, i.ticks))

pub returns-then-branch-clause-ticks : goal.returns-then-branch-clause-ticks
returns-then-branch-clause-ticks g c =
    let i = c.loop-a.invariant in
    let r = c.requires.turn in
    ticks-listed _ (g.S.SearchSpace.kept c.args.space.now) (g.S.SearchSpace.kept c.arrive.new.space) c.args.at c.args.steps.now
    c.arrive.new.steps (c.loop-a.a-index + 1) r.pair c.as_slice-a-items.result.now r.is_at.pair
    (λ k x f. c.arrive.ensures.grows k x (i.grows k x f)) (i.lists r.pair r.is_at.pair) (omega (arith, c.loop-a-test.true))
    (omega (arith, c.arrive.ensures.ticks, i.ticks))

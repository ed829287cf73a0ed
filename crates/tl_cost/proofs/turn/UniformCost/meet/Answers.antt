use Rattle.std.proofs.Common.{◌≡◌, ◌+◌, slice_get, Some, refl, ap, ◌∙◌, subst, arith}
use Rattle.std.proofs.lemmas.Option.{slice_get_read, slice_get_within}
use Rattle.tl_syntax.specs.declared.action.Action.{Action}
use Rattle.tl_search.proofs.ListLaws.{get-one}
use Rattle.tl_cost.specs.PlanCosts.{action_cost}
use Rattle.tl_cost.specs.Ways.{GoesOn, Meets, TellsOrder}
use Rattle.tl_cost.specs.declared.ways.Way.{Way}
use Rattle.tl_cost.proofs.Meeting.{met-open, met-fresh, met-kept, met-replaced}
use Rattle.tl_cost.proofs.turn.UniformCost.meet.Goals as goal

pub index-requires : goal.index-requires
index-requires c =
    let r = c.requires.room in
    let m = c.requires.met r.way r.its_way in
    let q = slice_get_within c.args.found.now.ways.items c.args.k m.way m.its_way in
    omega (arith, q, c.args.found.now.ways.ok)

pub replace-requires-clause-at : goal.replace-requires-clause-at
replace-requires-clause-at c =
    let r = c.requires.room in
    let m = c.requires.met r.way r.its_way in
    slice_get_within c.args.found.now.ways.items c.args.k m.way m.its_way

pub replace-requires-clause-was : goal.replace-requires-clause-was
replace-requires-clause-was c u eu =
    let r = c.requires.room in
    let before : Way = c.index-before.result.now in
    let e : slice_get c.args.found.now.ways.items c.args.at ≡ Some before =
    slice_get_read _ _ c.args.at before refl (slice_get_within c.args.found.now.ways.items c.args.at r.way r.its_way)
    c.index-before.ensures in
    let m = c.requires.met before e in
    let f : slice_get c.args.found.now.ways.items c.args.k ≡ Some c.index.result.now =
    slice_get_read _ _ c.args.k c.index.result.now refl (slice_get_within c.args.found.now.ways.items c.args.k m.way m.its_way)
    c.index.ensures in
    let same = get-one c.args.found.now.ways.items c.args.k c.index.result.now u f eu in
    met-open c.args.self.now.costs.now c.args.found.now c.args.at c.args.k c.args.a.now before u eu m (before.cost + c.from.result)
    (ap (λ n. before.cost + n) (c.from.ensures ∙ c.cost_of.ensures)) c.falls.result
    (subst (λ (v : Way). TellsOrder c.falls.result (before.cost + c.from.result) (before.length + 1) v) same c.falls.ensures)
    c.if-falls.true

pub replace-requires-clause-fresh : goal.replace-requires-clause-fresh
replace-requires-clause-fresh c =
    let r = c.requires.room in
    let before : Way = c.index-before.result.now in
    let e : slice_get c.args.found.now.ways.items c.args.at ≡ Some before =
    slice_get_read _ _ c.args.at before refl (slice_get_within c.args.found.now.ways.items c.args.at r.way r.its_way)
    c.index-before.ensures in
    let m = c.requires.met before e in
    let f : slice_get c.args.found.now.ways.items c.args.k ≡ Some c.index.result.now =
    slice_get_read _ _ c.args.k c.index.result.now refl (slice_get_within c.args.found.now.ways.items c.args.k m.way m.its_way)
    c.index.ensures in
    met-fresh c.args.self.now.costs.now c.args.found.now c.args.at c.args.k c.args.a.now before c.index.result.now f m
    (before.cost + c.from.result) (ap (λ n. before.cost + n) (c.from.ensures ∙ c.cost_of.ensures)) c.falls.result c.falls.ensures
    c.if-falls.true (record {
      cost = before.cost + c.from.result;
      length = before.length + 1;
      last =
          Some (record { from = c.args.at; action = c.in_ok-action.action });
    }) refl refl

pub returns-in_ok-replace : goal.returns-in_ok-replace
returns-in_ok-replace c w u ew eu =
    let r = c.requires.room in
    let before : Way = c.index-before.result.now in
    let e : slice_get c.args.found.now.ways.items c.args.at ≡ Some before =
    slice_get_read _ _ c.args.at before refl (slice_get_within c.args.found.now.ways.items c.args.at r.way r.its_way)
    c.index-before.ensures in
    let m = c.requires.met before e in
    let f : slice_get c.args.found.now.ways.items c.args.k ≡ Some c.index.result.now =
    slice_get_read _ _ c.args.k c.index.result.now refl (slice_get_within c.args.found.now.ways.items c.args.k m.way m.its_way)
    c.index.ensures in
    let same = get-one c.args.found.now.ways.items c.args.k c.index.result.now u f eu in
    let is : before.cost + c.from.result ≡ before.cost + action_cost c.args.self.now.costs.now c.args.a.now =
    ap (λ n. before.cost + n) (c.from.ensures ∙ c.cost_of.ensures) in
    let new : Way = record {
      cost = before.cost + c.from.result;
      length = before.length + 1;
      last =
          Some (record { from = c.args.at; action = c.in_ok-action.action });
    } in
    let on : GoesOn c.args.self.now.costs.now before c.args.at c.args.a.now new = record {
      cost = is;
      longer = refl;
      last = ap (λ (a : Action). Some (record { from = c.args.at; action = a })) c.in_ok-action.ensures.same;
      small = omega (arith, c.cost_of.ensures, c.cost_of.type_inv);
    } in
    subst (λ (v : Way). Meets c.args.self.now.costs.now c.args.found.now c.replace.new.self v c.args.at c.args.a.now c.args.k u)
    (get-one c.args.found.now.ways.items c.args.at before w e ew)
    (met-replaced c.args.self.now.costs.now c.args.found.now c.args.at c.args.k c.args.a.now before u eu m
    (before.cost + c.from.result) is c.falls.result (subst (λ (v : Way).
    TellsOrder c.falls.result (before.cost + c.from.result) (before.length + 1) v) same c.falls.ensures) c.if-falls.true
    c.replace.new.self new on c.in_ok-replace.ensures.ways (c.in_ok-replace.ensures.moves u eu) c.in_ok-replace.ensures.len)

pub returns-else-falls : goal.returns-else-falls
returns-else-falls c w u ew eu =
    let r = c.requires.room in
    let before : Way = c.index-before.result.now in
    let e : slice_get c.args.found.now.ways.items c.args.at ≡ Some before =
    slice_get_read _ _ c.args.at before refl (slice_get_within c.args.found.now.ways.items c.args.at r.way r.its_way)
    c.index-before.ensures in
    let m = c.requires.met before e in
    let f : slice_get c.args.found.now.ways.items c.args.k ≡ Some c.index.result.now =
    slice_get_read _ _ c.args.k c.index.result.now refl (slice_get_within c.args.found.now.ways.items c.args.k m.way m.its_way)
    c.index.ensures in
    let same = get-one c.args.found.now.ways.items c.args.k c.index.result.now u f eu in
    subst (λ (v : Way). Meets c.args.self.now.costs.now c.args.found.now c.args.found.now v c.args.at c.args.a.now c.args.k u)
    (get-one c.args.found.now.ways.items c.args.at before w e ew)
    (met-kept c.args.self.now.costs.now c.args.found.now c.args.at c.args.k c.args.a.now before u eu m (before.cost + c.from.result)
    (ap (λ n. before.cost + n) (c.from.ensures ∙ c.cost_of.ensures)) c.falls.result
    (subst (λ (v : Way). TellsOrder c.falls.result (before.cost + c.from.result) (before.length + 1) v) same c.falls.ensures)
    c.if-falls.false)

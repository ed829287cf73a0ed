use Rattle.std.proofs.Common.{List, [], ◌∷◌, ◌++◌, sym, ap, subst, ◌∙◌}
use Rattle.tl_syntax.specs.Lists.{Each}
use Rattle.tl_space.specs.declared.numbers.Met.{Met}
use Rattle.tl_space.specs.Ways.{mets_of, IsWay}
use Rattle.tl_space.proofs.MetWays.{ways-stay, mets-stay, ways-more, mets-more, on-error}
use Rattle.tl_space.proofs.ways.Ways.push.Goals as goal

pub invariant_of-self : goal.invariant_of-self
invariant_of-self c = ways-stay c.self.inside.actions.keys c.way_of.new.actions.keys c.way_of.ensures.stay c.self.inside.ways.items
    c.self.invariant

pub returns-in_err-way-clause-refused : goal.returns-in_err-way-clause-refused
returns-in_err-way-clause-refused c = on-error c.from_residual.result (mets-stay c.self.inside.actions.keys c.way_of.new.actions.keys
    c.way_of.ensures.stay c.self.inside.ways.items c.self.invariant ∙ c.self.view_is)

pub invariant_of-self-in_err-push : goal.invariant_of-self-in_err-push
invariant_of-self-in_err-push c =
    let us = c.self.inside.actions.keys in
    let bs = c.way_of.new.actions.keys in
    let ws = c.self.inside.ways.items in
    subst (Each (IsWay bs)) (sym c.in_err-push.ensures.items) (ways-stay us bs c.way_of.ensures.stay ws c.self.invariant)

pub returns-in_err-push-clause-refused : goal.returns-in_err-push-clause-refused
returns-in_err-push-clause-refused c =
    let us = c.self.inside.actions.keys in
    let bs = c.way_of.new.actions.keys in
    let ws = c.self.inside.ways.items in
    on-error c.from_residual-in_err-push.result (ap (mets_of bs) c.in_err-push.ensures.items ∙
    (mets-stay us bs c.way_of.ensures.stay ws c.self.invariant ∙ c.self.view_is))

pub invariant_of-self-2 : goal.invariant_of-self-2
invariant_of-self-2 c =
    let us = c.self.inside.actions.keys in
    let bs = c.way_of.new.actions.keys in
    let ws = c.self.inside.ways.items in
    ways-more bs ws _ c.in_ok-way.way c.in_ok-push.ensures.items (ways-stay us bs c.way_of.ensures.stay ws c.self.invariant)
    c.in_ok-way.ensures.number

pub returns-clause-done : goal.returns-clause-done
returns-clause-done c =
    let us = c.self.inside.actions.keys in
    let bs = c.way_of.new.actions.keys in
    let ws = c.self.inside.ways.items in
    mets-more bs ws _ c.in_ok-way.way c.args.met c.in_ok-push.ensures.items c.in_ok-way.ensures.way
    ∙ ap (λ (ms : List Met). ms ++ c.args.met ∷ []) (mets-stay us bs c.way_of.ensures.stay ws c.self.invariant ∙ c.self.view_is)

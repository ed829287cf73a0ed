use Rattle.std.proofs.Common.{◌≡◌, rules, arith, ap, ◌∙◌}
use Rattle.std.proofs.lemmas.List.{take_all}
use Rattle.std.proofs.lemmas.Fn.{always_returns_same}
use Rattle.std.specs.List.{filter}
use Rattle.std.specs.List.Sorted.{ties}
use Rattle.tl_world.specs.Falling.{is_above}
use Rattle.tl_world.proofs.Falling.{above-order}
use Rattle.tl_world.proofs.places.falling.Goals as goal

pub returns : goal.returns
returns c = λ x.
    let all : c.loop-p.out.items ≡ c.args.sets.now = c.loop-p.invariant ∙ take_all c.loop-p.p-index c.args.sets.now (omega arith) in
    c.sort_by.ensures.stable is_above above-order (always_returns_same _ _ _ (λ y r f' k. search rules)) x
    ∙ ap (filter (ties is_above x)) all

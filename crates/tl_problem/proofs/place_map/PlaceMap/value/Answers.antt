use Rattle.std.proofs.Common.{ap, ◌∙◌}
use Rattle.tl_problem.proofs.PlaceLookups.{lookup-value_among}
use Rattle.tl_problem.specs.Literals.{value_among}
use Rattle.tl_problem.proofs.place_map.PlaceMap.value.Goals as goal

pub returns : goal.returns
returns c = c.copied.ensures ∙ c.get.ensures.value ∙ lookup-value_among c.args.place.now c.self.inside.values.entries ∙
    ap (λ xs. value_among xs (c.args.place.now.fun, c.args.place.now.args)) c.self.view_is

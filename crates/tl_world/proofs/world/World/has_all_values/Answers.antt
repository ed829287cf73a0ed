use Rattle.std.proofs.Common.{ap, ◌∙◌}
use Rattle.std.specs.List.{list_all}
use Rattle.tl_terms.specs.Acceptance.{is_value}
use Rattle.tl_terms.specs.World.{World, value_at}
use Rattle.tl_world.proofs.Contents.{places-all}
use Rattle.tl_world.proofs.world.World.has_all_values.Goals as goal

pub returns : goal.returns
returns c =
    c.gives_each.ensures
    ∙ (ap (list_all (λ t. list_all (λ r. is_value (value_at c.args.self.now (t.name, r.args)) r.value) t.rows.value))
    c.as_slice.ensures.value
    ∙ places-all (λ k. is_value (value_at c.args.self.now k.0) k.1) c.other.inside.places.items c.args.other.now c.other.invariant.0.1
    (ap (λ (w : World). w.places) c.other.view_is))

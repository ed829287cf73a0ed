use Rattle.std.proofs.Common.{ap, ◌∙◌}
use Rattle.std.specs.List.{list_all}
use Rattle.tl_terms.specs.World.{World, has_fact}
use Rattle.tl_world.proofs.Contents.{facts-all}
use Rattle.tl_world.proofs.world.World.has_all_facts.Goals as goal

pub returns : goal.returns
returns c = c.holds_each.ensures ∙ (ap (list_all (λ t. list_all (λ a. (has_fact c.args.self.now) (t.name, a)) t.rows.value))
    c.as_slice.ensures.value ∙ facts-all (has_fact c.args.self.now) c.other.inside.facts.items c.args.other.now
    (ap (λ (w : World). w.facts) c.other.view_is))

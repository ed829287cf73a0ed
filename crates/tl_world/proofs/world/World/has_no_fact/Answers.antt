use Rattle.std.proofs.Common.{ap, ◌∙◌, not}
use Rattle.std.specs.List.{list_all}
use Rattle.tl_syntax.specs.Keys.{Key}
use Rattle.tl_terms.specs.World.{World, has_fact}
use Rattle.tl_world.proofs.Contents.{facts-all}
use Rattle.tl_world.proofs.world.World.has_no_fact.Goals as goal

pub returns : goal.returns
returns c = c.holds_none.ensures ∙ (ap (list_all (λ t. list_all (λ a. (λ (k : Key). not (has_fact c.args.self.now k)) (t.name, a))
    t.rows.value)) c.as_slice.ensures.value ∙ facts-all (λ (k : Key). not (has_fact c.args.self.now k)) c.other.inside.facts.items
    c.args.other.now (ap (λ (w : World). w.facts) c.other.view_is))

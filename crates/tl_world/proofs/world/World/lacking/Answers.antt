use Rattle.std.proofs.Common.{Bool, List, length, get_or, sym, ap, ◌∙◌, arith}
use Rattle.std.specs.List.{list_all}
use Rattle.tl_syntax.specs.declared.value.Value.{Value}
use Rattle.tl_terms.specs.World.{World, has_fact}
use Rattle.tl_rows.specs.declared.named.Named.{Named}
use Rattle.tl_world.proofs.Contents.{facts-all}
use Rattle.tl_world.proofs.Lacking.{one-fails}
use Rattle.tl_world.proofs.world.World.lacking.Goals as goal

pub returns-in-Some : goal.returns-in-Some
returns-in-Some c =
    let tables = c.other.inside.facts.items in
    let one = c.index-tables-at.result in
    let held : Named (List (List Value)) → Bool = λ t. list_all (λ a. has_fact c.args.self.now (t.name, a)) t.rows.value in
    let there = c.index-tables-at.is ∙ ap (λ ts. get_or ts c.args.at.table one) c.as_slice-tables.ensures.value in
    sym (facts-all (has_fact c.args.self.now) tables c.args.other.now (ap (λ (w : World). w.facts) c.other.view_is))
    ∙ one-fails held tables c.args.at.table one
    (omega (arith, c.if-at-tables.false, ap length c.as_slice-tables.ensures.value))
    (ap held (sym there) ∙ (ap (list_all (λ a. has_fact c.args.self.now (one.name, a))) (sym c.as_ref.ensures) ∙ c.in-Some.ensures))

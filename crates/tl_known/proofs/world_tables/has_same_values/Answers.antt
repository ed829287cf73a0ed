use Rattle.std.proofs.Common.{sym, ◌∙◌}
use Rattle.tl_rows.specs.RowTests.{place_rows-tell}
use Rattle.tl_known.proofs.TableNames.{same-values}
use Rattle.tl_known.proofs.world_tables.has_same_values.Goals as goal

pub returns-in-Some-Some : goal.returns-in-Some-Some
returns-in-Some-Some c = λ t.
    let rows = c.in-Some-Some.rows.now in
    let others = c.in-Some-Some.others.now in
    same-values c.args.world.now c.args.other.now c.args.fun rows others c.in-Some-Some.ensures.places c.in-Some-Some.ensures'.places
    ((place_rows-tell rows others).0 (sym c.eq.ensures ∙ t))

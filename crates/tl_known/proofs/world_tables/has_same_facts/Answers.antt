use Rattle.std.proofs.Common.{◌≡◌, sym, subst, ◌∙◌}
use Rattle.tl_syntax.proofs.Telling.{told_alike}
use Rattle.tl_syntax.specs.Lists.{Among}
use Rattle.tl_rows.specs.RowTests.{rows-tell}
use Rattle.tl_known.proofs.world_tables.has_same_facts.Goals as goal

pub returns-in-Some-Some : goal.returns-in-Some-Some
returns-in-Some-Some c = λ t a _.
    let rows = c.in-Some-Some.rows.now in
    let others = c.in-Some-Some.others.now in
    let same : rows ≡ others = (rows-tell rows others).0 (sym c.eq.ensures ∙ t) in
    let these = c.in-Some-Some.ensures.facts a in
    let those = c.in-Some-Some.ensures'.facts a in
    told_alike {P = Among a rows} _ _ (these.1, these.0) (
      (λ h. subst (Among a) (sym same) (those.1 h)),
      (λ m. those.0 (subst (Among a) same m)),
    )

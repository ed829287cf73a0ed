use Rattle.std.proofs.Common.{◌+◌, [], drop, refl, subst}
use Rattle.tl_known.specs.Unset.{ArePlacesBeside}
use Rattle.tl_known.proofs.Unset.{tables-passed, table-passed, table-passed-back}
use Rattle.tl_known.proofs.places_beside.are_place_tables_beside.Goals as goal
use Rattle.tl_known.proofs.places_beside.are_place_tables_beside.Goals.{else-not-is_same_number-via-then-not-is_same_number+else-not-are_places_beside}
use Rattle.tl_known.proofs.places_beside.are_place_tables_beside.Goals.{else-not-is_same_number-via-else-not-is_same_number}

pub loop-i-preserved-then-t-u : goal.loop-i-preserved-then-t-u
loop-i-preserved-then-t-u c =
    let t = c.index-tables-i.result in
    let u = c.index-others-j.result in
    let sets = c.args.sets.now in
    let rows : ArePlacesBeside sets t.name t.rows.value u.rows.value = elim c.else-not-is_same_number.branch [
      | else-not-is_same_number-via-then-not-is_same_number+else-not-are_places_beside w ↦
          subst (λ zs. ArePlacesBeside sets t.name zs u.rows.value) w.as_ref.ensures
          (subst (ArePlacesBeside sets t.name w.as_ref.result.now) w.as_ref-then-not-is_same_number.ensures
          (w.are_places_beside.ensures w.if-not-are_places_beside.false))
      | else-not-is_same_number-via-else-not-is_same_number w ↦
          let same = c.is_same_number.ensures w.if-not-is_same_number.false in
          λ q _. c.requires c.loop-i.i c.loop-i.j same.0 t u c.loop-i-test.true c.if-j-others.true c.index-tables-i.is c.index-others-j.is
          c.if-t-u.true same.1 same.2 q refl
    ] in
    record {
      left = λ h. c.loop-i.invariant.left (tables-passed sets c.args.these.now.tables.now c.args.those.now.tables.now c.loop-i.i c.loop-i.j
          (c.loop-i.i + 1) (c.loop-i.j + 1) t u refl refl c.loop-i-test.true c.if-j-others.true c.index-tables-i.is c.index-others-j.is
          c.if-t-u.true rows h);
    }

pub loop-i-preserved-then-t-u-2 : goal.loop-i-preserved-then-t-u-2
loop-i-preserved-then-t-u-2 c =
    let t = c.index-tables-i.result in
    let sets = c.args.sets.now in
    let rows = subst (λ zs. ArePlacesBeside sets t.name zs []) c.as_ref-then-t-u-2.ensures
    (c.are_set_from.ensures c.if-not-are_set_from.false) in
    record {
      left = λ h. c.loop-i.invariant.left (table-passed sets c.args.these.now.tables.now
          (drop c.loop-i.j c.args.those.now.tables.now) c.loop-i.i (c.loop-i.i + 1) t refl c.loop-i-test.true c.index-tables-i.is rows h);
    }

pub loop-i-preserved : goal.loop-i-preserved
loop-i-preserved c =
    let u = c.index-others-j.result in
    let sets = c.args.sets.now in
    let rows = subst (λ zs. ArePlacesBeside sets u.name zs []) c.as_ref-else-t-u-2.ensures
    (c.are_set_from-else-t-u-2.ensures c.if-not-are_set_from-2.false) in
    record {
      left = λ h. c.loop-i.invariant.left (table-passed-back sets (drop c.loop-i.i c.args.these.now.tables.now) c.args.those.now.tables.now
          c.loop-i.j (c.loop-i.j + 1) u refl c.if-j-others.true c.index-others-j.is rows h);
    }

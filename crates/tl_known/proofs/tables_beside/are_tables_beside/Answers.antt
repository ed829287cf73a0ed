use Rattle.std.proofs.Common.{◌+◌, ◌++◌, [], drop, refl, subst}
use Rattle.tl_known.specs.Unchanged.{AreRowsBeside}
use Rattle.tl_known.proofs.Unchanged.{table-passed-back, tables-passed}
use Rattle.tl_known.proofs.tables_beside.are_tables_beside.Goals as goal
use Rattle.tl_known.proofs.tables_beside.are_tables_beside.Goals.{else-not-is_same_number-via-then-not-is_same_number+else-not-is_table_beside}
use Rattle.tl_known.proofs.tables_beside.are_tables_beside.Goals.{else-not-is_same_number-via-else-not-is_same_number}

pub loop-i-preserved-then-t-u : goal.loop-i-preserved-then-t-u
loop-i-preserved-then-t-u c =
    let t = c.index-tables-i.result in
    let u = c.index-others-j.result in
    let dels = c.args.dels.now in
    let adds = c.args.adds.now in
    let rows : AreRowsBeside dels adds t.name t.rows.value u.rows.value = elim c.else-not-is_same_number.branch [
      | else-not-is_same_number-via-then-not-is_same_number+else-not-is_table_beside w ↦
          subst (λ xs. AreRowsBeside dels adds t.name xs u.rows.value) w.as_ref.ensures
          (subst (AreRowsBeside dels adds t.name w.as_ref.result.now) w.as_ref-then-not-is_same_number.ensures
          (w.is_table_beside.ensures w.if-not-is_table_beside.false))
      | else-not-is_same_number-via-else-not-is_same_number w ↦
          let same = c.is_same_number.ensures w.if-not-is_same_number.false in
          λ q _. c.requires c.loop-i.i c.loop-i.j same.0 t u c.loop-i-test.true c.if-j-others.true c.index-tables-i.is c.index-others-j.is
          c.if-t-u.true same.1 same.2 q refl
    ] in
    record {
      left = λ h. c.loop-i.invariant.left (tables-passed (dels ++ adds) c.args.these.now.tables.now c.args.those.now.tables.now c.loop-i.i
          c.loop-i.j (c.loop-i.i + 1) (c.loop-i.j + 1) t u refl refl c.loop-i-test.true c.if-j-others.true c.index-tables-i.is
          c.index-others-j.is c.if-t-u.true rows h);
    }

pub loop-i-preserved : goal.loop-i-preserved
loop-i-preserved c =
    let u = c.index-others-j.result in
    let dels = c.args.dels.now in
    let adds = c.args.adds.now in
    let rows = subst (λ zs. AreRowsBeside dels adds u.name zs []) c.as_ref-else-t-u-2.ensures
    (c.are_named_from-else-t-u-2.ensures c.if-not-are_named_from-2.false) in
    record {
      left = λ h. c.loop-i.invariant.left (table-passed-back (dels ++ adds)
          (drop c.loop-i.i c.args.these.now.tables.now) c.args.those.now.tables.now c.loop-i.j
          (c.loop-i.j + 1) u refl c.if-j-others.true c.index-others-j.is rows h);
    }

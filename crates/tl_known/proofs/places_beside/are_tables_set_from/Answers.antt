use Rattle.std.proofs.Common.{◌+◌, [], refl, subst}
use Rattle.tl_known.specs.Unset.{ArePlacesBeside}
use Rattle.tl_known.proofs.Unset.{table-passed}
use Rattle.tl_known.proofs.places_beside.are_tables_set_from.Goals as goal

pub loop-i-preserved : goal.loop-i-preserved
loop-i-preserved c =
    let t = c.index-tables-i.result in
    let rows = subst (λ zs. ArePlacesBeside c.args.sets.now t.name zs []) c.as_ref.ensures
    (c.are_set_from.ensures c.if-not-are_set_from.false) in
    record {
      left = λ h. c.loop-i.invariant.left (table-passed c.args.sets.now c.args.tables.now [] c.loop-i.i
          (c.loop-i.i + 1) t refl c.loop-i-test.true c.index-tables-i.is rows h);
    }

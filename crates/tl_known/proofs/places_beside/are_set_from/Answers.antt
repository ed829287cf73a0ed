use Rattle.std.proofs.Common.{◌+◌, [], refl, sym, ap, ◌∙◌, arith}
use Rattle.tl_known.specs.Unset.{is_set}
use Rattle.tl_known.proofs.Unset.{set-passed}
use Rattle.tl_known.proofs.places_beside.are_set_from.Goals as goal

pub loop-k-preserved : goal.loop-k-preserved
loop-k-preserved c = record {
  left = λ h. c.loop-k.invariant.left (set-passed c.args.sets.now c.args.fun c.args.rows.now [] c.loop-k.k
      (c.loop-k.k + 1) c.place-r.result refl (omega (arith, c.loop-k-test.true, c.len.ensures)) (c.place-r.ensures _)
      (ap (λ xs. is_set c.args.sets.now (c.args.fun, xs)) (sym c.place_args.ensures) ∙
      (sym c.is_one_set.ensures ∙ c.if-not-is_one_set.false)) h);
}

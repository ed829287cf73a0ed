use Rattle.std.proofs.Common.{◌+◌, drop, refl, sym, ap, ◌∙◌, arith}
use Rattle.tl_rows.specs.RowTests.{place_row-tells}
use Rattle.tl_known.specs.Unset.{is_set}
use Rattle.tl_known.proofs.Unset.{same-passed, set-passed, set-passed-back}
use Rattle.tl_known.proofs.places_beside.are_places_beside.Goals as goal

pub loop-k-preserved-then-is_same_place : goal.loop-k-preserved-then-is_same_place
loop-k-preserved-then-is_same_place c = record {
  left = λ h. c.loop-k.invariant.left (same-passed c.args.sets.now c.args.fun c.args.rows.now c.args.others.now c.loop-k.k c.loop-k.l
      (c.loop-k.k + 1) (c.loop-k.l + 1) c.place-r.result c.place-o.result refl refl (omega (arith, c.loop-k-test.true, c.len.ensures))
      (omega (arith, c.if-l-len.true, c.len-in-loop-k.ensures)) (c.place-r.ensures _) (c.place-o.ensures _)
      ((place_row-tells c.place-r.result c.place-o.result).0 (sym c.is_same_place.ensures ∙ c.if-is_same_place.true)) h);
}

pub loop-k-preserved-then-is_one_set : goal.loop-k-preserved-then-is_one_set
loop-k-preserved-then-is_one_set c = record {
  left = λ h. c.loop-k.invariant.left (set-passed c.args.sets.now c.args.fun c.args.rows.now (drop c.loop-k.l c.args.others.now) c.loop-k.k
      (c.loop-k.k + 1) c.place-r.result refl (omega (arith, c.loop-k-test.true, c.len.ensures)) (c.place-r.ensures _)
      (ap (λ xs. is_set c.args.sets.now (c.args.fun, xs)) (sym c.place_args.ensures) ∙ (sym c.is_one_set.ensures ∙ c.if-is_one_set.true))
      h);
}

pub loop-k-preserved : goal.loop-k-preserved
loop-k-preserved c = record {
  left = λ h. c.loop-k.invariant.left (set-passed-back c.args.sets.now c.args.fun
      (drop c.loop-k.k c.args.rows.now) c.args.others.now c.loop-k.l (c.loop-k.l + 1) c.place-o.result refl
      (omega (arith, c.if-l-len.true, c.len-in-loop-k.ensures)) (c.place-o.ensures _)
      (ap (λ xs. is_set c.args.sets.now (c.args.fun, xs)) (sym c.place_args-else-is_one_set.ensures) ∙
      (sym c.is_one_set-else-is_one_set.ensures ∙ c.if-is_one_set-2.true)) h);
}

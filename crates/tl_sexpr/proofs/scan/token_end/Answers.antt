use Rattle.std.proofs.Common.{IsTrue, slice_index, arith, sym}
use Rattle.tl_sexpr.specs.Bytes.{is_token_byte}
use Rattle.tl_sexpr.proofs.Ranges.{one_in_range, more_in_range}
use Rattle.tl_sexpr.proofs.scan.token_end.Goals as goal

pub loop-end-init : goal.loop-end-init
loop-end-init c = record {
  some = omega arith;
  bounded = omega arith;
  each = one_in_range (λ k. IsTrue (is_token_byte (slice_index c.args.bytes.now k))) c.args.from c.requires.token;
}

pub loop-end-preserved : goal.loop-end-preserved
loop-end-preserved c = record {
  some = omega arith;
  bounded = omega arith;
  each = more_in_range (λ k. IsTrue (is_token_byte (slice_index c.args.bytes.now k))) c.args.from c.loop-end.end c.loop-end.invariant.each
      (sym c.if-is_token_byte.ensures);
}

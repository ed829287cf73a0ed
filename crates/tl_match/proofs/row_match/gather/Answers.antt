use Rattle.std.proofs.Common.{refl, arith, rules}
use Rattle.std.specs.Prelude.{pos}
use Rattle.tl_syntax.specs.declared.value.Value.TheVariants.{Int}
use Rattle.tl_match.specs.declared.pattern.Part.TheVariants.{Fixed, Free}
use Rattle.tl_match.proofs.Matching.{known-fixed, known-past, known-free, known-step, known-none}
use Rattle.std.proofs.Math.Seq.{drop-length}
use Rattle.tl_match.proofs.row_match.gather.Goals as goal

pub loop-k-preserved-then-n-lt-MOST_PARTS : goal.loop-k-preserved-then-n-lt-MOST_PARTS
loop-k-preserved-then-n-lt-MOST_PARTS c = record {
  within = omega (arith, c.loop-k.invariant.within);
  size = search rules;
  known = known-step c.args.parts.now c.args.row.now c.loop-k.values _ _ c.loop-k.k (Free c.in-Free.n) _ _ _
      (omega arith) c.loop-k.invariant.within c.requires c.in-Free.is refl
      (known-free c.in-Free.n _ _ _ c.loop-k.values c.loop-k.invariant.size c.if-n-lt-MOST_PARTS.true) c.loop-k.invariant.known;
}

pub loop-k-preserved-else-n-lt-MOST_PARTS : goal.loop-k-preserved-else-n-lt-MOST_PARTS
loop-k-preserved-else-n-lt-MOST_PARTS c = record {
  within = omega (arith, c.loop-k.invariant.within);
  size = c.loop-k.invariant.size;
  known = known-step c.args.parts.now c.args.row.now c.loop-k.values c.loop-k.values _ c.loop-k.k (Free c.in-Free.n) _ _ (Int (pos 0))
      (omega arith) c.loop-k.invariant.within c.requires c.in-Free.is refl
      (known-past c.in-Free.n _ _ _ c.loop-k.values c.if-n-lt-MOST_PARTS.false) c.loop-k.invariant.known;
}

pub loop-k-preserved : goal.loop-k-preserved
loop-k-preserved c = record {
  within = omega (arith, c.loop-k.invariant.within);
  size = c.loop-k.invariant.size;
  known = known-step c.args.parts.now c.args.row.now c.loop-k.values c.loop-k.values _ c.loop-k.k (Fixed c.in_default.field-0) _ _
      (Int (pos 0)) (omega arith) c.loop-k.invariant.within c.requires c.in_default.is refl
      (known-fixed c.in_default.field-0 _ _ _ c.loop-k.values) c.loop-k.invariant.known;
}

pub loop-k-init : goal.loop-k-init
loop-k-init c = record {
  within = omega arith;
  size = refl;
  known = known-none _ _ _ (drop-length c.args.parts.now);
}

use Rattle.std.proofs.Common.{take, sym, subst, arith}
use Rattle.std.proofs.lemmas.List.{take_more}
use Rattle.tl_depth.specs.Packed.{AddsCodes}
use Rattle.tl_depth.proofs.Packing.{adds-one}
use Rattle.tl_depth.proofs.packed.add_codes.Goals as goal

pub loop-value-preserved : goal.loop-value-preserved
loop-value-preserved c =
    subst (λ vs. AddsCodes c.args.codes.now.items c.args.others.now.items vs c.push.new.self.items c.code_of.new.others.items)
    (sym (take_more c.args.values.now c.loop-value.value-index _ (omega arith)))
    (adds-one c.args.codes.now.items c.args.others.now.items (take c.loop-value.value-index c.args.values.now) c.loop-value.codes.items
    c.loop-value.others.items _ c.in_ok-code.code c.push.new.self.items c.code_of.new.others.items c.loop-value.invariant
    c.in_ok-code.ensures.others c.in_ok-code.ensures.code.0 c.in_ok-code.ensures.code.1 c.in_ok-push.ensures.items)

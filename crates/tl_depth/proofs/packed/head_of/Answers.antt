use Rattle.std.proofs.Common.{◌≡◌, refl, length, subst, arith}
use Rattle.tl_depth.specs.Packed.{AddsCodes}
use Rattle.tl_depth.proofs.Packing.{head-packs}
use Rattle.tl_depth.proofs.packed.head_of.Goals as goal

pub returns : goal.returns
returns c =
    let from : c.len-from.result ≡ length c.args.codes.now.items = omega arith in
    head-packs c.args.codes.now.items c.args.others.now.items _ c.args.action.now c.add_codes.new.codes.items c.add_codes.new.others.items
    refl from c.len-count.ensures
    (subst (λ vs. AddsCodes c.args.codes.now.items c.args.others.now.items vs c.add_codes.new.codes.items c.add_codes.new.others.items)
    c.as_slice.ensures c.in_ok-add_codes.ensures)

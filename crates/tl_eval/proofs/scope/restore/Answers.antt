use Rattle.std.proofs.Common.{arith}
use Rattle.std.proofs.lemmas.List.{length-take}
use Rattle.tl_eval.proofs.ScopeLaws.{restored}
use Rattle.tl_eval.proofs.scope.restore.Goals as goal

pub copy_from_slice-requires : goal.copy_from_slice-requires
copy_from_slice-requires c = omega (arith, length-take 32 c.args.frames.now, c.told-frame)

pub returns : goal.returns
returns c = restored c.args.frames.now c.args.frame.now c.copy_from_slice.new.self c.copy_from_slice.ensures.after
    (omega (arith, c.told-frame))

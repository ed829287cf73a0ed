use Rattle.std.proofs.Common.{arith}
use Rattle.std.proofs.lemmas.List.{length-take}
use Rattle.tl_eval.proofs.env.Env.frame.Goals as goal

pub slice_bounds-result-end : goal.slice_bounds-result-end
slice_bounds-result-end c = rw c.deref.ensures.value (omega (arith, length-take 32 c.self.inside.values.items, c.self.invariant))

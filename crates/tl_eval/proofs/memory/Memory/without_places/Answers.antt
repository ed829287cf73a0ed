use Rattle.std.proofs.Common.{arith, ap, ◌∙◌, List, []}
use Rattle.tl_eval.specs.Memory.{said_in}
use Rattle.tl_eval.specs.declared.memory.Entry.{Entry}
use Rattle.tl_eval.proofs.MemoryLaws.{nothing-said}
use Rattle.tl_eval.proofs.memory.Memory.without_places.Goals as goal

pub returns : goal.returns
returns c = ap (λ (es : List Entry). said_in 1 es) c.new.ensures.items ∙ nothing-said 0 1 [] tt (omega arith)

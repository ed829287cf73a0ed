use Rattle.std.proofs.Common.{arith, rules, ap, ◌∙◌, List}
use Rattle.tl_eval.specs.Memory.{said_in}
use Rattle.tl_eval.specs.declared.memory.Entry.{Entry}
use Rattle.tl_eval.proofs.MemoryLaws.{copies-say}
use Rattle.tl_eval.proofs.memory.Memory.new.Goals as goal

pub returns : goal.returns
returns c = ap (λ (es : List Entry). said_in 1 es) (c.in_ok-entries.ensures.items_if_clones_equal (λ y h. search rules)) ∙
    copies-say c.args.places 1 c.none.result c.none.ensures (omega arith)

use Rattle.std.proofs.Common.{◌≡◌, arith, rules, ap, sym, ◌∙◌, ◌+◌, List, length}
use Rattle.std.proofs.lemmas.List.{with_items_is}
use Rattle.tl_eval.specs.Memory.{said_in}
use Rattle.tl_eval.specs.declared.memory.Entry.{Entry}
use Rattle.tl_eval.specs.declared.memory.Memory.TheInside.{Inside}
use Rattle.tl_eval.proofs.MemoryLaws.{nothing-said, copies-say}
use Rattle.tl_eval.proofs.memory.Memory.forget_all.Goals as goal
use Rattle.tl_eval.proofs.memory.Memory.forget_all.Goals.{then-self, else-self}

pub returns : goal.returns
returns c = elim c.if-self.branch [
  | then-self w ↦
      let size : length w.fill.new.self ≡ c.self.inside.entries.len = w.fill.ensures.len ∙
      (ap (λ (es : List Entry). length es) w.as_mut_slice.ensures.value ∙ sym c.self.inside.entries.ok.0) in
      ap (λ (m : Inside). said_in (m.generation + 1) m.entries.items) w.self-inside-is
      ∙ (ap (λ (es : List Entry). said_in 1 es) (with_items_is c.self.inside.entries w.fill.new.self size ∙
      w.fill.ensures.after (λ y h. search rules))
      ∙ copies-say (length w.as_mut_slice.result.now) 1 w.none.result w.none.ensures (omega arith))
  | else-self w ↦
      ap (λ (m : Inside). said_in (m.generation + 1) m.entries.items) w.self-inside-is
      ∙ nothing-said c.self.inside.generation (c.self.inside.generation + 1) c.self.inside.entries.items c.self.invariant.before
      (omega arith)
]

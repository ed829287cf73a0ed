use Rattle.tl_eval.proofs.MemoryLaws.{says}
use Rattle.tl_eval.proofs.memory.Entry.is_of.Goals as goal

pub returns : goal.returns
returns c = λ h. says c.args.self.now c.args.asked.now.number c.args.asked.now.level c.args.asked.now.values.now c.if-self-number.false
    c.if-self-level.false (c.has_values.ensures h)

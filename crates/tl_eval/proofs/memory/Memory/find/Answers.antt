use Rattle.std.proofs.Common.{subst, List, length, ◌<◌, rules}
use Rattle.tl_eval.specs.Memory.{said}
use Rattle.tl_eval.specs.Remembered.{Remembered}
use Rattle.tl_eval.proofs.MemoryLaws.{among-said}
use Rattle.tl_syntax.specs.Lists.{Among}
use Rattle.tl_eval.proofs.memory.Memory.find.Goals as goal

pub returns-then-is_of : goal.returns-then-is_of
returns-then-is_of c =
    let e = c.index-entry.result.now in
    let es = c.self.inside.entries.items in
    let within : c.loop-at.at < length es = search rules in
    subst (λ (r : Remembered). Among r c.args.self.now) (c.is_of.ensures c.if-is_of.true)
    (subst (λ (rs : List Remembered). Among (said e) rs) c.self.view_is
    (among-said c.self.inside.generation es c.loop-at.at e within c.index-entry.ensures c.if-entry-self.false))

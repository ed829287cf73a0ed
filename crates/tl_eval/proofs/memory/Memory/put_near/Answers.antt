use Rattle.std.proofs.Common.{subst, List}
use Rattle.std.specs.Prelude.{slice_set}
use Rattle.tl_eval.specs.Memory.{said, said_in}
use Rattle.tl_eval.specs.Remembered.{Remembered, AreFrom}
use Rattle.tl_eval.proofs.MemoryLaws.{put-said, same-from}
use Rattle.tl_eval.proofs.memory.Memory.put_near.Goals as goal

pub returns : goal.returns
returns c =
    let g = c.self.inside.generation in
    let es = c.self.inside.entries.items in
    let at = c.place_from-at.result in
    let e = c.set.new.self in
    subst (λ (r : Remembered). AreFrom r c.args.self.now (said_in g (slice_set es at e))) c.set.ensures.said
    (subst (λ (rs : List Remembered). AreFrom (said e) rs (said_in g (slice_set es at e))) c.self.view_is
    (put-said g es at e c.set.ensures.generation))

pub returns-then-is_empty : goal.returns-then-is_empty
returns-then-is_empty c = same-from _ _

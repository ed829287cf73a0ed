use Rattle.std.proofs.Common.{ℕ, List, length, ltb-true, sym, subst}
use Rattle.tl_syntax.specs.Lists.{Among}
use Rattle.tl_progress.proofs.Below.{among-or}
use Rattle.tl_progress.proofs.part_places.part_at.Goals as goal

pub returns : goal.returns
returns c =
    let x = c.in_ok-part.part.now in
    let h = c.in_ok-part.ensures.lookup in
    let less = ltb-true c.in_ok-before.before (length c.as_slice.result.now) (sym h.0) in
    subst (λ (ids : List ℕ). Among x ids) c.as_slice.ensures
    (subst (λ (q : ℕ). Among q c.as_slice.result.now) (sym h.1) (among-or c.as_slice.result.now c.in_ok-before.before x less))

use Rattle.std.proofs.Common.{sym, ap, ◌∙◌}
use Rattle.std.specs.List.{slice_get}
use Rattle.tl_depth.proofs.Ending.{ends-cut, ends-uncut, ends-told}
use Rattle.tl_depth.proofs.stack.DepthFirst.none.Goals as goal

pub returns-then-is_cut-clause-outcome : goal.returns-then-is_cut-clause-outcome
returns-then-is_cut-clause-outcome g c =
    let k = c.is_cut.ensures.cut c.if-is_cut.true in
    ends-cut _ _ _ _ c.requires.ongoing.0 c.requires.ongoing.1 c.requires.none
    (k.0, ap (λ us. slice_get us k.0) (sym c.as_slice.ensures.value) ∙ k.1)

pub returns-clause-outcome : goal.returns-clause-outcome
returns-clause-outcome g c = ends-uncut _ _ _ _ c.requires.ongoing.0 c.requires.ongoing.1 c.requires.none
    (λ k e. c.is_cut.ensures.uncut c.if-is_cut.false k (ap (λ us. slice_get us k) c.as_slice.ensures.value ∙ e))

pub returns-then-is_cut-clause-told : goal.returns-then-is_cut-clause-told
returns-then-is_cut-clause-told g c = ends-told _ _ _ _ c.requires.ongoing.0 c.requires.ongoing.1 c.requires.none

pub returns-clause-told : goal.returns-clause-told
returns-clause-told g c = ends-told _ _ _ _ c.requires.ongoing.0 c.requires.ongoing.1 c.requires.none

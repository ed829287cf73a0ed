use Rattle.std.proofs.Common.{◌∙◌, ◌++◌, ◌∷◌, [], ap, drop, false, List, Bool}
use Rattle.tl_check.proofs.RunLaws.{shifted}
use Rattle.tl_check.specs.Passes.{last_or, next_labels}
use Rattle.tl_check.specs.Runs.{spread}
use Rattle.tl_check.specs.declared.run.Run.{Run}
use Rattle.tl_check.proofs.labels.Labels.shift.Goals as goal

pub returns-clause-shifted : goal.returns-clause-shifted
returns-clause-shifted c =
    let bs = spread c.self.inside.runs.items in
    let last = c.last-truth.ensures ∙ ap (λ (rs : List Run). last_or false (spread rs)) c.as_slice.ensures.value in
    c.leave_first.ensures
    ∙ (ap (drop 1) (c.in_ok-add.ensures.added ∙ ap (λ (b : Bool). bs ++ b ∷ []) last)
    ∙ (shifted bs ∙ ap next_labels c.self.view_is))

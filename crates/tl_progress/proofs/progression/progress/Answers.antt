use Rattle.std.proofs.Common.{◌≡◌, Some, None, sym, ◌∙◌}
use Rattle.tl_progress.proofs.progression.progress.Goals as goal

pub progress_kept-requires-clause-found : goal.progress_kept-requires-clause-found
progress_kept-requires-clause-found c = λ k i e. let z : None ≡ Some i = sym (c.new-nothing.ensures 0 k) ∙ e in absurd (let f : ⊥ = cc in f)

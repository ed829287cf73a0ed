use Rattle.std.proofs.Common.{true≢false, sym, ◌∙◌}
use Rattle.tl_progress.proofs.BrokenLaws.{leaves-deleted}
use Rattle.tl_progress.proofs.broken.deletes.Goals as goal

pub returns-in-Atom : goal.returns-in-Atom
returns-in-Atom c = λ h. leaves-deleted c.args.f.now c.in-Atom.pred c.in-Atom.terms c.as_slice.result.now c.in-Atom.is c.as_slice.ensures
    c.args.changes.now.dels.now c.args.changes.now.adds.now (sym c.is_deleted.ensures ∙ h)

pub returns-in_default : goal.returns-in_default
returns-in_default c = λ h. absurd (true≢false (sym h))

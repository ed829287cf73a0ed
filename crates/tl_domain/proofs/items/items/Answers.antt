use Rattle.tl_rules.specs.Reads.{trees_in}
use Rattle.tl_rules.proofs.Loops.{trees-next}
use Rattle.tl_domain.specs.Readers.{declared_by}
use Rattle.tl_domain.proofs.HandedOn.{handed-on}
use Rattle.tl_domain.proofs.ItemOrder.{first-item}
use Rattle.tl_domain.proofs.items.items.Goals as goal

pub returns-in_err-item : goal.returns-in_err-item
returns-in_err-item c =
    let next = trees-next c.args.forms.now c.loop-form.form-index _ c.loop-form-test.true c.form-item.is in
    handed-on _ _ _ _ _ c.from_residual.ensures.1 (first-item (declared_by c.args.draft.now) (declared_by c.loop-form.draft)
    (trees_in c.args.forms.now) _ _ _ _ c.loop-form.invariant.breaks next c.in_err-item.ensures.read)

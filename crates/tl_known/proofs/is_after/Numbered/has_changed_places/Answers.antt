use Rattle.std.proofs.Common.{sym, ◌∙◌}
use Rattle.tl_known.proofs.Unset.{is-overwritten}
use Rattle.tl_known.proofs.is_after.Numbered.has_changed_places.Goals as goal

pub returns : goal.returns
returns c = λ t.
    is-overwritten c.args.self.now.world.now.places c.args.from.now.world.now.places c.args.sets.now
    (sym c.has_set_values.ensures ∙ c.if-not-has_set_values.false) (c.has_values_beside.ensures t)

use Rattle.std.proofs.Common.{sym, ◌∙◌}
use Rattle.tl_known.proofs.Unchanged.{is-changed}
use Rattle.tl_known.proofs.is_after.Numbered.has_changed_facts.Goals as goal

pub returns : goal.returns
returns c = λ t.
    is-changed c.args.self.now.world.now.facts c.args.from.now.world.now.facts c.args.dels.now c.args.adds.now
    (sym c.holds_added.ensures ∙ c.if-not-holds_added.false) (sym c.lacks_deleted.ensures ∙ c.if-not-lacks_deleted.false)
    (c.is_beside.ensures t)

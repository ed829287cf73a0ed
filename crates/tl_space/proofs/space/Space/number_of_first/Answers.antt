use Rattle.std.proofs.Common.{sym, subst, ◌∙◌}
use Rattle.tl_terms.specs.NamedWorlds.{WorldIsNamed}
use Rattle.tl_space.specs.Spaces.{name_count}
use Rattle.tl_space.proofs.space.Space.number_of_first.Goals as goal

pub number_of_world-requires : goal.number_of_world-requires
number_of_world-requires c = let s = c.args.self.now in record {
  named =
      subst (WorldIsNamed (name_count s)) (s.task.first_is ∙ sym c.in_ok-first.ensures) s.task.first_named;
}

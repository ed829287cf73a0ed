use Rattle.std.proofs.Common.{refl}
use Rattle.tl_action.specs.ChangedWorlds.{world_after}
use Rattle.tl_space.specs.Kept.{world_at}
use Rattle.tl_terms.specs.NamedWorlds.{WorldIsNamed}
use Rattle.tl_space.specs.Spaces.{name_count}
use Rattle.tl_space.proofs.FoundStay.{found-stays}
use Rattle.tl_nodes.specs.Numbers.{trees}
use Rattle.tl_known.specs.WorldNumbers.{worlds_in}
use Rattle.tl_space.specs.Spaces.{problem_of}
use Rattle.tl_space.proofs.Forgetting.{added-count}
use Rattle.tl_space.proofs.Growing.{added-stay, each-added}
use Rattle.tl_space.proofs.SpaceLaws.{kept-still, remembered-still}
use Rattle.tl_space.proofs.space.Space.number_after.Goals as goal

pub invariant_of-self : goal.invariant_of-self
invariant_of-self c =
    let s = c.args.self.now in
    let stay = added-stay _ (world_after (world_at (worlds_in s.worlds) c.args.from) c.args.self.now.changes) _
    c.number_changed.ensures.kept in
    record {
      lists = s.lists;
      named_worlds = each-added (WorldIsNamed (name_count s)) _ (world_after
          (world_at (worlds_in s.worlds) c.args.from) c.args.self.now.changes) _ c.number_changed.ensures.kept s.named_worlds
          c.requires.named;
      kept = kept-still s _ _ stay (λ i x e. e);
      remembered = remembered-still s _ _ stay (λ i x e. e);
      found = found-stays (problem_of s) (worlds_in s.worlds) _ (trees s.nodes) (trees s.nodes) s.residuals stay (λ i x e. e) s.found;
    }

pub returns-clause-keeps : goal.returns-clause-keeps
returns-clause-keeps c = let s = c.args.self.now in record {
  task = refl;
  worlds =
      added-stay _ (world_after (world_at (worlds_in s.worlds) c.args.from) c.args.self.now.changes) _ c.number_changed.ensures.kept;
  trees =
      λ i x e. e;
  pairs = refl;
  from = refl;
}

pub returns-clause-met : goal.returns-clause-met
returns-clause-met c = let s = c.args.self.now in record {
  worlds = added-count _
      (world_after (world_at (worlds_in s.worlds) c.args.from) s.changes) _ c.number_changed.ensures.kept;
  arrivals = refl;
}

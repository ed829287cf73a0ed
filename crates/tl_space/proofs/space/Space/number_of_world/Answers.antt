use Rattle.std.proofs.Common.{refl}
use Rattle.tl_terms.specs.NamedWorlds.{WorldIsNamed}
use Rattle.tl_space.specs.Spaces.{name_count}
use Rattle.tl_space.proofs.FoundStay.{found-stays}
use Rattle.tl_nodes.specs.Numbers.{trees}
use Rattle.tl_known.specs.WorldNumbers.{worlds_in}
use Rattle.tl_space.specs.Spaces.{problem_of}
use Rattle.tl_space.proofs.Growing.{added-stay, each-added}
use Rattle.tl_space.proofs.SpaceLaws.{kept-still, remembered-still}
use Rattle.tl_space.proofs.space.Space.number_of_world.Goals as goal

pub invariant_of-self : goal.invariant_of-self
invariant_of-self c =
    let s = c.args.self.now in
    let stay = added-stay _ c.args.world _ c.number.ensures.kept in
    record {
      lists = s.lists;
      named_worlds = each-added (WorldIsNamed (name_count s)) _ c.args.world _ c.number.ensures.kept s.named_worlds c.requires.named;
      kept = kept-still s _ _ stay (λ i x e. e);
      remembered = remembered-still s _ _ stay (λ i x e. e);
      found = found-stays (problem_of s) (worlds_in s.worlds) _ (trees s.nodes) (trees s.nodes) s.residuals stay (λ i x e. e) s.found;
    }

pub returns-clause-keeps : goal.returns-clause-keeps
returns-clause-keeps c = record {
  task = refl;
  worlds = added-stay _ c.args.world _ c.number.ensures.kept;
  trees = λ i x e. e;
  pairs =
      refl;
  from = refl;
}

use Rattle.tl_space.proofs.FoundStay.{found-stays}
use Rattle.tl_nodes.specs.Numbers.{trees}
use Rattle.tl_known.specs.WorldNumbers.{worlds_in}
use Rattle.tl_space.specs.Spaces.{problem_of}
use Rattle.tl_space.proofs.SpaceLaws.{kept-still, remembered-still, if-ok-then, control-label}
use Rattle.tl_space.proofs.space.Space.number_of_control.Goals as goal

pub invariant_of-self : goal.invariant_of-self
invariant_of-self c =
    let s = c.args.self.now in
    record {
      lists = s.lists;
      named_worlds = s.named_worlds;
      kept = kept-still s _ _ (λ i x e. e) c.number_control.ensures.kept;
      remembered = remembered-still s _ _ (λ i x e. e) c.number_control.ensures.kept;
      found = found-stays (problem_of s) (worlds_in s.worlds) (worlds_in s.worlds) (trees s.nodes) _ s.residuals
          (λ i x e. e) c.number_control.ensures.kept s.found;
    }

pub returns-clause-label : goal.returns-clause-label
returns-clause-label c = if-ok-then c.number_control.result _ _ c.number_control.ensures.number (λ n e. control-label c.args.self.now _ n e)

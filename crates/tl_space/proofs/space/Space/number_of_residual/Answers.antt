use Rattle.std.proofs.Common.{◌≡◌, slice_get, Some, refl, sym, subst, IfOk, IfErr}
use Rattle.tl_nodes.specs.NodeTrees.{tree_at}
use Rattle.tl_nodes.specs.Numbers.{trees}
use Rattle.tl_eval.specs.Faults.{IsCausedBy}
use Rattle.tl_syntax.specs.Assignment.{no_values}
use Rattle.tl_terms.specs.Definitions.{situation_of}
use Rattle.tl_terms.specs.Looked.{looked_by_progressing}
use Rattle.tl_terms.specs.Progression.{progressed}
use Rattle.tl_space.specs.Remembered.{pair_in_at}
use Rattle.tl_space.specs.Spaces.{problem_of}
use Rattle.tl_space.proofs.FoundStay.{found-here, found-after}
use Rattle.tl_space.proofs.Judging.{world-named}
use Rattle.tl_known.specs.WorldNumbers.{worlds_in}
use Rattle.tl_space.proofs.SpaceLaws.{kept-still, remembered-still, world-at, label-of-answer}
use Rattle.tl_space.proofs.space.Space.number_of_residual.Goals as goal

pub invariant_of-self : goal.invariant_of-self
invariant_of-self c =
    let s = c.args.self.now in
    record {
      lists = s.lists;
      named_worlds = s.named_worlds;
      kept = kept-still s _ _ (λ i x e. e) c.progress_kept.ensures.kept;
      remembered = remembered-still s _ _ (λ i x e. e) c.progress_kept.ensures.kept;
      found = found-after (problem_of s) (worlds_in s.worlds) (trees s.nodes) c.args.key.world c.get.result.now
          (world-at (worlds_in s.worlds) c.args.key.world c.get.result.now c.get.ensures)
          (trees c.progress_kept.new.nodes) s.residuals c.progress_kept.new.residuals c.requires.world c.progress_kept.ensures.kept s.found
          c.progress_kept.ensures.found c.progress_kept.ensures.elsewhere;
    }

pub progress_kept-requires-clause-found : goal.progress_kept-requires-clause-found
progress_kept-requires-clause-found c =
    let s = c.args.self.now in
    found-here (problem_of s) (worlds_in s.worlds) (trees s.nodes) c.args.key.world c.get.result.now
    (world-at (worlds_in s.worlds) c.args.key.world c.get.result.now c.get.ensures) s.residuals s.found

pub returns-clause-met : goal.returns-clause-met
returns-clause-met c = record { worlds = refl; arrivals = refl }

pub returns-clause-number : goal.returns-clause-number
unfolding pair_in_at
returns-clause-number c =
    subst (λ w. IfOk c.progress_kept.result (λ n. slice_get (trees c.progress_kept.new.nodes) n ≡
    Some (progressed (situation_of (problem_of c.args.self.now) w) no_values (tree_at (trees c.args.self.now.nodes) c.args.key.label))))
    (sym (world-at _ c.args.key.world _ c.get.ensures)) c.progress_kept.ensures.number

pub returns-clause-label : goal.returns-clause-label
returns-clause-label c = label-of-answer c.progress_kept.result _ _ _ _ _ _ c.progress_kept.ensures.number c.progress_kept.ensures.sentence
    c.progress_kept.ensures.named (world-named c.args.self.now c.args.key.world _ c.get.ensures) c.requires.label.named

pub returns-clause-cause : goal.returns-clause-cause
returns-clause-cause c =
    subst (λ w. IfErr c.progress_kept.result (IsCausedBy (looked_by_progressing (problem_of c.args.self.now) w
    (tree_at (trees c.args.self.now.nodes) c.args.key.label)))) (sym (world-at _ c.args.key.world _ c.get.ensures))
    c.progress_kept.ensures.cause

use Rattle.std.proofs.Common.{◌≡◌, ℕ, drop}
use Rattle.tl_eval.specs.Frames.{assignment_in}
use Rattle.tl_nodes.specs.NodeTrees.{tree_at}
use Rattle.tl_nodes.specs.Numbers.{trees}
use Rattle.tl_terms.specs.ProblemMeaning.{plain_problem}
use Rattle.tl_progress.specs.Answers.{decided, idly_true}
use Rattle.tl_progress.proofs.quick.plain_join.Given as goal

abbrev pub invariant-loop-part : goal.invariant-loop-part
invariant-loop-part l =
    decided l.stop (λ (k : ℕ). idly_true (plain_problem l.formulas.here.now.task.now.problem) l.formulas.here.now.world.now
    (assignment_in l.env) (tree_at (trees l.formulas.nodes.now) k)) l.part-items
    ≡ decided l.stop (λ (k : ℕ). idly_true (plain_problem l.formulas.here.now.task.now.problem) l.formulas.here.now.world.now
    (assignment_in l.env) (tree_at (trees l.formulas.nodes.now) k)) (drop l.part-index l.part-items)

use Rattle.std.proofs.Common.{◌≡◌, ℕ, List, true, sym, ap, ◌∙◌, subst, arith}
use Rattle.tl_eval.specs.Frames.{assignment_in}
use Rattle.tl_nodes.specs.Fits.{all_below}
use Rattle.tl_nodes.specs.NodeTrees.{tree_at}
use Rattle.tl_nodes.specs.Numbers.{trees}
use Rattle.tl_terms.specs.ProblemMeaning.{plain_problem}
use Rattle.tl_progress.specs.Answers.{decided, idly_true}
use Rattle.tl_progress.proofs.Decided.{ids-on, ids-here, ids-end}
use Rattle.tl_progress.proofs.PutLayers.{at-below}
use Rattle.tl_progress.proofs.TruthLayers.{idle-join}
use Rattle.tl_progress.proofs.quick.plain_join.Goals as goal

pub plain_truth-requires : goal.plain_truth-requires
plain_truth-requires c =
    let below = subst (λ (ids : List ℕ). all_below c.args.join.now.at ids ≡ true) (sym c.as_slice-part-items.ensures) c.requires.below in
    let less = at-below c.args.join.now.at c.as_slice-part-items.result.now c.loop-part.part-index below c.loop-part-test.true in
    omega (arith, less, c.requires.at)

pub loop-part-preserved : goal.loop-part-preserved
loop-part-preserved c = ids-on (λ (k : ℕ). idly_true (plain_problem c.args.formulas.now.here.now.task.now.problem)
    c.args.formulas.now.here.now.world.now (assignment_in c.args.env.now) (tree_at (trees c.args.formulas.now.nodes.now) k))
    c.deciding_truth-stop.result c.as_slice-part-items.result.now c.loop-part.part-index c.loop-part.invariant c.loop-part-test.true
    c.in-Some.truth c.in-Some.ensures c.if-truth-stop.false

pub returns-then-truth-stop : goal.returns-then-truth-stop
returns-then-truth-stop c =
    ids-here (λ (k : ℕ). idly_true (plain_problem c.args.formulas.now.here.now.task.now.problem) c.args.formulas.now.here.now.world.now
    (assignment_in c.args.env.now) (tree_at (trees c.args.formulas.now.nodes.now) k)) c.deciding_truth-stop.result
    c.as_slice-part-items.result.now c.loop-part.part-index c.loop-part.invariant c.loop-part-test.true c.in-Some.truth
    c.in-Some.ensures c.if-truth-stop.true
    ∙ (ap (decided c.deciding_truth-stop.result (λ (k : ℕ). idly_true (plain_problem c.args.formulas.now.here.now.task.now.problem)
    c.args.formulas.now.here.now.world.now (assignment_in c.args.env.now) (tree_at (trees c.args.formulas.now.nodes.now) k)))
    c.as_slice-part-items.ensures ∙ idle-join (trees c.args.formulas.now.nodes.now)
    (plain_problem c.args.formulas.now.here.now.task.now.problem) c.args.formulas.now.here.now.world.now
    (assignment_in c.args.env.now) c.args.join.now.junction c.deciding_truth-stop.result c.deciding_truth-stop.ensures
    c.args.join.now.parts.now)

pub returns : goal.returns
returns c =
    ids-end (λ (k : ℕ). idly_true (plain_problem c.args.formulas.now.here.now.task.now.problem) c.args.formulas.now.here.now.world.now
    (assignment_in c.args.env.now) (tree_at (trees c.args.formulas.now.nodes.now) k)) c.deciding_truth-stop.result
    c.as_slice-part-items.result.now c.loop-part.part-index c.loop-part.invariant (omega (arith, c.loop-part-test.false))
    ∙ (ap (decided c.deciding_truth-stop.result (λ (k : ℕ). idly_true (plain_problem c.args.formulas.now.here.now.task.now.problem)
    c.args.formulas.now.here.now.world.now (assignment_in c.args.env.now) (tree_at (trees c.args.formulas.now.nodes.now) k)))
    c.as_slice-part-items.ensures ∙ idle-join (trees c.args.formulas.now.nodes.now)
    (plain_problem c.args.formulas.now.here.now.task.now.problem) c.args.formulas.now.here.now.world.now
    (assignment_in c.args.env.now) c.args.join.now.junction c.deciding_truth-stop.result c.deciding_truth-stop.ensures
    c.args.join.now.parts.now)

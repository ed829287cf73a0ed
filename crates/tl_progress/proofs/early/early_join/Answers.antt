use Rattle.std.proofs.Common.{◌≡◌, List, false, Option, Some, slice_get, subst}
use Rattle.tl_eval.specs.Frames.{assignment_in}
use Rattle.tl_nodes.specs.NodeTrees.{tree_at}
use Rattle.tl_nodes.specs.Numbers.{trees}
use Rattle.tl_syntax.specs.declared.value.Value.{Value}
use Rattle.tl_syntax.specs.Signature.{signature_of}
use Rattle.tl_terms.specs.ProblemMeaning.{plain_problem}
use Rattle.tl_eval.specs.Faults.{IsCausedBy}
use Rattle.tl_progress.specs.Answers.{looked_for_residual, residual}
use Rattle.tl_progress.proofs.Below.{part-among}
use Rattle.tl_progress.proofs.EarlyParts.{early-number}
use Rattle.tl_progress.proofs.Found.{fits-below, residual-fault}
use Rattle.tl_progress.proofs.early.early_join.Goals as goal

pub state_residual-requires-clause-fits : goal.state_residual-requires-clause-fits
state_residual-requires-clause-fits c =
    let low = part-among false (trees c.args.formulas.now.nodes.now) c.args.whole.at c.args.whole.junction c.requires.join c.loop-i.i
    c.part_at-part.result c.part_at-part.ensures.smaller c.part_at-part.ensures.tree in
    fits-below false (trees c.args.formulas.now.nodes.now) (signature_of c.args.formulas.now.here.now.task.now.problem.domain)
    c.args.whole.at c.part_at-part.result low c.requires.readable.fits

pub returns-then-decides-clause-number : goal.returns-then-decides-clause-number
returns-then-decides-clause-number c =
    early-number (plain_problem c.args.formulas.now.here.now.task.now.problem) c.args.formulas.now.here.now.world.now
    (assignment_in c.args.env.now) c.args.whole.junction (tree_at (trees c.args.formulas.now.nodes.now) c.args.whole.at) c.requires.join
    (trees c.args.formulas.now.nodes.now) c.loop-i.i c.in-Ok.number
    (tree_at (trees c.args.formulas.now.nodes.now) c.part_at-part.result) c.part_at-part.ensures.tree
    (subst (λ (v : List (Option Value)). slice_get (trees c.args.formulas.now.nodes.now) c.in-Ok.number ≡
    Some (residual (plain_problem c.args.formulas.now.here.now.task.now.problem) c.args.formulas.now.here.now.world.now
    (assignment_in v) (tree_at (trees c.args.formulas.now.nodes.now) c.part_at-part.result))) c.loop-i.invariant.frame
    c.in-Ok.ensures.number)
    (c.decides.ensures c.if-decides.true)

pub returns-in-Err-clause-cause : goal.returns-in-Err-clause-cause
returns-in-Err-clause-cause c =
    let low = part-among false (trees c.args.formulas.now.nodes.now) c.args.whole.at c.args.whole.junction c.requires.join c.loop-i.i
    c.part_at-part.result c.part_at-part.ensures.smaller c.part_at-part.ensures.tree in
    residual-fault (plain_problem c.args.formulas.now.here.now.task.now.problem) c.args.formulas.now.here.now.world.now
    (assignment_in c.args.env.now) (trees c.args.formulas.now.nodes.now) c.args.whole.at c.part_at-part.result low c.in-Err.fault
    (subst (λ (v : List (Option Value)). IsCausedBy (looked_for_residual
    (plain_problem c.args.formulas.now.here.now.task.now.problem) c.args.formulas.now.here.now.world.now (assignment_in v)
    (tree_at (trees c.args.formulas.now.nodes.now) c.part_at-part.result)) c.in-Err.fault) c.loop-i.invariant.frame
    c.in-Err.ensures.cause)

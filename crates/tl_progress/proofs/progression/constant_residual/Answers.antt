use Rattle.std.proofs.Common.{◌≡◌, Some, List, Option, sym, ap, ◌∙◌, subst}
use Rattle.tl_eval.specs.Frames.{assignment_in}
use Rattle.tl_eval.specs.Remembered.{AreTruths}
use Rattle.tl_nodes.specs.NodeTrees.{tree_at}
use Rattle.tl_nodes.specs.Numbers.{trees}
use Rattle.tl_syntax.specs.declared.value.Value.{Value}
use Rattle.tl_syntax.specs.Trees.{FormulaTree}
use Rattle.tl_terms.specs.Operations.{Operation}
use Rattle.tl_terms.specs.ProblemMeaning.{plain_problem}
use Rattle.tl_eval.specs.Faults.{IsCausedBy}
use Rattle.tl_progress.specs.Answers.{idly_true, looked_idly}
use Rattle.tl_progress.proofs.StateFormulas.{constant-next, looked-same}
use Rattle.tl_progress.proofs.progression.constant_residual.Goals as goal

pub returns-in-Ok-clause-number : goal.returns-in-Ok-clause-number
returns-in-Ok-clause-number c =
    c.constant_number.ensures.number ∙ ap (λ (f : FormulaTree). Some f)
    (constant-next (plain_problem c.args.here.now.task.now.problem) c.args.here.now.world.now (assignment_in c.args.env.now)
    (tree_at (trees c.args.nodes.now) c.args.id) c.in-Ok.truth c.requires.state
    (subst (λ (v : List (Option Value)). c.in-Ok.truth ≡ idly_true (plain_problem c.args.here.now.task.now.problem)
    c.args.here.now.world.now (assignment_in v) (tree_at (trees c.args.nodes.now) c.args.id)) c.lend_memory-memory.ensures.frame
    c.in-Ok.ensures.truth))

pub returns-in-Ok-clause-constant : goal.returns-in-Ok-clause-constant
returns-in-Ok-clause-constant c = c.constant_number.ensures.small

pub returns-in-Err-clause-cause : goal.returns-in-Err-clause-cause
returns-in-Err-clause-cause c =
    subst (λ (x : List Operation). IsCausedBy x c.in-Err.fault) (looked-same
    (plain_problem c.args.here.now.task.now.problem) c.args.here.now.world.now (assignment_in c.args.env.now)
    (tree_at (trees c.args.nodes.now) c.args.id) c.requires.state)
    (subst (λ (v : List (Option Value)). IsCausedBy (looked_idly (plain_problem c.args.here.now.task.now.problem) c.args.here.now.world.now
    (assignment_in v) (tree_at (trees c.args.nodes.now) c.args.id)) c.in-Err.fault) c.lend_memory-memory.ensures.frame
    c.in-Err.ensures.cause)

pub sentence_truth-answer-requires-clause-remembers : goal.sentence_truth-answer-requires-clause-remembers
sentence_truth-answer-requires-clause-remembers c = subst (AreTruths (plain_problem c.args.here.now.task.now.problem)
    c.args.here.now.world.now) (sym c.lend_memory-memory.ensures.nothing) tt

pub returns-in-Ok-clause-frame : goal.returns-in-Ok-clause-frame
returns-in-Ok-clause-frame c = c.take_back.ensures.frame ∙ (c.sentence_truth-answer.ensures.stays.frame ∙
    c.lend_memory-memory.ensures.frame)

pub returns-in-Err-clause-frame : goal.returns-in-Err-clause-frame
returns-in-Err-clause-frame c = c.take_back.ensures.frame ∙ (c.sentence_truth-answer.ensures.stays.frame ∙
    c.lend_memory-memory.ensures.frame)

use Rattle.std.proofs.Common.{List, Option, IfOk, IfErr, refl, sym, ◌∙◌, subst}
use Rattle.tl_eval.specs.Frames.{assignment_in}
use Rattle.tl_eval.specs.Remembered.{AreTruths}
use Rattle.tl_nodes.specs.NodeTrees.{tree_at}
use Rattle.tl_nodes.specs.Numbers.{trees, Denotes}
use Rattle.tl_syntax.specs.declared.value.Value.{Value}
use Rattle.tl_terms.specs.ProblemMeaning.{plain_problem}
use Rattle.tl_eval.specs.Faults.{IsCausedBy}
use Rattle.tl_progress.specs.Answers.{looked_for_residual, residual}
use Rattle.tl_progress.proofs.KnownHere.{nothing-known}
use Rattle.tl_progress.proofs.progression.temporal_residual.Goals as goal

pub remembering_residual-answer-requires-clause-remembers : goal.remembering_residual-answer-requires-clause-remembers
remembering_residual-answer-requires-clause-remembers c = subst (AreTruths
    (plain_problem c.args.here.now.task.now.problem) c.args.here.now.world.now) (sym c.lend_memory-memory.ensures.nothing) tt

pub remembering_residual-answer-requires-clause-known : goal.remembering_residual-answer-requires-clause-known
remembering_residual-answer-requires-clause-known c = nothing-known _ c.args.nodes.now refl

pub returns-clause-number : goal.returns-clause-number
returns-clause-number c =
    subst (λ (v : List (Option Value)). IfOk c.remembering_residual-answer.result
    (λ i. Denotes c.remembering_residual-answer.new.nodes i (residual
    (plain_problem c.args.here.now.task.now.problem) c.args.here.now.world.now (assignment_in v)
    (tree_at (trees c.args.nodes.now) c.args.id)))) c.lend_memory-memory.ensures.frame c.remembering_residual-answer.ensures.number

pub returns-clause-cause : goal.returns-clause-cause
returns-clause-cause c =
    subst (λ (v : List (Option Value)). IfErr c.remembering_residual-answer.result
    (IsCausedBy (looked_for_residual (plain_problem c.args.here.now.task.now.problem) c.args.here.now.world.now (assignment_in v)
    (tree_at (trees c.args.nodes.now) c.args.id)))) c.lend_memory-memory.ensures.frame c.remembering_residual-answer.ensures.cause

pub returns-clause-frame : goal.returns-clause-frame
returns-clause-frame c = c.take_back.ensures.frame ∙ (c.remembering_residual-answer.ensures.stays.frame ∙
    c.lend_memory-memory.ensures.frame)

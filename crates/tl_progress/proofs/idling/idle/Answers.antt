use Rattle.std.proofs.Common.{◌≡◌, ◌↔◌, Bool, IsTrue, IfOk, IfErr, Result, Ok, Err, sym, ap, ◌∙◌, subst}
use Rattle.tl_eval.specs.Frames.{assignment_in}
use Rattle.tl_eval.specs.Remembered.{AreTruths}
use Rattle.tl_nodes.specs.NodeTrees.{tree_at}
use Rattle.tl_nodes.specs.Numbers.{trees}
use Rattle.tl_syntax.specs.Assignment.{Assignment, no_values}
use Rattle.tl_syntax.specs.Trees.{FormulaTree}
use Rattle.tl_terms.specs.Looked.{looked_by_idling}
use Rattle.tl_terms.specs.Problem.{PlainProblem}
use Rattle.tl_terms.specs.ProblemMeaning.{plain_problem}
use Rattle.tl_terms.specs.Run.{Satisfies, idle_run}
use Rattle.tl_terms.specs.World.{World}
use Rattle.tl_terms.proofs.IdleLaws.{Satisfies-idle}
use Rattle.tl_eval.specs.declared.fault.EvalFault.{EvalFault}
use Rattle.tl_eval.specs.Faults.{IsCausedBy}
use Rattle.tl_progress.specs.Answers.{looked_idly, idly_true}
use Rattle.tl_progress.proofs.idling.idle.Goals as goal

holds : (p : PlainProblem) (w : World) (f : FormulaTree) (r : Result Bool EvalFault) → IfOk r (λ b. b ≡ idly_true p w no_values f) →
    IfOk r (λ b. IsTrue b ↔ Satisfies p (idle_run w) 0 f)
holds p w f (Ok b) h = let k = Satisfies-idle p w 0 f in (λ e. k.1 (sym h ∙ e), λ s. h ∙ k.0 s)
holds p w f (Err x) h = tt

by_cause : (p : PlainProblem) (w : World) (f : FormulaTree) (r : Result Bool EvalFault) →
    IfErr r (IsCausedBy (looked_idly p w no_values f)) → IfErr r (IsCausedBy (looked_by_idling p w f))
unfolding looked_by_idling
by_cause p w f r h = h

pub returns-clause-truth : goal.returns-clause-truth
returns-clause-truth c =
    let none = ap assignment_in (c.lend_memory-memory.ensures.frame ∙ c.restore.ensures) ∙ c.empty_frame-empty.ensures in
    holds (plain_problem c.args.task.now.problem) c.args.w.now (tree_at (trees c.args.nodes.now) c.args.id) c.sentence_truth-answer.result
    (subst (λ (e : Assignment). IfOk c.sentence_truth-answer.result (λ b. b ≡
    idly_true (plain_problem c.args.task.now.problem) c.args.w.now e (tree_at (trees c.args.nodes.now) c.args.id))) none
    c.sentence_truth-answer.ensures.truth)

pub returns-clause-cause : goal.returns-clause-cause
returns-clause-cause c =
    let none = ap assignment_in (c.lend_memory-memory.ensures.frame ∙ c.restore.ensures) ∙ c.empty_frame-empty.ensures in
    by_cause (plain_problem c.args.task.now.problem) c.args.w.now (tree_at (trees c.args.nodes.now) c.args.id)
    c.sentence_truth-answer.result
    (subst (λ (e : Assignment). IfErr c.sentence_truth-answer.result (IsCausedBy
    (looked_idly (plain_problem c.args.task.now.problem) c.args.w.now e (tree_at (trees c.args.nodes.now) c.args.id)))) none
    c.sentence_truth-answer.ensures.cause)

pub sentence_truth-answer-requires-clause-remembers : goal.sentence_truth-answer-requires-clause-remembers
sentence_truth-answer-requires-clause-remembers c = subst (AreTruths (plain_problem c.args.task.now.problem) c.args.w.now)
    (sym c.lend_memory-memory.ensures.nothing) tt

use Rattle.std.proofs.Common.{◌≡◌, ◌++◌, drop}
use Rattle.tl_terms.specs.ProblemMeaning.{plain_problem}
use Rattle.tl_explain.specs.Explain.{explain_text, lines_after}
use Rattle.tl_explain.specs.Explanations.{formula_in, IsFit}
use Rattle.tl_explain.proofs.Reaching.{Reached}
use Rattle.tl_explain.proofs.explainer.explain_states.Given as goal

abbrev pub invariant-loop-k : goal.invariant-loop-k
invariant-loop-k g l = record {
  fit : IsFit l.task.problem l.explanation;
  reached : Reached (plain_problem l.task.problem) l.plan l.k l.explanation.world (formula_in l.explanation);
  so_far : l.explanation.text ++ lines_after l.task.problem l.k l.explanation.world (formula_in l.explanation) (drop l.k l.plan) ≡
      explain_text l.task.problem l.plan;
}

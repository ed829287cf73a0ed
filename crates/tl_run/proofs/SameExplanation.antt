-- The lines that explain a plan depend on the meaning of the problem, its names and the words of its domain alone.
use Rattle.std.proofs.Common.{◌≡◌, ℕ, ◌+◌, List, [], ◌∷◌, ◌++◌, refl, sym, ap, ◌∙◌}
use Rattle.std.specs.Prelude.{codes}
use Rattle.std.specs.Fmt.{decimal}
use Rattle.tl_syntax.specs.declared.action.Action.{Action}
use Rattle.tl_syntax.specs.declared.problem.Problem.{Problem}
use Rattle.tl_syntax.specs.Assignment.{no_values}
use Rattle.tl_syntax.specs.Trees.{FormulaTree}
use Rattle.tl_terms.specs.Definitions.{situation_of}
use Rattle.tl_terms.specs.Problem.{PlainProblem}
use Rattle.tl_terms.specs.ProblemMeaning.{plain_problem}
use Rattle.tl_terms.specs.Progression.{progressed}
use Rattle.tl_terms.specs.Step.{step}
use Rattle.tl_terms.specs.World.{World}
use Rattle.tl_label.specs.Labels.{label_text}
use Rattle.tl_line.specs.ActionTexts.{action_text, values_text}
use Rattle.tl_explain.specs.Explain.{action_line, by_step, end_line, explain_text, lines_after, progressed_in, state_line, stopped_line}
use Rattle.tl_run.proofs.OneProblem.{SameProblem}
use Rattle.tl_run.proofs.SameLabels.{same_label}
use Rattle.tl_run.proofs.SameLines.{same_name}

-- the lines by those of states and of actions
lines_in : (ℕ → FormulaTree → List ℕ) → (Action → List ℕ) → PlainProblem → ℕ → World → FormulaTree → List Action → List ℕ
lines_in state act p k w f [] = end_line
lines_in state act p k w f (a ∷ plan) =
    by_step (stopped_line (k + 1))
    (λ v. act a ++ (state (k + 1) (progressed (situation_of p v) no_values f) ++
    lines_in state act p (k + 1) v (progressed (situation_of p v) no_values f) plan))
    (step p w a)

by_lines : (p : Problem) (k : ℕ) (w : World) (f : FormulaTree) (plan : List Action) → lines_after p k w f plan ≡
    lines_in (state_line p) (action_line p) (plain_problem p) k w f plan
unfolding lines_after lines_in
by_lines p k w f [] = refl
by_lines p k w f (a ∷ plan) = λ i.
    by_step (stopped_line (k + 1)) (λ v. action_line p a ++ (state_line p (k + 1) (progressed_in p v f) ++
    by_lines p (k + 1) v (progressed_in p v f) plan i)) (step (plain_problem p) w a)

all_lines : (ℕ → FormulaTree → List ℕ) → (Action → List ℕ) → PlainProblem → List Action → List ℕ
all_lines state act p plan = state 0 (progressed (situation_of p p.first) no_values p.control) ++
    lines_in state act p 0 p.first (progressed (situation_of p p.first) no_values p.control) plan

by_all_lines : (p : Problem) (plan : List Action) → explain_text p plan ≡ all_lines (state_line p) (action_line p) (plain_problem p) plan
unfolding all_lines
by_all_lines p plan =
    let f = progressed_in p (plain_problem p).first (plain_problem p).control in
    ap (λ text. state_line p 0 f ++ text) (by_lines p 0 (plain_problem p).first f plan)

module _ (p q : Problem) (same : SameProblem p q) where
  same_state_label : (f : FormulaTree) → label_text p.names p.domain f ≡ label_text q.names q.domain f
  same_state_label f = ap (λ names. label_text names p.domain f) same.names ∙ same_label q.names p.domain q.domain same.words f

  same_state : (k : ℕ) (f : FormulaTree) → state_line p k f ≡ state_line q k f
  same_state k f = ap (λ (label : List ℕ). codes "; state " ++ (decimal k ++ (codes ": " ++ (label ++ codes "\n")))) (same_state_label f)

  same_text : (a : Action) → action_text p.names p.domain.operators a ≡ action_text q.names q.domain.operators a
  same_text a =
      let name = same_name q.names p.domain.operators q.domain.operators same.heads a.op in
      ap (λ names. action_text names p.domain.operators a) same.names ∙
      (λ i. codes "(" ++ (name i ++ (values_text q.names a.args ++ codes ")")))

  same_act : (a : Action) → action_line p a ≡ action_line q a
  same_act a = ap (λ (text : List ℕ). text ++ codes "\n") (same_text a)

  -- the lines are the same
  pub same_explanation : (plan : List Action) → explain_text p plan ≡ explain_text q plan
  same_explanation plan = by_all_lines p plan ∙ ((λ i. all_lines (λ k f. same_state k f i) (λ a. same_act a i) (same.meaning i) plan) ∙
      sym (by_all_lines q plan))

-- The lines that are still to come.
use Rattle.std.proofs.Common.{◌≡◌, ◌≤◌, ◌<◌, ◌+◌, ℕ, zero, suc, List, [], ◌∷◌, ◌++◌, drop, length, get_or, Bool, true, false, Option, Some}
use Rattle.std.proofs.Common.{None, refl, sym, ap, ◌∙◌, subst, append_assoc, arith}
use Rattle.std.specs.Prelude.{Ok}
use Rattle.tl_syntax.specs.declared.action.Action.{Action}
use Rattle.tl_syntax.specs.declared.problem.Problem.{Problem}
use Rattle.tl_syntax.specs.Trees.{FormulaTree}
use Rattle.tl_terms.specs.ProblemMeaning.{plain_problem}
use Rattle.tl_terms.specs.Step.{step}
use Rattle.tl_terms.specs.World.{World}
use Rattle.tl_explain.specs.declared.explanation.Explanation.{Explanation}
use Rattle.tl_explain.specs.Explanations.{ComesOf, FollowsAction, Stops}
use Rattle.tl_explain.specs.Explain.{action_line, by_step, end_line, explain_text, lines_after, progressed_in, state_line, stopped_line}

-- what comes of an action, by whether it has a step
pub followed : (p : Problem) (k : ℕ) (a : Action) (old new : Explanation) (b : Bool) → b ≡ true → ComesOf p k a old new (Ok b) →
    FollowsAction p k a old new
followed p k a old new b e h = subst (λ (x : Bool). ComesOf p k a old new (Ok x)) e h

pub stopped : (p : Problem) (k : ℕ) (a : Action) (old new : Explanation) (b : Bool) → b ≡ false → ComesOf p k a old new (Ok b) →
    Stops p a old new
stopped p k a old new b e h = subst (λ (x : Bool). ComesOf p k a old new (Ok x)) e h

-- the actions from a position on
from-here : (plan : List Action) (k : ℕ) (a : Action) → k < length plan → a ≡ get_or plan k a → drop k plan ≡ a ∷ drop (suc k) plan
from-here [] k a l e = absurd (omega arith)
from-here (b ∷ plan) zero a l e = ap (λ c. c ∷ plan) (sym e)
from-here (b ∷ plan) (suc k) a l e = from-here plan k a (omega arith) e

none-left : (plan : List Action) (k : ℕ) → length plan ≤ k → drop k plan ≡ []
none-left [] zero h = refl
none-left [] (suc k) h = refl
none-left (a ∷ plan) zero h = absurd (omega arith)
none-left (a ∷ plan) (suc k) h = none-left plan k (omega arith)

module _ (p : Problem) where
  after-action : (k : ℕ) (w : World) (f : FormulaTree) (a : Action) (plan : List Action) (o : Option World) → step (plain_problem p) w a ≡ o
      → lines_after p k w f (a ∷ plan) ≡ by_step (stopped_line (k + 1))
      (λ v. action_line p a ++ (state_line p (k + 1) (progressed_in p v f) ++ lines_after p (k + 1) v (progressed_in p v f) plan)) o
  unfolding lines_after
  after-action k w f a plan o e = ap (by_step (stopped_line (k + 1)) (λ v. action_line p a ++
      (state_line p (k + 1) (progressed_in p v f) ++ lines_after p (k + 1) v (progressed_in p v f) plan))) e

  module _ (plan : List Action) (k : ℕ) (w : World) (f : FormulaTree) (old all : List ℕ)
      (so_far : old ++ lines_after p k w f (drop k plan) ≡ all) where
    -- the lines where all actions are done with
    pub all-end : (new : List ℕ) → length plan ≤ k → new ≡ old ++ end_line → new ≡ all
    unfolding lines_after
    all-end new h e = e ∙ (ap (λ rest. old ++ lines_after p k w f rest) (sym (none-left plan k h)) ∙ so_far)

    module _ (a : Action) (l : k < length plan) (e : a ≡ get_or plan k a) where
      -- the lines where the next action has no step
      pub all-stop : (middle new : List ℕ) → step (plain_problem p) w a ≡ None → middle ≡ old → new ≡ middle ++ stopped_line (k + 1) → new ≡
          all
      all-stop middle new s q r =
          r ∙ (ap (λ text. text ++ stopped_line (k + 1)) q
          ∙ (ap (λ text. old ++ text) (sym (after-action k w f a (drop (suc k) plan) None s))
          ∙ (ap (λ rest. old ++ lines_after p k w f rest) (sym (from-here plan k a l e)) ∙ so_far)))

      -- the lines that are left where it has one
      pub lines-left : (new : List ℕ) (v : World) (g : FormulaTree) → step (plain_problem p) w a ≡ Some v → g ≡ progressed_in p v f → new ≡
          old ++ (action_line p a ++ state_line p (k + 1) g) → new ++ lines_after p (k + 1) v g (drop (k + 1) plan) ≡ all
      lines-left new v g s q r =
          let rest = drop (suc k) plan in
          let i : k + 1 ≡ suc k = omega arith in
          let h = progressed_in p v f in
          (λ j. (r ∙ ap (λ x. old ++ (action_line p a ++ state_line p (k + 1) x)) q) j ++ lines_after p (k + 1) v (q j) (drop (i j) plan))
          ∙ (append_assoc old (action_line p a ++ state_line p (k + 1) h) (lines_after p (k + 1) v h rest)
          ∙ (ap (λ text. old ++ text) (append_assoc (action_line p a) (state_line p (k + 1) h) (lines_after p (k + 1) v h rest))
          ∙ (ap (λ text. old ++ text) (sym (after-action k w f a rest (Some v) s))
          ∙ (ap (λ us. old ++ lines_after p k w f us) (sym (from-here plan k a l e)) ∙ so_far))))

  -- the lines that are left after that of the first state
  pub first-left : (plan : List Action) (w : World) (f g : FormulaTree) (old new : List ℕ) → w ≡ (plain_problem p).first → f ≡
      (plain_problem p).control → old ≡ [] → g ≡ progressed_in p w f → new ≡ old ++ state_line p 0 g → new ++ lines_after p 0 w g plan ≡
      explain_text p plan
  first-left plan w f g old new a b c d e =
      let h : g ≡ progressed_in p (plain_problem p).first (plain_problem p).control = d ∙ (λ i. progressed_in p (a i) (b i)) in
      let start : new ≡ state_line p 0 g = e ∙ ap (λ text. text ++ state_line p 0 g) c in
      λ i. (start ∙ ap (state_line p 0) h) i ++ lines_after p 0 (a i) (h i) plan

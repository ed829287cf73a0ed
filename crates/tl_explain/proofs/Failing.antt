-- Why a plan is not explained to its end.
use Rattle.std.proofs.Common.{◌≡◌, ℕ, ◌<◌, List, length, get_or, sym, subst, inl, inr}
use Rattle.tl_eval.specs.Notes.{Tells}
use Rattle.tl_syntax.specs.declared.action.Action.{Action}
use Rattle.tl_syntax.specs.declared.problem.Problem.{Problem}
use Rattle.tl_syntax.specs.Trees.{FormulaTree}
use Rattle.tl_terms.specs.Looked.{looked_by_progressing}
use Rattle.tl_terms.specs.ProblemMeaning.{plain_problem}
use Rattle.tl_terms.specs.World.{World}
use Rattle.tl_explain.specs.Causes.{IsExplainCause, IsPastInExplanation}
use Rattle.tl_explain.specs.declared.explanation.Explanation.{Explanation}
use Rattle.tl_explain.specs.declared.fault.ExplainFault.{ExplainFault}
use Rattle.tl_explain.specs.declared.fault.ExplainFault.TheVariants as fault
use Rattle.tl_explain.specs.Explanations.{formula_in, IsArrivalFault, IsFollowFault}
use Rattle.tl_explain.proofs.Reaching.{Reached, action-past, first-past, progression-past}

module _ (p : Problem) (plan : List Action) where
  -- progressing the control formula is the cause
  pub first-fault : (w : World) (f : FormulaTree) (x : ExplainFault) → w ≡ (plain_problem p).first → f ≡ (plain_problem p).control →
      IsArrivalFault p 0 w f x → IsExplainCause (plain_problem p) plan x
  first-fault w f (fault.Range after note) a b h =
      let told = subst (λ g. Tells (looked_by_progressing (plain_problem p) (plain_problem p).first g) note) b
      (subst (λ v. Tells (looked_by_progressing (plain_problem p) v f) note) a h.1) in
      subst (λ k. IsPastInExplanation (plain_problem p) plan k note) (sym h.0) (inr (first-past (plain_problem p) plan note told))
  first-fault w f fault.NoMemory a b h = tt

  -- following an action is the cause
  pub follow-fault : (k : ℕ) (old : Explanation) (a : Action) (x : ExplainFault) →
      Reached (plain_problem p) plan k old.world (formula_in old) → k < length plan → a ≡ get_or plan k a → IsFollowFault p k a old x →
      IsExplainCause (plain_problem p) plan x
  follow-fault k old a (fault.Range after note) r l e (inl h) =
      subst (λ n. IsPastInExplanation (plain_problem p) plan n note) (sym h.0)
      (inl (action-past (plain_problem p) plan k old.world (formula_in old) r a l e note h.1))
  follow-fault k old a (fault.Range after note) r l e (inr h) =
      subst (λ n. IsPastInExplanation (plain_problem p) plan n note) (sym h.2.0)
      (inr (progression-past (plain_problem p) plan k old.world (formula_in old) r a l e h.0 note h.1 h.2.1))
  follow-fault k old a fault.NoMemory r l e h = tt

-- Each plan has one verdict.
use Rattle.std.proofs.Common.{◌≡◌, ◌+◌, ℕ, suc, List, [], ◌∷◌, ◌++◌, length, true, true≢false, Option, Some, None, refl, sym, ap, ap₂, ◌∙◌}
use Rattle.std.proofs.Common.{subst, arith, add-one}
use Rattle.tl_check.specs.Verdicts.{StopsAt, MissesGoal, BreaksControl, IsVerdict}
use Rattle.tl_check.specs.declared.verdict.Verdict.{Verdict}
use Rattle.tl_check.specs.declared.verdict.Verdict.TheVariants as verdict
use Rattle.tl_syntax.specs.declared.action.Action.{Action}
use Rattle.tl_terms.specs.Acceptance.{IsAccepted, then_states, states_from, states, meets_goal, last_of, run_of}
use Rattle.tl_terms.specs.Problem.{PlainProblem}
use Rattle.tl_terms.specs.Run.{Satisfies}
use Rattle.tl_terms.specs.Step.{step}
use Rattle.tl_terms.specs.World.{World}

-- how many worlds there are until the first action that has no step
abbrev run_length : PlainProblem → Option World → List Action → ℕ
run_length p None plan = 0
run_length p (Some w) [] = 1
run_length p (Some w) (a ∷ plan) = 1 + run_length p (step p w a) plan

module _ (p : PlainProblem) where
  not_empty : (o : Option World) (plan : List Action) → states_from p o plan ≡ Some [] → ⊥
  unfolding states_from
  not_empty None plan e = cc
  not_empty (Some w) [] e = cc
  not_empty (Some w) (a ∷ plan) e = by (states_from p (step p w a) plan) e
    where
      by : (o : Option (List World)) → then_states w o ≡ Some [] → ⊥
      by None q = cc
      by (Some ws) q = cc

  -- after an action without a step there are no states, and the number of worlds tells its place
  abbrev Stops : Option World → List Action → Action → List Action → Type 0
  Stops o front action rest = (states_from p o (front ++ action ∷ rest) ≡ None) ×
      (run_length p o (front ++ action ∷ rest) ≡ suc (length front))

  stops : (action : Action) (rest : List Action) (o : Option World) (front : List Action) (from : World) (after : List World) →
      states_from p o front ≡ Some (from ∷ after) → step p (last_of from after) action ≡ None → Stops o front action rest
  unfolding states_from
  stops action rest None front from after e s = absurd (let z : ⊥ = cc in z)
  stops action rest (Some w) [] from after e s =
      let first : w ≡ from = cc in
      let none : [] ≡ after = cc in
      let stuck : step p w action ≡ None = ap (λ (v : World). step p v action) (ap₂ last_of first none) ∙ s in (
        ap (λ (x : Option World). then_states w (states_from p x rest)) stuck,
        ap (λ (x : Option World). 1 + run_length p x rest) stuck,
      )
  stops action rest (Some w) (a ∷ front) from after e s = by (states_from p (step p w a) front) refl
      (λ f g q t. stops action rest (step p w a) front f g q t) e
    where
      by : (o : Option (List World)) → states_from p (step p w a) front ≡ o →
          ((f : World) (g : List World) → states_from p (step p w a) front ≡ Some (f ∷ g) → step p (last_of f g) action ≡ None →
          Stops (step p w a) front action rest)
          → then_states w o ≡ Some (from ∷ after) → Stops (Some w) (a ∷ front) action rest
      by None q more h = absurd (let z : ⊥ = cc in z)
      by (Some []) q more h = absurd (not_empty (step p w a) front q)
      by (Some (v ∷ vs)) q more h =
          let others : v ∷ vs ≡ after = cc in
          let below = more v vs q (ap (λ (us : List World). step p (last_of from us) action) others ∙ s) in
          (ap (then_states w) below.0, omega (arith, below.1))

  stopped : (plan : List Action) (k : ℕ) (x : StopsAt p plan k) → Stops (Some p.first) x.front x.action x.rest
  stopped plan k x = stops x.action x.rest (Some p.first) x.front x.from x.after x.executes x.stuck

  stopped-none : (plan : List Action) (k : ℕ) → StopsAt p plan k → (from : World) (after : List World) → states p plan ≡
      Some (from ∷ after) → ⊥
  stopped-none plan k x from after e =
      let none : states p plan ≡ None = ap (states p) x.whole ∙ (stopped plan k x).0 in
      let z : None ≡ Some (from ∷ after) = sym none ∙ e in
      let y : ⊥ = cc in y

  stopped-place : (plan : List Action) (k : ℕ) → StopsAt p plan k → k ≡ run_length p (Some p.first) plan
  stopped-place plan k x = x.place ∙ (add-one (length x.front) ∙ (sym (stopped plan k x).1 ∙
      ap (run_length p (Some p.first)) (sym x.whole)))

  same-states : (plan : List Action) (from : World) (after : List World) (from' : World) (after' : List World) → states p plan ≡
      Some (from ∷ after) → states p plan ≡ Some (from' ∷ after') → (from ≡ from') × (after ≡ after')
  same-states plan from after from' after' e f =
      let z : Some (from ∷ after) ≡ Some (from' ∷ after') = sym e ∙ f in
      let one : from ≡ from' = cc in
      let all : after ≡ after' = cc in
      (one, all)

  goal-once : (plan : List Action) (from : World) (after : List World) (x : MissesGoal p plan) → states p plan ≡ Some (from ∷ after) →
      meets_goal (last_of from after) p.goal p.avoid ≡ true → ⊥
  goal-once plan from after x e h =
      let same = same-states plan from after x.from x.after e x.executes in
      true≢false (sym h ∙ (ap₂ (λ (w : World) (ws : List World). meets_goal (last_of w ws) p.goal p.avoid) same.0 same.1 ∙ x.misses))

  obeys-once : (plan : List Action) → IsAccepted p plan → BreaksControl p plan → ⊥
  obeys-once plan a x =
      let same = same-states plan a.from a.after x.from x.after a.executes x.executes in
      x.breaks (subst (λ (ws : List World). Satisfies p (run_of x.from ws) 0 p.control) same.1
      (subst (λ (w : World). Satisfies p (run_of w a.after) 0 p.control) same.0 a.obeys))

  pub one-verdict : (plan : List Action) (v u : Verdict) → IsVerdict p plan v → IsVerdict p plan u → v ≡ u
  one-verdict plan verdict.Valid verdict.Valid x y = refl
  one-verdict plan verdict.Valid (verdict.NotExecutable k) x y = absurd (stopped-none plan k y x.from x.after x.executes)
  one-verdict plan verdict.Valid verdict.GoalUnmet x y = absurd (goal-once plan x.from x.after y x.executes x.reaches)
  one-verdict plan verdict.Valid verdict.Disobeys x y = absurd (obeys-once plan x y)
  one-verdict plan (verdict.NotExecutable k) verdict.Valid x y = absurd (stopped-none plan k x y.from y.after y.executes)
  one-verdict plan (verdict.NotExecutable k) (verdict.NotExecutable l) x y =
      ap verdict.NotExecutable (stopped-place plan k x ∙ sym (stopped-place plan l y))
  one-verdict plan (verdict.NotExecutable k) verdict.GoalUnmet x y = absurd (stopped-none plan k x y.from y.after y.executes)
  one-verdict plan (verdict.NotExecutable k) verdict.Disobeys x y = absurd (stopped-none plan k x y.from y.after y.executes)
  one-verdict plan verdict.GoalUnmet verdict.Valid x y = absurd (goal-once plan y.from y.after x y.executes y.reaches)
  one-verdict plan verdict.GoalUnmet (verdict.NotExecutable k) x y = absurd (stopped-none plan k y x.from x.after x.executes)
  one-verdict plan verdict.GoalUnmet verdict.GoalUnmet x y = refl
  one-verdict plan verdict.GoalUnmet verdict.Disobeys x y = absurd (goal-once plan y.from y.after x y.executes y.reaches)
  one-verdict plan verdict.Disobeys verdict.Valid x y = absurd (obeys-once plan y x)
  one-verdict plan verdict.Disobeys (verdict.NotExecutable k) x y = absurd (stopped-none plan k y x.from x.after x.executes)
  one-verdict plan verdict.Disobeys verdict.GoalUnmet x y = absurd (goal-once plan x.from x.after y x.executes x.reaches)
  one-verdict plan verdict.Disobeys verdict.Disobeys x y = refl

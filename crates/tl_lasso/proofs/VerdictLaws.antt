-- Each plan with a repeated part has one verdict.
use Rattle.std.proofs.Common.{◌≡◌, ◌↔◌, ℕ, List, [], ◌∷◌, ◌++◌, length, Bool, true, false, true≢false, Some, Result, Ok, Err, IfOk, refl}
use Rattle.std.proofs.Common.{sym, ap, ap₂, ◌∙◌, subst, arith}
use Rattle.tl_action.specs.declared.check_fault.CheckFault.{CheckFault}
use Rattle.tl_check.proofs.ExecutionLaws.{states-count}
use Rattle.tl_check.proofs.VerdictLaws as ending
use Rattle.tl_check.specs.Verdicts.{StopsAt}
use Rattle.tl_check.specs.declared.verdict.Verdict.TheVariants as ended
use Rattle.tl_lasso.specs.Verdicts.{LoopStates, loop_run, IsAcceptedForEver, IsLoopVerdict}
use Rattle.tl_lasso.specs.declared.verdict.LoopVerdict.{LoopVerdict}
use Rattle.tl_lasso.specs.declared.verdict.LoopVerdict.TheVariants as verdict
use Rattle.tl_syntax.specs.declared.action.Action.{Action}
use Rattle.tl_terms.proofs.RunLaws.{Satisfies-decided}
use Rattle.tl_terms.specs.Acceptance.{states, meets_goal, last_of, run_of}
use Rattle.tl_terms.specs.Problem.{PlainProblem}
use Rattle.tl_terms.specs.Run.{Run, Satisfies}
use Rattle.tl_terms.specs.World.{World}

-- ---- the same lists in two parts

split-same : (xs ys : List World) (a b : World) (us vs : List World) → length xs ≡ length ys → xs ++ (a ∷ us) ≡ ys ++ (b ∷ vs) → (xs ≡ ys) ×
    (a ≡ b) × (us ≡ vs)
split-same [] [] a b us vs l q = let heads : a ≡ b = cc in let tails : us ≡ vs = cc in (refl, heads, tails)
split-same [] (y ∷ ys) a b us vs l q = absurd (omega arith)
split-same (x ∷ xs) [] a b us vs l q = absurd (omega arith)
split-same (x ∷ xs) (y ∷ ys) a b us vs l q =
    let heads : x ≡ y = cc in
    let tails : xs ++ (a ∷ us) ≡ ys ++ (b ∷ vs) = cc in
    let rest = split-same xs ys a b us vs (omega arith) tails in
    (ap₂ (λ (z : World) (zs : List World). z ∷ zs) heads rest.0, rest.1, rest.2)

end-same : (us vs : List World) (a b : World) → us ++ a ∷ [] ≡ vs ++ b ∷ [] → (us ≡ vs) × (a ≡ b)
end-same [] [] a b q = let heads : a ≡ b = cc in (refl, heads)
end-same [] (v ∷ []) a b q = let z : ⊥ = cc in absurd z
end-same [] (v ∷ w ∷ vs) a b q = let z : ⊥ = cc in absurd z
end-same (u ∷ []) [] a b q = let z : ⊥ = cc in absurd z
end-same (u ∷ w ∷ us) [] a b q = let z : ⊥ = cc in absurd z
end-same (u ∷ us) (v ∷ vs) a b q =
    let heads : u ≡ v = cc in
    let tails : us ++ a ∷ [] ≡ vs ++ b ∷ [] = cc in
    let rest = end-same us vs a b tails in
    (ap₂ (λ (z : World) (zs : List World). z ∷ zs) heads rest.0, rest.1)

module _ (p : PlainProblem) where
  -- ---- a plan that executes has no first action without a step

  stopped-none : (plan : List Action) (k : ℕ) → StopsAt p plan k → (ws : List World) → states p plan ≡ Some ws → ⊥
  stopped-none plan k x [] e = absurd (let n = states-count p plan [] e in omega arith)
  stopped-none plan k x (from ∷ after) e = by (meets_goal (last_of from after) p.goal p.avoid) refl
      (Satisfies-decided p (run_of from after) 0 p.control)
    where
      by : (b : Bool) → meets_goal (last_of from after) p.goal p.avoid ≡ b → Dec (Satisfies p (run_of from after) 0 p.control) → ⊥
      by false h d = let same : ended.NotExecutable k ≡ ended.GoalUnmet =
          ending.one-verdict p plan (ended.NotExecutable k) ended.GoalUnmet x
          (record { from = from; after = after; executes = e; misses = h }) in let z : ⊥ = cc in z
      by true h (yes s) = let same : ended.NotExecutable k ≡ ended.Valid =
          ending.one-verdict p plan (ended.NotExecutable k) ended.Valid x
          (record { from = from; after = after; executes = e; reaches = h; obeys = s }) in let z : ⊥ = cc in z
      by true h (no s) = let same : ended.NotExecutable k ≡ ended.Disobeys =
          ending.one-verdict p plan (ended.NotExecutable k) ended.Disobeys x
          (record { from = from; after = after; executes = e; reaches = h; breaks = s }) in let z : ⊥ = cc in z

  stopped-once : (plan : List Action) (k l : ℕ) → StopsAt p plan k → StopsAt p plan l → k ≡ l
  stopped-once plan k l x y = let same : ended.NotExecutable k ≡ ended.NotExecutable l =
      ending.one-verdict p plan (ended.NotExecutable k) (ended.NotExecutable l) x y in cc

  -- ---- the states are the same

  record Same (stem cycle : List Action) (x y : LoopStates p stem cycle) : Type 0 where
    before : x.before ≡ y.before
    first : x.first ≡ y.first
    between : x.between ≡ y.between
    last : x.last ≡ y.last

  same : (stem cycle : List Action) (x y : LoopStates p stem cycle) → Same stem cycle x y
  same stem cycle x y =
      let both : Some (x.before ++ (x.first ∷ (x.between ++ x.last ∷ []))) ≡ Some (y.before ++ (y.first ∷ (y.between ++ y.last ∷ []))) =
      sym x.executes ∙ y.executes in
      let all : x.before ++ (x.first ∷ (x.between ++ x.last ∷ [])) ≡ y.before ++ (y.first ∷ (y.between ++ y.last ∷ [])) = cc in
      let parts = split-same x.before y.before x.first y.first (x.between ++ x.last ∷ []) (y.between ++ y.last ∷ [])
      (x.count ∙ sym y.count) all in
      let rest = end-same x.between y.between x.last y.last parts.2 in
      record { before = parts.0; first = parts.1; between = rest.0; last = rest.1 }

  module _ (stem cycle : List Action) (x y : LoopStates p stem cycle) where
    closed-once : x.last ≡ x.first → y.last ≡ y.first
    closed-once h = let s = same stem cycle x y in sym s.last ∙ (h ∙ s.first)

    goal-once : (b : Bool) → meets_goal x.first p.goal p.avoid ≡ b → meets_goal y.first p.goal p.avoid ≡ b
    goal-once b h = let s = same stem cycle x y in ap (λ (w : World). meets_goal w p.goal p.avoid) (sym s.first) ∙ h

    runs : loop_run x ≡ loop_run y
    runs = let s = same stem cycle x y in λ i. record { stem = s.before i; first = s.first i; rest = s.between i }

    obeys-once : Satisfies p (loop_run x) 0 p.control → Satisfies p (loop_run y) 0 p.control
    obeys-once h = subst (λ (r : Run). Satisfies p r 0 p.control) runs h

  no-stop : (stem cycle : List Action) (k : ℕ) → StopsAt p (stem ++ cycle) k → LoopStates p stem cycle → ⊥
  no-stop stem cycle k x s = stopped-none (stem ++ cycle) k x (s.before ++ (s.first ∷ (s.between ++ s.last ∷ []))) s.executes

  pub one-verdict : (stem cycle : List Action) (v u : LoopVerdict) → IsLoopVerdict p stem cycle v → IsLoopVerdict p stem cycle u → v ≡ u
  one-verdict a c verdict.Valid verdict.Valid x y = refl
  one-verdict a c verdict.Valid (verdict.NotExecutable k) x y = absurd (no-stop a c k y x.states)
  one-verdict a c verdict.Valid verdict.NotClosed x y = absurd (y.opens (closed-once a c x.states y.states x.closes))
  one-verdict a c verdict.Valid verdict.GoalUnmet x y = absurd (true≢false
      (sym (goal-once a c x.states y.states true x.reaches) ∙ y.misses))
  one-verdict a c verdict.Valid verdict.Disobeys x y = absurd (y.breaks (obeys-once a c x.states y.states x.obeys))
  one-verdict a c (verdict.NotExecutable k) verdict.Valid x y = absurd (no-stop a c k x y.states)
  one-verdict a c (verdict.NotExecutable k) (verdict.NotExecutable l) x y = ap verdict.NotExecutable (stopped-once (a ++ c) k l x y)
  one-verdict a c (verdict.NotExecutable k) verdict.NotClosed x y = absurd (no-stop a c k x y.states)
  one-verdict a c (verdict.NotExecutable k) verdict.GoalUnmet x y = absurd (no-stop a c k x y.states)
  one-verdict a c (verdict.NotExecutable k) verdict.Disobeys x y = absurd (no-stop a c k x y.states)
  one-verdict a c verdict.NotClosed verdict.Valid x y = absurd (x.opens (closed-once a c y.states x.states y.closes))
  one-verdict a c verdict.NotClosed (verdict.NotExecutable k) x y = absurd (no-stop a c k y x.states)
  one-verdict a c verdict.NotClosed verdict.NotClosed x y = refl
  one-verdict a c verdict.NotClosed verdict.GoalUnmet x y = absurd (x.opens (closed-once a c y.states x.states y.closes))
  one-verdict a c verdict.NotClosed verdict.Disobeys x y = absurd (x.opens (closed-once a c y.states x.states y.closes))
  one-verdict a c verdict.GoalUnmet verdict.Valid x y = absurd (true≢false
      (sym (goal-once a c y.states x.states true y.reaches) ∙ x.misses))
  one-verdict a c verdict.GoalUnmet (verdict.NotExecutable k) x y = absurd (no-stop a c k y x.states)
  one-verdict a c verdict.GoalUnmet verdict.NotClosed x y = absurd (y.opens (closed-once a c x.states y.states x.closes))
  one-verdict a c verdict.GoalUnmet verdict.GoalUnmet x y = refl
  one-verdict a c verdict.GoalUnmet verdict.Disobeys x y = absurd (true≢false
      (sym (goal-once a c y.states x.states true y.reaches) ∙ x.misses))
  one-verdict a c verdict.Disobeys verdict.Valid x y = absurd (x.breaks (obeys-once a c y.states x.states y.obeys))
  one-verdict a c verdict.Disobeys (verdict.NotExecutable k) x y = absurd (no-stop a c k y x.states)
  one-verdict a c verdict.Disobeys verdict.NotClosed x y = absurd (y.opens (closed-once a c x.states y.states x.closes))
  one-verdict a c verdict.Disobeys verdict.GoalUnmet x y = absurd (true≢false
      (sym (goal-once a c x.states y.states true x.reaches) ∙ y.misses))
  one-verdict a c verdict.Disobeys verdict.Disobeys x y = refl

  -- a verdict that is right tells whether the plan is accepted for ever
  pub valid-tells : (stem cycle : List Action) (v : LoopVerdict) → IsLoopVerdict p stem cycle v → (v ≡ verdict.Valid) ↔
      IsAcceptedForEver p stem cycle
  valid-tells stem cycle v h = (λ q. subst (IsLoopVerdict p stem cycle) q h, λ a. one-verdict stem cycle v verdict.Valid h a)

  pub valid-of : (stem cycle : List Action) (r : Result LoopVerdict CheckFault) → IfOk r (IsLoopVerdict p stem cycle) →
      IfOk r (λ v. (v ≡ verdict.Valid) ↔ IsAcceptedForEver p stem cycle)
  valid-of stem cycle (Ok v) h = valid-tells stem cycle v h
  valid-of stem cycle (Err x) h = tt

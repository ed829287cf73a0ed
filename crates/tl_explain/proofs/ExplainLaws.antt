-- What the lines that explain a plan say.
use Rattle.std.proofs.Common.{◌≡◌, ◌⊎◌, ℕ, suc, ◌+◌, List, [], ◌∷◌, ◌++◌, length, Option, Some, None, IsSome, is_some, refl, sym, ap, ◌∙◌}
use Rattle.std.proofs.Common.{subst, inl, inr, arith, append_assoc}
use Rattle.tl_syntax.specs.declared.action.Action.{Action}
use Rattle.tl_syntax.specs.declared.problem.Problem.{Problem}
use Rattle.tl_syntax.specs.Trees.{FormulaTree}
use Rattle.tl_terms.specs.Acceptance.{last_of, states_from, then_states}
use Rattle.tl_terms.specs.Pairs.{residual}
use Rattle.tl_terms.specs.ProblemMeaning.{plain_problem}
use Rattle.tl_terms.specs.Step.{step}
use Rattle.tl_terms.specs.World.{World}
use Rattle.tl_explain.specs.Explain.{action_line, by_step, end_line, explain_text, lines_after, progressed_in, state_line, stopped_line}
use Rattle.tl_explain.specs.LawsExplain.{EndsStopped, EndsWithAll, ShowsStates, TextExplains}

-- two texts before one that is split
deeper : (s a rest b x : List ℕ) → rest ≡ b ++ x → s ++ (a ++ rest) ≡ (s ++ (a ++ b)) ++ x
deeper s a rest b x e = ap (λ r. s ++ (a ++ r)) e ∙ (ap (λ r. s ++ r) (sym (append_assoc a b x)) ∙ sym (append_assoc s (a ++ b) x))

-- the states where an action leads to a world
more_states : (w : World) (o : Option (List World)) (ws : List World) → then_states w o ≡ Some ws → (us : List World) × (o ≡ Some us) ×
    (ws ≡ w ∷ us)
more_states w None ws e = absurd (let z : ⊥ = cc in z)
more_states w (Some us) ws e = (us, refl, let q : ws ≡ w ∷ us = cc in q)

module _ (p : Problem) where
  -- the lines from a state on, in which the formula comes in
  lines_from : ℕ → World → FormulaTree → List Action → List ℕ
  lines_from k w f plan = state_line p k (progressed_in p w f) ++ lines_after p k w (progressed_in p w f) plan

  -- the lines after the next action, where it leads to a world
  lines-on : (k : ℕ) (w v : World) (f : FormulaTree) (a : Action) (plan : List Action) → step (plain_problem p) w a ≡ Some v →
      lines_from k w f (a ∷ plan) ≡ state_line p k (progressed_in p w f) ++
      (action_line p a ++ lines_from (k + 1) v (progressed_in p w f) plan)
  unfolding lines_from lines_after
  lines-on k w v f a plan e =
      ap (λ o. state_line p k (progressed_in p w f) ++ by_step (stopped_line (k + 1))
      (λ u. action_line p a ++ (state_line p (k + 1) (progressed_in p u (progressed_in p w f)) ++
      lines_after p (k + 1) u (progressed_in p u (progressed_in p w f)) plan)) o) e

  -- and where it leads to none
  lines-stuck : (k : ℕ) (w : World) (f : FormulaTree) (a : Action) (plan : List Action) → step (plain_problem p) w a ≡ None →
      lines_from k w f (a ∷ plan) ≡ state_line p k (progressed_in p w f) ++ stopped_line (k + 1)
  unfolding lines_from lines_after
  lines-stuck k w f a plan e =
      ap (λ o. state_line p k (progressed_in p w f) ++ by_step (stopped_line (k + 1))
      (λ u. action_line p a ++ (state_line p (k + 1) (progressed_in p u (progressed_in p w f)) ++
      lines_after p (k + 1) u (progressed_in p u (progressed_in p w f)) plan)) o) e

  -- the line of a state with this residual stands in the text
  record Shows (text : List ℕ) (k : ℕ) (f : FormulaTree) : Type 0 where
    before : List ℕ
    behind : List ℕ
    whole : text ≡ before ++ (state_line p k f ++ behind)

  shows-first : (k n : ℕ) (w : World) (f : FormulaTree) (plan : List Action) (ws : List World) → n ≡ k → w ∷ [] ≡ ws →
      Shows (lines_from k w f plan) n (residual (plain_problem p) ws f)
  unfolding residual lines_from
  shows-first k n w f plan ws q e =
      subst (λ us. Shows (lines_from k w f plan) n (residual (plain_problem p) us f)) e
      (subst (λ m. Shows (lines_from k w f plan) m (progressed_in p w f)) (sym q)
      (record { before = []; behind = lines_after p k w (progressed_in p w f) plan; whole = refl }))

  shows-on : (k m n : ℕ) (w v : World) (f : FormulaTree) (a : Action) (plan : List Action) (us ws : List World) →
      step (plain_problem p) w a ≡ Some v → ws ≡ w ∷ us → m ≡ n
      → Shows (lines_from (k + 1) v (progressed_in p w f) plan) n (residual (plain_problem p) us (progressed_in p w f))
      → Shows (lines_from k w f (a ∷ plan)) m (residual (plain_problem p) ws f)
  unfolding residual
  shows-on k m n w v f a plan us ws e q r h =
      subst (λ (vs : List World). Shows (lines_from k w f (a ∷ plan)) m (residual (plain_problem p) vs f)) (sym q)
      (subst (λ (i : ℕ). Shows (lines_from k w f (a ∷ plan)) i (residual (plain_problem p) us (progressed_in p w f))) (sym r)
      (record {
        before = state_line p k (progressed_in p w f) ++ (action_line p a ++ h.before);
        behind = h.behind;
        whole = lines-on k w v f a plan e ∙ deeper (state_line p k (progressed_in p w f)) (action_line p a)
            (lines_from (k + 1) v (progressed_in p w f) plan) h.before _ h.whole;
      }))

  shows : (k : ℕ) (w : World) (f : FormulaTree) (front rest : List Action) (ws : List World) →
      states_from (plain_problem p) (Some w) front ≡ Some ws → Shows (lines_from k w f (front ++ rest)) (k + length front)
      (residual (plain_problem p) ws f)
  unfolding states_from
  shows k w f [] rest ws e = shows-first k (k + 0) w f rest ws (omega arith) (let q : w ∷ [] ≡ ws = cc in q)
  shows k w f (a ∷ front) rest ws e = by (step (plain_problem p) w a) refl e (λ v us. shows (k + 1) v (progressed_in p w f) front rest us)
    where
      by : (o : Option World) → step (plain_problem p) w a ≡ o → then_states w (states_from (plain_problem p) o front) ≡ Some ws
          → ((v : World) (us : List World) → states_from (plain_problem p) (Some v) front ≡ Some us →
          Shows (lines_from (k + 1) v (progressed_in p w f) (front ++ rest)) (k + 1 + length front)
          (residual (plain_problem p) us (progressed_in p w f)))
          → Shows (lines_from k w f (a ∷ (front ++ rest))) (k + suc (length front)) (residual (plain_problem p) ws f)
      by None s q below = absurd (let z : ⊥ = cc in z)
      by (Some v) s q below =
          let more = more_states w (states_from (plain_problem p) (Some v) front) ws q in
          shows-on k (k + suc (length front)) (k + 1 + length front) w v f a (front ++ rest) more.0 ws s more.2 (omega arith)
          (below v more.0 more.1)

  -- the end of the text, where all actions execute from the world on
  record EndsAll (text : List ℕ) (w : World) (plan : List Action) : Type 0 where
    before : List ℕ
    whole : text ≡ before ++ end_line
    executes : IsSome (states_from (plain_problem p) (Some w) plan)

  -- and where one has no step
  record EndsAt (text : List ℕ) (k : ℕ) (w : World) (plan : List Action) : Type 0 where
    before : List ℕ
    front : List Action
    action : Action
    rest : List Action
    from : World
    after : List World
    whole : text ≡ before ++ stopped_line (k + length front + 1)
    parts : plan ≡ front ++ action ∷ rest
    executes : states_from (plain_problem p) (Some w) front ≡ Some (from ∷ after)
    stuck : step (plain_problem p) (last_of from after) action ≡ None

  all-on : (k : ℕ) (w v : World) (f : FormulaTree) (a : Action) (plan : List Action) → step (plain_problem p) w a ≡ Some v →
      EndsAll (lines_from (k + 1) v (progressed_in p w f) plan) v plan → EndsAll (lines_from k w f (a ∷ plan)) w (a ∷ plan)
  unfolding states_from
  all-on k w v f a plan e h = record {
    before = state_line p k (progressed_in p w f) ++ (action_line p a ++ h.before);
    whole = lines-on k w v f a plan e ∙ deeper (state_line p k (progressed_in p w f)) (action_line p a)
        (lines_from (k + 1) v (progressed_in p w f) plan) h.before end_line h.whole;
    executes = ap (λ o. is_some (then_states w (states_from (plain_problem p) o plan))) e ∙
        there (states_from (plain_problem p) (Some v) plan) h.executes;
  }
    where
      there : (o : Option (List World)) → IsSome o → IsSome (then_states w o)
      there None q = q
      there (Some us) q = q

  stop-on : (k : ℕ) (w v : World) (f : FormulaTree) (a : Action) (plan : List Action) → step (plain_problem p) w a ≡ Some v →
      EndsAt (lines_from (k + 1) v (progressed_in p w f) plan) (k + 1) v plan → EndsAt (lines_from k w f (a ∷ plan)) k w (a ∷ plan)
  unfolding states_from
  stop-on k w v f a plan e h =
      let n : k + 1 + length h.front + 1 ≡ k + suc (length h.front) + 1 = omega arith in
      record {
        before = state_line p k (progressed_in p w f) ++ (action_line p a ++ h.before);
        front = a ∷ h.front;
        action = h.action;
        rest = h.rest;
        from = w;
        after = h.from ∷ h.after;
        whole = lines-on k w v f a plan e ∙ (deeper (state_line p k (progressed_in p w f)) (action_line p a)
            (lines_from (k + 1) v (progressed_in p w f) plan) h.before (stopped_line (k + 1 + length h.front + 1)) h.whole
            ∙ ap (λ m. (state_line p k (progressed_in p w f) ++ (action_line p a ++ h.before)) ++ stopped_line m) n);
        parts = ap (λ us. a ∷ us) h.parts;
        executes = ap (λ o. then_states w (states_from (plain_problem p) o h.front)) e ∙ ap (then_states w) h.executes;
        stuck = h.stuck;
      }

  stop-here : (k n : ℕ) (w : World) (f : FormulaTree) (a : Action) (plan : List Action) → n ≡ k + 1 → step (plain_problem p) w a ≡ None →
      EndsAt (lines_from k w f (a ∷ plan)) k w (a ∷ plan)
  unfolding states_from
  stop-here k n w f a plan q e = record {
    before = state_line p k (progressed_in p w f);
    front = [];
    action = a;
    rest = plan;
    from = w;
    after = [];
    whole = lines-stuck k w f a plan e ∙ ap (λ m. state_line p k (progressed_in p w f) ++ stopped_line m)
        (let z : k + 1 ≡ k + 0 + 1 = omega arith in z);
    parts = refl;
    executes = refl;
    stuck = e;
  }

  ends : (k : ℕ) (w : World) (f : FormulaTree) (plan : List Action) → EndsAll (lines_from k w f plan) w plan ⊎
      EndsAt (lines_from k w f plan) k w plan
  unfolding states_from lines_from lines_after
  ends k w f [] = inl (record { before = state_line p k (progressed_in p w f); whole = refl; executes = refl })
  ends k w f (a ∷ plan) = by (step (plain_problem p) w a) refl (λ v. ends (k + 1) v (progressed_in p w f) plan)
    where
      on : (v : World) → step (plain_problem p) w a ≡ Some v → EndsAll (lines_from (k + 1) v (progressed_in p w f) plan) v plan ⊎
          EndsAt (lines_from (k + 1) v (progressed_in p w f) plan) (k + 1) v plan → EndsAll (lines_from k w f (a ∷ plan)) w (a ∷ plan) ⊎
          EndsAt (lines_from k w f (a ∷ plan)) k w (a ∷ plan)
      on v e (inl h) = inl (all-on k w v f a plan e h)
      on v e (inr h) = inr (stop-on k w v f a plan e h)

      by : (o : Option World) → step (plain_problem p) w a ≡ o → ((v : World) →
          EndsAll (lines_from (k + 1) v (progressed_in p w f) plan) v plan ⊎
          EndsAt (lines_from (k + 1) v (progressed_in p w f) plan) (k + 1) v plan) → EndsAll (lines_from k w f (a ∷ plan)) w (a ∷ plan) ⊎
          EndsAt (lines_from k w f (a ∷ plan)) k w (a ∷ plan)
      by None e below = inr (stop-here k (k + 1) w f a plan refl e)
      by (Some v) e below = on v e (below v)

  text-shows : (plan : List Action) → ShowsStates p plan (explain_text p plan)
  unfolding lines_from
  text-shows plan front rest ws e q =
      let h = shows 0 (plain_problem p).first (plain_problem p).control front rest ws q in
      record {
        before = h.before;
        behind = h.behind;
        whole = ap (explain_text p) e ∙ (h.whole ∙ ap (λ n. h.before ++
            (state_line p n (residual (plain_problem p) ws (plain_problem p).control) ++ h.behind))
            (let z : 0 + length front ≡ length front = omega arith in z));
      }

  text-ends : (plan : List Action) → EndsWithAll p plan (explain_text p plan) ⊎ EndsStopped p plan (explain_text p plan)
  unfolding lines_from
  text-ends plan = by (ends 0 (plain_problem p).first (plain_problem p).control plan)
    where
      by : EndsAll (lines_from 0 (plain_problem p).first (plain_problem p).control plan) (plain_problem p).first plan ⊎
          EndsAt (lines_from 0 (plain_problem p).first (plain_problem p).control plan) 0 (plain_problem p).first plan →
          EndsWithAll p plan (explain_text p plan) ⊎ EndsStopped p plan (explain_text p plan)
      by (inl h) = inl (record { before = h.before; whole = h.whole; executes = h.executes })
      by (inr h) = inr (record {
        before = h.before;
        number = 0 + length h.front + 1;
        whole = h.whole;
        stops = record {
          front = h.front;
          action = h.action;
          rest = h.rest;
          whole = h.parts;
          place = omega arith;
          from = h.from;
          after =
              h.after;
          executes = h.executes;
          stuck = h.stuck;
        };
      })

pub text-explains : TextExplains
text-explains p plan = record { shows = text-shows p plan; ends = text-ends p plan }

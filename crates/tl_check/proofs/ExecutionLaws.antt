-- The states of a plan, one action after another.
use Rattle.std.proofs.Common.{◌≡◌, ◌≤◌, ◌<◌, ◌+◌, ℕ, zero, suc, List, [], ◌∷◌, ◌++◌, take, drop, length, get_or, Option, Some, None, refl}
use Rattle.std.proofs.Common.{sym, ap, ◌∙◌, subst, arith, length-take}
use Rattle.std.proofs.lemmas.List.{take_more}
use Rattle.tl_check.specs.Verdicts.{StopsAt, IsPastInAction}
use Rattle.tl_eval.specs.Notes.{Tells}
use Rattle.tl_eval.specs.declared.range.RangeNote.{RangeNote}
use Rattle.tl_syntax.specs.declared.action.Action.{Action}
use Rattle.tl_syntax.specs.Lists.{Each}
use Rattle.tl_terms.specs.Acceptance.{then_states, states_from, states, last_of}
use Rattle.tl_terms.specs.Looked.{looked_by_action}
use Rattle.tl_terms.specs.Problem.{PlainProblem}
use Rattle.tl_terms.specs.Step.{step}
use Rattle.tl_terms.specs.World.{World}

-- what holds of each action holds of the one at a position
pub action-at : (P : Action → Type 0) (plan : List Action) (k : ℕ) (a : Action) → Each P plan → k < length plan → a ≡ get_or plan k a → P a
action-at P [] k a h l r = absurd (omega arith)
action-at P (b ∷ plan) zero a h l r = subst P (sym r) h.0
action-at P (b ∷ plan) (suc k) a h l r = action-at P plan k a h.1 (omega arith) r

-- the last world by its position
pub last-is : (w : World) (ws : List World) (d : World) → last_of w ws ≡ get_or (w ∷ ws) (length ws) d
last-is w [] d = refl
last-is w (v ∷ ws) d = last-is v ws d

-- the plan with an action in its place
split : (plan : List Action) (k : ℕ) (a : Action) → k < length plan → a ≡ get_or plan k a → plan ≡ take k plan ++ a ∷ drop (suc k) plan
split [] k a l r = absurd (omega arith)
split (b ∷ plan) zero a l r = ap (λ (c : Action). c ∷ plan) (sym r)
split (b ∷ plan) (suc k) a l r = ap (λ (us : List Action). b ∷ us) (split plan k a (omega arith) r)

module _ (p : PlainProblem) where
  -- one more action that has a step
  more : (a : Action) (v w : World) (o : Option World) (front : List Action) (ws : List World) → states_from p o front ≡ Some ws → w ≡
      get_or ws (length front) w → step p w a ≡ Some v → states_from p o (front ++ a ∷ []) ≡ Some (ws ++ v ∷ [])
  unfolding states_from
  more a v w None front ws e r s = absurd (let z : ⊥ = cc in z)
  more a v w (Some u) [] ws e r s =
      let one : u ∷ [] ≡ ws = cc in
      let here : w ≡ u = r ∙ ap (λ (us : List World). get_or us 0 w) (sym one) in
      ap (λ (x : Option World). then_states u (states_from p x [])) (ap (λ (x : World). step p x a) (sym here) ∙ s) ∙
      ap (λ (us : List World). Some (us ++ v ∷ [])) one
  more a v w (Some u) (b ∷ front) ws e r s = by (states_from p (step p u b) front) refl (λ us q t. more a v w (step p u b) front us q t s) e
    where
      by : (o : Option (List World)) → states_from p (step p u b) front ≡ o →
          ((us : List World) → states_from p (step p u b) front ≡ Some us → w ≡ get_or us (length front) w →
          states_from p (step p u b) (front ++ a ∷ []) ≡ Some (us ++ v ∷ []))
          → then_states u o ≡ Some ws → then_states u (states_from p (step p u b) (front ++ a ∷ [])) ≡ Some (ws ++ v ∷ [])
      by None q below h = absurd (let z : ⊥ = cc in z)
      by (Some us) q below h =
          let all : u ∷ us ≡ ws = cc in
          ap (then_states u) (below us q (r ∙ ap (λ (xs : List World). get_or xs (suc (length front)) w) (sym all))) ∙
          ap (λ (xs : List World). Some (xs ++ v ∷ [])) all

  -- as many states as actions, and one more
  count : (o : Option World) (plan : List Action) (ws : List World) → states_from p o plan ≡ Some ws → length ws ≡ suc (length plan)
  unfolding states_from
  count None plan ws e = absurd (let z : ⊥ = cc in z)
  count (Some u) [] ws e = let one : u ∷ [] ≡ ws = cc in sym (ap length one)
  count (Some u) (b ∷ plan) ws e = by (states_from p (step p u b) plan) refl (λ us q. count (step p u b) plan us q) e
    where
      by : (o : Option (List World)) → states_from p (step p u b) plan ≡ o →
          ((us : List World) → states_from p (step p u b) plan ≡ Some us → length us ≡ suc (length plan)) → then_states u o ≡ Some ws →
          length ws ≡ suc (suc (length plan))
      by None q below h = absurd (let z : ⊥ = cc in z)
      by (Some us) q below h = let all : u ∷ us ≡ ws = cc in sym (ap length all) ∙ ap suc (below us q)

  pub states-count : (plan : List Action) (ws : List World) → states p plan ≡ Some ws → length ws ≡ suc (length plan)
  states-count plan ws e = count (Some p.first) plan ws e

  -- the first actions have the first states
  front : (o : Option World) (plan : List Action) (k : ℕ) (ws : List World) → states_from p o plan ≡ Some ws →
      states_from p o (take k plan) ≡ Some (take (suc k) ws)
  unfolding states_from
  front None plan k ws e = absurd (let z : ⊥ = cc in z)
  front (Some u) [] zero ws e = let one : u ∷ [] ≡ ws = cc in ap (λ (us : List World). Some (take 1 us)) one
  front (Some u) [] (suc k) ws e = let one : u ∷ [] ≡ ws = cc in ap (λ (us : List World). Some (take (suc (suc k)) us)) one
  front (Some u) (b ∷ plan) zero ws e = by (states_from p (step p u b) plan) e
    where
      by : (o : Option (List World)) → then_states u o ≡ Some ws → Some (u ∷ []) ≡ Some (take 1 ws)
      by None h = absurd (let z : ⊥ = cc in z)
      by (Some us) h = let all : u ∷ us ≡ ws = cc in ap (λ (vs : List World). Some (take 1 vs)) all
  front (Some u) (b ∷ plan) (suc k) ws e = by (states_from p (step p u b) plan) refl (λ us q. front (step p u b) plan k us q) e
    where
      by : (o : Option (List World)) → states_from p (step p u b) plan ≡ o →
          ((us : List World) → states_from p (step p u b) plan ≡ Some us → states_from p (step p u b) (take k plan) ≡
          Some (take (suc k) us)) → then_states u o ≡ Some ws → then_states u (states_from p (step p u b) (take k plan)) ≡
          Some (take (suc (suc k)) ws)
      by None q below h = absurd (let z : ⊥ = cc in z)
      by (Some us) q below h = let all : u ∷ us ≡ ws = cc in ap (then_states u) (below us q) ∙
          ap (λ (vs : List World). Some (take (suc (suc k)) vs)) all

  pub states-front : (plan : List Action) (k : ℕ) (ws : List World) → states p plan ≡ Some ws → states p (take k plan) ≡
      Some (take (suc k) ws)
  states-front plan k ws e = front (Some p.first) plan k ws e

  pub states-begun : (plan : List Action) (ws : List World) → ws ≡ p.first ∷ [] → states p (take 0 plan) ≡ Some ws
  unfolding states_from
  states-begun plan ws q = ap (λ (us : List World). Some us) (sym q)

  module _ (plan : List Action) (k : ℕ) (ws : List World) (a : Action) (w : World) (so_far : states p (take k plan) ≡ Some ws)
      (l : k < length plan) (r : a ≡ get_or plan k a) (s : w ≡ get_or ws k w) where
    front-length : length (take k plan) ≡ k
    front-length = omega (arith, length-take k plan)

    pub states-on : (v : World) (new : List World) → step p w a ≡ Some v → new ≡ ws ++ v ∷ [] → states p (take (k + 1) plan) ≡ Some new
    states-on v new h q =
        ap (states p) (take_more plan k a l ∙ ap (λ (b : Action). take k plan ++ b ∷ []) (sym r))
        ∙ (more a v w (Some p.first) (take k plan) ws so_far (s ∙ ap (λ (i : ℕ). get_or ws i w) (sym front-length)) h ∙
        ap (λ (us : List World). Some us) (sym q))

    -- the states so far, with the last of them
    pub record Reached : Type 0 where
      pub from : World
      pub after : List World
      pub executes : states p (take k plan) ≡ Some (from ∷ after)
      pub last : last_of from after ≡ w

    reached : Reached
    reached = by ws so_far s (states-count (take k plan) ws so_far)
      where
        by : (us : List World) → states p (take k plan) ≡ Some us → w ≡ get_or us k w → length us ≡ suc (length (take k plan)) → Reached
        by [] e t n = absurd (omega arith)
        by (u ∷ us) e t n = record {
          from = u;
          after = us;
          executes = e;
          last = last-is u us w ∙
              (ap (λ (i : ℕ). get_or (u ∷ us) i w) (let m : length us ≡ k = omega (arith, front-length) in m) ∙ sym t);
        }

    pub stops-here : (n : ℕ) → n ≡ k + 1 → step p w a ≡ None → StopsAt p plan n
    stops-here n q h = record {
      front = take k plan;
      action = a;
      rest = drop (suc k) plan;
      whole = split plan k a l r;
      place = q ∙ ap (λ (i : ℕ). i + 1) (sym front-length);
      from = reached.from;
      after = reached.after;
      executes = reached.executes;
      stuck = ap (λ (v : World). step p v a) reached.last ∙ h;
    }

    pub past-here : (note : RangeNote) → Tells (looked_by_action p w a) note → IsPastInAction p plan k note
    past-here note h = record {
      front = take k plan;
      action = a;
      rest = drop (suc k) plan;
      whole = split plan k a l r;
      place = sym front-length;
      from = reached.from;
      after = reached.after;
      executes = reached.executes;
      told = subst (λ (v : World). Tells (looked_by_action p v a) note) (sym reached.last) h;
    }

  whole : (plan : List Action) (k : ℕ) → length plan ≤ k → take k plan ≡ plan
  whole [] zero h = refl
  whole [] (suc k) h = refl
  whole (a ∷ plan) zero h = absurd (omega arith)
  whole (a ∷ plan) (suc k) h = ap (λ (us : List Action). a ∷ us) (whole plan k (omega arith))

  pub states-end : (plan : List Action) (k : ℕ) (ws : List World) → length plan ≤ k → states p (take k plan) ≡ Some ws → states p plan ≡
      Some ws
  states-end plan k ws h e = ap (states p) (sym (whole plan k h)) ∙ e

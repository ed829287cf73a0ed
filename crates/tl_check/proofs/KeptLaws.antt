-- The verdict on a plan by what is kept of its states.
use Rattle.std.proofs.Common.{◌≡◌, ◌<◌, ◌+◌, ◌-◌, ◌^◌, ℕ, zero, suc, List, [], ◌∷◌, take, length, length-take, get_or, Option, Some}
use Rattle.std.proofs.Common.{unwrap_or, Bool, true, false, cond, Result, Ok, Err, IfErr, IsErrAnd, refl, sym, ap, ◌∙◌, subst, inl, arith}
use Rattle.std.specs.Prelude.{slice_get}
use Rattle.tl_action.specs.declared.check_fault.CheckFault.{CheckFault}
use Rattle.tl_action.specs.declared.check_fault.CheckFault.TheVariants as fault
use Rattle.tl_check.proofs.ExecutionLaws.{states-count, states-front}
use Rattle.tl_check.proofs.JudgeLaws.{obeys-round}
use Rattle.tl_check.proofs.LookedLaws.{among-front}
use Rattle.tl_check.proofs.TrailLaws.{last-at}
use Rattle.tl_check.specs.Facts.{IsAlong}
use Rattle.tl_check.specs.Histories.{IsFactHistory}
use Rattle.tl_check.specs.Judged.{Obeys, ObeysOn, IsKept, front_states, IsTrailOf, IsCauseByTrail, IsCauseUnlessKept}
use Rattle.tl_check.specs.Rounds.{course_from}
use Rattle.tl_check.specs.StatesAlong.{UnlessFew, states_along, states_of}
use Rattle.tl_check.specs.Trails.{Follows, HasStates, IsFollowed, IsTracked}
use Rattle.tl_check.specs.Verdicts.{IsCause}
use Rattle.tl_check.specs.declared.along.Along.{Along}
use Rattle.tl_check.specs.declared.history.History.{History}
use Rattle.tl_check.specs.declared.trail.Trail.{Trail}
use Rattle.tl_check.specs.declared.unlabelled.Unlabelled.{Unlabelled}
use Rattle.tl_check.specs.declared.unlabelled.Unlabelled.TheVariants as unlabelled
use Rattle.tl_check.specs.declared.verdict.Verdict.{Verdict}
use Rattle.tl_syntax.specs.declared.action.Action.{Action}
use Rattle.tl_syntax.specs.Lists.{Each}
use Rattle.tl_terms.specs.Problem.{PlainProblem}
use Rattle.tl_terms.specs.World.{World}

module _ (p : PlainProblem) (plan : List Action) (trail : Trail) (has : HasStates p plan) (is : IsTrailOf p plan trail) where
  many : length (states_of p plan) ≡ suc (length plan)
  many = states-count p plan (states_of p plan) has

  pub some-states : 0 < length (states_of p plan)
  some-states = omega (arith, many)

  pub last-state : trail.world ≡ get_or (states_of p plan) (length (states_of p plan) - 1) trail.world
  last-state = last-at (states_of p plan) trail.world (length (states_of p plan) - 1) is.1.last (omega (arith, some-states))

  as-many : (keeps : Bool) → trail.kept.items ≡ cond keeps (states_of p plan) [] → length trail.kept.items ≡ length (states_of p plan) →
      trail.kept.items ≡ states_of p plan
  as-many true q h = q
  as-many false q h = absurd (let none : length trail.kept.items ≡ 0 = ap length q in omega (arith, some-states))

  -- what formulas are labelled along
  pub along-is : (along : Along) → states_along along ≡ states_of p plan → along.count ≡ length plan + 1 → along.again ≡ length plan →
      length plan < 2 ^ 32 → along.kept.now ≡ trail.kept.items
      → ((ws : List World) → Each (IsTracked ws) trail.tracks.items → Each (IsFactHistory ws) along.histories.now) → IsAlong along
  along-is along same count again short kept histories =
      let all = ap length same in
      let total : along.count ≡ length (states_of p plan) = omega (arith, many, count) in
      record {
        few = omega (arith, all, many, short);
        count = omega (arith, all, total);
        again = omega (arith, count, again);
        kept = λ h. kept ∙ (as-many is.0 is.1.kept (ap length (sym kept) ∙ (h ∙ total)) ∙ sym same);
        histories = subst (λ (ws : List World). Each (IsFactHistory ws) along.histories.now) (sym same)
            (histories (states_of p plan) is.1.tracks);
      }

  -- the exit of a `?`
  pub cause-passed : {A : Type 0} (along : Along) (P : Result A CheckFault → Type 0) → along.count ≡ length plan + 1 → along.kept.now ≡
      trail.kept.items → ((y : CheckFault) → P (Err y) → IsCause p plan y)
      → (r : Result Verdict Unlabelled) (x : Unlabelled) → IsErrAnd r (λ y. y ≡ x) → UnlessFew along P (Err x) →
      IfErr r (IsCauseByTrail p plan trail)
  cause-passed along P count kept step (Ok v) x same h = absurd same
  cause-passed along P count kept step (Err y) x same h = subst (λ (z : Unlabelled). IsCauseByTrail p plan trail z) (sym same) (by x h)
    where
      by : (z : Unlabelled) → UnlessFew along P (Err z) → IsCauseByTrail p plan trail z
      by (unlabelled.Fault f) k = step f k
      by unlabelled.NotKept k = λ q. (
          let total : length (states_of p plan) ≡ along.count = omega (arith, many, count) in
          k (ap length (kept ∙ q) ∙ total)
          )

-- where the states are to be kept, none is missed
pub cause-unless : (p : PlainProblem) (plan : List Action) (keeps : Bool) (trail : Trail) → Follows keeps (states_of p plan) trail →
    (r : Result Verdict Unlabelled) → IfErr r (IsCauseByTrail p plan trail) → IfErr r (IsCauseUnlessKept p plan keeps)
cause-unless p plan keeps trail follows (Ok v) h = h
cause-unless p plan keeps trail follows (Err (unlabelled.Fault f)) h = h
cause-unless p plan keeps trail follows (Err unlabelled.NotKept) h = by keeps follows.kept
  where
    by : (b : Bool) → trail.kept.items ≡ cond b (states_of p plan) [] → b ≡ false
    by true q = absurd (h q)
    by false q = refl

-- a fault as the plan is followed
pub followed-cause : (p : PlainProblem) (keeps : Bool) (plan : List Action) (y : CheckFault) → IsFollowed p keeps plan (Err y) →
    IsCause p plan y
followed-cause p keeps plan (fault.Range k note) h = inl h
followed-cause p keeps plan fault.NoMemory h = tt

-- as it leaves by a `?`
pub followed-noted : {A : Type 0} (p : PlainProblem) (keeps : Bool) (plan : List Action) (r : Result A Unlabelled) (y : CheckFault) →
    IsErrAnd r (λ u. u ≡ unlabelled.Fault y) → IsFollowed p keeps plan (Err y) → IfErr r (IsCauseUnlessKept p plan keeps)
followed-noted p keeps plan (Ok v) y same h = absurd same
followed-noted p keeps plan (Err u) y same h = subst (λ (v : Unlabelled). IsCauseUnlessKept p plan keeps v) (sym same)
    (followed-cause p keeps plan y h)

-- ---- a plan that goes round

-- what is known of the facts in some worlds is known in the first of them
history-front : (k : ℕ) (ws : List World) (h : History) → IsFactHistory ws h → IsFactHistory (take k ws) h
history-front k ws h is = record {
  tell = λ a j w l s. is.tell a j w (omega (arith, l, length-take k ws)) (slice_get-front k ws j w s);
  ever = λ a w m t. is.ever a w (among-front k ws w m) t;
}
  where
    slice_get-front : (n : ℕ) (vs : List World) (j : ℕ) (w : World) → slice_get (take n vs) j ≡ Some w → slice_get vs j ≡ Some w
    slice_get-front zero vs j w s = absurd (let z : ⊥ = cc in z)
    slice_get-front (suc n) [] j w s = s
    slice_get-front (suc n) (v ∷ vs) zero w s = s
    slice_get-front (suc n) (v ∷ vs) (suc j) w s = slice_get-front n vs j w s

histories-front : (k : ℕ) (ws : List World) (hs : List History) → Each (IsFactHistory ws) hs → Each (IsFactHistory (take k ws)) hs
histories-front k ws [] h = tt
histories-front k ws (x ∷ hs) h = (history-front k ws x h.0, histories-front k ws hs h.1)

module _ (p : PlainProblem) (plan : List Action) (trail : Trail) (is : IsKept p plan trail) (some : 0 < length plan) where
  all-states : List World
  all-states = states_of p plan

  counted : length (states_of p plan) ≡ suc (length plan)
  counted = states-count p plan (states_of p plan) is.0

  pub once-length : length (front_states p plan) ≡ length plan
  once-length = omega (arith, counted, length-take (length (states_of p plan) - 1) (states_of p plan))

  -- the states of the plan without its last action
  pub once-is : states_of p (take (length plan - 1) plan) ≡ front_states p plan
  unfolding states_of
  once-is =
      ap (λ (o : Option (List World)). unwrap_or o []) (states-front p plan (length plan - 1) (states_of p plan) is.0)
      ∙ ap (λ (k : ℕ). take k (states_of p plan)) (let e : suc (length plan - 1) ≡ length (states_of p plan) - 1 = omega (arith, counted) in
      e)

  pub round-along : {along : Along} → states_along along ≡ states_of p (take (length plan - 1) plan) → along.count ≡ length plan →
      along.again < length plan → length plan < 2 ^ 32 → along.kept.now ≡ take (length plan) trail.kept.items
      → ((ws : List World) → Each (IsTracked ws) trail.tracks.items → Each (IsFactHistory ws) along.histories.now) → IsAlong along
  round-along {along} same count again short kept histories =
      let once = same ∙ once-is in
      record {
        few = omega (arith, ap length once, once-length, short);
        count = omega (arith, ap length once, once-length, count);
        again = omega (arith, again, count);
        kept = λ h. kept ∙ (ap (take (length plan)) is.1.kept ∙ (ap (λ (k : ℕ). take k (states_of p plan))
            (let e : length plan ≡ length (states_of p plan) - 1 = omega (arith, counted) in e) ∙ sym once));
        histories = subst (λ (ws : List World). Each (IsFactHistory ws) along.histories.now) (sym once)
            (histories-front (length (states_of p plan) - 1) (states_of p plan) along.histories.now
            (histories (states_of p plan) is.1.tracks));
      }

  -- they are kept
  pub kept-length : (ws : List World) → ws ≡ trail.kept.items → length (take (length plan) ws) ≡ length plan
  kept-length ws q = omega (arith, length-take (length plan) ws, ap length q, ap length is.1.kept, counted)

  -- what is answered
  module _ (n : ℕ) (again : n < length plan) (ws : List World) (same : ws ≡ states_of p (take (length plan - 1) plan)) where
    pub round-answer : (r : Result Bool CheckFault) → Obeys (course_from p n ws) ws r → ObeysOn p n (front_states p plan) r
    round-answer r h = obeys-round p n (front_states p plan) (omega (arith, once-length, again)) r
        (subst (λ (us : List World). Obeys (course_from p n us) us r) (same ∙ once-is) h)

-- How a search begins and ends.
use Rattle.std.proofs.Common.{◌≡◌, ◌≢◌, ◌≤◌, ◌<◌, ◌+◌, ℕ, zero, suc, List, [], ◌∷◌, ◌++◌, length, Bool, true, false, cond, Option, Some}
use Rattle.std.proofs.Common.{None, refl, sym, ap, ◌∙◌, subst, inl, arith}
use Rattle.std.specs.List.{slice_get}
use Rattle.tl_syntax.specs.declared.action.Action.{Action}
use Rattle.tl_syntax.specs.Trees.{falsum}
use Rattle.tl_terms.specs.Pairs.{Pair, pair_of, IsOpen, IsPairAccepted}
use Rattle.tl_terms.specs.Problem.{PlainProblem}
use Rattle.tl_terms.specs.Simplification.{is_falsum}
use Rattle.tl_terms.proofs.PlanLaws.{accepted-exactly}
use Rattle.tl_depth.specs.Levels.{IsRunning}
use Rattle.tl_depth.specs.PairGraph.{first_pair, graph_of}
use Rattle.tl_depth.specs.Tables.{IsUncut}
use Rattle.tl_search.proofs.PathLaws.{pair-first}
use Rattle.tl_search.specs.PairGraph.{unless_pruned}
use Rattle.tl_terms.proofs.SamePairs.{pair_discrete}
use Rattle.tl_search.specs.RangeCauses.{IsRangeCause, HasNoSimplePlanBefore}
use Rattle.tl_search.proofs.RangeLaws.{range-at-root, range-by-idling, range-by-action}
use Rattle.tl_eval.specs.declared.range.RangeNote.{RangeNote}
use Rattle.tl_eval.specs.Notes.{Tells, operation_of}
use Rattle.tl_terms.specs.Looked.{looked_by_progressing, looked_by_idling}
use Rattle.tl_terms.proofs.PathLaws.{open-by-residual}
use Rattle.tl_search.specs.Plans.{IsFirstSimplePlan, IsNear}
use Rattle.tl_search.specs.Spent.{AreNear}
use Rattle.tl_depth.specs.Answers.{IsActionSum, IsExhausted, IsToldAlong}
use Rattle.tl_depth.proofs.WalkLaws.{simple-empty}
use Rattle.tl_depth.proofs.OrderFacts.{none-before}
use Rattle.tl_depth.proofs.Running as run
use Rattle.tl_depth.proofs.PairAnswers.{differ-places, kept-near, nothing-left, calls-few}
use Rattle.tl_depth.proofs.PairWalks.{by_falsum, none-open, none-accepted, leading-walks, pairs-lawful, pairs-actions}
use Rattle.tl_search.specs.Events.{events_after}
use Rattle.tl_search.specs.declared.event.Event.TheVariants as event
use Rattle.tl_depth.specs.Entering.{AreInDepth}
use Rattle.tl_depth.specs.Following.{IsFollowed}
use Rattle.tl_depth.specs.Outcomes.{Reported, AreFewCalls, IsDepthFirstOutcome, IsDepthFirstFault, IsToldOutcome, AllAreReported}
use Rattle.tl_depth.specs.Outcomes.{TellsInDepth}
use Rattle.tl_depth.specs.Ongoing.{IsOngoing, IsEntered, IsEntryFault, HasDoneNothing, HasRootAlone, BeginsSearch, TurnedTo, to_do}
use Rattle.tl_search.specs.declared.event.Event.{Event}
use Rattle.tl_depth.specs.Search.{Reports}
use Rattle.tl_search.specs.declared.outcome.Outcome.{Outcome}
use Rattle.tl_search.specs.declared.fault.SearchFault.{SearchFault}
use Rattle.tl_search.specs.declared.fault.SearchFault.TheVariants as fault
use Rattle.tl_search.specs.declared.fault.SpaceFault.{SpaceFault}
use Rattle.tl_search.specs.declared.fault.SpaceFault.TheVariants as space
use Rattle.tl_search.specs.Causes.{IsCausedByAcceptance, IsRootFault}
use Rattle.tl_search.specs.Faults.{TellsPair}
use Rattle.tl_depth.specs.declared.stack.DepthFirst.{DepthFirst}
use Rattle.tl_search.specs.declared.outcome.Outcome.TheVariants as outcome
use Rattle.tl_depth.proofs.Following.{follow-ended, follow-root-last, follow-root-entered, pruned-in-depth}
use Rattle.tl_depth.proofs.GoingOn.{ongoing, uncut-pushed}

-- ---- the end

module _ (p : PlainProblem) (b : ℕ) (kept : List Pair) (w : DepthFirst) (calls : ℕ) (s : IsOngoing p b kept w calls) where
  pub few-made : AreFewCalls p w.within kept calls
  few-made = calls-few p w.within s.unpruned (Reported w.watch kept w.events) kept w.most.items w.stack.items calls s.running

  near-kept : AreNear p w.within kept
  near-kept = kept-near p w.within s.unpruned (Reported w.watch kept w.events) kept w.most.items w.stack.items calls s.running

  pub exhausted : w.stack.items ≡ [] → IsExhausted p w.within (Reported w.watch kept w.events) kept w.most.items
  exhausted e = nothing-left p w.within s.unpruned (Reported w.watch kept w.events) kept w.most.items calls
      (subst (λ us. IsRunning pair_discrete (graph_of p) w.within (Reported w.watch kept w.events) kept w.most.items us calls) e s.running)

  pub ends-told : w.stack.items ≡ [] → AllAreReported p w.within w.watch kept w.events × TellsInDepth p w.within w.watch kept false w.events
  ends-told e = (
    (exhausted e).told,
    λ h. follow-ended p w.within kept w.most.items w.events
        (subst (λ us. IsFollowed p w.within kept w.most.items us w.events) e (s.followed h)),
  )

  pub ends-cut : w.stack.items ≡ [] → ((k : ℕ) × (slice_get w.most.items k ≡ Some 0)) →
      IsDepthFirstOutcome p w.within b kept outcome.NoneWithin
  ends-cut e k = let x = exhausted e in (x.none, x.cut.0 k, s.few, near-kept)

  pub ends-uncut : w.stack.items ≡ [] → IsUncut w.most.items → IsDepthFirstOutcome p w.within b kept outcome.NoPlan
  ends-uncut e h = let x = (exhausted e).uncut h in (x.0, x.1, s.few, near-kept)

-- ---- the beginning

pub pruned-false : (p : PlainProblem) → unless_pruned (Some (first_pair p)) ≡ None → (first_pair p).formula ≡ falsum
pruned-false p e = (elim (is_falsum (first_pair p).formula) as (λ c. is_falsum (first_pair p).formula ≡ c →
    cond c None (Some (first_pair p)) ≡ None → (first_pair p).formula ≡ falsum) [
      | true ↦ λ q r. by_falsum (first_pair p).formula q
      | false ↦ λ q r. let z : Some (first_pair p) ≡ None = r in cc
    ]) refl e

pub unpruned-first : (p : PlainProblem) (x : Pair) → unless_pruned (Some (first_pair p)) ≡ Some x → ((first_pair p).formula ≢ falsum) ×
    (first_pair p ≡ x)
unpruned-first p x e = (elim (is_falsum (first_pair p).formula) as (λ c. is_falsum (first_pair p).formula ≡ c →
    cond c None (Some (first_pair p)) ≡ Some x → ((first_pair p).formula ≢ falsum) × (first_pair p ≡ x)) [
      | true ↦ λ q r. let z : None ≡ Some x = r in cc
      | false ↦ λ q r. (
        λ f. absurd (let m : is_falsum (first_pair p).formula ≡ true = ap is_falsum f in cc),
        let z : Some (first_pair p) ≡
            Some x = r in cc,
      )
    ]) refl e

pub none-calls : (p : PlainProblem) (n : ℕ) (kept : List Pair) → AreFewCalls p n kept 0
unfolding IsActionSum
none-calls p n [] = (0, refl, omega arith)
none-calls p n (x ∷ kept) = let t = none-calls p n kept in (t.0, inl t.1, omega arith)

none-near : (p : PlainProblem) (n : ℕ) → AreNear p n []
none-near p n = record { differ = λ i j x e f. absurd (let z : ⊥ = cc in z); near = λ i x e. absurd (let z : ⊥ = cc in z) }

one-near : (p : PlainProblem) (n : ℕ) (x : Pair) → IsNear p n x → AreNear p n (x ∷ [])
one-near p n x h = record { differ = λ i j y e f. differ-places (x ∷ []) (tt, tt) i j y e f; near = at }
  where
    at : (i : ℕ) (y : Pair) → slice_get (x ∷ []) i ≡ Some y → IsNear p n y
    at zero y e = let same : x ≡ y = cc in subst (IsNear p n) same h
    at (suc i) y e = absurd (let z : ⊥ = cc in z)

pub begins-pruned : (watch : Bool) (events : List Event) (p : PlainProblem) (n b : ℕ) (kept : List Pair) → kept ≡ [] →
    unless_pruned (Some (first_pair p)) ≡ None → events ≡ events_after watch [] event.RootPruned →
    IsDepthFirstOutcome p n b kept outcome.NoPlan × AreFewCalls p n kept 0 ×
    (AllAreReported p n watch kept events × TellsInDepth p n watch kept false events)
begins-pruned watch events p n b kept e u told =
    let f = pruned-false p u in (
      (
        none-accepted p f,
        λ x m d. absurd (none-open p f d.path d.open_path),
        omega (arith, ap length e),
        subst (AreNear p n) (sym e) (none-near p n),
      ),
      none-calls p n kept,
      (
        λ x d h. absurd (none-open p f h.path h.open_path),
        λ w. subst (AreInDepth p n kept false)
            (sym (told ∙ ap (λ c. events_after c [] event.RootPruned) w)) (pruned-in-depth p n kept),
      ),
    )

none-before-empty : (p : PlainProblem) (n : ℕ) → HasNoSimplePlanBefore p n []
none-before-empty p n other l t v = none-before other

-- past range in the first world
fault-root : (p : PlainProblem) (n : ℕ) (path : List Action) → path ≡ [] → (note : RangeNote) →
    Tells (looked_by_progressing p p.first p.control) note → IsDepthFirstFault p n (fault.Range path note)
fault-root p n path e note t = subst (λ us. IsRangeCause p n us (operation_of note) × HasNoSimplePlanBefore p n us) (sym e)
    (range-at-root p n (operation_of note) t.1 t.0, none-before-empty p n)

first-leads : (p : PlainProblem) (x : Pair) → unless_pruned (Some (first_pair p)) ≡ Some x → IsOpen p [] × (pair_of p [] ≡ Some x)
first-leads p x u =
    let h = unpruned-first p x u in
    ((open-by-residual p []).1 (first_pair p, pair-first p, h.0), pair-first p ∙ ap Some h.1)

-- past range in the idling check of the first pair
fault-first-idling : (p q : PlainProblem) (n : ℕ) (x : Pair) → unless_pruned (Some (first_pair p)) ≡ Some x → q ≡ p → (path : List Action) →
    path ≡ [] → (note : RangeNote) → Tells (looked_by_idling q x.world x.formula) note → IsDepthFirstFault p n (fault.Range path note)
fault-first-idling p q n x u same path e note h =
    let t = subst (λ z. Tells (looked_by_idling z x.world x.formula) note) same h in
    let l = first-leads p x u in
    subst (λ us. IsRangeCause p n us (operation_of note) × HasNoSimplePlanBefore p n us) (sym e)
    (range-by-idling p n (operation_of note) t.1 [] x l.1 l.0 (omega arith) t.0, none-before-empty p n)

-- the search's fault at the root has its cause where the space's fault has
pub root-fault : (p : PlainProblem) (n : ℕ) (s : SpaceFault) (f : SearchFault) → TellsPair [] s f → IsRootFault p s →
    IsDepthFirstFault p n f
root-fault p n s fault.NoMemory t h = tt
root-fault p n (space.RangeHere note) (fault.Range path o) t h = subst (λ (m : RangeNote). IsDepthFirstFault p n (fault.Range path m))
    (sym t.1) (fault-root p n path t.0 note h)
root-fault p n (space.RangeAfter note) (fault.Range path o) t h = absurd h
root-fault p n space.NoMemory (fault.Range path o) t h = absurd t

-- so it has where the first pair's acceptance is asked
pub root-judged-fault : (p q : PlainProblem) (n : ℕ) (x : Pair) → unless_pruned (Some (first_pair p)) ≡ Some x → q ≡ p →
    (s : SpaceFault) (f : SearchFault) → TellsPair [] s f → IsCausedByAcceptance q x s → IsDepthFirstFault p n f
root-judged-fault p q n x u same s fault.NoMemory t h = tt
root-judged-fault p q n x u same (space.RangeHere note) (fault.Range path o) t h =
    subst (λ (m : RangeNote). IsDepthFirstFault p n (fault.Range path m)) (sym t.1) (fault-first-idling p q n x u same path t.0 note h)
root-judged-fault p q n x u same (space.RangeAfter note) (fault.Range path o) t h = absurd h
root-judged-fault p q n x u same space.NoMemory (fault.Range path o) t h = absurd t

-- past range in an action of the first pair
pub fault-first : (p : PlainProblem) (n : ℕ) (kept : List Pair) (x : Pair) → unless_pruned (Some (first_pair p)) ≡ Some x → kept ≡ [] ++
    x ∷ [] → 0 < n → {at : List Action} → at ≡ [] → (f : SearchFault) → IsEntryFault p kept 0 at f → IsDepthFirstFault p n f
fault-first p n kept x u is l e (fault.Range path note) h =
    let t = h.1 x (ap (λ k. slice_get k 0) is) in
    let o = first-leads p x u in
    subst (λ us. IsRangeCause p n us (operation_of note) × HasNoSimplePlanBefore p n us) (sym (h.0 ∙ e))
    (range-by-action p n (operation_of note) t.1.1 [] x o.1 o.0 l t.0 t.1.0, none-before-empty p n)
fault-first p n kept x u is l e fault.NoMemory h = tt

module _ (p : PlainProblem) (b : ℕ) (kept : List Pair) (x : Pair) (some : 1 ≤ b) (first : unless_pruned (Some (first_pair p)) ≡ Some x)
    (is : kept ≡ [] ++ x ∷ []) where
  only : kept ≡ first_pair p ∷ []
  only = is ∙ ap (λ y. y ∷ []) (sym (unpruned-first p x first).1)

  pub begins-plan : (n : ℕ) → IsPairAccepted p x → (path : List Action) → path ≡ [] → (reported : Reports Pair) →
      IsDepthFirstOutcome p n b kept (outcome.Plan path) × AreFewCalls p n kept 0 × IsToldAlong p reported path
  begins-plan n a path e reported =
      let u = unpruned-first p x first in (
        (
          subst (IsFirstSimplePlan p n) (sym e) (record {
            accepted = (accepted-exactly p []).1 (x, pair-first p ∙ ap Some u.1, a);
            leading = leading-walks p u.0 n [] (record {
              short = omega arith;
              simple = simple-empty (graph_of p);
              first = λ other w.
                  none-before other;
            });
          }),
          (0, x, ap length is, ap (λ k. slice_get k 0) is, ap (pair_of p) e ∙ (pair-first p ∙ ap Some u.1)),
          omega (arith, ap length is),
          subst (AreNear p n) (sym is) (let l = first-leads p x first in
              one-near p n x (record { path = []; open_path = l.0; its_pair = l.1; short = omega arith })),
        ),
        none-calls p n kept,
        record { told = λ front rest c y h. absurd (nothing front c rest (h ∙ e)) },
      )
    where
      nothing : (us : List Action) (c : Action) (vs : List Action) → us ++ c ∷ vs ≡ [] → ⊥
      nothing [] c vs q = cc
      nothing (u ∷ us) c vs q = cc

  refused-first : (IsPairAccepted p x → ⊥) → IsPairAccepted p (first_pair p) → ⊥
  refused-first r a = r (subst (IsPairAccepted p) (unpruned-first p x first).1 a)

  pub begun-last : (w after : DepthFirst) → HasDoneNothing w → (IsPairAccepted p x → ⊥) → w.within ≡ 0 → after.within ≡ w.within →
      after.watch ≡ w.watch → after.events ≡ w.events → after.reenters ≡ true → after.stack.items ≡ w.stack.items → after.most.items ≡
      w.most.items ++ w.within ∷ [] → w.events ≡ events_after w.watch [] event.RootKept
      → BeginsSearch p b kept w after None
  unfolding graph_of
  begun-last w after new refused z wn ww we wr ws wm told = (
    ongoing p b w.within w.watch kept w.events (w.within ∷ []) [] 0 after (unpruned-first p x first).0
        (subst (λ k. IsRunning pair_discrete (graph_of p) w.within (Reported w.watch kept w.events) k (w.within ∷ []) [] 0) (sym only)
        (run.begins-last pair_discrete (graph_of p) w.within (pairs-lawful p) (Reported w.watch kept w.events) z
        (refused-first refused)))
        (omega (arith, ap length is)) tt (λ f. absurd (let u : false ≡ true = sym f ∙ wr in cc)) (λ h. wr)
        (λ h. subst (IsFollowed p w.within kept (w.within ∷ []) []) (sym (told ∙ ap (λ c. events_after c [] event.RootKept) h))
        (follow-root-last p w.within kept z)) wn ww we (wm ∙ ap (λ us. us ++ w.within ∷ []) new.most) (ws ∙ new.stack),
    wn,
    ww,
  )

  pub begun-entered : (w after : DepthFirst) → HasDoneNothing w → (IsPairAccepted p x → ⊥) → 0 < w.within → after.within ≡ w.within →
      after.watch ≡ w.watch → after.events ≡ w.events → after.reenters ≡ w.reenters →
      IsEntered p kept 0 w.within w.stack.items after.stack.items → after.most.items ≡ w.most.items ++ w.within ∷ [] → w.events ≡
      events_after w.watch [] event.RootKept
      → BeginsSearch p b kept w after None
  unfolding graph_of
  begun-entered w after new refused z wn ww we wr t wm told = (
    ongoing p b w.within w.watch kept w.events (w.within ∷ []) (t.level ∷ []) 0 after (unpruned-first p x first).0
        (subst (λ k. IsRunning pair_discrete (graph_of p) w.within (Reported w.watch kept w.events) k (w.within ∷ []) (t.level ∷ []) 0)
        (sym only)
        (run.begins pair_discrete (graph_of p) w.within (pairs-lawful p) (Reported w.watch kept w.events) t.level z
        (refused-first refused) t.its_pair t.its_left t.its_tried (pairs-actions p (first_pair p) t.level.actions
        (t.its_actions (first_pair p) (ap (λ k. slice_get k 0) only)))))
        (omega (arith, ap length is)) (t.sized, tt) (λ f. uncut-pushed [] w.within z (λ k e. absurd (let u : ⊥ = cc in u)))
        (λ h. wr ∙ new.enters h)
        (λ h. subst (IsFollowed p w.within kept (w.within ∷ []) (t.level ∷ [])) (sym (told ∙ ap (λ c. events_after c [] event.RootKept) h))
        (follow-root-entered p w.within kept t.level x z (ap (λ k. slice_get k 0) is)
        (t.its_actions x (ap (λ k. slice_get k 0) is)) t.its_pair t.its_left t.its_tried)) wn ww we
        (wm ∙ ap (λ us. us ++ w.within ∷ []) new.most) (t.is ∙ ap (λ us. us ++ t.level ∷ []) new.stack),
    wn,
    ww,
  )

pub as-begun : (p q : PlainProblem) (b : ℕ) (kept more : List Pair) (w after : DepthFirst) (o : Option Outcome) → p ≡ q → kept ≡ more →
    BeginsSearch p b kept w after o → BeginsSearch q b more w after o
as-begun p q b kept more w after o e f t = subst (λ z. BeginsSearch q b z w after o) f (subst (λ z. BeginsSearch z b kept w after o) e t)

-- the first pair is accepted, by the problem and the pairs as later calls leave them
pub first-plan : (p q : PlainProblem) (b n : ℕ) (kept more : List Pair) (x : Pair) → 1 ≤ b → unless_pruned (Some (first_pair p)) ≡ Some x →
    kept ≡ [] ++ x ∷ [] → q ≡ p → more ≡ kept → IsPairAccepted q x → (path : List Action) → path ≡ []
    → (reported : Reports Pair) → IsDepthFirstOutcome p n b more (outcome.Plan path) × AreFewCalls p n more 0 × IsToldAlong p reported path
first-plan p q b n kept more x l u k e f a path h reported = begins-plan p b more x l u (f ∙ k) n
    (subst (λ r. IsPairAccepted r x) e a) path h reported

pub first-kept : (p q r : PlainProblem) (b : ℕ) (kept more : List Pair) (w : DepthFirst) (x : Pair) → 1 ≤ b →
    unless_pruned (Some (first_pair p)) ≡ Some x → kept ≡ [] ++ x ∷ [] → q ≡ p → r ≡ q → more ≡ kept → (IsPairAccepted q x → ⊥) →
    HasDoneNothing w → w.events ≡ events_after w.watch [] event.RootKept → HasRootAlone r b more w
first-kept p q r b kept more w x l u k e h f a n told = (
  x,
  ap (λ z. unless_pruned (Some (first_pair z))) (h ∙ e) ∙ u,
  f ∙ k,
  l,
  (λ t. a (subst (λ z. IsPairAccepted z x) h t)),
  n,
  told,
)

-- ---- between

pub turned-some : (p : PlainProblem) (b : ℕ) (kept : List Pair) (old new : DepthFirst) (calls before after : ℕ) (o : Option Outcome)
    (x : Outcome) → TurnedTo p b kept old new calls before after o → o ≡ Some x
    → (made : ℕ) × (made + before ≡ calls + after) × IsDepthFirstOutcome p old.within b kept x × AreFewCalls p old.within kept made ×
    IsToldOutcome p old.within old.watch kept new.events x
turned-some p b kept old new calls before after o x t e = let u = subst (λ y. TurnedTo p b kept old new calls before after y) e t in
    (u.0, u.1, u.2.0, u.2.1, u.2.2)

pub turned-none : (p : PlainProblem) (b : ℕ) (kept : List Pair) (old new : DepthFirst) (calls before after : ℕ) (o : Option Outcome) →
    TurnedTo p b kept old new calls before after o → o ≡ None
    → (made : ℕ) × (made + before ≡ calls + after) × IsOngoing p b kept new made × (to_do b new < to_do b old) × (new.within ≡ old.within) ×
    (new.watch ≡ old.watch)
turned-none p b kept old new calls before after o t e = let u = subst (λ y. TurnedTo p b kept old new calls before after y) e t in
    (u.0, u.1, u.2.0, u.2.1, u.2.2, u.2.3)

pub begun-none : (p : PlainProblem) (b : ℕ) (kept : List Pair) (old new : DepthFirst) (o : Option Outcome) →
    BeginsSearch p b kept old new o → o ≡ None → IsOngoing p b kept new 0 × (new.within ≡ old.within) × (new.watch ≡ old.watch)
begun-none p b kept old new o t e = subst (λ y. BeginsSearch p b kept old new y) e t

pub as-outcome : (p q : PlainProblem) (n m b : ℕ) (kept : List Pair) (o : Outcome) → p ≡ q → n ≡ m → IsDepthFirstOutcome p n b kept o →
    IsDepthFirstOutcome q m b kept o
as-outcome p q n m b kept o e f t = subst (λ z. IsDepthFirstOutcome q z b kept o) f (subst (λ z. IsDepthFirstOutcome z n b kept o) e t)

pub as-few : (p q : PlainProblem) (n m : ℕ) (kept : List Pair) (made : ℕ) → p ≡ q → n ≡ m → AreFewCalls p n kept made →
    AreFewCalls q m kept made
as-few p q n m kept made e f t = subst (λ z. AreFewCalls q z kept made) f (subst (λ z. AreFewCalls z n kept made) e t)

pub as-ongoing : (p q : PlainProblem) (b : ℕ) (kept : List Pair) (w : DepthFirst) (calls : ℕ) → p ≡ q → IsOngoing p b kept w calls →
    IsOngoing q b kept w calls
as-ongoing p q b kept w calls e t = subst (λ z. IsOngoing z b kept w calls) e t

pub as-told : (p q : PlainProblem) (n m : ℕ) (watch seen : Bool) (kept : List Pair) (events : List Event) (o : Outcome) → p ≡ q → n ≡ m →
    watch ≡ seen → IsToldOutcome p n watch kept events o → IsToldOutcome q m seen kept events o
as-told p q n m watch seen kept events o e f h t = subst (λ z. IsToldOutcome q m z kept events o) h
    (subst (λ z. IsToldOutcome q z watch kept events o) f (subst (λ z. IsToldOutcome z n watch kept events o) e t))

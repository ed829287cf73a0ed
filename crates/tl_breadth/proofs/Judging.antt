-- What a search answers at the pair that was kept last.
use Rattle.std.proofs.Common.{◌≡◌, ◌≢◌, ◌≤◌, ◌+◌, ℕ, List, length, slice_get, Some, sym, subst, arith, inl, inr, eq-or-lt_of_le}
use Rattle.tl_syntax.specs.declared.action.Action.{Action}
use Rattle.tl_terms.specs.Looked.{looked_by_idling}
use Rattle.tl_terms.specs.Pairs.{IsPairAccepted}
use Rattle.tl_terms.specs.Problem.{PlainProblem}
use Rattle.tl_eval.specs.Notes.{Tells, operation_of}
use Rattle.tl_eval.specs.declared.range.RangeNote.{RangeNote}
use Rattle.tl_search.specs.Plans.{HasNoPlanBelow, IsFirstShortestPlan}
use Rattle.tl_search.specs.Spent.{IsSpent, IsSpentBreadthFirst}
use Rattle.tl_search.specs.RangeCauses.{IsRangeCause}
use Rattle.tl_search.specs.KeptPairs.{KeptPair, pairs_of}
use Rattle.tl_search.proofs.ListLaws.{get-inside}
use Rattle.tl_search.proofs.RangeLaws.{range-by-idling}
use Rattle.tl_search.proofs.FaultLaws.{acceptance-of-pair}
use Rattle.tl_breadth.proofs.BreadthAnswers.{kept-distance, kept-open, kept-pair-of, last-no-shorter, last-is-plan, last-is-spent}
use Rattle.tl_breadth.proofs.BreadthAnswers.{last-is-spent-breadth-first}
use Rattle.tl_breadth.specs.BreadthFirst.{NoneAccepted}
use Rattle.tl_breadth.specs.Events.{IsLastPath}
use Rattle.tl_search.specs.Causes.{IsCausedByAcceptance}
use Rattle.tl_search.specs.Faults.{TellsPair, IsOfPair}
use Rattle.tl_search.specs.declared.fault.SearchFault.{SearchFault}
use Rattle.tl_search.specs.declared.fault.SearchFault.TheVariants as fault
use Rattle.tl_search.specs.declared.fault.SpaceFault.{SpaceFault}
use Rattle.tl_search.specs.declared.fault.SpaceFault.TheVariants as space
use Rattle.tl_breadth.specs.Outcomes.{AwaitsJudgement, PathsAreShortest, IsBreadthFirstFault}

module _ (p : PlainProblem) (n b : ℕ) (kept : List KeptPair) (k : ℕ) (w : AwaitsJudgement p n b kept k) where
  the_last : (x : KeptPair) × (slice_get kept k ≡ Some x)
  the_last = get-inside kept k (omega (arith, w.last))

  shortest : PathsAreShortest p kept
  shortest = kept-distance p n kept w.done w.tried w.breadth

  pub judged-spent : k ≡ b → IsSpent p n b (pairs_of kept) × IsSpentBreadthFirst p b (pairs_of kept) × PathsAreShortest p kept
  judged-spent e = subst (λ m. IsSpent p n m (pairs_of kept) × IsSpentBreadthFirst p m (pairs_of kept) × PathsAreShortest p kept) e (
    last-is-spent p n kept w.done w.tried w.breadth k the_last.0 the_last.1 w.last w.none,
    last-is-spent-breadth-first p n kept w.done w.tried w.breadth k the_last.0 the_last.1 w.last w.none,
    shortest,
  )

  pub judged-none : k ≢ b → ((x : KeptPair) → slice_get kept k ≡ Some x → IsPairAccepted p x.node → ⊥) → NoneAccepted p kept (k + 1) ×
      (k + 1 ≤ b)
  judged-none d h = (
    λ i x e less a. elim (let q : i ≤ k = omega arith in eq-or-lt_of_le q) [
      | inl same ↦ h x
          (subst (λ j. slice_get kept j ≡ Some x) same e) a
      | inr before ↦ w.none i x e before a
    ],
    omega (arith, w.few, d),
  )

  module _ (path : List Action) (at : (x : KeptPair) → slice_get kept k ≡ Some x → path ≡ x.path) where
    pub judged-plan : k ≢ b → ((x : KeptPair) → slice_get kept k ≡ Some x → IsPairAccepted p x.node) → IsFirstShortestPlan p n path ×
        (length kept ≤ b) × PathsAreShortest p kept
    judged-plan d h = (
      subst (IsFirstShortestPlan p n) (sym (at the_last.0 the_last.1))
          (last-is-plan p n kept w.done w.tried w.breadth k the_last.0 the_last.1 w.last w.none (h the_last.0 the_last.1)),
      omega (arith, w.last, w.few, d),
      shortest,
    )

    pub judged-last : IsLastPath kept path
    judged-last = record { number = k; pair = the_last.0; is_pair = the_last.1; is_last = w.last; is_path = at the_last.0 the_last.1 }

    pub judged-range : (note : RangeNote) → ((x : KeptPair) → slice_get kept k ≡ Some x →
        Tells (looked_by_idling p x.node.world x.node.formula) note) → IsRangeCause p n path (operation_of note) ×
        HasNoPlanBelow p (length path)
    judged-range note h =
        let x : KeptPair = the_last.0 in
        let e : slice_get kept k ≡ Some x = the_last.1 in
        let t = h x e in
        subst (λ us. IsRangeCause p n us (operation_of note) × HasNoPlanBelow p (length us)) (sym (at x e)) (
          range-by-idling p n (operation_of note) t.1 x.path x.node (kept-pair-of p n kept w.done w.tried w.breadth k x e)
              (kept-open p n kept w.done w.tried w.breadth k x e) (w.breadth.near k x e) t.0,
          last-no-shorter p n kept w.done w.tried w.breadth k x e w.last w.none,
        )

  -- the search's fault has its cause where the space's fault has
  pub judged-fault : (s : SpaceFault) (f : SearchFault) → ((x : KeptPair) → slice_get kept k ≡ Some x → TellsPair x.path s f)
      → ((x : KeptPair) → slice_get kept k ≡ Some x → IsCausedByAcceptance p x.node s) → IsBreadthFirstFault p n f
  judged-fault s fault.NoMemory is h = tt
  judged-fault (space.RangeHere note) (fault.Range path o) is h =
      subst (λ (m : RangeNote). IsBreadthFirstFault p n (fault.Range path m)) (sym (is the_last.0 the_last.1).1)
      (judged-range path (λ x e. (is x e).0) note h)
  judged-fault (space.RangeAfter note) (fault.Range path o) is h = absurd (is the_last.0 the_last.1)
  judged-fault space.NoMemory (fault.Range path o) is h = absurd (is the_last.0 the_last.1)

  -- the fault is one at the pair
  pub judged-of-pair : (s : SpaceFault) → ((x : KeptPair) → slice_get kept k ≡ Some x → IsCausedByAcceptance p x.node s) → IsOfPair s
  judged-of-pair s h = acceptance-of-pair p the_last.0.node s (h the_last.0 the_last.1)

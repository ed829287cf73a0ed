-- The search nodes of all prefixes of the plan of a depth-first search are kept.
use Rattle.std.proofs.Common.{◌≡◌, ◌≢◌, inl, inr, ℕ, zero, suc, List, [], ◌∷◌, ◌++◌, length, true, Some, None, Greater, refl, sym, ap, ◌∙◌}
use Rattle.std.proofs.Common.{subst, append_assoc}
use Rattle.std.specs.Option.{option_and_then, option_map}
use Rattle.std.specs.Ordering.{ordering_reverse}
use Rattle.std.specs.Prelude.{Option, Result, Ok, Err, IfOk, OnOk, IsSome, slice_get}
use Rattle.std.proofs.lemmas.List.{append-nil, length-map}
use Rattle.tl_depth.specs.Answers.{IsToldAlong}
use Rattle.tl_depth.specs.Outcomes.{HasLastPair, IsDepthFirstOutcome, IsToldOutcome, Reported}
use Rattle.tl_search.specs.KeptPairs.{KeptPair, pairs_of}
use Rattle.tl_search.specs.LawsPaths.{PairGoesOn, PrefixesAreOpen}
use Rattle.tl_search.specs.PairGraph.{next_pair, pair_in}
use Rattle.tl_search.specs.Plans.{IsFirstSimplePlan}
use Rattle.tl_search.specs.Spent.{AreNear}
use Rattle.tl_search.specs.declared.event.Event.{Event}
use Rattle.tl_search.specs.declared.fault.SearchFault.{SearchFault}
use Rattle.tl_search.specs.declared.outcome.Outcome.{Outcome}
use Rattle.tl_search.specs.declared.outcome.Outcome.TheVariants as outcome
use Rattle.tl_search.specs.declared.outcome.Report.{Report}
use Rattle.tl_syntax.specs.Lists.{Among}
use Rattle.tl_syntax.specs.declared.action.Action.{Action}
use Rattle.tl_terms.specs.Acceptance.{IsAccepted}
use Rattle.tl_terms.specs.LawsOrders.{ActionOrderIsTotal}
use Rattle.tl_terms.specs.Orders.{action_cmp}
use Rattle.tl_terms.specs.Pairs.{Pair, pair_of}
use Rattle.tl_terms.specs.Problem.{PlainProblem}
use Rattle.tl_terms.specs.Step.{step}
use Rattle.tl_run.specs.declared.search.Mode.TheVariants.{Depth}
use Rattle.tl_run.specs.Plan.{IsOutcomeIn}
use Rattle.tl_run.specs.Sample.{HasPrefixes, KeepsNodes}

-- an item at a place is in the list
among_at : {A : Type 0} (xs : List A) (k : ℕ) (x : A) → slice_get xs k ≡ Some x → Among x xs
among_at [] k x e = absurd (let z : ⊥ = cc in z)
among_at (y ∷ xs) zero x e = inl (let same : y ≡ x = cc in same)
among_at (y ∷ xs) (suc k) x e = inr (among_at xs k x e)

-- what is there
there : {A : Type 0} (o : Option A) → IsSome o → (x : A) × (o ≡ Some x)
there None h = absurd (let z : ⊥ = cc in z)
there (Some x) h = (x, refl)

mapped_some : {A B : Type 0} (f : A → B) (o : Option A) → IsSome (option_map f o) → IsSome o
mapped_some f None h = h
mapped_some f (Some x) h = refl

self_not_greater : ActionOrderIsTotal → (a : Action) → action_cmp a a ≢ Greater
self_not_greater law a e =
    let total = law.total in
    let back = sym e ∙ total.antisymm a a ∙ ap ordering_reverse e in
    let z : ⊥ = cc in z

module _ (goes_on : PairGoesOn) (opens : PrefixesAreOpen) (order : ActionOrderIsTotal) (p : PlainProblem) (kept : List Pair)
    (events : List Event) (plan : List Action)
    (accepted : IsAccepted p plan) (last : HasLastPair p kept plan) (told : IsToldAlong p (Reported true kept events) plan) where
  whole_kept : (front : List Action) → front ++ [] ≡ plan → (x : Pair) × (pair_of p front ≡ Some x) × Among x kept
  whole_kept front e =
      let same : front ≡ plan = sym (append-nil front) ∙ e in
      (last.1, ap (pair_of p) same ∙ last.4, among_at kept last.0 last.1 last.3)

  -- the next action of the plan is executable
  next_there : (front later : List Action) (b : Action) (x : Pair) → front ++ b ∷ later ≡ plan → pair_of p front ≡ Some x →
      IsSome (step p x.world b)
  next_there front later b x e pair =
      let grouped : (front ++ b ∷ []) ++ later ≡ plan = append_assoc front (b ∷ []) later ∙ e in
      let opened = opens.of_accepted p (front ++ b ∷ []) later (subst (λ (q : List Action). IsAccepted p q) (sym grouped) accepted) in
      let onward : pair_of p (front ++ b ∷ []) ≡ next_pair p x b = goes_on p front b ∙
      ap (option_and_then (λ (y : Pair). next_pair p y b)) pair in
      mapped_some (pair_in p x.formula) (step p x.world b) (subst (λ (o : Option Pair). IsSome o) onward opened.executes)

  part_kept : (front later : List Action) (b : Action) → front ++ b ∷ later ≡ plan → (x : Pair) × (pair_of p front ≡ Some x) × Among x kept
  part_kept front later b e =
      let opened = opens.of_accepted p front (b ∷ later) (subst (λ (q : List Action). IsAccepted p q) (sym e) accepted) in
      let pair = there (pair_of p front) opened.executes in
      let reported = told.told front later b pair.0 e pair.1 b (next_there front later b pair.0 e pair.1) (self_not_greater order b) refl in
      (pair.0, pair.1, among_at kept reported.0 pair.0 reported.1)

  prefixes_kept : (front rest : List Action) → front ++ rest ≡ plan → (x : Pair) × (pair_of p front ≡ Some x) × Among x kept
  prefixes_kept front [] e = whole_kept front e
  prefixes_kept front (b ∷ later) e = part_kept front later b e

keeps_prefixes : PairGoesOn → PrefixesAreOpen → ActionOrderIsTotal → (p : PlainProblem) (n b : ℕ) (kept : List Pair) (events : List Event)
    (o : Outcome) → IsDepthFirstOutcome p n b kept o → IsToldOutcome p n true kept events o → HasPrefixes p kept o
keeps_prefixes goes_on opens order p n b kept events (outcome.Plan plan) h told =
    let simple : IsFirstSimplePlan p n plan = h.0 in
    prefixes_kept goes_on opens order p kept events plan simple.accepted h.1 told.0
keeps_prefixes goes_on opens order p n b kept events outcome.NoPlan h told = tt
keeps_prefixes goes_on opens order p n b kept events outcome.NoneWithin h told = tt
keeps_prefixes goes_on opens order p n b kept events outcome.Spent h told = tt

-- so it is with a report
pub report_prefixes : PairGoesOn → PrefixesAreOpen → ActionOrderIsTotal →
    (p : PlainProblem) (n b : ℕ) (kept : List Pair) (r : Result Report SearchFault) →
    IfOk r (λ report. IsDepthFirstOutcome p n b kept report.outcome) →
    IfOk r (λ report. IsToldOutcome p n true kept report.events report.outcome) → IfOk r (λ report. HasPrefixes p kept report.outcome)
report_prefixes goes_on opens order p n b kept (Ok report) h told = keeps_prefixes goes_on opens order p n b kept report.events
    report.outcome h told
report_prefixes goes_on opens order p n b kept (Err e) h told = tt

depth_outcome : (p : PlainProblem) (n b : ℕ) (kept : List Pair) (o : Outcome) → IsDepthFirstOutcome p n b kept o → IsOutcomeIn Depth n b p o
depth_outcome p n b kept (outcome.Plan plan) h = h.0
depth_outcome p n b kept outcome.NoPlan h = (h.0, h.1)
depth_outcome p n b kept outcome.NoneWithin h = (h.0, h.1)
depth_outcome p n b kept outcome.Spent h = (kept, h.0, h.1)

-- what a depth-first search answers is right
pub report_outcome : (p : PlainProblem) (n b : ℕ) (kept : List Pair) (r : Result Report SearchFault) →
    IfOk r (λ report. IsDepthFirstOutcome p n b kept report.outcome) → IfOk r (λ report. IsOutcomeIn Depth n b p report.outcome)
report_outcome p n b kept (Ok report) h = depth_outcome p n b kept report.outcome h
report_outcome p n b kept (Err e) h = tt

-- and the search nodes that it keeps are near
depth_near : (p : PlainProblem) (n b : ℕ) (kept : List Pair) (o : Outcome) → IsDepthFirstOutcome p n b kept o → AreNear p n kept
depth_near p n b kept (outcome.Plan plan) h = h.3
depth_near p n b kept outcome.NoPlan h = h.3
depth_near p n b kept outcome.NoneWithin h = h.3
depth_near p n b kept outcome.Spent h = let spent = h.0 in spent.near

pub report_near : (p : PlainProblem) (n b : ℕ) (kept : List Pair) (r : Result Report SearchFault) →
    IfOk r (λ report. IsDepthFirstOutcome p n b kept report.outcome) → OnOk r (AreNear p n kept)
report_near p n b kept (Ok report) h = depth_near p n b kept report.outcome h
report_near p n b kept (Err e) h = tt

-- the kept search nodes, so many
pub keeps_nodes : (p : PlainProblem) (n : ℕ) (kept : List KeptPair) (o : Outcome) (count : ℕ) → count ≡ length kept →
    AreNear p n (pairs_of kept) → HasPrefixes p (pairs_of kept) o → KeepsNodes p n o count
keeps_nodes p n kept o count counted near prefixes = record {
  nodes = pairs_of kept;
  many = length-map kept (λ (y : KeptPair). y.node) ∙ sym counted;
  near = near;
  prefixes = prefixes;
}

-- What a breadth-first search reports that found no plan leaves a proof which covers the search space.
use Rattle.std.proofs.Common.{◌≡◌, inl, inr, ℕ, ◌<◌, ◌≤◌, ◌^◌, List, [], ◌∷◌, ◌++◌, length, slice_get, Option, Some, refl, sym, ap, ◌∙◌}
use Rattle.std.proofs.Common.{subst, arith}
use Rattle.tl_breadth.specs.Events.{Arrived, AreAllArrivals, AreFirstArrivals, arrived_in, arrivals_of}
use Rattle.tl_breadth.specs.Outcomes.{IsBreadthFirstOutcome, PathsAreShortest}
use Rattle.tl_cert.specs.Covers.{Covers}
use Rattle.tl_cert.specs.LawsReadBack.{StartBefore}
use Rattle.tl_cert.specs.ProofTexts.{LinksAreNamed, LinksFit, proof_text}
use Rattle.tl_cert.specs.Reports.{IsNoneReport, IsOf, IsRightNone, bound_of, links_of}
use Rattle.tl_cert.specs.declared.proof.Proof.{Proof}
use Rattle.tl_search.specs.KeptPairs.{KeptPair}
use Rattle.tl_search.specs.declared.event.Event.{Event}
use Rattle.tl_search.specs.declared.event.Event.TheVariants as event
use Rattle.tl_search.specs.declared.outcome.Outcome.{Outcome}
use Rattle.tl_search.specs.declared.outcome.Outcome.TheVariants as outcome
use Rattle.tl_search.specs.declared.outcome.Report.{Report}
use Rattle.tl_syntax.specs.declared.action.Action.{Action}
use Rattle.tl_syntax.specs.declared.domain.Domain.{Domain}
use Rattle.tl_syntax.specs.declared.problem.Problem.{Problem}
use Rattle.tl_syntax.specs.Lists.{Among, AtLeastOne}
use Rattle.tl_terms.specs.Problem.{PlainProblem}
use Rattle.tl_terms.specs.ProblemMeaning.{plain_problem}
use Rattle.tl_text.specs.Traces.{AreWritable}
use Rattle.tl_run.specs.declared.search.Mode.{Mode}
use Rattle.tl_run.specs.declared.search.Mode.TheVariants.{Breadth}
use Rattle.tl_run.specs.declared.search.Search.{Search}
use Rattle.tl_run.specs.declared.status.Status.TheVariants.{Yes}
use Rattle.tl_run.specs.Commands.{prove_none}
use Rattle.tl_run.specs.Inputs.{a_problem}
use Rattle.tl_run.specs.ProveNone.{IsBoundOf}
use Rattle.tl_run.specs.Replies.{Replies}
use Rattle.tl_run.specs.Searched.{FindsNone, IsTraceReport}
use Rattle.tl_run.specs.Searches.{IsWithinLimits}
use Rattle.tl_run.specs.Trace.{IsSearchIn, TellsActionsIn, TellsInTurn}
use Rattle.tl_run.proofs.TraceLaws.{trace_outcome}

-- ---- events and arrivals

later : (e : Event) (es : List Event) (r : Arrived) → Among r (arrivals_of es) → Among r (arrivals_of (e ∷ es))
later event.RootKept es r h = h
later event.RootPruned es r h = h
later (event.Kept j a k) es r h = inr h
later (event.Seen j a k) es r h = inr h
later (event.Pruned j a) es r h = inr h

-- an event that keeps a node is of an arrival
kept_arrives : (events : List Event) (j k : ℕ) (a : Action) → Among (event.Kept j a k) events → Among (j, a) (arrivals_of events)
kept_arrives [] j k a h = absurd h
kept_arrives (e ∷ es) j k a (inl same) = subst (λ (u : Event). Among (j, a) (arrived_in u ++ arrivals_of es)) (sym same) (inl refl)
kept_arrives (e ∷ es) j k a (inr h) = later e es (j, a) (kept_arrives es j k a h)

-- each arrival has an event
arrival_told : (events : List Event) (j : ℕ) (a : Action) → Among (j, a) (arrivals_of events) → AtLeastOne (IsOf j a) events
arrival_told [] j a h = absurd h
arrival_told (event.RootKept ∷ es) j a h = inr (arrival_told es j a h)
arrival_told (event.RootPruned ∷ es) j a h = inr (arrival_told es j a h)
arrival_told (event.Kept i b k ∷ es) j a (inl e) = inl (ap (λ (r : Arrived). r.0) e, ap (λ (r : Arrived). r.1) e)
arrival_told (event.Kept i b k ∷ es) j a (inr h) = inr (arrival_told es j a h)
arrival_told (event.Seen i b k ∷ es) j a (inl e) = inl (ap (λ (r : Arrived). r.0) e, ap (λ (r : Arrived). r.1) e)
arrival_told (event.Seen i b k ∷ es) j a (inr h) = inr (arrival_told es j a h)
arrival_told (event.Pruned i b ∷ es) j a (inl e) = inl (ap (λ (r : Arrived). r.0) e, ap (λ (r : Arrived). r.1) e)
arrival_told (event.Pruned i b ∷ es) j a (inr h) = inr (arrival_told es j a h)

short_too : (kept : List KeptPair) (j n : ℕ) (x y : KeptPair) → slice_get kept j ≡ Some x → slice_get kept j ≡ Some y → length y.path < n →
    length x.path < n
short_too kept j n x y at other short =
    let e : Some x ≡ Some y = sym at ∙ other in
    let q : x ≡ y = cc in
    subst (λ (z : KeptPair). length z.path < n) (sym q) short

-- ---- the report

-- what the outcome says, that paths are shortest, and how many nodes are kept
outcome_says : (p : PlainProblem) (n b : ℕ) (kept : List KeptPair) (o : Outcome) → FindsNone o → IsBreadthFirstOutcome p n b kept o →
    IsRightNone p n o × PathsAreShortest p kept × (length kept ≤ b)
outcome_says p n b kept (outcome.Plan plan) none h = absurd none
outcome_says p n b kept outcome.NoPlan none h = ((h.0, h.1), h.3, h.2)
outcome_says p n b kept outcome.NoneWithin none h = (h.0, h.3, h.2)
outcome_says p n b kept outcome.Spent none h = absurd none

all_told : (p : PlainProblem) (n : ℕ) (kept : List KeptPair) (events : List Event) (o : Outcome) → FindsNone o →
    TellsInTurn p n kept events o → AreFirstArrivals p n kept (arrivals_of events) × AreAllArrivals p n kept (arrivals_of events)
all_told p n kept events (outcome.Plan plan) none h = absurd none
all_told p n kept events outcome.NoPlan none h = h
all_told p n kept events outcome.NoneWithin none h = h
all_told p n kept events outcome.Spent none h = absurd none

module _ (s : Search) (p : PlainProblem) (kept : List KeptPair) (report : Report) (breadth : s.mode ≡ Breadth)
    (right : IsTraceReport s p kept report) (none : FindsNone report.outcome) where
  said : IsRightNone p s.within report.outcome × PathsAreShortest p kept × (length kept ≤ s.nodes)
  said = outcome_says p s.within s.nodes kept report.outcome none (subst
      (λ (m : Mode). IsSearchIn m s.within s.nodes p kept report.outcome) breadth right.ended)

  told : AreFirstArrivals p s.within kept (arrivals_of report.events) × AreAllArrivals p s.within kept (arrivals_of report.events)
  told = let actions = subst (λ (m : Mode). TellsActionsIn m s.within p kept report.events report.outcome) breadth right.actions in
      all_told p s.within kept report.events report.outcome none actions.1

  -- it says that there is no plan, in such a way that a proof can be made of it
  pub none_report : IsNoneReport p s.within kept report
  none_report =
      let first = told.0 in
      record {
        none = said.0;
        told = right.told;
        begins = right.begins;
        near = λ j a k x among at. (
            let arrival = first.right (j, a) (kept_arrives report.events j k a among) in
            short_too kept j s.within x arrival.0 at arrival.1 arrival.2);
        shortest = said.1;
        arrivals = λ j x a at short executes. arrival_told report.events j a (told.1 (j, a) (x, at, short, executes));
      }

  -- it keeps few nodes
  pub few_kept : IsWithinLimits s → length kept < 2 ^ 32
  few_kept limits = omega (arith, said.2, limits.nodes)

  -- and so do links of which there are no more
  pub few_links : IsWithinLimits s → (count : ℕ) → count ≤ length kept → count ≤ 100000
  few_links limits count h = omega (arith, said.2, limits.nodes, h)

-- the actions of its links are those of the problem
pub links_named : (names : List (List ℕ)) (domain : Domain) (n : ℕ) (events : List Event) → AreWritable names domain n events →
    LinksAreNamed names domain.operators (links_of events)
links_named names domain n [] h = tt
links_named names domain n (event.RootKept ∷ es) h = links_named names domain n es h.1
links_named names domain n (event.RootPruned ∷ es) h = links_named names domain n es h.1
links_named names domain n (event.Kept j a k ∷ es) h = let first = h.0 in (first.2, links_named names domain n es h.1)
links_named names domain n (event.Seen j a k ∷ es) h = links_named names domain n es h.1
links_named names domain n (event.Pruned j a ∷ es) h = links_named names domain n es h.1

bound_is : (n : ℕ) (o : Outcome) → FindsNone o → IsBoundOf n o (bound_of n o)
bound_is n (outcome.Plan plan) none = absurd none
bound_is n outcome.NoPlan none = refl
bound_is n outcome.NoneWithin none = refl
bound_is n outcome.Spent none = absurd none

-- the reply with the proof
pub certificate_replied : (s : Search) (d p : List ℕ) (problem : Problem) (kept : List KeptPair) (report : Report) (proof : Proof)
    (text : List ℕ) → IsTraceReport s (plain_problem problem) kept report → FindsNone report.outcome →
    Covers (plain_problem problem) proof → proof.bound ≡ bound_of s.within report.outcome → StartBefore 0 proof.links →
    length proof.links ≤ 100000 → LinksFit proof.links → text ≡ proof_text problem.names problem.domain.operators proof →
    Replies (prove_none s d p) (a_problem problem) (record { status = Yes; text = text })
certificate_replied s d p problem kept report proof text right none covers bound order few fit line = record {
  right = inl (record {
    what = proof;
    right = (
      record {
        ended = report.outcome;
        right = trace_outcome s (plain_problem problem) kept report.events report.outcome right;
        bound = subst (λ (b : Option ℕ). IsBoundOf s.within report.outcome b) (sym bound) (bound_is s.within report.outcome none);
        covers = covers;
        order = order;
        few = few;
      },
      λ asked. fit,
    );
    status_is = refl;
    text_is = line;
  });
}

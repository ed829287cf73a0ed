-- What true events say of kept search nodes, of the branches that they tell to be pruned, and of the last search node.
use Rattle.std.proofs.Common.{◌≡◌, ℕ, List, [], ◌∷◌, ◌++◌, Some, true, refl, sym, ap, ◌∙◌, subst, inl, inr}
use Rattle.std.specs.Prelude.{Bool, false, slice_get, Option, option_and_then, Result, Ok, Err, IfOk}
use Rattle.tl_breadth.specs.Events.{AreFirstArrivals, AreAllArrivals, Arrived, HasReported, IsLastPath, IsReported, arrivals_of}
use Rattle.tl_breadth.specs.Events.{TellsRootOnce}
use Rattle.tl_breadth.specs.Reports.{EndsRightly, IsBreadthFirstReport, ReportsArrivals}
use Rattle.tl_depth.specs.Outcomes.{HasLastPair, IsDepthFirstOutcome}
use Rattle.tl_depth.specs.Reports as depth
use Rattle.tl_search.specs.History.{IsHistory}
use Rattle.tl_search.specs.KeptPairs.{KeptPair, pairs_of}
use Rattle.tl_search.specs.LawsEvents.{KeptPairsHaveEvents}
use Rattle.tl_search.specs.LawsPaths.{PairGoesOn}
use Rattle.tl_search.specs.PairGraph.{next_pair}
use Rattle.tl_search.specs.PrunedRightly.{ArePrunedRightly, IsPrunedRightly}
use Rattle.tl_search.specs.Reports as reports
use Rattle.tl_search.specs.TrueEvents.{AreTrueEvents, IsTrueEvent}
use Rattle.tl_search.specs.declared.event.Event.{Event}
use Rattle.tl_search.specs.declared.event.Event.TheVariants as event
use Rattle.tl_search.specs.declared.fault.SearchFault.{SearchFault}
use Rattle.tl_search.specs.declared.outcome.Outcome.{Outcome}
use Rattle.tl_search.specs.declared.outcome.Outcome.TheVariants as outcome
use Rattle.tl_search.specs.declared.outcome.Report.{Report}
use Rattle.tl_search.proofs.KeptLaws.{kept-pair, length-pairs}
use Rattle.tl_search.proofs.ListLaws.{get-either, get-single}
use Rattle.tl_syntax.specs.Lists.{Among}
use Rattle.tl_syntax.specs.Trees.{falsum}
use Rattle.tl_syntax.specs.declared.action.Action.{Action}
use Rattle.tl_terms.specs.Acceptance.{states_from}
use Rattle.tl_terms.specs.LawsProgression.{FalseResidualBeginsNoRun}
use Rattle.tl_terms.specs.Pairs.{Pair, pair_of, residual}
use Rattle.tl_terms.specs.Problem.{PlainProblem}
use Rattle.tl_terms.specs.World.{World}
use Rattle.tl_run.specs.declared.search.Mode.{Mode}
use Rattle.tl_run.specs.declared.search.Mode.TheVariants.{Breadth, Depth}
use Rattle.tl_run.specs.declared.search.Search.{Search}
use Rattle.tl_run.specs.Searched.{IsTraceReport}
use Rattle.tl_run.specs.Trace.{EndsWithLast, PrunesSoundly, TellsActionsIn, TellsInTurn, IsSearchIn}

-- each kept search node is that of its path
abbrev HaveTheirPairs : PlainProblem → List KeptPair → Type 0
HaveTheirPairs p kept = (i : ℕ) (x : KeptPair) → slice_get kept i ≡ Some x → pair_of p x.path ≡ Some x.node

pair_after_action : PairGoesOn → (p : PlainProblem) (path : List Action) (a : Action) (x y : Pair) → pair_of p path ≡ Some x →
    next_pair p x a ≡ Some y → pair_of p (path ++ a ∷ []) ≡ Some y
pair_after_action law p path a x y e f = law p path a ∙ ap (λ (o : Option Pair). option_and_then (λ (z : Pair). next_pair p z a) o) e ∙ f

kept_after : PairGoesOn → (p : PlainProblem) (old : List KeptPair) (e : Event) (new : List KeptPair) → IsTrueEvent p old e new →
    HaveTheirPairs p old → HaveTheirPairs p new
kept_after law p old event.RootKept new t have i x e =
    let first : KeptPair = record { node = t.0; path = [] } in
    let one = get-single first i x (subst (λ (xs : List KeptPair). slice_get xs i ≡ Some x) t.4 e) in
    subst (λ (z : KeptPair). pair_of p z.path ≡ Some z.node) one.1 t.1
kept_after law p old event.RootPruned new t have i x e = absurd (let none : slice_get [] i ≡ Some x =
    subst (λ (xs : List KeptPair). slice_get xs i ≡ Some x) t.4 e in let z : ⊥ = cc in z)
kept_after law p old (event.Kept j a k) new t have i x e =
    let next : KeptPair = record { node = t.1; path = t.0.path ++ a ∷ [] } in
    elim (get-either old next i x (subst (λ (xs : List KeptPair). slice_get xs i ≡ Some x) t.7 e)) [
      | inl before ↦ have i x before
      | inr last ↦ subst (λ (z : KeptPair). pair_of p z.path ≡ Some z.node) last.1
          (pair_after_action law p t.0.path a t.0.node t.1 (have j t.0 t.2) t.3)
    ]
kept_after law p old (event.Seen j a k) new t have i x e = have i x (subst (λ (xs : List KeptPair). slice_get xs i ≡ Some x) t.5 e)
kept_after law p old (event.Pruned j a) new t have i x e = have i x (subst (λ (xs : List KeptPair). slice_get xs i ≡ Some x) t.5 e)

kept_after_all : PairGoesOn → (p : PlainProblem) (old : List KeptPair) (events : List Event) (new : List KeptPair) →
    AreTrueEvents p old events new → HaveTheirPairs p old → HaveTheirPairs p new
kept_after_all law p old [] new told have = subst (λ (xs : List KeptPair). HaveTheirPairs p xs) told have
kept_after_all law p old (e ∷ events) new told have = kept_after_all law p told.0 events new told.2
    (kept_after law p old e told.0 told.1 have)

none_kept : (p : PlainProblem) → HaveTheirPairs p []
none_kept p i x e = absurd (let z : ⊥ = cc in z)

-- the plan that is the path of the last kept search node has that search node
last_pair : PairGoesOn → (p : PlainProblem) (events : List Event) (kept : List KeptPair) (plan : List Action) →
    AreTrueEvents p [] events kept → IsLastPath kept plan → HasLastPair p (pairs_of kept) plan
last_pair law p events kept plan told last = (
  last.number,
  last.pair.node,
  length-pairs kept ∙ last.is_last,
  kept-pair kept last.number last.pair last.is_pair,
  ap (pair_of p) last.is_path ∙ kept_after_all law p [] events kept told (none_kept p) last.number last.pair last.is_pair,
)

-- where the residual of the empty path is FALSE, that branch is pruned rightly
empty_branch : FalseResidualBeginsNoRun → (p : PlainProblem) (x : Pair) → pair_of p [] ≡ Some x → x.formula ≡ falsum → IsPrunedRightly p []
unfolding states_from
empty_branch law p x e f =
    let first : List World = p.first ∷ [] in
    let same : residual p first p.control ≡ x.formula = (let d : Some (record { world = p.first; formula = residual p first p.control }) ≡
    Some x = e in let q : record { world = p.first; formula = residual p first p.control } ≡ x = cc in ap (λ (z : Pair). z.formula) q)
    in
    let false_residual = same ∙ f in
    record {
      worlds = first;
      executes = refl;
      false_residual = false_residual;
      begins_none = λ r begins holds. law p r first p.control false_residual begins holds;
    }

root_pruned : FalseResidualBeginsNoRun → (p : PlainProblem) (old : List KeptPair) (events : List Event) (new : List KeptPair) →
    AreTrueEvents p old events new → Among event.RootPruned events → IsPrunedRightly p []
root_pruned law p old [] new told among = absurd among
root_pruned law p old (e ∷ events) new told (inl is) =
    let t : IsTrueEvent p old event.RootPruned told.0 = subst (λ (f : Event). IsTrueEvent p old f told.0) is told.1 in
    empty_branch law p t.0 t.1 t.2
root_pruned law p old (e ∷ events) new told (inr later) = root_pruned law p told.0 events new told.2 later

prunes_soundly : FalseResidualBeginsNoRun → (p : PlainProblem) (kept : List KeptPair) (events : List Event) →
    AreTrueEvents p [] events kept → ArePrunedRightly p kept events → PrunesSoundly p kept events
prunes_soundly law p kept events told branches = record { root = root_pruned law p [] events kept told; branches = branches }

-- breadth-first, the arrivals that are reported are those of the events
first_arrivals : (p : PlainProblem) (n from steps done : ℕ) (tried : List Action) (kept : List KeptPair) (events : List Event) →
    IsReported p n true from kept done tried events steps → AreFirstArrivals p n kept (arrivals_of events)
first_arrivals p n from steps done tried kept events r = subst (λ (rs : List Arrived). AreFirstArrivals p n kept rs)
    (sym (r.shown refl)) r.first

all_arrivals : (p : PlainProblem) (n from steps done : ℕ) (tried : List Action) (kept : List KeptPair) (events : List Event)
    (r : IsReported p n true from kept done tried events steps) → AreAllArrivals p n kept r.arrived →
    AreFirstArrivals p n kept (arrivals_of events) × AreAllArrivals p n kept (arrivals_of events)
all_arrivals p n from steps done tried kept events r all = (
  first_arrivals p n from steps done tried kept events r,
  subst (λ (rs : List Arrived). AreAllArrivals p n kept rs) (sym (r.shown refl)) all,
)

tells_in_turn : (p : PlainProblem) (n from steps : ℕ) (kept : List KeptPair) (events : List Event) (o : Outcome) →
    HasReported p n true from kept events steps o → TellsInTurn p n kept events o
tells_in_turn p n from steps kept events (outcome.Plan plan) h = first_arrivals p n from steps h.0 h.1 kept events h.2
tells_in_turn p n from steps kept events outcome.NoPlan h = all_arrivals p n from steps h.0 [] kept events h.1 h.2
tells_in_turn p n from steps kept events outcome.NoneWithin h = all_arrivals p n from steps h.0 [] kept events h.1 h.2
tells_in_turn p n from steps kept events outcome.Spent h = first_arrivals p n from steps h.0 h.1 kept events h.2

tells_root_once : (p : PlainProblem) (n from steps : ℕ) (kept : List KeptPair) (events : List Event) (o : Outcome) →
    HasReported p n true from kept events steps o → TellsRootOnce events
tells_root_once p n from steps kept events (outcome.Plan plan) h = let r = h.2 in r.root_once refl
tells_root_once p n from steps kept events outcome.NoPlan h = let r = h.1 in r.root_once refl
tells_root_once p n from steps kept events outcome.NoneWithin h = let r = h.1 in r.root_once refl
tells_root_once p n from steps kept events outcome.Spent h = let r = h.2 in r.root_once refl

reported_history : (p : PlainProblem) (n from steps : ℕ) (kept : List KeptPair) (events : List Event) (o : Outcome) →
    HasReported p n true from kept events steps o → IsHistory p true kept events
reported_history p n from steps kept events (outcome.Plan plan) h = let r = h.2 in r.history
reported_history p n from steps kept events outcome.NoPlan h = let r = h.1 in r.history
reported_history p n from steps kept events outcome.NoneWithin h = let r = h.1 in r.history
reported_history p n from steps kept events outcome.Spent h = let r = h.2 in r.history

breadth_ends : PairGoesOn → (p : PlainProblem) (kept : List KeptPair) (events : List Event) (o : Outcome) → AreTrueEvents p [] events kept →
    EndsRightly true kept (record { outcome = o; events = events }) → EndsWithLast p kept events o
breadth_ends law p kept events (outcome.Plan plan) told h = (h.1 refl, last_pair law p events kept plan told h.0)
breadth_ends law p kept events outcome.NoPlan told h = tt
breadth_ends law p kept events outcome.NoneWithin told h = tt
breadth_ends law p kept events outcome.Spent told h = h.1 refl

depth_ends : (p : PlainProblem) (n b : ℕ) (kept : List KeptPair) (events : List Event) (o : Outcome) →
    IsDepthFirstOutcome p n b (pairs_of kept) o → depth.EndsRightly true kept (record { outcome = o; events = events }) →
    EndsWithLast p kept events o
depth_ends p n b kept events (outcome.Plan plan) right h = (h refl, right.1)
depth_ends p n b kept events outcome.NoPlan right h = tt
depth_ends p n b kept events outcome.NoneWithin right h = tt
depth_ends p n b kept events outcome.Spent right h = h refl

-- what the two searches report is a trace: one lemma for each mode

breadth_trace : KeptPairsHaveEvents → PairGoesOn → FalseResidualBeginsNoRun →
    (s : Search) (p : PlainProblem) (from steps : ℕ) (kept : List KeptPair) (report : Report) → s.mode ≡ Breadth →
    IsBreadthFirstReport p s.within s.nodes kept report → ReportsArrivals p s.within true from kept steps report →
    reports.BeginsRightly p true report → reports.PrunesRightly p true kept report → EndsRightly true kept report →
    IsTraceReport s p kept report
breadth_trace keeps paths runs s p from steps kept report is right arrivals begins pruned ends =
    let history = reported_history p s.within from steps kept report.events report.outcome arrivals in
    let told = history.told refl in
    record {
      ended = subst (λ (m : Mode). IsSearchIn m s.within s.nodes p kept report.outcome) (sym is) right;
      told = told;
      begins = begins refl;
      ends = breadth_ends paths p kept report.events report.outcome told ends;
      actions = subst (λ (m : Mode). TellsActionsIn m s.within p kept report.events report.outcome) (sym is) (
        tells_root_once p s.within from steps kept report.events report.outcome arrivals,
        tells_in_turn p s.within from steps kept report.events report.outcome arrivals,
      );
      unseen = λ k here. keeps p report.events kept k here told;
      pruned = prunes_soundly runs p kept report.events told (pruned refl);
    }

depth_trace : KeptPairsHaveEvents → FalseResidualBeginsNoRun → (s : Search) (p : PlainProblem) (kept : List KeptPair) (report : Report) →
    s.mode ≡ Depth → depth.IsDepthFirstReport p s.within s.nodes kept report → depth.ReportsHistory p true kept report →
    depth.TellsOutcome p s.within true kept report → reports.BeginsRightly p true report → reports.PrunesRightly p true kept report →
    depth.EndsRightly true kept report → IsTraceReport s p kept report
depth_trace keeps runs s p kept report is right history actions begins pruned ends =
    let told = history.told refl in
    record {
      ended = subst (λ (m : Mode). IsSearchIn m s.within s.nodes p kept report.outcome) (sym is) right;
      told = told;
      begins = begins refl;
      ends = depth_ends p s.within s.nodes kept report.events report.outcome right ends;
      actions = subst (λ (m : Mode). TellsActionsIn m s.within p kept report.events report.outcome) (sym is) actions;
      unseen = λ k here. keeps p report.events kept k here told;
      pruned = prunes_soundly runs p kept report.events told (pruned refl);
    }

-- so it is with what a search answers where its events are watched

pub breadth_told : KeptPairsHaveEvents → PairGoesOn → FalseResidualBeginsNoRun →
    (s : Search) (p : PlainProblem) (watch : Bool) (from steps : ℕ) (kept : List KeptPair) (r : Result Report SearchFault) → s.mode ≡
    Breadth → IfOk r (IsBreadthFirstReport p s.within s.nodes kept) → IfOk r (ReportsArrivals p s.within watch from kept steps) →
    IfOk r (reports.BeginsRightly p watch) → IfOk r (reports.PrunesRightly p watch kept) → IfOk r (EndsRightly watch kept) → watch ≡ true →
    IfOk r (IsTraceReport s p kept)
breadth_told keeps paths runs s p true from steps kept (Ok report) mode right arrivals begins pruned ends is =
    breadth_trace keeps paths runs s p from steps kept report mode right arrivals begins pruned ends
breadth_told keeps paths runs s p false from steps kept (Ok report) mode right arrivals begins pruned ends is = absurd (let z : ⊥ = cc in z)
breadth_told keeps paths runs s p watch from steps kept (Err e) mode right arrivals begins pruned ends is = tt

pub depth_told : KeptPairsHaveEvents → FalseResidualBeginsNoRun → (s : Search) (p : PlainProblem) (watch : Bool) (kept : List KeptPair)
    (r : Result Report SearchFault) → s.mode ≡ Depth → IfOk r (depth.IsDepthFirstReport p s.within s.nodes kept) →
    IfOk r (depth.ReportsHistory p watch kept) → IfOk r (depth.TellsOutcome p s.within watch kept) →
    IfOk r (reports.BeginsRightly p watch) → IfOk r (reports.PrunesRightly p watch kept) → IfOk r (depth.EndsRightly watch kept) → watch ≡
    true → IfOk r (IsTraceReport s p kept)
depth_told keeps runs s p true kept (Ok report) mode right history actions begins pruned ends is =
    depth_trace keeps runs s p kept report mode right history actions begins pruned ends
depth_told keeps runs s p false kept (Ok report) mode right history actions begins pruned ends is = absurd (let z : ⊥ = cc in z)
depth_told keeps runs s p watch kept (Err e) mode right history actions begins pruned ends is = tt

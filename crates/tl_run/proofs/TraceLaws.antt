-- Laws of the right answers of `trace`.
use Rattle.std.proofs.Common.{◌≡◌, inl, inr, ℕ, zero, suc, List, [], ◌∷◌, ◌++◌, slice_get, Some, true, false, refl, sym, ap, ◌∙◌, subst}
use Rattle.std.proofs.lemmas.List.{length-map}
use Rattle.std.specs.Prelude.{Bool, Option}
use Rattle.tl_breadth.specs.Events.{AreFirstArrivals, arrivals_of}
use Rattle.tl_breadth.specs.Outcomes.{IsBreadthFirstOutcome}
use Rattle.tl_breadth.specs.Traces.{AreInBreadth, StopsAt}
use Rattle.tl_depth.specs.Outcomes.{IsDepthFirstOutcome, IsToldOutcome}
use Rattle.tl_depth.specs.Traces as depth
use Rattle.tl_outside.specs.Told.{Files}
use Rattle.tl_search.specs.KeptPairs.{KeptPair, pairs_of}
use Rattle.tl_search.specs.declared.event.Event.{Event}
use Rattle.tl_search.specs.declared.outcome.Outcome.{Outcome}
use Rattle.tl_search.specs.declared.outcome.Outcome.TheVariants as outcome
use Rattle.tl_syntax.specs.declared.problem.Problem.{Problem}
use Rattle.tl_terms.specs.Pairs.{Pair}
use Rattle.tl_terms.specs.Problem.{PlainProblem}
use Rattle.tl_terms.specs.ProblemMeaning.{plain_problem}
use Rattle.tl_text.specs.Outcomes.{outcome_text, spent_text}
use Rattle.tl_text.specs.Traces.{trace_text}
use Rattle.tl_run.specs.declared.search.Mode.{Mode}
use Rattle.tl_run.specs.declared.search.Mode.TheVariants.{Breadth, Depth}
use Rattle.tl_run.specs.declared.search.Search.{Search}
use Rattle.tl_run.specs.declared.status.Status.{Status}
use Rattle.tl_run.specs.Answers.{Traces, outcome_status}
use Rattle.tl_run.specs.Commands.{Command, trace}
use Rattle.tl_run.specs.Laws.{Laws}
use Rattle.tl_run.specs.Over.{HoldProblem}
use Rattle.tl_run.specs.Plan.{HasCalmSearch, IsOutcome, IsOutcomeIn, PrintsPlan, SaysNone}
use Rattle.tl_run.specs.Promises.{Agrees, Headline, IsOwn}
use Rattle.tl_run.specs.Trace.{EndsWithLast, IsSearchIn, IsTrace, TellsActionsIn, TellsEvents, TellsInTurn}
use Rattle.tl_run.proofs.Agreement.{IsDone, from_range, gives_way, to_range}
use Rattle.tl_run.proofs.OneProblem.{SameProblem}
use Rattle.tl_run.proofs.SameLabels.{same_trace}
use Rattle.tl_run.proofs.SameLines.{same_outcome_text}
use Rattle.tl_run.proofs.SearchLaws.{no_past_range, outcome_done, outcomes_of_one, own_outcome, prints_plan, says_none, says_none_within}

breadth_outcome : (n b : ℕ) (p : PlainProblem) (kept : List KeptPair) (o : Outcome) → IsBreadthFirstOutcome p n b kept o →
    IsOutcomeIn Breadth n b p o
breadth_outcome n b p kept (outcome.Plan plan) h = h.0
breadth_outcome n b p kept outcome.NoPlan h = (h.0, h.1)
breadth_outcome n b p kept outcome.NoneWithin h = (h.0, h.1)
breadth_outcome n b p kept outcome.Spent h = (pairs_of kept, h.0, h.1)

depth_outcome : (n b : ℕ) (p : PlainProblem) (kept : List KeptPair) (o : Outcome) → IsDepthFirstOutcome p n b (pairs_of kept) o →
    IsOutcomeIn Depth n b p o
depth_outcome n b p kept (outcome.Plan plan) h = h.0
depth_outcome n b p kept outcome.NoPlan h = (h.0, h.1)
depth_outcome n b p kept outcome.NoneWithin h = (h.0, h.1)
depth_outcome n b p kept outcome.Spent h = (pairs_of kept, h.0, h.1)

ended_outcome : (m : Mode) (n b : ℕ) (p : PlainProblem) (kept : List KeptPair) (o : Outcome) → IsSearchIn m n b p kept o →
    IsOutcomeIn m n b p o
ended_outcome Breadth n b p kept o h = breadth_outcome n b p kept o h
ended_outcome Depth n b p kept o h = depth_outcome n b p kept o h

-- the outcome of a trace is right of its search
pub trace_outcome : (s : Search) (p : PlainProblem) (kept : List KeptPair) (events : List Event) (o : Outcome) → IsTrace s p kept events o →
    IsOutcome s p o
trace_outcome s p kept events o h = ended_outcome s.mode s.within s.nodes p kept o h.ended

-- the lines of events and of an outcome
abbrev lines_of : Search → Problem → List KeptPair → List Event → Outcome → List ℕ
lines_of s m kept events o = trace_text m.names m.domain kept events ++ outcome_text m.names m.domain.operators s.within s.nodes o

-- they are the same for the same problem
same_lines : (m n : Problem) (s : Search) (kept : List KeptPair) (events : List Event) (o : Outcome) → SameProblem m n →
    lines_of s n kept events o ≡ lines_of s m kept events o
same_lines m n s kept events o same =
    let names = sym same.names in
    (λ i. trace_text (names i) n.domain kept events ++ outcome_text (names i) n.domain.operators s.within s.nodes o)
    ∙ (λ i. sym (same_trace m.names m.domain n.domain same.words kept events) i ++
    same_outcome_text m.names n.domain.operators m.domain.operators s.within s.nodes o (sym same.heads) i)

-- a pair that is kept at a number, with its path
kept_at : (kept : List KeptPair) (k : ℕ) (x : Pair) → slice_get (pairs_of kept) k ≡ Some x → (y : KeptPair) × (slice_get kept k ≡ Some y) ×
    (x ≡ y.node)
kept_at [] k x e = absurd (let z : ⊥ = cc in z)
kept_at (y ∷ kept) zero x e = (y, refl, let z : x ≡ y.node = cc in z)
kept_at (y ∷ kept) (suc k) x e = kept_at kept k x e

first_told : (p : PlainProblem) (n : ℕ) (kept : List KeptPair) (events : List Event) (o : Outcome) → TellsInTurn p n kept events o →
    AreFirstArrivals p n kept (arrivals_of events)
first_told p n kept events (outcome.Plan plan) h = h
first_told p n kept events outcome.NoPlan h = h.0
first_told p n kept events outcome.NoneWithin h = h.0
first_told p n kept events outcome.Spent h = h

stops_at : (p : PlainProblem) (n b : ℕ) (kept : List KeptPair) (events : List Event) (o : Outcome) → IsBreadthFirstOutcome p n b kept o →
    EndsWithLast p kept events o → TellsInTurn p n kept events o → StopsAt p n b kept events o
stops_at p n b kept events (outcome.Plan plan) h ends turn =
    let last = ends.1 in
    let y = kept_at kept last.0 last.1 last.3 in
    (ends.0, (last.0, y.0, sym (length-map kept (λ (z : KeptPair). z.node)) ∙ last.2, y.1, last.4 ∙ ap (λ (z : Pair). Some z) y.2))
stops_at p n b kept events outcome.NoPlan h ends turn = turn.1
stops_at p n b kept events outcome.NoneWithin h ends turn = turn.1
stops_at p n b kept events outcome.Spent h ends turn = let spent = h.0 in
    (ends, sym (length-map kept (λ (z : KeptPair). z.node)) ∙ spent.many)

in_breadth : (s : Search) (p : PlainProblem) (kept : List KeptPair) (events : List Event) (o : Outcome) → s.mode ≡ Breadth →
    IsTrace s p kept events o → AreInBreadth p s.within s.nodes kept events o
in_breadth s p kept events o mode h =
    let ended = subst (λ (m : Mode). IsSearchIn m s.within s.nodes p kept o) mode h.ended in
    let actions = subst (λ (m : Mode). TellsActionsIn m s.within p kept events o) mode h.actions in
    record {
      told = h.told;
      root_once = actions.0;
      first = first_told p s.within kept events o actions.1;
      stops = stops_at p s.within s.nodes kept events o ended h.ends actions.1;
    }

goes_deep : (p : PlainProblem) (n b : ℕ) (kept : List KeptPair) (events : List Event) (o : Outcome) →
    IsDepthFirstOutcome p n b (pairs_of kept) o → EndsWithLast p kept events o → IsToldOutcome p n true (pairs_of kept) events o →
    depth.StopsAt p n b kept events o
goes_deep p n b kept events (outcome.Plan plan) h ends told = (told.1 refl, ends.0, ends.1)
goes_deep p n b kept events outcome.NoPlan h ends told = told.1 refl
goes_deep p n b kept events outcome.NoneWithin h ends told = told.1 refl
goes_deep p n b kept events outcome.Spent h ends told = let spent = h.0 in
    (told refl, ends, sym (length-map kept (λ (z : KeptPair). z.node)) ∙ spent.many)

in_depth : (s : Search) (p : PlainProblem) (kept : List KeptPair) (events : List Event) (o : Outcome) → s.mode ≡ Depth →
    IsTrace s p kept events o → depth.AreDepthFirst p s.within s.nodes kept events o
in_depth s p kept events o mode h =
    let ended = subst (λ (m : Mode). IsSearchIn m s.within s.nodes p kept o) mode h.ended in
    let actions = subst (λ (m : Mode). TellsActionsIn m s.within p kept events o) mode h.actions in
    record { told = h.told; stops = goes_deep p s.within s.nodes kept events o ended h.ends actions }

-- a search has one trace with an outcome: one line for each mode
one_trace : Laws → (mode : Mode) (p : PlainProblem) (s : Search) (kept others : List KeptPair) (events told : List Event) (o : Outcome) →
    s.mode ≡ mode → IsTrace s p kept events o → IsTrace s p others told o → (events ≡ told) × (kept ≡ others)
one_trace laws Breadth p s kept others events told o mode h k = laws.traces p s.within s.nodes kept others events told o
    (in_breadth s p kept events o mode h) (in_breadth s p others told o mode k)
one_trace laws Depth p s kept others events told o mode h k = laws.deep_traces p s.within s.nodes kept others events told o
    (in_depth s p kept events o mode h) (in_depth s p others told o mode k)

pub trace_done : (fits : Bool) (s : Search) (status : Status) (text : List ℕ) (m : Problem) → Traces fits s status text m → IsDone status
trace_done fits s status text m (inl h) = subst IsDone (sym h.status_is) (outcome_done h.ended)
trace_done fits s status text m (inr h) = subst IsDone (sym h.3) tt

-- the lines of a right trace are those of every other with its outcome
one_text : Laws → (s : Search) (m n : Problem) (kept others : List KeptPair) (events told : List Event) (o u : Outcome) → SameProblem m n →
    u ≡ o → IsTrace s (plain_problem m) kept events o → IsTrace s (plain_problem n) others told u → lines_of s n others told u ≡
    lines_of s m kept events o
one_text laws s m n kept others events told o u same is h k =
    let there : IsTrace s (plain_problem m) others told o = subst (λ (x : Outcome). IsTrace s (plain_problem m) others told x) is
    (subst (λ (x : PlainProblem). IsTrace s x others told u) (sym same.meaning) k) in
    let one = one_trace laws s.mode (plain_problem m) s kept others events told o refl h there in
    ap (lines_of s n others told) is ∙ same_lines m n s others told o same ∙ (λ i. lines_of s m (sym one.1 i) (sym one.0 i) o)

-- of two right answers each agrees with the other
pub trace_agrees : Laws → (c : Command) (s : Search) (status given : Status) (text lines : List ℕ) (m n : Problem) → SameProblem m n →
    Traces false s status text m → Traces true s given lines n → Agrees c status text given lines
trace_agrees laws c s status given text lines m n same (inl h) (inl k) =
    elim (outcomes_of_one laws s m n h.ended k.ended same (trace_outcome s (plain_problem m) h.kept h.events h.ended h.right)
    (trace_outcome s (plain_problem n) k.kept k.events k.ended k.right)) [
      | inl is ↦ inl (
        k.status_is ∙ ap outcome_status is ∙ sym h.status_is,
        inl (k.text_is ∙ one_text laws s m n h.kept k.kept h.events k.events h.ended k.ended same is h.right k.right ∙ sym h.text_is),
      )
      | inr way ↦ gives_way c status given (outcome_status h.ended) (outcome_status k.ended) text lines h.status_is k.status_is way
    ]
trace_agrees laws c s status given text lines m n same h (inr k) = to_range c status given text lines
    (trace_done false s status text m h) k.3
trace_agrees laws c s status given text lines m n same (inr h) k = from_range c status given text lines h.3
    (trace_done true s given lines n k)

-- what is told of the events, whatever is said of the lines after them
tells_events : (s : Search) (m : Problem) (kept : List KeptPair) (events : List Event) (o : Outcome) (P : List ℕ → Problem → Type 0)
    (text : List ℕ) → IsTrace s (plain_problem m) kept events o → text ≡ lines_of s m kept events o →
    P (outcome_text m.names m.domain.operators s.within s.nodes o) m → TellsEvents P text m
tells_events s m kept events o P text right line says = record {
  kept = kept;
  events = events;
  rest = outcome_text m.names m.domain.operators s.within s.nodes o;
  lines = line;
  told = right.told;
  pruned = right.pruned;
  says = says;
}

outcome_says : (files : Option Files) (s : Search) (d p : List ℕ) (m : Problem) (kept : List KeptPair) (events : List Event) (o : Outcome)
    (text : List ℕ) → HoldProblem files d p m → IsTrace s (plain_problem m) kept events o → text ≡ lines_of s m kept events o →
    Headline files (trace s d p) (outcome_status o) text
outcome_says files s d p m kept events (outcome.Plan plan) text stand right line =
    let said = prints_plan s m plan _ (trace_outcome s (plain_problem m) kept events (outcome.Plan plan) right) refl in
    (m, stand, tells_events s m kept events (outcome.Plan plan) (PrintsPlan s) text right line said)
outcome_says files s d p m kept events outcome.NoPlan text stand right line =
    let said = says_none s m _ (trace_outcome s (plain_problem m) kept events outcome.NoPlan right) refl in
    (m, stand, tells_events s m kept events outcome.NoPlan (SaysNone s.within) text right line said)
outcome_says files s d p m kept events outcome.NoneWithin text stand right line =
    let said = says_none_within s m _ (trace_outcome s (plain_problem m) kept events outcome.NoneWithin right) refl in
    (m, stand, tells_events s m kept events outcome.NoneWithin (SaysNone s.within) text right line said)
outcome_says files s d p m kept events outcome.Spent text stand right line =
    (m, stand, tells_events s m kept events outcome.Spent (λ rest problem. rest ≡ spent_text s.nodes) text right line refl)

-- what the headline says of a right answer
pub trace_says : (files : Option Files) (s : Search) (d p : List ℕ) (status : Status) (text : List ℕ) (m : Problem) →
    HoldProblem files d p m → Traces true s status text m → Headline files (trace s d p) status text
trace_says files s d p status text m stand (inl h) =
    subst (λ (x : Status). Headline files (trace s d p) x text) (sym h.status_is)
    (outcome_says files s d p m h.kept h.events h.ended text stand h.right h.text_is)
trace_says files s d p status text m stand (inr h) = subst (λ (x : Status). Headline files (trace s d p) x text) (sym h.3) tt

-- where nothing past range is looked at, and there are few search nodes, every right answer is a plan or none
pub trace_calm : Laws → (s : Search) (status : Status) (text : List ℕ) (m n : Problem) → SameProblem m n → HasCalmSearch s m →
    Traces true s status text n → IsOwn status
trace_calm laws s status text m n same few (inl h) =
    subst IsOwn (sym h.status_is) (own_outcome laws s m n h.ended same few
    (trace_outcome s (plain_problem n) h.kept h.events h.ended h.right))
trace_calm laws s status text m n same few (inr h) = absurd (no_past_range laws s m n status text same few h)

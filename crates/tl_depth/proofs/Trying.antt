-- The top level tries its next action, or is done with.
use Rattle.std.specs.Prelude.{IsTrue, is_some}
use Rattle.tl_terms.specs.Step.{step}
use Rattle.std.proofs.Common.{◌≡◌, ◌≤◌, ◌<◌, ◌+◌, ◌*◌, ◌^◌, ℕ, zero, suc, List, [], ◌∷◌, ◌++◌, length, drop, Option, Some, None, refl, sym}
use Rattle.std.proofs.Common.{ap, ◌∙◌, subst, arith, append_assoc}
use Rattle.std.specs.List.{slice_get}
use Rattle.tl_syntax.specs.declared.action.Action.{Action}
use Rattle.tl_syntax.specs.Lists.{Each}
use Rattle.tl_terms.specs.Pairs.{Pair, pair_of, IsOpen}
use Rattle.tl_terms.specs.Problem.{PlainProblem}
use Rattle.tl_depth.specs.Search.{Frame, at_hand, IsUnderWay, AreFrames}
use Rattle.tl_depth.specs.Tables.{IsUncut, entries_left}
use Rattle.tl_depth.specs.Levels.{path_of, stepped, frame_of, frames_of, IsRunning, level_height}
use Rattle.tl_depth.specs.PairGraph.{graph_of}
use Rattle.tl_search.specs.PairGraph.{next_pair}
use Rattle.tl_terms.proofs.SamePairs.{pair_discrete}
use Rattle.tl_search.specs.RangeCauses.{IsRangeCause, HasNoSimplePlanBefore}
use Rattle.tl_search.proofs.RangeLaws.{range-by-action, range-after}
use Rattle.tl_eval.specs.declared.range.RangeNote.{RangeNote}
use Rattle.tl_eval.specs.Notes.{Tells, operation_of}
use Rattle.tl_terms.specs.Looked.{looked_by_progressing, looked_by_action}
use Rattle.tl_terms.specs.World.{World}
use Rattle.tl_depth.specs.declared.level.Level.{Level}
use Rattle.tl_depth.proofs.LevelFacts.{get-rest, rest-get, get-within, frames-last}
use Rattle.tl_depth.specs.Tables.{met_in}
use Rattle.tl_depth.proofs.Running as run
use Rattle.tl_depth.proofs.PairAnswers as answers
use Rattle.tl_depth.proofs.PairWalks.{pairs-lawful}
use Rattle.tl_depth.specs.Arrivals.{ArrivesAs}
use Rattle.tl_search.specs.Events.{event_of, events_after}
use Rattle.tl_depth.specs.Following.{IsFollowed}
use Rattle.tl_depth.specs.Outcomes.{Reported, AreFewCalls, IsDepthFirstFault}
use Rattle.tl_depth.specs.Ongoing.{AreSized, IsOngoing, IsArrived, to_do, Turned, TurnedTo}
use Rattle.tl_search.specs.declared.arrival.Arrival.{Arrival}
use Rattle.tl_depth.specs.declared.stack.DepthFirst.{DepthFirst}
use Rattle.tl_search.specs.declared.fault.SearchFault.TheVariants as fault
use Rattle.tl_search.specs.declared.outcome.Outcome.{Outcome}
use Rattle.tl_depth.proofs.Ends.{last-of, told-of}
use Rattle.tl_depth.proofs.Following.{follow-left, follow-root-left}
use Rattle.tl_depth.proofs.Arriving.{as-turned}
use Rattle.tl_depth.proofs.GoingOn.{height-append, to-do-is, less-pass, ongoing, sized-front, sized-stepped}

module _ (p : PlainProblem) (b : ℕ) (kept : List Pair) (w : DepthFirst) (calls : ℕ) (s : IsOngoing p b kept w calls) (front : List Level)
    (c : Level) (is : w.stack.items ≡ front ++ c ∷ []) where
  top-running : IsRunning pair_discrete (graph_of p) w.within (Reported w.watch kept w.events) kept w.most.items (front ++ c ∷ []) calls
  top-running = subst (λ us. IsRunning pair_discrete (graph_of p) w.within (Reported w.watch kept w.events) kept w.most.items us calls) is
      s.running

  placed-end : (levels : List Level) (d : Level) → Each (λ (h : Level). h.at < length kept) (levels ++ d ∷ []) → d.at < length kept
  placed-end [] d e = e.0
  placed-end (h ∷ levels) d e = placed-end levels d e.1

  pub top-placed : c.at < length kept
  top-placed = placed-end front c top-running.placed

  top-pair : (x : Pair) × (slice_get kept c.at ≡ Some x)
  top-pair = answers.get-there kept c.at top-placed

  module _ (a : Action) (at-action : slice_get c.actions c.tried ≡ Some a) where
    pub top-executable : (x : Pair) → slice_get kept c.at ≡ Some x → IsTrue (is_some (step p x.world a))
    top-executable x e = answers.executable-here p w.within s.unpruned
        (Reported w.watch kept w.events) kept w.most.items front c calls a x top-running at-action e

    -- with one more call they are few still
    pub few-next : AreFewCalls p w.within kept (calls + 1)
    few-next = let t = answers.calls-few-next p w.within s.unpruned (Reported w.watch kept w.events) kept w.most.items front c calls a
        top-running at-action in (t.0, t.1, omega (arith, t.2))

    top-leads : IsOpen p (path_of front) × (pair_of p (path_of front) ≡ Some top-pair.0)
    top-leads = answers.path-leads p w.within s.unpruned (Reported w.watch kept w.events) kept w.most.items front c calls a top-pair.0
        top-running at-action top-pair.1

    top-short : length (path_of front) < w.within
    top-short = omega (
      arith,
      answers.path-short p w.within s.unpruned
          (Reported w.watch kept w.events) kept w.most.items front c calls a top-pair.0 top-running at-action top-pair.1,
      answers.left-some p w.within s.unpruned (Reported w.watch kept w.events) kept w.most.items front c calls a top-pair.0 top-running
          at-action top-pair.1,
    )

    -- past range in the world of the top level's pair
    pub fault-here : (path : List Action) → path ≡ path_of front → (note : RangeNote) →
        ((x : Pair) → slice_get kept c.at ≡ Some x → Tells (looked_by_action p x.world a) note) →
        IsDepthFirstFault p w.within (fault.Range path note)
    fault-here path e note h =
        let t = h top-pair.0 top-pair.1 in
        subst (λ us. IsRangeCause p w.within us (operation_of note) × HasNoSimplePlanBefore p w.within us) (sym e) (
          range-by-action p w.within (operation_of note) t.1 (path_of front) top-pair.0 top-leads.1 top-leads.0 top-short a t.0,
          answers.none-before-here p w.within s.unpruned (Reported w.watch kept w.events) kept w.most.items front c calls a top-pair.0
              top-running at-action top-pair.1,
        )

    last-path : (levels : List Level) (d : Level) → path_of (levels ++ d ∷ []) ≡ path_of levels ++ at_hand (drop d.tried d.actions)
    last-path [] d = append_end (at_hand (drop d.tried d.actions))
      where
        append_end : (us : List Action) → us ++ [] ≡ us
        append_end [] = refl
        append_end (u ∷ us) = ap (λ vs. u ∷ vs) (append_end us)
    last-path (h ∷ levels) d = ap (λ us. at_hand (drop h.tried h.actions) ++ us) (last-path levels d) ∙
        sym (append_assoc (at_hand (drop h.tried h.actions)) (path_of levels) (at_hand (drop d.tried d.actions)))

    -- past range in the world after the action
    pub fault-after : (path : List Action) → path ≡ path_of w.stack.items → (note : RangeNote) →
        ((x : Pair) → slice_get kept c.at ≡ Some x → (v : World) × (step p x.world a ≡ Some v) ×
        Tells (looked_by_progressing p v x.formula) note) → IsDepthFirstFault p w.within (fault.Range path note)
    fault-after path e note h =
        let t = h top-pair.0 top-pair.1 in
        let whole : path_of (front ++ c ∷ []) ≡ path_of front ++ a ∷ [] = last-path front c ∙
        ap (λ us. path_of front ++ at_hand us) (get-rest c.actions c.tried a at-action) in
        subst (λ us. IsRangeCause p w.within us (operation_of note) × HasNoSimplePlanBefore p w.within us) (sym (e ∙ ap path_of is)) (
          subst (λ us. IsRangeCause p w.within us (operation_of note)) (sym whole)
              (range-after p w.within (operation_of note) t.2.1 (path_of front) top-pair.0 top-leads.1 top-leads.0 top-short a t.0 t.1
              t.2.0),
          answers.none-before-next p w.within s.unpruned (Reported w.watch kept w.events) kept w.most.items front c calls a top-pair.0
              top-running at-action top-pair.1,
        )

    pub top-left : 0 < c.left
    top-left = answers.left-some p w.within s.unpruned (Reported w.watch kept w.events) kept w.most.items front c calls a top-pair.0
        top-running at-action top-pair.1

    -- what arrives is as it is wanted
    pub arrives-top : (after : DepthFirst) (more : List Pair) (arrival : Arrival) (left : ℕ) → after ≡ record w { events = after.events } →
        after.events ≡ events_after w.watch w.events (event_of c.at a arrival) → suc left ≡ c.left
        → ((x : Pair) → slice_get kept c.at ≡ Some x → ArrivesAs kept more (next_pair p x a) arrival) →
        IsArrived p b more after arrival left calls
    arrives-top after more arrival left rest event r arrives = record {
      old = kept;
      before = w.events;
      front = front;
      top = c;
      action = a;
      from = top-pair.0;
      stack = ap (λ (v : DepthFirst). v.stack.items) rest ∙ is;
      at_action = at-action;
      at_node = top-pair.1;
      remaining = r;
      unpruned = s.unpruned;
      running =
          subst (λ x. IsRunning pair_discrete (graph_of p) x (Reported after.watch kept w.events) kept after.most.items
          (front ++ c ∷ []) calls) (sym (ap (λ (v : DepthFirst). v.within) rest))
          (subst (λ x. IsRunning pair_discrete (graph_of p) w.within (Reported x kept w.events) kept after.most.items
          (front ++ c ∷ []) calls) (sym (ap (λ (v : DepthFirst). v.watch) rest))
          (subst (λ x. IsRunning pair_discrete (graph_of p) w.within (Reported w.watch kept w.events) kept x (front ++ c ∷ []) calls)
          (sym (ap (λ (v : DepthFirst). v.most.items) rest)) top-running));
      event = event-now;
      told = told-of after.watch w.events after.events c a arrival at-action event-now;
      arrives = arrives top-pair.0 top-pair.1;
      few = s.few;
      sized = subst AreSized (sym (ap (λ (v : DepthFirst). v.stack.items) rest)) s.sized;
      uncut = λ e. subst IsUncut (sym (ap (λ (v : DepthFirst). v.most.items) rest))
          (s.uncut (sym (ap (λ (v : DepthFirst). v.reenters) rest) ∙ e));
      enters = λ e. ap (λ (v : DepthFirst). v.reenters) rest ∙ s.enters (sym (ap (λ (v : DepthFirst). v.watch) rest) ∙ e);
      followed = λ e.
          subst (λ (v : DepthFirst). IsFollowed p v.within kept v.most.items (front ++ c ∷ []) w.events) (sym rest)
          (subst (λ us. IsFollowed p w.within kept w.most.items us w.events) is
          (s.followed (sym (ap (λ (v : DepthFirst). v.watch) rest) ∙ e)));
    }
      where
        event-now : after.events ≡ events_after after.watch w.events (event_of c.at a arrival)
        event-now = event ∙ ap (λ x. events_after x w.events (event_of c.at a arrival)) (sym (ap (λ (v : DepthFirst). v.watch) rest))

-- ---- the same elsewhere

pub turned-to : (p q : PlainProblem) (b : ℕ) (kept more : List Pair) (old mid new : DepthFirst) (calls before after : ℕ)
    (o : Option Outcome) → mid ≡ record old { events = mid.events; expansions = mid.expansions } → p ≡ q → kept ≡ more → after ≡ before + 1
    → Turned p b kept mid new (calls + 1) o → TurnedTo q b more old new calls before after o
turned-to p q b kept more old mid new calls before after None m e f h t = (
  calls + 1,
  omega (arith, h),
  as-turned p q b kept more old new (calls + 1) None e f
      (subst (λ v. Turned p b kept v new (calls + 1) None) m t),
)
turned-to p q b kept more old mid new calls before after (Some x) m e f h t = (
  calls + 1,
  omega (arith, h),
  as-turned p q b kept more old new (calls + 1) (Some x) e f
      (subst (λ v. Turned p b kept v new (calls + 1) (Some x)) m t),
)

-- ---- the top level is done with

each-frames : (P : Frame Pair → Type 0) (kept : List Pair) (root : Pair) (levels : List Level) (below : List (Frame Pair)) →
    Each P (frames_of kept root levels below) → Each (λ c. P (frame_of kept root c)) levels × Each P below
unfolding frames_of
each-frames P kept root [] below h = (tt, h)
each-frames P kept root (c ∷ levels) below h = let k = each-frames P kept root levels (frame_of kept root c ∷ below) h in
    ((k.1.0, k.0), k.1.1)

pub below-under : (p : PlainProblem) (b : ℕ) (kept : List Pair) (w : DepthFirst) (calls : ℕ) → IsOngoing p b kept w calls →
    (front : List Level) (c : Level) → w.stack.items ≡ front ++ c ∷ [] →
    Each (λ (h : Level). (h.tried < length h.actions) × (length h.actions < 2 ^ 64)) front
below-under p b kept w calls s front c is = both front (sized-front front c (subst AreSized is s.sized)) under
  where
    frames : AreFrames (graph_of p) w.within (Reported w.watch kept w.events) (met_in pair_discrete kept w.most.items)
        (frame_of kept (graph_of p).root c ∷ frames_of kept (graph_of p).root front [])
    frames = subst (AreFrames (graph_of p) w.within (Reported w.watch kept w.events) (met_in pair_discrete kept w.most.items))
        (ap (λ us. frames_of kept (graph_of p).root us []) is ∙ frames-last kept (graph_of p).root front c []) s.running.searching.frames

    under : Each (λ h. IsUnderWay (Reported w.watch kept w.events) (frame_of kept (graph_of p).root h)) front
    under = (each-frames (IsUnderWay (Reported w.watch kept w.events)) kept (graph_of p).root front [] frames.2).0

    both : (levels : List Level) → AreSized levels → Each (λ h. IsUnderWay (Reported w.watch kept w.events)
        (frame_of kept (graph_of p).root h)) levels → Each (λ (h : Level). (h.tried < length h.actions) × (length h.actions < 2 ^ 64))
        levels
    both [] z u = tt
    both (h ∷ levels) z u = (
      (get-within h.actions h.tried u.0.action (rest-get h.actions h.tried u.0.action u.0.later u.0.is), z.0),
      both levels z.1 u.1,
    )

pub turned-left : (p : PlainProblem) (b : ℕ) (kept : List Pair) (w : DepthFirst) (calls : ℕ) → IsOngoing p b kept w calls →
    (front : List Level) (c : Level) → w.stack.items ≡ front ++ c ∷ [] → length c.actions ≤ c.tried → (after : DepthFirst)
    → ((d : Level) → w.stack.items ≡ d ∷ [] → after.stack.items ≡ []) →
    ((us : List Level) (h d : Level) → w.stack.items ≡ (us ++ h ∷ []) ++ d ∷ [] → after.stack.items ≡ us ++ stepped h ∷ []) → after ≡
    record w { stack = after.stack; expansions = after.expansions }
    → Turned p b kept w after calls None
turned-left p b kept w calls s [] c is over after root st rest = (
  ongoing p b w.within w.watch kept w.events w.most.items [] calls after s.unpruned
      (run.leaves-root pair_discrete (graph_of p) w.within (pairs-lawful p) (Reported w.watch kept w.events) kept w.most.items c calls over
      (subst (λ us. IsRunning pair_discrete (graph_of p) w.within (Reported w.watch kept w.events) kept w.most.items us calls) is
      s.running))
      s.few tt (λ e. s.uncut (sym (ap (λ (v : DepthFirst). v.reenters) rest) ∙ e))
      (λ e. ap (λ (v : DepthFirst). v.reenters) rest ∙ s.enters e)
      (λ e. follow-root-left p w.within kept w.most.items c w.events over
      (subst (λ us. IsFollowed p w.within kept w.most.items us w.events) is (s.followed e))) (ap (λ (v : DepthFirst). v.within) rest)
      (ap (λ (v : DepthFirst). v.watch) rest) (ap (λ (v : DepthFirst). v.events) rest) (ap (λ (v : DepthFirst). v.most.items) rest)
      (root c is),
  subst (λ x. x < to_do b w) (sym (to-do-is b after w.within w.most.items [] (ap (λ (v : DepthFirst). v.within) rest)
      (ap (λ (v : DepthFirst). v.most.items) rest) (root c is)))
      (less-pass (entries_left b w.within w.most.items) (entries_left b w.within w.most.items) (suc w.within * 2 ^ 64)
      (level_height w.stack.items) 0 (omega arith) (omega (arith, ap level_height is))),
  ap (λ (v : DepthFirst). v.within) rest,
  ap (λ (v : DepthFirst). v.watch) rest,
)
turned-left p b kept w calls s (x ∷ xs) c is over after root st rest = go (last-of (x ∷ xs) (omega arith))
  where
    go : ((us : List Level) × (h : Level) × (x ∷ xs ≡ us ++ h ∷ [])) → Turned p b kept w after calls None
    go v = (
      ongoing p b w.within w.watch kept w.events w.most.items (v.0 ++ stepped v.1 ∷ []) calls after s.unpruned
          (run.leaves pair_discrete (graph_of p) w.within (pairs-lawful p)
          (Reported w.watch kept w.events) kept w.most.items c calls over v.0 v.1
          (subst (λ us. IsRunning pair_discrete (graph_of p) w.within (Reported w.watch kept w.events) kept w.most.items us calls) whole
          s.running))
          s.few (sized-stepped v.0 v.1 (sized-front (v.0 ++ v.1 ∷ []) c (subst AreSized whole s.sized)))
          (λ e. s.uncut (sym (ap (λ (u : DepthFirst). u.reenters) rest) ∙ e))
          (λ e. ap (λ (u : DepthFirst). u.reenters) rest ∙ s.enters e)
          (λ e. follow-left p w.within kept w.most.items v.0 v.1 c w.events over
          (subst (λ us. IsFollowed p w.within kept w.most.items us w.events) whole (s.followed e)))
          (ap (λ (u : DepthFirst). u.within) rest) (ap (λ (u : DepthFirst). u.watch) rest) (ap (λ (u : DepthFirst). u.events) rest)
          (ap (λ (u : DepthFirst). u.most.items) rest) (st v.0 v.1 c whole),
      subst (λ y. y < to_do b w) (sym (to-do-is b after w.within w.most.items (v.0 ++ stepped v.1 ∷ [])
          (ap (λ (u : DepthFirst). u.within) rest) (ap (λ (u : DepthFirst). u.most.items) rest) (st v.0 v.1 c whole)))
          (less-pass (entries_left b w.within w.most.items) (entries_left b w.within w.most.items) (suc w.within * 2 ^ 64)
          (level_height w.stack.items) (level_height (v.0 ++ stepped v.1 ∷ [])) (omega arith)
          (omega (
            arith,
            ap level_height whole,
            height-append (v.0 ++ v.1 ∷ []) c,
            height-append v.0 v.1,
            height-append v.0 (stepped v.1),
            short-drops v.1.actions v.1.tried,
          ))),
      ap (λ (u : DepthFirst). u.within) rest,
      ap (λ (u : DepthFirst). u.watch) rest,
    )
      where
        whole : w.stack.items ≡ (v.0 ++ v.1 ∷ []) ++ c ∷ []
        whole = is ∙ ap (λ us. us ++ c ∷ []) v.2

        short-drops : (us : List Action) (i : ℕ) → length (drop (i + 1) us) ≤ length (drop i us)
        short-drops us i = subst (λ j. length (drop j us) ≤ length (drop i us)) (let q : suc i ≡ i + 1 = omega arith in q) (down us i)
          where
            down : (vs : List Action) (k : ℕ) → length (drop (suc k) vs) ≤ length (drop k vs)
            down [] zero = omega arith
            down [] (suc k) = omega arith
            down (u ∷ vs) zero = omega arith
            down (u ∷ vs) (suc k) = down vs k

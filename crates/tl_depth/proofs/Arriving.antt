-- What comes of an arrival.
use Rattle.std.proofs.Common.{◌≡◌, ◌≢◌, ◌≤◌, ◌<◌, ◌+◌, ◌*◌, ◌^◌, ℕ, suc, List, [], ◌∷◌, ◌++◌, length, drop, set, Bool, true, false, Option}
use Rattle.std.proofs.Common.{Some, None, refl, sym, ap, ◌∙◌, subst, arith, append_assoc, length-append}
use Rattle.std.specs.List.{slice_get}
use Rattle.tl_syntax.specs.declared.action.Action.{Action}
use Rattle.tl_syntax.specs.Lists.{Each}
use Rattle.tl_terms.specs.Pairs.{Pair, pair_of, IsOpen, IsPairAccepted}
use Rattle.tl_terms.specs.Problem.{PlainProblem}
use Rattle.tl_depth.specs.Search.{at_hand, ReportsOneMore}
use Rattle.tl_depth.specs.Tables.{IsUncut, entries_left}
use Rattle.tl_depth.specs.Levels.{path_of, stepped, frames_of, IsRunning, level_height}
use Rattle.tl_depth.specs.PairGraph.{graph_of}
use Rattle.tl_search.specs.PairGraph.{next_pair, unless_pruned}
use Rattle.tl_terms.proofs.SamePairs.{pair_discrete}
use Rattle.tl_search.specs.RangeCauses.{IsRangeCause, HasNoSimplePlanBefore}
use Rattle.tl_search.proofs.RangeLaws.{range-by-idling, range-by-action}
use Rattle.tl_eval.specs.declared.range.RangeNote.{RangeNote}
use Rattle.tl_eval.specs.Notes.{Tells, operation_of}
use Rattle.tl_terms.specs.Looked.{looked_by_idling}
use Rattle.tl_search.specs.Plans.{IsFirstSimplePlan}
use Rattle.tl_search.specs.Spent.{AreNear}
use Rattle.tl_depth.specs.Answers.{AreLed, IsToldAlong, IsActionSum}
use Rattle.tl_depth.specs.declared.level.Level.{Level}
use Rattle.tl_depth.proofs.LevelFacts.{get-rest, get-within}
use Rattle.tl_depth.proofs.Tables.{entries-pushed, entries-set}
use Rattle.tl_depth.specs.Tables.{met_in}
use Rattle.tl_depth.proofs.SearchSteps.{reporting}
use Rattle.tl_depth.proofs.Running as run
use Rattle.tl_depth.proofs.PairAnswers as answers
use Rattle.tl_depth.proofs.PairWalks.{pairs-lawful, pairs-actions}
use Rattle.tl_depth.specs.Entering.{Meeting, Follows, Meets, AreInDepth}
use Rattle.tl_depth.specs.Following.{AreGreatest, TriesRest, StayPairs, IsFollowed}
use Rattle.tl_depth.specs.Outcomes.{Reported, AreFewCalls, IsDepthFirstOutcome, IsDepthFirstFault, TellsInDepth}
use Rattle.tl_depth.specs.Ongoing.{AreSized, IsArrived, IsEntered, to_do, IsEntryFault, Turned}
use Rattle.tl_search.specs.Events.{event_of, events_after}
use Rattle.tl_search.specs.declared.arrival.Arrival.{Arrival}
use Rattle.tl_search.specs.declared.arrival.Arrival.TheVariants as came
use Rattle.tl_search.specs.declared.event.Event.{Event}
use Rattle.tl_depth.specs.declared.stack.DepthFirst.{DepthFirst}
use Rattle.tl_search.specs.declared.fault.SearchFault.{SearchFault}
use Rattle.tl_search.specs.declared.fault.SearchFault.TheVariants as fault
use Rattle.tl_search.specs.declared.fault.SpaceFault.{SpaceFault}
use Rattle.tl_search.specs.declared.fault.SpaceFault.TheVariants as space
use Rattle.tl_search.specs.Causes.{IsCausedByAcceptance}
use Rattle.tl_search.specs.Faults.{TellsPair}
use Rattle.tl_search.specs.declared.outcome.Outcome.{Outcome}
use Rattle.tl_search.specs.declared.outcome.Outcome.TheVariants as outcome
use Rattle.tl_depth.proofs.Spending.{led-near, led-spent}
use Rattle.tl_depth.proofs.Ends.{event-is}
use Rattle.tl_depth.proofs.Following.{greatest-passed, greatest-more, greatest-first, more-than, not-more, more-first, meets-passed}
use Rattle.tl_depth.proofs.Following.{meets-last, meets-entered, stop-met, follow-passed, follow-entered, follow-stopped}
use Rattle.tl_depth.proofs.GoingOn.{told-reports, get-more, height-stepped, to-do-is, less-pass, less-enter, low, ongoing, sized-last}
use Rattle.tl_depth.proofs.GoingOn.{sized-stepped, uncut-set, uncut-pushed}

module _ (p : PlainProblem) (b : ℕ) (kept : List Pair) (w : DepthFirst) (arrival : Arrival) (left calls : ℕ)
    (s : IsArrived p b kept w arrival left calls) where
  told-kept : kept ≡ s.old → ReportsOneMore s.from s.action (Reported w.watch s.old s.before) (Reported w.watch kept w.events)
  told-kept e = told-reports w.watch s.before w.events s.top s.old kept s.from s.action s.told s.at_action s.at_node
      (λ j x h. subst (λ k. slice_get k j ≡ Some x) (sym e) h)

  -- the event that was told now
  told-now : (r : Arrival) → arrival ≡ r → w.watch ≡ true → w.events ≡ s.before ++ event_of s.top.at s.action r ∷ []
  told-now r it e = s.event ∙ (ap (λ x. events_after x s.before (event_of s.top.at s.action arrival)) e ∙
      ap (λ x. s.before ++ event_of s.top.at s.action x ∷ []) it)

  followed-passed : (r : Arrival) → arrival ≡ r → (more : List Pair) → StayPairs s.old more →
      (most : List ℕ) (e : w.watch ≡ true) (met : List Meeting) → AreGreatest most met
      → ((all : List Pair) (cut : Bool) (rest : List Event) → Follows (Meets p all cut left) (event_of s.top.at s.action r)
      (s.followed e).met rest met rest) → IsFollowed p w.within more most (s.front ++ stepped s.top ∷ []) w.events
  followed-passed r it more stay most e met t pass = subst (IsFollowed p w.within more most (s.front ++ stepped s.top ∷ []))
      (sym (told-now r it e))
      (follow-passed p w.within s.old more w.most.items s.front s.top s.before (s.followed e) s.action s.at_action left s.remaining
      (event_of s.top.at s.action r) (event-is s.top.at s.action r) stay most met t pass)

  followed-entered : (r : Arrival) → arrival ≡ r → StayPairs s.old kept → (most : List ℕ) (e : w.watch ≡ true) (met : List Meeting) →
      AreGreatest most met → (level : Level)
      → ((all : List Pair) → StayPairs kept all → (cut : Bool) (rest : List Event) (mid : List Meeting) (next : List Event) →
      TriesRest p all cut level met rest mid next → Follows (Meets p all cut left) (event_of s.top.at s.action r)
      (s.followed e).met rest mid next)
      → IsFollowed p w.within kept most ((s.front ++ s.top ∷ []) ++ level ∷ []) w.events
  followed-entered r it stay most e met t level enter = subst (IsFollowed p w.within kept most ((s.front ++ s.top ∷ []) ++ level ∷ []))
      (sym (told-now r it e))
      (follow-entered p w.within s.old kept w.most.items s.front s.top s.before (s.followed e) s.action s.at_action left s.remaining
      (event_of s.top.at s.action r) (event-is s.top.at s.action r) stay most met t level enter)

  -- the frames with their top passed are as before, but for that
  pub passed : (after : DepthFirst) → ((front : List Level) (c : Level) → w.stack.items ≡ front ++ c ∷ [] → after.stack.items ≡ front ++
      stepped c ∷ []) → after.within ≡ w.within → after.watch ≡ w.watch → after.events ≡ w.events
      → (more : List Pair) (most : List ℕ) → kept ≡ more → after.most.items ≡ most → (after.reenters ≡ false → IsUncut most)
      → IsRunning pair_discrete (graph_of p) w.within (Reported w.watch kept w.events) more most (s.front ++ stepped s.top ∷ [])
      (calls + 1) → length more ≤ b → entries_left b w.within most ≤ entries_left b w.within w.most.items
      → (w.watch ≡ true → after.reenters ≡ true) → (w.watch ≡ true → IsFollowed p w.within more most
      (s.front ++ stepped s.top ∷ []) w.events) → Turned p b kept w after (calls + 1) None
  passed after st wn ww we more most e m u r f l enters followed = (
    ongoing p b w.within w.watch kept w.events most (s.front ++ stepped s.top ∷ []) (calls + 1) after s.unpruned
        (subst (λ k. IsRunning pair_discrete (graph_of p) w.within (Reported w.watch kept w.events) k most (s.front ++ stepped s.top ∷ [])
        (calls + 1)) (sym e) r) (omega (arith, ap length e, f))
        (sized-stepped s.front s.top (subst AreSized s.stack s.sized)) u enters
        (λ h. subst (λ k. IsFollowed p w.within k most (s.front ++ stepped s.top ∷ []) w.events) (sym e) (followed h)) wn ww we m
        (st s.front s.top s.stack),
    less,
    wn,
    ww,
  )
    where
      less : to_do b after < to_do b w
      less = subst (λ x. x < to_do b w) (sym (to-do-is b after w.within most (s.front ++ stepped s.top ∷ []) wn m
          (st s.front s.top s.stack)))
          (less-pass (entries_left b w.within w.most.items) (entries_left b w.within most) (suc w.within * 2 ^ 64)
          (level_height w.stack.items) (level_height (s.front ++ stepped s.top ∷ [])) l
          (subst (λ us. level_height (s.front ++ stepped s.top ∷ []) < level_height us) (sym s.stack)
          (height-stepped s.front s.top s.action s.at_action)))

  -- and so is the search but for its stack
  passed-alone : (after : DepthFirst) → ((front : List Level) (c : Level) → w.stack.items ≡ front ++ c ∷ [] → after.stack.items ≡ front ++
      stepped c ∷ []) → after ≡ record w { stack = after.stack }
      → kept ≡ s.old → IsRunning pair_discrete (graph_of p) w.within (Reported w.watch kept w.events) s.old w.most.items
      (s.front ++ stepped s.top ∷ []) (suc calls) → (w.watch ≡ true →
      IsFollowed p w.within s.old w.most.items (s.front ++ stepped s.top ∷ []) w.events) → Turned p b kept w after (calls + 1) None
  passed-alone after st rest e r followed = passed after st (ap (λ (v : DepthFirst). v.within) rest) (ap (λ (v : DepthFirst). v.watch) rest)
      (ap (λ (v : DepthFirst). v.events) rest) s.old w.most.items e (ap (λ (v : DepthFirst). v.most.items) rest)
      (λ f. s.uncut (sym (ap (λ (v : DepthFirst). v.reenters) rest) ∙ f))
      (subst (λ k. IsRunning pair_discrete (graph_of p) w.within (Reported w.watch kept w.events) s.old w.most.items
      (s.front ++ stepped s.top ∷ []) k) (let q : suc calls ≡ calls + 1 = omega arith in q) r)
      s.few (omega arith) (λ h. ap (λ (v : DepthFirst). v.reenters) rest ∙ s.enters h) followed

  pub turned-pruned : (after : DepthFirst) → ((front : List Level) (c : Level) → w.stack.items ≡ front ++ c ∷ [] → after.stack.items ≡
      front ++ stepped c ∷ []) → after ≡ record w { stack = after.stack }
      → (kept ≡ s.old) × (unless_pruned (next_pair p s.from s.action) ≡ None) → arrival ≡ came.Pruned →
      Turned p b kept w after (calls + 1) None
  unfolding graph_of
  turned-pruned after st rest h it = passed-alone after st rest h.0
      (run.passes-pruned pair_discrete (graph_of p) w.within (pairs-lawful p) (Reported w.watch s.old s.before)
      (Reported w.watch kept w.events) s.old w.most.items s.front s.top calls s.action s.from s.running s.at_action s.at_node
      (told-kept h.0) h.1)
      (λ e. followed-passed came.Pruned it s.old (λ k x q. q) w.most.items e (s.followed e).met (s.followed e).table
      (λ all cut rest. (refl, refl)))

  -- the calls with this one are few
  few-calls : kept ≡ s.old → AreFewCalls p w.within kept (calls + 1)
  few-calls e = let t = answers.calls-few-next p w.within s.unpruned (Reported w.watch s.old s.before) s.old w.most.items s.front s.top
      calls s.action s.running s.at_action in (t.0, subst (λ k. IsActionSum p w.within k t.0) (sym e) t.1, omega (arith, t.2))

  few-calls-more : (q : Pair) → kept ≡ s.old ++ q ∷ [] → AreFewCalls p w.within kept (calls + 1)
  few-calls-more q e = let t = answers.calls-few-next p w.within s.unpruned
      (Reported w.watch s.old s.before) s.old w.most.items s.front s.top calls s.action s.running s.at_action in
      (t.0, subst (λ k. IsActionSum p w.within k t.0) (sym e) (answers.sum-more p w.within s.old q t.0 t.1), omega (arith, t.2))

  path-is : path_of w.stack.items ≡ path_of (s.front ++ s.top ∷ [])
  path-is = ap path_of s.stack

  under : (length (path_of s.front) + s.top.left ≡ w.within) × (0 < s.top.left)
  under = (
    answers.path-short p w.within s.unpruned (Reported w.watch s.old s.before) s.old w.most.items s.front s.top calls s.action s.from
        s.running s.at_action s.at_node,
    omega (arith, s.remaining),
  )

  flat-last : (front : List Level) (c : Level) → path_of (front ++ c ∷ []) ≡ path_of front ++ at_hand (drop c.tried c.actions)
  flat-last [] c = append_end (at_hand (drop c.tried c.actions))
    where
      append_end : (us : List Action) → us ++ [] ≡ us
      append_end [] = refl
      append_end (u ∷ us) = ap (λ vs. u ∷ vs) (append_end us)
  flat-last (d ∷ front) c = ap (λ us. at_hand (drop d.tried d.actions) ++ us) (flat-last front c) ∙
      sym (append_assoc (at_hand (drop d.tried d.actions)) (path_of front) (at_hand (drop c.tried c.actions)))

  path-long : length (path_of (s.front ++ s.top ∷ [])) ≡ suc (length (path_of s.front))
  path-long = omega (
    arith,
    ap length (flat-last s.front s.top),
    ap (λ us. length (path_of s.front ++ at_hand us))
        (get-rest s.top.actions s.top.tried s.action s.at_action),
    length-append (path_of s.front) (s.action ∷ []),
  )

  -- no simple accepted plan comes before the path with the action
  none-before : HasNoSimplePlanBefore p w.within (path_of w.stack.items)
  none-before = subst (HasNoSimplePlanBefore p w.within) (sym path-is)
      (answers.none-before-next p w.within s.unpruned (Reported w.watch s.old s.before) s.old w.most.items s.front s.top calls s.action
      s.from s.running s.at_action s.at_node)

  path-left : length (path_of w.stack.items) + left ≡ w.within
  path-left = omega (arith, ap length path-is, path-long, under.0, s.remaining)

  module _ (q : Pair) (leads : unless_pruned (next_pair p s.from s.action) ≡ Some q) where
    leads-to : IsOpen p (path_of w.stack.items) × (pair_of p (path_of w.stack.items) ≡ Some q)
    unfolding graph_of
    leads-to = subst (λ us. IsOpen p us × (pair_of p us ≡ Some q)) (sym path-is)
        (answers.leads-any p w.within s.unpruned (Reported w.watch s.old s.before) s.old w.most.items s.front s.top calls s.action s.from
        s.running s.at_action s.at_node q leads)

    -- past range in the idling check of the pair that was kept
    fault-idling : (path : List Action) → path ≡ path_of w.stack.items → (note : RangeNote) →
        Tells (looked_by_idling p q.world q.formula) note → IsDepthFirstFault p w.within (fault.Range path note)
    fault-idling path e note t = subst (λ us. IsRangeCause p w.within us (operation_of note) × HasNoSimplePlanBefore p w.within us) (sym e) (
      range-by-idling p w.within (operation_of note) t.1 (path_of w.stack.items) q leads-to.1 leads-to.0 (omega (arith, path-left)) t.0,
      none-before,
    )

    -- the search's fault has its cause where the space's fault has
    pub judged-fault : (r : SpaceFault) (f : SearchFault) → TellsPair (path_of w.stack.items) r f → IsCausedByAcceptance p q r →
        IsDepthFirstFault p w.within f
    judged-fault r fault.NoMemory t h = tt
    judged-fault (space.RangeHere note) (fault.Range path o) t h =
        subst (λ (m : RangeNote). IsDepthFirstFault p w.within (fault.Range path m)) (sym t.1) (fault-idling path t.0 note h)
    judged-fault (space.RangeAfter note) (fault.Range path o) t h = absurd t
    judged-fault space.NoMemory (fault.Range path o) t h = absurd t

    -- past range in an action of the pair that is entered
    pub fault-entering : (k : ℕ) → slice_get kept k ≡ Some q → 0 < left → (f : SearchFault) →
        IsEntryFault p kept k (path_of w.stack.items) f → IsDepthFirstFault p w.within f
    fault-entering k at l (fault.Range path note) h =
        let t = h.1 q at in
        subst (λ us. IsRangeCause p w.within us (operation_of note) × HasNoSimplePlanBefore p w.within us) (sym h.0) (
          range-by-action p w.within (operation_of note) t.1.1 (path_of w.stack.items) q leads-to.1 leads-to.0
              (omega (arith, path-left)) t.0 t.1.0,
          none-before,
        )
    fault-entering k at l fault.NoMemory h = tt

  -- ---- a kept pair

  module _ (k : ℕ) (same : kept ≡ s.old) (q : Pair) (at-pair : slice_get s.old k ≡ Some q)
      (leads : unless_pruned (next_pair p s.from s.action) ≡ Some q) where
    pub seen-within : k < length w.most.items
    seen-within = omega (arith, s.running.sized, get-within s.old k q at-pair)

    pub turned-passes : (after : DepthFirst) → ((front : List Level) (c : Level) → w.stack.items ≡ front ++ c ∷ [] → after.stack.items ≡
        front ++ stepped c ∷ []) → after ≡ record w { stack = after.stack }
        → (m : ℕ) → slice_get w.most.items k ≡ Some m → left ≤ m → arrival ≡ came.Seen k → Turned p b kept w after (calls + 1) None
    unfolding graph_of
    turned-passes after st rest m e l it = passed-alone after st rest same
        (run.passes-seen pair_discrete (graph_of p) w.within (pairs-lawful p) (Reported w.watch s.old s.before)
        (Reported w.watch kept w.events) s.old w.most.items s.front s.top calls s.action s.from s.running s.at_action s.at_node
        (told-kept same) k q m leads at-pair e (omega (arith, s.remaining)))
        (λ h. followed-passed (came.Seen k) it s.old (λ j x z. z) w.most.items h ((k, left) ∷ (s.followed h).met)
        (greatest-passed w.most.items (s.followed h).met (s.followed h).table k left m e l)
        (λ all cut rest. meets-passed p all cut left k (s.followed h).met rest
        (not-more w.most.items (s.followed h).met (s.followed h).table k left m e l)))

    refused : IsPairAccepted p q → ⊥
    refused = (answers.kept-led p w.within s.unpruned (Reported w.watch s.old s.before) s.old w.most.items
        (s.front ++ s.top ∷ []) calls s.running k q at-pair).1

    -- where no pair is entered again, none was met with no remaining action
    pub turned-kept : (after : DepthFirst) → ((front : List Level) (c : Level) → w.stack.items ≡ front ++ c ∷ [] → after.stack.items ≡
        front ++ stepped c ∷ []) → after.within ≡ w.within → after.watch ≡ w.watch → after.events ≡ w.events → after.most.items ≡
        set w.most.items k left
        → (m : ℕ) → slice_get w.most.items k ≡ Some m → m < left → w.reenters ≡ false → Turned p b kept w after (calls + 1) None
    unfolding graph_of
    turned-kept after st wn ww we wm m e l u = passed after st wn ww we s.old (set w.most.items k left) same wm
        (λ f. uncut-set w.most.items k left (omega arith) (s.uncut u))
        (subst (λ z. IsRunning pair_discrete (graph_of p) w.within (Reported w.watch kept w.events) s.old (set w.most.items k left)
        (s.front ++ stepped s.top ∷ []) z) (let z : suc calls ≡ calls + 1 = omega arith in z)
        (run.passes-kept pair_discrete (graph_of p) w.within (pairs-lawful p) (Reported w.watch s.old s.before)
        (Reported w.watch kept w.events) s.old w.most.items s.front s.top calls s.action s.from s.running s.at_action s.at_node
        (told-kept same) q left leads s.remaining refused k m at-pair e l (s.uncut u)))
        s.few (omega (arith, entries-set b w.within left m w.most.items k e l (omega (arith, under.0, s.remaining))))
        (λ h. absurd (unwatched h)) (λ h. absurd (unwatched h))
      where
        unwatched : w.watch ≡ true → ⊥
        unwatched h = let q : true ≡ false = sym (s.enters h) ∙ u in cc

    pub turned-again : (after : DepthFirst) → IsEntered p kept k left w.stack.items after.stack.items → after.within ≡ w.within →
        after.watch ≡ w.watch → after.events ≡ w.events → after.reenters ≡ w.reenters → after.most.items ≡ set w.most.items k left
        → (m : ℕ) → slice_get w.most.items k ≡ Some m → m < left → arrival ≡ came.Seen k → Turned p b kept w after (calls + 1) None
    unfolding graph_of
    turned-again after t wn ww we wr wm m e l it = (
      ongoing p b w.within w.watch kept w.events (set w.most.items k left) ((s.front ++ s.top ∷ []) ++ t.level ∷ [])
          (calls + 1) after s.unpruned running (omega (arith, ap length same, s.few)) sized
          (λ u. uncut-set w.most.items k left (omega arith) (s.uncut (sym wr ∙ u))) (λ h. wr ∙ s.enters h)
          (λ h. followed-entered (came.Seen k) it (λ j x z. subst (λ us. slice_get us j ≡ Some x) (sym same) z) (set w.most.items k left) h
          ((k, left) ∷ (s.followed h).met) (greatest-more w.most.items (s.followed h).met (s.followed h).table k left m e l) t.level
          (λ all stay cut rest mid next z. meets-entered p all cut left k (s.followed h).met rest mid next t.level q (omega arith)
          (more-than w.most.items (s.followed h).met (s.followed h).table k left m e l) (stay k q at-kept)
          (t.its_actions q at-kept) t.its_pair t.its_left t.its_tried z)) wn ww we wm levels,
      subst (λ x. x < to_do b w) (sym (to-do-is b after w.within (set w.most.items k left)
          ((s.front ++ s.top ∷ []) ++ t.level ∷ []) wn wm levels))
          (less-enter (entries_left b w.within w.most.items) (entries_left b w.within (set w.most.items k left)) (suc w.within * 2 ^ 64)
          (level_height w.stack.items) (level_height ((s.front ++ s.top ∷ []) ++ t.level ∷ []))
          (entries-set b w.within left m w.most.items k e l (omega (arith, under.0, s.remaining)))
          (low p w.within (Reported w.watch kept w.events) kept (set w.most.items k left) ((s.front ++ s.top ∷ []) ++ t.level ∷ [])
          (calls + 1) running sized)),
      wn,
      ww,
    )
      where
        at-kept : slice_get kept k ≡ Some q
        at-kept = subst (λ us. slice_get us k ≡ Some q) (sym same) at-pair

        levels : after.stack.items ≡ (s.front ++ s.top ∷ []) ++ t.level ∷ []
        levels = t.is ∙ ap (λ us. us ++ t.level ∷ []) s.stack

        sized : AreSized ((s.front ++ s.top ∷ []) ++ t.level ∷ [])
        sized = sized-last (s.front ++ s.top ∷ []) t.level (subst AreSized s.stack s.sized) t.sized

        running : IsRunning pair_discrete (graph_of p) w.within (Reported w.watch kept w.events) kept (set w.most.items k left)
            ((s.front ++ s.top ∷ []) ++ t.level ∷ []) (calls + 1)
        running =
            subst (λ z. IsRunning pair_discrete (graph_of p) w.within (Reported w.watch kept w.events) z (set w.most.items k left)
            ((s.front ++ s.top ∷ []) ++ t.level ∷ []) (calls + 1)) (sym same)
            (subst (λ z. IsRunning pair_discrete (graph_of p) w.within (Reported w.watch kept w.events) s.old (set w.most.items k left)
            ((s.front ++ s.top ∷ []) ++ t.level ∷ []) z) (let z : suc calls ≡ calls + 1 = omega arith in z)
            (run.enters-again pair_discrete (graph_of p) w.within (pairs-lawful p) (Reported w.watch s.old s.before)
            (Reported w.watch kept w.events) s.old w.most.items s.front s.top calls s.action s.from s.running s.at_action s.at_node
            (told-kept same) q left leads s.remaining refused
            t.level k m at-pair e l t.its_pair t.its_left t.its_tried (pairs-actions p q t.level.actions
            (t.its_actions q (subst (λ z. slice_get z k ≡ Some q) (sym same) at-pair)))))

  -- ---- a pair that is kept now

  module _ (k : ℕ) (number : k ≡ length s.old) (q : Pair) (leads : unless_pruned (next_pair p s.from s.action) ≡ Some q)
      (new : Each (λ y. y ≢ q) s.old) (more : kept ≡ s.old ++ q ∷ []) where
    stay-more : StayPairs s.old kept
    stay-more j x h = subst (λ z. slice_get z j ≡ Some x) (sym more) (get-more s.old q j x h)

    told-more : ReportsOneMore s.from s.action (Reported w.watch s.old s.before) (Reported w.watch kept w.events)
    told-more = told-reports w.watch s.before w.events s.top s.old kept s.from s.action s.told s.at_action s.at_node stay-more

    pushed : (xs : List Pair) → slice_get (xs ++ q ∷ []) (length xs) ≡ Some q
    pushed [] = refl
    pushed (x ∷ xs) = pushed xs

    pub its-pair : slice_get kept k ≡ Some q
    its-pair = ap (λ z. slice_get z k) more ∙ (ap (slice_get (s.old ++ q ∷ [])) number ∙ pushed s.old)

    next-number : k ≡ length w.most.items
    next-number = number ∙ sym s.running.sized

    -- the search ends here
    stopped : arrival ≡ came.Fresh k → TellsInDepth p w.within w.watch kept true w.events
    stopped it h = subst (AreInDepth p w.within kept true) (sym (told-now (came.Fresh k) it h))
        (follow-stopped p w.within s.old kept w.most.items s.front s.top s.before (s.followed h) s.action s.at_action left s.remaining
        (event_of s.top.at s.action (came.Fresh k)) (event-is s.top.at s.action (came.Fresh k)) stay-more
        (λ all. stop-met p all left k (s.followed h).met))

    long : length kept ≡ k + 1
    long = omega (arith, ap length more, length-append s.old (q ∷ []), number)

    pub turned-last : (after : DepthFirst) → ((front : List Level) (c : Level) → w.stack.items ≡ front ++ c ∷ [] → after.stack.items ≡
        front ++ stepped c ∷ []) → after.within ≡ w.within → after.watch ≡ w.watch → after.events ≡ w.events
        → after.reenters ≡ true → after.most.items ≡ w.most.items ++ left ∷ [] → left ≡ 0 → k < b → (IsPairAccepted p q → ⊥) → arrival ≡
        came.Fresh k → Turned p b kept w after (calls + 1) None
    unfolding graph_of
    turned-last after st wn ww we wr wm z l refused it = passed after st wn ww we (s.old ++ q ∷ []) (w.most.items ++ left ∷ []) more wm
        (λ f. absurd (let u : false ≡ true = sym f ∙ wr in cc))
        (subst (λ z. IsRunning pair_discrete (graph_of p) w.within (Reported w.watch kept w.events) (s.old ++ q ∷ [])
        (w.most.items ++ left ∷ []) (s.front ++ stepped s.top ∷ []) z) (let z : suc calls ≡ calls + 1 = omega arith in z)
        (run.passes-fresh pair_discrete (graph_of p) w.within (pairs-lawful p) (Reported w.watch s.old s.before)
        (Reported w.watch kept w.events) s.old w.most.items s.front s.top calls s.action s.from s.running s.at_action s.at_node
        told-more q left leads s.remaining refused new z))
        (omega (arith, long, ap length more)) (omega (
          arith,
          entries-pushed b w.within left w.most.items
              (omega (arith, s.running.sized, number)),
        )) (λ h. wr)
        (λ h. followed-passed (came.Fresh k) it (s.old ++ q ∷ []) (λ j x y. get-more s.old q j x y) (w.most.items ++ left ∷ []) h
        ((k, left) ∷ (s.followed h).met) (greatest-first w.most.items (s.followed h).met (s.followed h).table k left next-number)
        (λ all cut rest. meets-last p all cut left k (s.followed h).met rest z))

    pub turned-entered : (after : DepthFirst) → IsEntered p kept k left w.stack.items after.stack.items → after.within ≡ w.within →
        after.watch ≡ w.watch → after.events ≡ w.events → after.reenters ≡ w.reenters → after.most.items ≡ w.most.items ++ left ∷ []
        → 0 < left → k < b → (IsPairAccepted p q → ⊥) → arrival ≡ came.Fresh k → Turned p b kept w after (calls + 1) None
    unfolding graph_of
    turned-entered after t wn ww we wr wm z l refused it = (
      ongoing p b w.within w.watch kept w.events (w.most.items ++ left ∷ []) ((s.front ++ s.top ∷ []) ++ t.level ∷ [])
          (calls + 1) after s.unpruned running (omega (arith, long)) sized
          (λ u. uncut-pushed w.most.items left z (s.uncut (sym wr ∙ u))) (λ h. wr ∙ s.enters h)
          (λ h. followed-entered (came.Fresh k) it stay-more (w.most.items ++ left ∷ []) h ((k, left) ∷ (s.followed h).met)
          (greatest-first w.most.items (s.followed h).met (s.followed h).table k left next-number) t.level
          (λ all stay cut rest mid next y. meets-entered p all cut left k (s.followed h).met rest mid next t.level q z
          (more-first w.most.items (s.followed h).met (s.followed h).table k left next-number) (stay k q its-pair)
          (t.its_actions q its-pair) t.its_pair t.its_left t.its_tried y)) wn ww we wm levels,
      subst (λ x. x < to_do b w) (sym (to-do-is b after w.within (w.most.items ++ left ∷ [])
          ((s.front ++ s.top ∷ []) ++ t.level ∷ []) wn wm levels))
          (less-enter (entries_left b w.within w.most.items) (entries_left b w.within (w.most.items ++ left ∷ [])) (suc w.within * 2 ^ 64)
          (level_height w.stack.items) (level_height ((s.front ++ s.top ∷ []) ++ t.level ∷ []))
          (entries-pushed b w.within left w.most.items (omega (arith, s.running.sized, number)))
          (low p w.within (Reported w.watch kept w.events) kept (w.most.items ++ left ∷ []) ((s.front ++ s.top ∷ []) ++ t.level ∷ [])
          (calls + 1) running sized)),
      wn,
      ww,
    )
      where
        levels : after.stack.items ≡ (s.front ++ s.top ∷ []) ++ t.level ∷ []
        levels = t.is ∙ ap (λ us. us ++ t.level ∷ []) s.stack

        sized : AreSized ((s.front ++ s.top ∷ []) ++ t.level ∷ [])
        sized = sized-last (s.front ++ s.top ∷ []) t.level (subst AreSized s.stack s.sized) t.sized

        running : IsRunning pair_discrete (graph_of p) w.within (Reported w.watch kept w.events) kept (w.most.items ++ left ∷ [])
            ((s.front ++ s.top ∷ []) ++ t.level ∷ []) (calls + 1)
        running =
            subst (λ z. IsRunning pair_discrete (graph_of p) w.within (Reported w.watch kept w.events) z (w.most.items ++ left ∷ [])
            ((s.front ++ s.top ∷ []) ++ t.level ∷ []) (calls + 1)) (sym more)
            (subst (λ z. IsRunning pair_discrete (graph_of p) w.within (Reported w.watch kept w.events) (s.old ++ q ∷ [])
            (w.most.items ++ left ∷ []) ((s.front ++ s.top ∷ []) ++ t.level ∷ []) z) (let z : suc calls ≡ calls + 1 = omega arith in z)
            (run.enters-fresh pair_discrete (graph_of p) w.within (pairs-lawful p) (Reported w.watch s.old s.before)
            (Reported w.watch kept w.events) s.old w.most.items s.front s.top calls s.action s.from s.running s.at_action s.at_node
            told-more q left leads s.remaining refused
            t.level new z (t.its_pair ∙ number) t.its_left t.its_tried (pairs-actions p q t.level.actions (t.its_actions q its-pair))))

    -- it is one too many
    pub judged-spent : b ≤ k → arrival ≡ came.Fresh k → IsDepthFirstOutcome p w.within b kept outcome.Spent ×
        AreFewCalls p w.within kept (calls + 1) × TellsInDepth p w.within w.watch kept true w.events
    unfolding graph_of
    judged-spent l it =
        let e : length s.old ≡ b = omega (arith, s.few, number) in
        let t = answers.next-spent p w.within s.unpruned (Reported w.watch s.old s.before) s.old w.most.items s.front s.top calls s.action
        s.from s.running s.at_action s.at_node q leads new in (
          led-spent p w.within b kept (subst (λ z. AreLed p w.within b z) (sym more)
              (subst (λ z. AreLed p w.within z (s.old ++ q ∷ [])) e t)) (omega (arith, long, number, e)),
          few-calls-more q more,
          stopped it,
        )

    -- it is accepted
    pub judged-plan : k < b → IsPairAccepted p q → (path : List Action) → path ≡ path_of w.stack.items → arrival ≡ came.Fresh k →
        IsDepthFirstOutcome p w.within b kept (outcome.Plan path) × AreFewCalls p w.within kept (calls + 1) ×
        (IsToldAlong p (Reported w.watch kept w.events) path × TellsInDepth p w.within w.watch kept true w.events)
    unfolding graph_of
    judged-plan l a path e it =
        let t = answers.next-plan p w.within s.unpruned (Reported w.watch s.old s.before) s.old w.most.items s.front s.top calls s.action
        s.from s.running s.at_action s.at_node q leads new a in (
          (
            subst (IsFirstSimplePlan p w.within) (sym (e ∙ path-is)) t,
            (k, q, long, its-pair, ap (pair_of p) (e ∙ path-is) ∙ led.1),
            omega (arith, long),
            near,
          ),
          few-calls-more q more,
          (
            subst (IsToldAlong p (Reported w.watch kept w.events)) (sym (e ∙ path-is))
                (answers.told-along p w.within s.unpruned (Reported w.watch kept w.events) s.old w.most.items s.front s.top calls s.action
                s.from reporting-now s.at_action s.at_node told-more.this led.0),
            stopped it,
          ),
        )
      where
        near : AreNear p w.within kept
        near =
            let t = answers.next-spent p w.within s.unpruned (Reported w.watch s.old s.before) s.old w.most.items s.front s.top calls
            s.action s.from s.running s.at_action s.at_node q leads new in
            subst (AreNear p w.within) (sym more) (led-near p w.within (length s.old) (s.old ++ q ∷ []) t)

        led : IsOpen p (path_of (s.front ++ s.top ∷ [])) × (pair_of p (path_of (s.front ++ s.top ∷ [])) ≡ Some q)
        led = answers.leads-next p w.within s.unpruned (Reported w.watch s.old s.before) s.old w.most.items s.front s.top calls s.action
            s.from s.running s.at_action s.at_node q leads new

        reporting-now : IsRunning pair_discrete (graph_of p) w.within (Reported w.watch kept w.events) s.old w.most.items
            (s.front ++ s.top ∷ []) calls
        reporting-now = record {
          differ = s.running.differ;
          sized = s.running.sized;
          placed = s.running.placed;
          searching = reporting (graph_of p) w.within (pairs-lawful p) (Reported w.watch s.old s.before) (Reported w.watch kept w.events)
              (met_in pair_discrete s.old w.most.items) (frames_of s.old (graph_of p).root (s.front ++ s.top ∷ []) []) told-more.others
              s.running.searching;
          counted = s.running.counted;
        }

-- ---- the top level tries its next action

pub as-arrival : {p q : PlainProblem} {b : ℕ} {kept more : List Pair} {w : DepthFirst} {x y : Arrival} {left calls : ℕ} → p ≡ q → kept ≡
    more → x ≡ y → IsArrived p b kept w x left calls → IsArrived q b more w y left calls
as-arrival {q = q} {b = b} {kept = kept} {more = more} {w = w} {x = x} {left = left} {calls = calls} e f h s =
    subst (λ z. IsArrived q b more w z left calls) h (subst (λ z. IsArrived q b z w x left calls) f
    (subst (λ z. IsArrived z b kept w x left calls) e s))

pub as-turned : (p q : PlainProblem) (b : ℕ) (kept more : List Pair) (old new : DepthFirst) (calls : ℕ) (o : Option Outcome) → p ≡ q →
    kept ≡ more → Turned p b kept old new calls o → Turned q b more old new calls o
as-turned p q b kept more old new calls o e f t = subst (λ z. Turned q b z old new calls o) f
    (subst (λ z. Turned z b kept old new calls o) e t)

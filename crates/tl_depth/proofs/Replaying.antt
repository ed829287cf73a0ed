-- What comes of the top level's next action is remembered, and replayed.
use Rattle.std.proofs.Common.{◌≡◌, ℕ, List, [], ◌∷◌, ◌++◌, Some, sym, ap, ◌∙◌, subst}
use Rattle.std.specs.List.{slice_get}
use Rattle.std.proofs.lemmas.List.{take-append-drop}
use Rattle.tl_syntax.specs.declared.action.Action.{Action}
use Rattle.tl_terms.specs.Pairs.{Pair}
use Rattle.tl_terms.specs.Problem.{PlainProblem}
use Rattle.tl_world.specs.declared.task.Task.{Task}
use Rattle.tl_search.specs.Calls.{AreNamedIn, ChildArrives}
use Rattle.tl_search.specs.KeptPairs.{KeptPair, pairs_of}
use Rattle.tl_search.specs.ListedActions.{ListsActions}
use Rattle.tl_search.specs.declared.arrival.Arrival.{Arrival}
use Rattle.tl_search.proofs.KeptLaws.{kept-pair}
use Rattle.tl_search.proofs.ListLaws.{get-one}
use Rattle.tl_depth.specs.ActionGraphs.{AreActionsOf}
use Rattle.tl_depth.specs.Expansions.{IsListed, CameOf, as_seen}
use Rattle.tl_depth.specs.Levels.{level_node, frame_of, frames_of}
use Rattle.tl_depth.specs.Ongoing.{IsOngoing, IsArrived}
use Rattle.tl_depth.specs.Outcomes.{Reported}
use Rattle.tl_depth.specs.PairGraph.{graph_of}
use Rattle.tl_terms.proofs.SamePairs.{pair_discrete}
use Rattle.tl_depth.specs.Search.{AreFrames}
use Rattle.tl_depth.specs.Tables.{met_in}
use Rattle.tl_depth.specs.declared.level.Level.{Level}
use Rattle.tl_depth.specs.declared.stack.DepthFirst.{DepthFirst}
use Rattle.tl_depth.proofs.Histories.{there}
use Rattle.tl_depth.proofs.LevelFacts.{get-index, frames-last}
use Rattle.tl_depth.proofs.PairWalks.{pairs-actions}
use Rattle.tl_depth.proofs.Remembering.{grows-by-arrival, arrives-again}
use Rattle.tl_depth.proofs.Trying.{top-placed}
use Rattle.tl_depth.proofs.Work.{actions-same}

-- a pair's list of executable actions is determined
pub lists-same : (p : PlainProblem) (x : Pair) (us vs : List Action) → ListsActions p x.world us → ListsActions p x.world vs → us ≡ vs
lists-same p x us vs h k = actions-same (graph_of p) x us vs (pairs-actions p x us h) (pairs-actions p x vs k)

-- the actions of the pair of the number, said of pairs alone
pub listed-pair : (p : PlainProblem) (task : Task) (kept : List KeptPair) (at : ℕ) (listed : List Action) → IsListed p task kept at listed →
    (x : Pair) → slice_get (pairs_of kept) at ≡ Some x → ListsActions p x.world listed
listed-pair p task kept at listed h x e = subst (λ (z : Pair). ListsActions p z.world listed)
    (get-one (pairs_of kept) at h.0.node x (kept-pair kept at h.0 h.1) e) h.2

module _ (p : PlainProblem) (b : ℕ) (kept : List KeptPair) (w : DepthFirst) (calls : ℕ) (s : IsOngoing p b (pairs_of kept) w calls)
    (front : List Level) (c : Level) (is : w.stack.items ≡ front ++ c ∷ []) where
  frames : AreFrames (graph_of p) w.within (Reported w.watch (pairs_of kept) w.events) (met_in pair_discrete (pairs_of kept) w.most.items)
      (frame_of (pairs_of kept) (graph_of p).root c ∷ frames_of (pairs_of kept) (graph_of p).root front [])
  frames = subst (AreFrames (graph_of p) w.within (Reported w.watch (pairs_of kept) w.events)
      (met_in pair_discrete (pairs_of kept) w.most.items)) (ap (λ us. frames_of (pairs_of kept) (graph_of p).root us []) is ∙
      frames-last (pairs_of kept) (graph_of p).root front c []) s.running.searching.frames

  -- the pair of the top level
  its-pair : (x : KeptPair) × (slice_get kept c.at ≡ Some x)
  its-pair = there kept c.at (top-placed p b (pairs_of kept) w calls s front c is)

  its-actions : (x : KeptPair) → slice_get kept c.at ≡ Some x → ListsActions p x.node.world c.actions
  unfolding graph_of
  its-actions x e = record { exact = all.all; rises = all.order }
    where
      all : AreActionsOf (graph_of p) x.node c.actions
      all = subst (λ y. AreActionsOf (graph_of p) y c.actions) (get-index (pairs_of kept) c.at x.node (graph_of p).root
          (kept-pair kept c.at x e))
          (subst (AreActionsOf (graph_of p) (level_node (pairs_of kept) (graph_of p).root c))
          (take-append-drop c.tried c.actions) frames.0.all)

  -- the top level's actions are its pair's
  pub top-listed : (task : Task) → AreNamedIn task c.actions → IsListed p task kept c.at c.actions
  top-listed task named = (its-pair.0, its-pair.1, its-actions its-pair.0 its-pair.1, named)

  module _ (a : Action) (at-action : slice_get c.actions c.tried ≡ Some a) (r : Arrival) where
    -- what is remembered arrives
    pub replayed : CameOf p kept c.at c.tried r → ChildArrives p kept kept c.at a r
    replayed h =
        let same : h.2 ≡ c.actions = lists-same p h.0.node h.2 c.actions h.3 (its-actions h.0 h.1) in
        let one : h.4 ≡ a = get-one c.actions c.tried h.4 a (subst (λ us. slice_get us c.tried ≡ Some h.4) same h.5) at-action in
        subst (λ u. ChildArrives p kept kept c.at u r) one h.6

    -- what arrived may be remembered
    pub came-of : (new : List KeptPair) → ChildArrives p kept new c.at a r → CameOf p new c.at c.tried (as_seen r)
    came-of new h = (
      its-pair.0,
      grows-by-arrival p kept new c.at its-pair.0 a r its-pair.1 h c.at its-pair.0 its-pair.1,
      c.actions,
      its-actions its-pair.0 its-pair.1,
      a,
      at-action,
      arrives-again p kept new c.at its-pair.0 a r its-pair.1 h,
    )

-- what is remembered besides changes nothing of an arrival
pub as-learnt : (p : PlainProblem) (b : ℕ) (kept : List Pair) (w v : DepthFirst) (r : Arrival) (left calls : ℕ) → v ≡
    record w { expansions = v.expansions } → IsArrived p b kept w r left calls → IsArrived p b kept v r left calls
as-learnt p b kept w v r left calls rest s = subst (λ u. IsArrived p b kept u r left calls) (sym rest) (record {
  old = s.old;
  before = s.before;
  front = s.front;
  top = s.top;
  action = s.action;
  from = s.from;
  stack = s.stack;
  at_action = s.at_action;
  at_node = s.at_node;
  remaining = s.remaining;
  unpruned = s.unpruned;
  running = s.running;
  event = s.event;
  told = s.told;
  arrives = s.arrives;
  few = s.few;
  sized = s.sized;
  uncut = s.uncut;
  enters = s.enters;
  followed = s.followed;
})

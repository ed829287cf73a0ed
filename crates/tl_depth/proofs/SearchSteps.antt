-- What is true at every moment of the search stays true in each of its steps.
use Rattle.std.proofs.Common.{◌≡◌, ◌≤◌, ◌+◌, ℕ, suc, List, [], ◌∷◌, ◌++◌, length, Some, Less, sym, ap, ◌∙◌, subst, inl, inr, append_assoc}
use Rattle.std.proofs.Common.{length-append, arith}
use Rattle.tl_syntax.specs.declared.action.Action.{Action}
use Rattle.tl_syntax.specs.Lists.{AtLeastOne}
use Rattle.tl_terms.specs.Orders.{plan_cmp}
use Rattle.tl_depth.specs.ActionGraphs.{ActionGraph, IsLawful, AreActionsOf, walked, node_after, IsSimpleGoalWalk, IsLeadingWalk}
use Rattle.tl_depth.specs.Search.{Memory, Reports, Frame, at_hand, gone, advanced, IsCovered, IsFruitless, IsDone, IsUnderWay, AreFrames}
use Rattle.tl_depth.specs.Search.{IsOnStack, IsDepthFirst}
use Rattle.tl_depth.proofs.ListFacts.{each_at, each_map, each_last, append_end, front_short}
use Rattle.tl_depth.proofs.WalkLaws.{walk-by, walk-last, simple-last, goes-by}
use Rattle.tl_depth.proofs.Exploring.{explored-kept, met-explored}
use Rattle.tl_depth.proofs.StackLaws.{stack-fronts, stack-nodes, stack-simple, first-on, stack-first, reach}

module _ {Node : Type 0} (g : ActionGraph Node) (n : ℕ) (lawful : IsLawful g) where
  -- ---- the walk to the next action's node

  module _ (reported : Reports Node) (met : Memory Node) where
    -- no simple walk to an accepted node comes before the stack's walk with the next action
    pub first-next : (f : Frame Node) (below : List (Frame Node)) (a : Action) (later : List Action) →
        IsDepthFirst g n reported met (f ∷ below) → f.rest ≡ a ∷ later
        → (other : List Action) → IsSimpleGoalWalk g n other → plan_cmp other (gone below ++ a ∷ []) ≡ Less → ⊥
    first-next f below a later s r other w =
        first-on g n reported met lawful (gone below) f a later s.frames.0 (s.kept f.node f.left s.frames.0.most).refused r other w
        (stack-first g n reported met lawful f below s.frames (λ x m e. (s.kept x m e).refused) other w)

    -- the stack's walk is leading
    pub leading-here : (f : Frame Node) (below : List (Frame Node)) → IsDepthFirst g n reported met (f ∷ below) →
        IsLeadingWalk g n (gone below)
    leading-here f below s = record {
      short = omega (arith, s.frames.0.budget);
      simple = stack-simple g n reported met f below s.frames;
      first = λ other w. stack-first g n reported met lawful f below s.frames (λ x m e. (s.kept x m e).refused) other w;
    }

    not-there : (front : List Action) (q : Node) (stack : List (Frame Node)) → (IsOnStack stack q → ⊥) → node_after g front ≡ Some q →
        AtLeastOne (λ h. node_after g front ≡ Some h.node) stack → ⊥
    not-there front q [] off e o = o
    not-there front q (h ∷ stack) off e o = elim o [
      | inl p ↦ off (inl (let d : Some h.node ≡ Some q = sym p ∙ e in let c : h.node ≡ q = cc in c))
      | inr m ↦ not-there front q stack (λ k. off (inr k)) e m
    ]

    -- and so is the walk to a node that is not on the stack
    pub leading-next : (f : Frame Node) (below : List (Frame Node)) (a : Action) (later : List Action) (q : Node) →
        IsDepthFirst g n reported met (f ∷ below) → f.rest ≡ a ∷ later → g.next f.node a ≡ Some q
        → (IsOnStack (f ∷ below) q → ⊥) → IsLeadingWalk g n (gone below ++ a ∷ [])
    leading-next f below a later q s r e off = record {
      short = omega (arith, length-append (gone below) (a ∷ []), s.frames.0.budget, s.frames.0.some);
      simple = simple-last g (gone below) a q (stack-simple g n reported met f below s.frames)
          (walk-last g (gone below) a f.node s.frames.0.ends ∙ e)
          (λ front rest p d. not-there front q (f ∷ below) off d (stack-fronts g n reported met f below s.frames front rest p));
      first = first-next f below a later s r;
    }

    -- ---- an action that is done with

    -- where the action's node is explored deep enough, no simple walk to an accepted node goes by it
    pub fruitless : (f : Frame Node) (below : List (Frame Node)) (a : Action) → IsDepthFirst g n reported met (f ∷ below) →
        IsCovered g met f.node f.left a → IsFruitless g n (gone below) a
    fruitless f below a s c rest w = by_next (goes-by g f.node w.reaches.last a rest
        (sym (walk-by g (gone below) rest a f.node s.frames.0.ends) ∙ w.reaches.ends))
      where
        long : length (gone below ++ a ∷ rest) ≡ length (gone below) + suc (length rest)
        long = length-append (gone below) (a ∷ rest)

        off : (z : Node) → g.next f.node a ≡ Some z → (front left : List Action) (u : Node) → front ++ left ≡ rest →
            walked g (Some z) front ≡ Some u → IsOnStack (f ∷ below) u → ⊥
        off z e front left u p q o = at (stack-nodes g n reported met f below s.frames u o)
          where
            there : node_after g (gone below ++ a ∷ front) ≡ Some u
            there = walk-by g (gone below) front a f.node s.frames.0.ends ∙ (ap (λ v. walked g v front) e ∙ q)

            at : ((early : List Action) × (more : List Action) × (early ++ more ≡ gone below) × (node_after g early ≡ Some u)) → ⊥
            at v =
                let same : v.0 ≡ gone below ++ a ∷ front =
                w.simple.differ v.0 (v.1 ++ a ∷ rest) (gone below ++ a ∷ front) left
                (sym (append_assoc v.0 v.1 (a ∷ rest)) ∙ ap (λ us. us ++ a ∷ rest) v.2)
                (append_assoc (gone below) (a ∷ front) left ∙ ap (λ us. gone below ++ a ∷ us) p)
                (v.3 ∙ sym there) in
                let short : length v.0 ≤ length (gone below) = front_short v.0 v.1 (gone below) v.2 in
                let same_length : length v.0 ≡ length (gone below ++ a ∷ front) = ap length same in
                let more : length (gone below ++ a ∷ front) ≡ length (gone below) + suc (length front) =
                length-append (gone below) (a ∷ front) in
                omega arith

        by_next : ((z : Node) × (g.next f.node a ≡ Some z) × (walked g (Some z) rest ≡ Some w.reaches.last)) → ⊥
        by_next v =
            let deep = c v.0 v.1 (length rest) (omega (arith, long, s.frames.0.budget, w.reaches.short)) in
            let d = reach g n reported met lawful (f ∷ below) s.done rest (length rest) v.0 w.reaches.last deep (omega arith) v.2
            (off v.0 v.1) in
            let k = explored-kept g met d.0 w.reaches.last d.2 in
            (s.kept w.reaches.last k.0 k.1).refused w.reaches.accepted

    -- the top frame is done with its next action
    pub advance : (f : Frame Node) (below : List (Frame Node)) (a : Action) (later : List Action) →
        IsDepthFirst g n reported met (f ∷ below) → f.rest ≡ a ∷ later → IsCovered g met f.node f.left a → reported f.node a
        → IsDepthFirst g n reported met (advanced f a later ∷ below)
    advance f below a later s r c t = record {
      frames = (
        record {
          ends = s.frames.0.ends;
          budget = s.frames.0.budget;
          some = s.frames.0.some;
          all = subst (AreActionsOf g f.node) (ap (λ us. f.tried ++ us) r ∙ sym (append_assoc f.tried (a ∷ []) later)) s.frames.0.all;
          most = s.frames.0.most;
          covered = each_last (IsCovered g met f.node f.left) f.tried a s.frames.0.covered c;
          fruitless = each_last (IsFruitless g n (gone below)) f.tried a s.frames.0.fruitless (fruitless f below a s c);
          told = each_last (reported f.node) f.tried a s.frames.0.told t;
        },
        s.frames.1,
        s.frames.2,
        s.frames.3,
      );
      kept = s.kept;
      done = s.done;
      begun = s.begun;
    }

    -- ---- a frame that is done with

    -- the node of the top frame is done with
    pub leave : (f : Frame Node) (below : List (Frame Node)) → IsDepthFirst g n reported met (f ∷ below) → f.rest ≡ [] →
        IsDepthFirst g n reported met below
    leave f below s r = record {
      frames = s.frames.3;
      kept = s.kept;
      done = λ x m e p. elim (s.done x m e p) [
        | inl o ↦ elim o [
          | inl i ↦ inr (this x m i e)
          | inr k ↦ inl k
        ]
        | inr c ↦ inr c
      ];
      begun = s.begun;
    }
      where
        tried : AreActionsOf g f.node f.tried
        tried = subst (AreActionsOf g f.node) (ap (λ us. f.tried ++ us) r ∙ append_end f.tried) s.frames.0.all

        own : IsDone g reported met f.node f.left
        own a t = let there = (tried.all a).1 t in (
          each_at (IsCovered g met f.node f.left) a f.tried there s.frames.0.covered,
          each_at (reported f.node) a f.tried there s.frames.0.told,
        )

        this : (x : Node) (m : ℕ) → f.node ≡ x → met x ≡ Some m → IsDone g reported met x m
        this x m i e =
            let d : Some f.left ≡ Some m = sym s.frames.0.most ∙ (ap met i ∙ e) in
            let l : f.left ≡ m = cc in
            subst (λ y. IsDone g reported met y m) i (subst (IsDone g reported met f.node) l own)

    -- and the frame below goes on
    pub climb : (f h : Frame Node) (below : List (Frame Node)) (a : Action) (later : List Action) →
        IsDepthFirst g n reported met (f ∷ h ∷ below) → f.rest ≡ [] → h.rest ≡ a ∷ later
        → IsDepthFirst g n reported met (advanced h a later ∷ below)
    climb f h below a later s r q = advance h below a later (leave f (h ∷ below) s r) q covered told
      where
        under : IsUnderWay reported h
        under = s.frames.2.0

        same : under.action ≡ a
        same = let e : under.action ∷ under.later ≡ a ∷ later = sym under.is ∙ q in cc

        way : gone (h ∷ below) ≡ gone below ++ a ∷ []
        way = ap (λ us. gone below ++ at_hand us) q

        leads : g.next h.node a ≡ Some f.node
        leads = sym (walk-last g (gone below) a h.node s.frames.3.0.ends) ∙ (ap (node_after g) (sym way) ∙ s.frames.0.ends)

        covered : IsCovered g met h.node h.left a
        covered y e l b =
            let i : Some f.node ≡ Some y = sym leads ∙ e in
            let j : f.node ≡ y = cc in
            let longer : length (gone (h ∷ below)) ≡ length (gone below) + 1 = ap length way ∙ length-append (gone below) (a ∷ []) in
            met-explored g met l y f.left (ap met (sym j) ∙ s.frames.0.most) (omega (arith, s.frames.0.budget, s.frames.3.0.budget))

        told : reported h.node a
        told = subst (reported h.node) same under.told

  -- ---- what is reported grows

  report : (before after : Reports Node) (met : Memory Node) (stack : List (Frame Node)) →
      ((x : Node) (a : Action) → before x a → after x a) → AreFrames g n before met stack → AreFrames g n after met stack
  report before after met [] more s = tt
  report before after met (f ∷ below) more s = (
    record {
      ends = s.0.ends;
      budget = s.0.budget;
      some = s.0.some;
      all = s.0.all;
      most = s.0.most;
      covered = s.0.covered;
      fruitless =
          s.0.fruitless;
      told = each_map (more f.node) f.tried s.0.told;
    },
    s.1,
    each_map (λ h u. record { action = u.action; later = u.later; is = u.is; told = more h.node u.action u.told }) below s.2,
    report before after met below more s.3,
  )

  pub reporting : (before after : Reports Node) (met : Memory Node) (stack : List (Frame Node)) →
      ((x : Node) (a : Action) → before x a → after x a) → IsDepthFirst g n before met stack → IsDepthFirst g n after met stack
  reporting before after met stack more s = record {
    frames = report before after met stack more s.frames;
    kept = s.kept;
    done = λ x m e p. elim (s.done x m e p) [ inl o ↦ inl o | inr c ↦ inr (λ a t. ((c a t).0, more x a (c a t).1)) ];
    begun = s.begun;
  }

-- What the frames of a stack say of its walk.
use Rattle.std.proofs.Common.{◌≡◌, ◌≢◌, ◌≤◌, ◌<◌, ◌+◌, ◌⊎◌, ℕ, zero, suc, List, [], ◌∷◌, ◌++◌, length, Some, Less, refl, sym, ap, ◌∙◌}
use Rattle.std.proofs.Common.{subst, inl, inr, append_assoc, arith}
use Rattle.tl_syntax.specs.declared.action.Action.{Action}
use Rattle.tl_syntax.specs.Lists.{Each, AtLeastOne}
use Rattle.tl_terms.specs.Orders.{plan_cmp}
use Rattle.tl_depth.specs.ActionGraphs.{ActionGraph, IsLawful, AreActionsOf, walked, node_after, IsSimpleWalk, IsSimpleGoalWalk}
use Rattle.tl_depth.specs.Search.{Memory, Reports, Frame, at_hand, gone, IsExplored, IsFruitless, IsDone, IsFrame, IsUnderWay, AreFrames}
use Rattle.tl_depth.specs.Search.{IsOnStack}
use Rattle.tl_depth.proofs.ListFacts.{split_last, each_at}
use Rattle.tl_depth.proofs.WalkLaws.{walk-by, walk-nothing, walk-first, simple-last, simple-empty, goes-by}
use Rattle.tl_depth.proofs.OrderFacts.{none-before, BranchesBefore, before-last, before-in}

module _ {Node : Type 0} (g : ActionGraph Node) (n : ℕ) (reported : Reports Node) (met : Memory Node) where
  pub gone-under : (h : Frame Node) (below : List (Frame Node)) (u : IsUnderWay reported h) → gone (h ∷ below) ≡ gone below ++ u.action ∷ []
  gone-under h below u = ap (λ r. gone below ++ at_hand r) u.is

  -- each front of the stack's walk leads to the node of a frame
  pub stack-fronts : (f : Frame Node) (below : List (Frame Node)) → AreFrames g n reported met (f ∷ below) → (front rest : List Action) →
      front ++ rest ≡ gone below → AtLeastOne (λ h. node_after g front ≡ Some h.node) (f ∷ below)
  stack-fronts f [] s front rest e = inl (ap (node_after g) (nothing front e) ∙ s.0.ends)
    where
      nothing : (us : List Action) → us ++ rest ≡ [] → us ≡ []
      nothing [] q = refl
      nothing (u ∷ us) q = cc
  stack-fronts f (h ∷ below) s front rest e = elim (split_last front rest (gone below) s.2.0.action (e ∙ gone-under h below s.2.0)) [
    | inl whole ↦ inl (ap (node_after g) (whole ∙ sym (gone-under h below s.2.0)) ∙ s.0.ends)
    | inr w ↦ inr (stack-fronts h below s.3 front w.0 w.1)
  ]

  -- a node on the stack is led to by a front of the stack's walk
  pub stack-nodes : (f : Frame Node) (below : List (Frame Node)) → AreFrames g n reported met (f ∷ below) → (x : Node) →
      IsOnStack (f ∷ below) x → (front : List Action) × (rest : List Action) × (front ++ rest ≡ gone below) × (node_after g front ≡ Some x)
  stack-nodes f [] s x o = elim o [ inl e ↦ ([], [], refl, s.0.ends ∙ ap Some e) | inr b ↦ absurd b ]
  stack-nodes f (h ∷ below) s x o = elim o [
    | inl e ↦ (gone (h ∷ below), [], append_nil (gone (h ∷ below)), s.0.ends ∙ ap Some e)
    | inr m ↦ more (stack-nodes h below s.3 x m)
  ]
    where
      append_nil : (us : List Action) → us ++ [] ≡ us
      append_nil [] = refl
      append_nil (u ∷ us) = ap (λ vs. u ∷ vs) (append_nil us)

      more : ((front : List Action) × (rest : List Action) × (front ++ rest ≡ gone below) × (node_after g front ≡ Some x)) →
          (front : List Action) × (rest : List Action) × (front ++ rest ≡ gone (h ∷ below)) × (node_after g front ≡ Some x)
      more w = (w.0, w.1 ++ at_hand h.rest, sym (append_assoc w.0 w.1 (at_hand h.rest)) ∙ ap (λ us. us ++ at_hand h.rest) w.2, w.3)

  off-node : (x : Node) (below : List (Frame Node)) → Each (λ h. h.node ≢ x) below → AtLeastOne (λ h. Some x ≡ Some h.node) below → ⊥
  off-node x [] d o = o
  off-node x (h ∷ below) d o = elim o [ inl e ↦ d.0 (let q : h.node ≡ x = cc in q) | inr m ↦ off-node x below d.1 m ]

  one-path : (front : List Action) (x : Node) (below : List (Frame Node)) → node_after g front ≡ Some x →
      AtLeastOne (λ h. node_after g front ≡ Some h.node) below → AtLeastOne (λ h. Some x ≡ Some h.node) below
  one-path front x [] e o = o
  one-path front x (h ∷ below) e o = elim o [ inl q ↦ inl (sym e ∙ q) | inr m ↦ inr (one-path front x below e m) ]

  -- the stack's walk is simple
  pub stack-simple : (f : Frame Node) (below : List (Frame Node)) → AreFrames g n reported met (f ∷ below) → IsSimpleWalk g (gone below)
  stack-simple f [] s = simple-empty g
  stack-simple f (h ∷ below) s =
      subst (IsSimpleWalk g) (sym (gone-under h below s.2.0))
      (simple-last g (gone below) s.2.0.action f.node (stack-simple h below s.3)
      (ap (node_after g) (sym (gone-under h below s.2.0)) ∙ s.0.ends)
      (λ front rest p q. off-node f.node (h ∷ below) s.1 (one-path front f.node (h ∷ below) q (stack-fronts h below s.3 front rest p))))

  module _ (lawful : IsLawful g) where
    -- where no simple walk to an accepted node comes before a frame's path, none comes before the path with the frame's next action
    pub first-on : (path : List Action) (f : Frame Node) (a : Action) (later : List Action) → IsFrame g n reported met path f →
        (g.Accepts f.node → ⊥) → f.rest ≡ a ∷ later
        → (other : List Action) → IsSimpleGoalWalk g n other → (plan_cmp other path ≡ Less → ⊥) → plan_cmp other (path ++ a ∷ []) ≡ Less → ⊥
    first-on path f a later s refused r other w before l = elim (before-last path other a l) [
      | inl h ↦ before h
      | inr k ↦ elim k [
        | inl e ↦ refused (subst (λ x. g.Accepts x) (let q : Some w.reaches.last ≡ Some f.node = sym w.reaches.ends ∙
            (ap (node_after g) e ∙ s.ends) in let p : w.reaches.last ≡ f.node = cc in p) w.reaches.accepted)
        | inr b ↦ branch b (goes-by g f.node w.reaches.last b.action b.rest
            (sym (walk-by g path b.rest b.action f.node s.ends) ∙ (ap (node_after g) (sym b.is) ∙ w.reaches.ends)))
      ]
    ]
      where
        branch : (b : BranchesBefore path a other) → ((z : Node) × (g.next f.node b.action ≡ Some z) ×
            (walked g (Some z) b.rest ≡ Some w.reaches.last)) → ⊥
        branch b v =
            let all : AreActionsOf g f.node (f.tried ++ a ∷ later) = subst (λ us. AreActionsOf g f.node (f.tried ++ us)) r s.all in
            let there = before-in f.tried later a b.action all.order b.before
            ((all.all b.action).1 (lawful.executes f.node v.0 b.action v.1)) in
            each_at (IsFruitless g n path) b.action f.tried there s.fruitless b.rest (subst (IsSimpleGoalWalk g n) b.is w)

    -- no simple walk to an accepted node comes before the stack's walk
    pub stack-first : (f : Frame Node) (below : List (Frame Node)) → AreFrames g n reported met (f ∷ below) →
        ((x : Node) (m : ℕ) → met x ≡ Some m → g.Accepts x → ⊥)
        → (other : List Action) → IsSimpleGoalWalk g n other → plan_cmp other (gone below) ≡ Less → ⊥
    stack-first f [] s refused other w l = none-before other l
    stack-first f (h ∷ below) s refused other w l =
        first-on (gone below) h s.2.0.action s.2.0.later s.3.0 (refused h.node h.left s.3.0.most) s.2.0.is other w
        (stack-first h below s.3 refused other w)
        (subst (λ path. plan_cmp other path ≡ Less) (gone-under h below s.2.0) l)

    -- what is done with, off the stack, is explored as deep as it was met, and so by each of its actions to one less
    explored-next : (stack : List (Frame Node)) → ((x : Node) (m : ℕ) → met x ≡ Some m → 0 < m → IsOnStack stack x ⊎
        IsDone g reported met x m)
        → (l : ℕ) (x z : Node) (a : Action) → IsExplored g met (suc l) x → (IsOnStack stack x → ⊥) → g.next x a ≡ Some z →
        IsExplored g met l z
    unfolding IsExplored
    explored-next stack done l x z a e off n = elim e.2 [
      | inl h ↦ elim (done x e.0 e.1 (omega (arith, h))) [
        | inl o ↦ absurd (off o)
        | inr c ↦ (c a (lawful.executes x z a n)).0 z n l (omega (arith, h))
      ]
      | inr h ↦ h.1 a z n
    ]

    -- where a node is explored to a depth, a walk of at most so many actions that stays off the stack leads to a node that is explored to
    -- what is left of the depth
    pub reach : (stack : List (Frame Node)) → ((x : Node) (m : ℕ) → met x ≡ Some m → 0 < m → IsOnStack stack x ⊎ IsDone g reported met x m)
        → (path : List Action) (l : ℕ) (x y : Node) → IsExplored g met l x → length path ≤ l → walked g (Some x) path ≡ Some y
        → ((front rest : List Action) (z : Node) → front ++ rest ≡ path → walked g (Some x) front ≡ Some z → IsOnStack stack z → ⊥)
        → (j : ℕ) × (l ≡ j + length path) × IsExplored g met j y
    reach stack done [] l x y e b w off = (
      l,
      omega arith,
      subst (IsExplored g met l)
          (let q : Some x ≡ Some y = sym (walk-nothing g (Some x)) ∙ w in let p : x ≡ y = cc in p) e,
    )
    reach stack done (a ∷ path) zero x y e b w off = absurd (omega arith)
    reach stack done (a ∷ path) (suc l) x y e b w off =
        let v = goes-by g x y a path (sym (walk-first g x a path) ∙ w) in
        let next = explored-next stack done l x v.0 a e (λ o. off [] (a ∷ path) x refl (walk-nothing g (Some x)) o) v.1 in
        let d = reach stack done path l v.0 y next (omega arith) v.2 (λ front rest z f t o.
        off (a ∷ front) rest z (ap (λ us. a ∷ us) f) (walk-first g x a front ∙ (ap (λ u. walked g u front) v.1 ∙ t)) o) in
        (d.0, omega (arith, d.1), d.2)

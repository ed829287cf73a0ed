-- How often the search asks for a child.
use Rattle.std.proofs.Common.{◌≡◌, ◌≤◌, ◌<◌, ◌+◌, ◌*◌, ℕ, zero, suc, List, [], ◌∷◌, ◌++◌, length, set, Some, Less, Equal, refl, sym, ap}
use Rattle.std.proofs.Common.{◌∙◌, subst, inl, inr, arith, mul-le-mul_right}
use native.Mathlib.Decide.{dec_lt}
use Rattle.std.specs.List.{slice_get}
use Rattle.std.specs.Cmp.{tied_itself}
use Rattle.tl_syntax.specs.declared.action.Action.{Action}
use Rattle.tl_syntax.specs.Lists.{Among, Rises}
use Rattle.tl_terms.specs.Orders.{action_cmp}
use Rattle.tl_terms.proofs.OrderLaws.{actions-total}
use Rattle.tl_depth.specs.ActionGraphs.{ActionGraph, AreActionsOf}
use Rattle.tl_depth.specs.Search.{Reports, Frame, advanced, entered, IsDepthFirst}
use Rattle.tl_depth.specs.Tables.{met_in, AllDiffer, IsWork, IsNearNode, IsNearSum, IsCounted}
use Rattle.tl_depth.proofs.ListFacts.{each_at}
use Rattle.tl_depth.proofs.Tables.{met_in-at}

-- ---- rising actions are determined by which they are

not-before-itself : (a : Action) → action_cmp a a ≡ Less → ⊥
not-before-itself a e = let i : action_cmp a a ≡ Equal = tied_itself actions-total.total a in cc

first-same : (a b : Action) (as' bs : List Action) → Rises action_cmp (a ∷ as') → Rises action_cmp (b ∷ bs) → Among a (b ∷ bs) →
    Among b (a ∷ as') → a ≡ b
first-same a b as' bs r q h k = elim h [
  | inl e ↦ sym e
  | inr m ↦ elim k [
    | inl e ↦ e
    | inr l ↦ absurd (not-before-itself a (actions-total.total.trans a b a (each_at (λ c. action_cmp a c ≡ Less) b as' l r.0)
        (each_at (λ c. action_cmp b c ≡ Less) a bs m q.0)))
  ]
]

rest-among : (a : Action) (us vs : List Action) → Rises action_cmp (a ∷ us) → ((c : Action) → Among c (a ∷ us) → Among c (a ∷ vs)) →
    (c : Action) → Among c us → Among c vs
rest-among a us vs r more c h = elim (more c (inr h)) [
  | inl e ↦ absurd (not-before-itself a (subst (λ d. action_cmp a d ≡ Less) (sym e) (each_at (λ d. action_cmp a d ≡ Less) c us h r.0)))
  | inr k ↦ k
]

pub rising-same : (us vs : List Action) → Rises action_cmp us → Rises action_cmp vs → ((c : Action) → Among c us → Among c vs) →
    ((c : Action) → Among c vs → Among c us) → us ≡ vs
rising-same [] [] r q m n = refl
rising-same [] (v ∷ vs) r q m n = absurd (n v (inl refl))
rising-same (u ∷ us) [] r q m n = absurd (m u (inl refl))
rising-same (u ∷ us) (v ∷ vs) r q m n =
    let e : u ≡ v = first-same u v us vs r q (m u (inl refl)) (n v (inl refl)) in
    let m' : (c : Action) → Among c (v ∷ us) → Among c (v ∷ vs) = λ c h. m c (subst (λ w. Among c (w ∷ us)) (sym e) h) in
    let r' : Rises action_cmp (v ∷ us) = subst (λ w. Rises action_cmp (w ∷ us)) e r in
    let n' : (c : Action) → Among c (v ∷ vs) → Among c (v ∷ us) = λ c h. subst (λ w. Among c (w ∷ us)) e (n c h) in
    let t : us ≡ vs = rising-same us vs r.1 q.1 (rest-among v us vs r' m') (rest-among v vs us q n') in
    cc (e, t)

module _ {Node : Type 0} (g : ActionGraph Node) where
  -- a node's list of executable actions is determined
  pub actions-same : (x : Node) (us vs : List Action) → AreActionsOf g x us → AreActionsOf g x vs → us ≡ vs
  actions-same x us vs r q = rising-same us vs r.order q.order (λ c h. (q.all c).1 ((r.all c).0 h)) (λ c h. (r.all c).1 ((q.all c).0 h))

  pub work-pushed : (kept : List Node) (most : List ℕ) (t : ℕ) (q : Node) (r : ℕ) (actions : List Action) → length most ≡ length kept →
      IsWork g kept most t → (0 < r → AreActionsOf g q actions) → IsWork g (kept ++ q ∷ []) (most ++ r ∷ []) (t + r * length actions)
  unfolding IsWork
  work-pushed [] [] t q r actions l w a = (actions, 0, a, omega (arith, w), refl)
  work-pushed [] (m ∷ most) t q r actions l w a = absurd (omega arith)
  work-pushed (x ∷ kept) [] t q r actions l w a = absurd w
  work-pushed (x ∷ kept) (m ∷ most) t q r actions l w a = (
    w.0,
    w.1 + r * length actions,
    w.2,
    omega (arith, w.3),
    work-pushed kept most w.1 q r actions (omega arith) w.4 a,
  )

  more-work : (m r c : ℕ) → m < r → m * c + c ≤ r * c
  more-work m r c l = let k : suc m * c ≤ r * c = mul-le-mul_right c l in omega (arith, k)

  pub work-set : (kept : List Node) (most : List ℕ) (t : ℕ) (k : ℕ) (q : Node) (m r : ℕ) (actions : List Action) → IsWork g kept most t →
      slice_get kept k ≡ Some q → slice_get most k ≡ Some m → m < r → AreActionsOf g q actions
      → (u : ℕ) × IsWork g kept (set most k r) u × (t + length actions ≤ u)
  unfolding IsWork
  work-set [] most t k q m r actions w e f l a = cc
  work-set (x ∷ kept) [] t k q m r actions w e f l a = absurd w
  work-set (x ∷ kept) (p ∷ most) t zero q m r actions w e f l a =
      let i : x ≡ q = cc in
      let j : p ≡ m = cc in (
        r * length actions + w.1,
        (actions, w.1, λ z. subst (λ y. AreActionsOf g y actions) (sym i) a, refl, w.4),
        elim (dec_lt 0 p) [
          | yes z ↦ (let s : w.0 ≡ actions = actions-same x w.0 actions (w.2 z) (subst (λ y. AreActionsOf g y actions) (sym i) a) in
              let c : p * length w.0 ≡ m * length actions = ap (λ y. y * length w.0) j ∙ ap (λ us. m * length us) s in
              omega (arith, w.3, c, more-work m r (length actions) l))
          | no z ↦ (let c : p * length w.0 ≡ 0 * length w.0 = ap (λ y. y * length w.0) (let o : p ≡ 0 = omega arith in o) in
              let b : 1 * length actions ≤ r * length actions = mul-le-mul_right (length actions) (let o : 1 ≤ r = omega arith in o) in
              omega (arith, w.3, c, b))
        ],
      )
  work-set (x ∷ kept) (p ∷ most) t (suc k) q m r actions w e f l a =
      let d = work-set kept most w.1 k q m r actions w.4 e f l a in
      (p * length w.0 + d.0, (w.0, d.0, w.2, refl, d.1), omega (arith, w.3, d.2))

  -- the actions of a kept node that was met with some remaining action
  work-actions : (kept : List Node) (most : List ℕ) (t : ℕ) (k : ℕ) (q : Node) (m : ℕ) → IsWork g kept most t → slice_get kept k ≡ Some q →
      slice_get most k ≡ Some m → 0 < m → (actions : List Action) × AreActionsOf g q actions
  unfolding IsWork
  work-actions [] most t k q m w e f p = cc
  work-actions (x ∷ kept) [] t k q m w e f p = absurd w
  work-actions (x ∷ kept) (l ∷ most) t zero q m w e f p =
      let i : x ≡ q = cc in
      let j : l ≡ m = cc in
      (w.0, subst (λ y. AreActionsOf g y w.0) i (w.2 (omega (arith, j))))
  work-actions (x ∷ kept) (l ∷ most) t (suc k) q m w e f p = work-actions kept most w.1 k q m w.4 e f p

  -- the work is at most n times the number of executable actions of nodes that are near
  pub work-near : (n : ℕ) (kept : List Node) (most : List ℕ) (t : ℕ) → IsWork g kept most t →
      ((k : ℕ) (x : Node) (m : ℕ) → slice_get kept k ≡ Some x → slice_get most k ≡ Some m → 0 < m → (m ≤ n) × IsNearNode g n x)
      → (s : ℕ) × IsNearSum g n kept s × (t ≤ n * s)
  unfolding IsWork IsNearSum
  work-near n [] most t w near = (0, refl, omega (arith, w))
  work-near n (x ∷ kept) [] t w near = absurd w
  work-near n (x ∷ kept) (m ∷ most) t w near = go (work-near n kept most w.1 w.4 (λ k y l e f p. near (suc k) y l e f p)) (dec_lt 0 m)
    where
      go : ((s : ℕ) × IsNearSum g n kept s × (w.1 ≤ n * s)) → Dec (0 < m) → (s : ℕ) × IsNearSum g n (x ∷ kept) s × (t ≤ n * s)
      go d (yes z) =
          let a = near 0 x m refl refl z in
          let b : m * length w.0 ≤ n * length w.0 = mul-le-mul_right (length w.0) a.0 in
          (length w.0 + d.0, inr (w.0, d.0, a.1, w.2 z, refl, d.1), omega (arith, w.3, b, d.2))
      go d (no z) =
          let c : m * length w.0 ≡ 0 * length w.0 = ap (λ y. y * length w.0) (let o : m ≡ 0 = omega arith in o) in
          (d.0, inl d.1, omega (arith, w.3, c, d.2))

  -- ---- each step of the search

  pub count-begun : (x : Node) (n : ℕ) (actions : List Action) → 0 < n → AreActionsOf g x actions →
      IsCounted g (x ∷ []) (n ∷ []) (entered x n actions ∷ []) 0
  unfolding IsWork
  count-begun x n actions z a = record {
    total = n * length actions;
    work = (actions, 0, λ p. a, omega arith, refl);
    enough = let b : 1 * length actions ≤ n * length actions = mul-le-mul_right (length actions) (let o : 1 ≤ n = omega arith in o) in
        omega (arith, b);
  }

  -- with no action to take there is no work
  pub count-begun-last : (x : Node) → IsCounted g (x ∷ []) (0 ∷ []) [] 0
  unfolding IsWork
  count-begun-last x = record { total = 0; work = ([], 0, λ p. absurd (omega arith), refl, refl); enough = omega arith }

  -- the top frame is done with its next action, by one call
  pub count-advanced : (kept : List Node) (most : List ℕ) (f : Frame Node) (below : List (Frame Node)) (calls : ℕ) (a : Action)
      (later : List Action) → f.rest ≡ a ∷ later → IsCounted g kept most (f ∷ below) calls →
      IsCounted g kept most (advanced f a later ∷ below) (suc calls)
  count-advanced kept most f below calls a later r c = record {
    total = c.total;
    work = c.work;
    enough =
        omega (arith, c.enough, ap length r);
  }

  -- and a fresh node was met with no remaining action
  pub count-last : (kept : List Node) (most : List ℕ) (f : Frame Node) (below : List (Frame Node)) (calls : ℕ) (a : Action)
      (later : List Action) (q : Node) → length most ≡ length kept → f.rest ≡ a ∷ later → IsCounted g kept most (f ∷ below) calls
      → IsCounted g (kept ++ q ∷ []) (most ++ 0 ∷ []) (advanced f a later ∷ below) (suc calls)
  count-last kept most f below calls a later q l r c = record {
    total = c.total + 0 * length {A = Action} [];
    work =
        work-pushed kept most c.total q 0 [] l c.work (λ p. absurd (omega arith));
    enough = omega (arith, c.enough, ap length r);
  }

  -- a fresh node is entered
  pub count-fresh : (kept : List Node) (most : List ℕ) (f : Frame Node) (below : List (Frame Node)) (calls : ℕ) (a : Action)
      (later : List Action) (q : Node) (r : ℕ) (actions : List Action) → length most ≡ length kept → f.rest ≡ a ∷ later → 0 < r →
      AreActionsOf g q actions
      → IsCounted g kept most (f ∷ below) calls → IsCounted g (kept ++ q ∷ []) (most ++ r ∷ []) (entered q r actions ∷ f ∷ below)
      (suc calls)
  count-fresh kept most f below calls a later q r actions l e p all c = record {
    total = c.total + r * length actions;
    work = work-pushed kept most c.total q r actions l c.work (λ z. all);
    enough = let b : 1 * length actions ≤ r * length actions = mul-le-mul_right (length actions) (let o : 1 ≤ r = omega arith in o) in
        omega (arith, c.enough, ap length e, b);
  }

  -- a kept node is entered again
  pub count-deeper : (kept : List Node) (most : List ℕ) (f : Frame Node) (below : List (Frame Node)) (calls : ℕ) (a : Action)
      (later : List Action) (k : ℕ) (q : Node) (m r : ℕ) (actions : List Action) → f.rest ≡ a ∷ later → slice_get kept k ≡ Some q →
      slice_get most k ≡ Some m → m < r → AreActionsOf g q actions
      → IsCounted g kept most (f ∷ below) calls → IsCounted g kept (set most k r) (entered q r actions ∷ f ∷ below) (suc calls)
  count-deeper kept most f below calls a later k q m r actions e i j l all c =
      let w = work-set kept most c.total k q m r actions c.work i j l all in
      record { total = w.0; work = w.1; enough = omega (arith, c.enough, ap length e, w.2) }

  -- a kept node is passed, with more remaining actions than ever before
  pub count-kept : (kept : List Node) (most : List ℕ) (f : Frame Node) (below : List (Frame Node)) (calls : ℕ) (a : Action)
      (later : List Action) (k : ℕ) (q : Node) (m r : ℕ) → f.rest ≡ a ∷ later → slice_get kept k ≡ Some q → slice_get most k ≡ Some m →
      0 < m → m < r
      → IsCounted g kept most (f ∷ below) calls → IsCounted g kept (set most k r) (advanced f a later ∷ below) (suc calls)
  count-kept kept most f below calls a later k q m r e i j p l c =
      let all = work-actions kept most c.total k q m c.work i j p in
      let w = work-set kept most c.total k q m r all.0 c.work i j l all.1 in
      record { total = w.0; work = w.1; enough = omega (arith, c.enough, ap length e, w.2) }

  -- a frame is done with
  pub count-left : (kept : List Node) (most : List ℕ) (f : Frame Node) (calls : ℕ) → IsCounted g kept most (f ∷ []) calls →
      IsCounted g kept most [] calls
  count-left kept most f calls c = record { total = c.total; work = c.work; enough = omega (arith, c.enough) }

  pub count-climbed : (kept : List Node) (most : List ℕ) (f h : Frame Node) (below : List (Frame Node)) (calls : ℕ) (a : Action)
      (later : List Action) → h.rest ≡ a ∷ later → IsCounted g kept most (f ∷ h ∷ below) calls →
      IsCounted g kept most (advanced h a later ∷ below) calls
  count-climbed kept most f h below calls a later r c = record {
    total = c.total;
    work = c.work;
    enough =
        omega (arith, c.enough, ap length r);
  }

  -- the calls so far are at most n times the number of executable actions of kept nodes that are near
  pub calls-near : (same : Discrete Node) (n : ℕ) (reported : Reports Node) (kept : List Node) (most : List ℕ)
      (stack counted : List (Frame Node)) (calls : ℕ) → AllDiffer kept → IsDepthFirst g n reported (met_in same kept most) stack →
      IsCounted g kept most counted calls
      → (s : ℕ) × IsNearSum g n kept s × (calls ≤ n * s)
  calls-near same n reported kept most stack counted calls d s c =
      let w = work-near n kept most c.total c.work (λ k x m e f p.
      let b = s.kept x m (met_in-at same kept most k x m d e f) in
      (omega (arith, b.budget), record { path = b.path; ends = b.ends; short = omega (arith, b.budget) })) in
      (w.0, w.1, omega (arith, c.enough, w.2))

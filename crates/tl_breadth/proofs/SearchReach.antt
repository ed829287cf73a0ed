-- What follows from what a breadth-first search has done, for all walks.
use Rattle.std.proofs.Common.{◌≡◌, ◌≤◌, ◌<◌, ◌⊎◌, ℕ, List, [], ◌∷◌, ◌++◌, length, slice_get, Some, sym, ap, ◌∙◌, subst, inl, inr, arith}
use Rattle.std.proofs.Common.{eq-or-lt_of_le}
use native.Mathlib.Decide.{dec_lt, ℕ_discrete}
use Rattle.std.proofs.lemmas.Option.{slice_get_within}
use Rattle.tl_terms.specs.LawsOrders.{OrdersTotally}
use Rattle.tl_syntax.specs.Lists.{Among}
use Rattle.tl_search.specs.Graphs.{Graph, walk}
use Rattle.tl_breadth.specs.PathOrder.{IsBefore, IsUpto}
use Rattle.tl_search.specs.Kept.{Kept, AreKept}
use Rattle.tl_breadth.specs.Searched.{IsTried, IsKeptUpto, IsSearched}
use Rattle.tl_search.proofs.WalkLaws.{by_last, length-snoc, walk-back}
use Rattle.tl_breadth.proofs.PathOrder.{before-upto, upto-before, upto-trans, grows, onward, upto-onward, upto-longer}
use Rattle.tl_search.proofs.ListLaws.{decide_among, get-one, get-inside}

-- the walk goes on past what was tried: an action that was not tried, at a kept node, leads to a path that comes up to it
abbrev pub IsAhead : {A V : Type 0} → Graph A V → List (Kept A V) → ℕ → List A → List A → Type 0
IsAhead {A} {V} g kept done tried path = (i : ℕ) × (x : Kept A V) × (a : A) × (v : V) × (slice_get kept i ≡ Some x) ×
    (IsTried done tried i a → ⊥) × (g.after x.node a ≡ Some v) × IsUpto g (x.path ++ a ∷ []) path

module _ {A V : Type 0} (g : Graph A V) (o : OrdersTotally g.cmp) where
  decide_tried : (done : ℕ) (tried : List A) (i : ℕ) (a : A) → Dec (IsTried done tried i a)
  decide_tried done tried i a = elim (dec_lt i done) [
    | yes h ↦ yes (inl h)
    | no h ↦ elim (ℕ_discrete i done) [
      | yes e ↦ elim (decide_among g.cmp o a tried) [ yes m ↦ yes (inr (e, m)) | no m ↦ no (elim [ inl k ↦ h k | inr k ↦ m k.1 ]) ]
      | no e ↦ no (elim [ inl k ↦ h k | inr k ↦ e k.0 ])
    ]
  ]

  not-done : (done : ℕ) (tried : List A) (i : ℕ) (a : A) → (IsTried done tried i a → ⊥) → done ≤ i
  not-done done tried i a n = elim (dec_lt i done) [ yes h ↦ absurd (n (inl h)) | no h ↦ omega arith ]

  module _ (kept : List (Kept A V)) (done : ℕ) (tried : List A) (k : AreKept g kept) (s : IsSearched g kept done tried) where
    -- a walk leads to a node that is kept with a path up to it, or goes on past what was tried
    pub reached : (path : List A) (v : V) → walk g path ≡ Some v → IsKeptUpto g kept v path ⊎ IsAhead g kept done tried path
    reached = by_last (λ path. (v : V) → walk g path ≡ Some v → IsKeptUpto g kept v path ⊎ IsAhead g kept done tried path) at_root further
      where
        at_root : (v : V) → walk g [] ≡ Some v → IsKeptUpto g kept v [] ⊎ IsAhead g kept done tried []
        at_root v e =
            let x = get-inside kept 0 s.some in
            let same : Some x.0.node ≡ Some v = sym (k.walks 0 x.0 x.1) ∙ (ap (walk g) (k.begins x.0 x.1) ∙ e) in
            inl (0, x.0, x.1, let d : x.0.node ≡ v = cc in d, inl (k.begins x.0 x.1))

        at_kept : (front : List A) (a : A) (u v : V) → g.after u a ≡ Some v → IsKeptUpto g kept u front →
            IsKeptUpto g kept v (front ++ a ∷ []) ⊎ IsAhead g kept done tried (front ++ a ∷ [])
        at_kept front a u v e h = by_turn (decide_tried done tried h.0 a)
          where
            from : g.after h.1.node a ≡ Some v
            from = subst (λ w. g.after w a ≡ Some v) (sym h.3) e

            up : IsUpto g (h.1.path ++ a ∷ []) (front ++ a ∷ [])
            up = upto-onward g o h.1.path front a h.4

            by_turn : Dec (IsTried done tried h.0 a) → IsKeptUpto g kept v (front ++ a ∷ []) ⊎ IsAhead g kept done tried (front ++ a ∷ [])
            by_turn (yes t) = let m = s.closed h.0 h.1 a v h.2 t from in
                inl (m.0, m.1, m.2, m.3, upto-trans g o m.1.path (h.1.path ++ a ∷ []) (front ++ a ∷ []) m.4 up)
            by_turn (no t) = inr (h.0, h.1, a, v, h.2, t, from, up)

        further : (front : List A) (a : A) → ((v : V) → walk g front ≡ Some v → IsKeptUpto g kept v front ⊎ IsAhead g kept done tried front)
            → (v : V) → walk g (front ++ a ∷ []) ≡ Some v → IsKeptUpto g kept v (front ++ a ∷ []) ⊎
            IsAhead g kept done tried (front ++ a ∷ [])
        further front a earlier v e = let b = walk-back g front a v e in elim (earlier b.0 b.1) [
          | inl h ↦ at_kept front a b.0 v b.2 h
          | inr h ↦ inr (
            h.0,
            h.1,
            h.2,
            h.3,
            h.4,
            h.5,
            h.6,
            inr (upto-before g o (h.1.path ++ h.2 ∷ []) front (front ++ a ∷ []) h.7
                (grows g o front a)),
          )
        ]

    -- kept paths come in the order of their numbers
    pub later-upto : (i : ℕ) (x y : Kept A V) → slice_get kept done ≡ Some x → slice_get kept i ≡ Some y → done ≤ i → IsUpto g x.path y.path
    later-upto i x y at there less = elim (eq-or-lt_of_le less) [
      | inl same ↦ inl (ap (λ (z : Kept A V). z.path) (get-one kept done x y at (subst (λ j. slice_get kept j ≡ Some y) (sym same) there)))
      | inr more ↦ inr (s.order done i x y more at there)
    ]

    -- what goes past comes after all kept paths
    pub ahead-after : (i : ℕ) (x : Kept A V) (path : List A) → slice_get kept i ≡ Some x → IsAhead g kept done tried path →
        IsBefore g x.path path
    ahead-after i x path at h = before-upto g o x.path (h.1.path ++ h.2 ∷ []) path (s.beyond i h.0 x h.1 h.2 h.3 at h.4 h.5 h.6) h.7

    -- each kept path is the first of all walks to its node
    pub kept-first : (i : ℕ) (x : Kept A V) (path : List A) → slice_get kept i ≡ Some x → walk g path ≡ Some x.node → IsUpto g x.path path
    kept-first i x path at e = elim (reached path x.node e) [
      | inl h ↦ (let same : h.1 ≡ x = get-one kept i h.1 x (subst (λ n. slice_get kept n ≡ Some h.1) (k.differ h.0 i h.1 x h.2 at h.3) h.2)
          at in subst (λ (y : Kept A V). IsUpto g y.path path) same h.4)
      | inr h ↦ inr (ahead-after i x path at h)
    ]

    -- a node with a walk that is shorter than some kept path is kept
    pub nearer-kept : (i : ℕ) (x : Kept A V) (path : List A) (v : V) → slice_get kept i ≡ Some x → walk g path ≡ Some v →
        length path < length x.path → IsKeptUpto g kept v path
    nearer-kept i x path v at e short = elim (reached path v e) [
      | inl h ↦ h
      | inr h ↦
          (let p : length x.path ≤ length path = upto-longer g o x.path path (inr (ahead-after i x path at h)) in let b : ⊥ = omega arith in
          absurd b)
    ]

    -- ---- nodes that are looked for, none of which is kept

    module _ (Good : V → Type 0) (none : (i : ℕ) (x : Kept A V) → slice_get kept i ≡ Some x → Good x.node → ⊥) where
      -- each walk to one goes past what was tried
      pub good-ahead : (path : List A) (v : V) → walk g path ≡ Some v → Good v → IsAhead g kept done tried path
      good-ahead path v e h = elim (reached path v e) [ inl m ↦ absurd (none m.0 m.1 m.2 (subst Good (sym m.3) h)) | inr m ↦ m ]

      -- and is longer than the path of the node whose turn it is
      pub good-longer : (x : Kept A V) (path : List A) (v : V) → slice_get kept done ≡ Some x → walk g path ≡ Some v → Good v →
          length x.path < length path
      good-longer x path v at e h =
          let m = good-ahead path v e h in
          let p : length (m.1.path ++ m.2 ∷ []) ≤ length path = upto-longer g o (m.1.path ++ m.2 ∷ []) path m.7 in
          let q : length x.path ≤ length m.1.path = upto-longer g o x.path m.1.path
          (later-upto m.0 x m.1 at m.4 (not-done done tried m.0 m.2 m.5)) in
          omega (arith, length-snoc m.1.path m.2)

      -- where no kept node is left, there is no walk to one
      pub good-nowhere : (path : List A) (v : V) → length kept ≤ done → walk g path ≡ Some v → Good v → ⊥
      good-nowhere path v all e h = let m = good-ahead path v e h in m.5
          (inl (let p : m.0 < length kept = slice_get_within kept m.0 m.1 m.4 in omega arith))

      -- an action that is tried next leads to a path that comes up to each walk to one
      pub good-next : (x : Kept A V) (a : A) (path : List A) (v : V) → slice_get kept done ≡ Some x →
          ((b : A) (w : V) → g.after x.node b ≡ Some w → (Among b tried → ⊥) → IsUpto g (x.path ++ a ∷ []) (x.path ++ b ∷ [])) →
          walk g path ≡ Some v → Good v → IsUpto g (x.path ++ a ∷ []) path
      good-next x a path v at first e h =
          let m = good-ahead path v e h in
          upto-trans g o (x.path ++ a ∷ []) (m.1.path ++ m.2 ∷ []) path
          (by_place m.0 m.1 m.2 m.3 m.4 m.5 m.6 (eq-or-lt_of_le (not-done done tried m.0 m.2 m.5))) m.7
        where
          by_place : (i : ℕ) (y : Kept A V) (b : A) (w : V) → slice_get kept i ≡ Some y → (IsTried done tried i b → ⊥) → g.after y.node b ≡
              Some w → (done ≡ i) ⊎ (done < i) → IsUpto g (x.path ++ a ∷ []) (y.path ++ b ∷ [])
          by_place i y b w there n f (inl same) =
              let p : x ≡ y = get-one kept done x y at (subst (λ j. slice_get kept j ≡ Some y) (sym same) there) in
              subst (λ (z : Kept A V). IsUpto g (x.path ++ a ∷ []) (z.path ++ b ∷ [])) p
              (first b w (subst (λ (z : Kept A V). g.after z.node b ≡ Some w) (sym p) f) (λ t. n (inr (sym same, t))))
          by_place i y b w there n f (inr less) = inr (onward g o x.path y.path a b (s.order done i x y less at there))

    -- where no kept node is left, each walk leads to a kept node
    pub all-kept : (path : List A) (v : V) → length kept ≤ done → walk g path ≡ Some v → IsKeptUpto g kept v path
    all-kept path v all e = elim (reached path v e) [
      | inl h ↦ h
      | inr m ↦ absurd
          (m.5 (inl (let p : m.0 < length kept = slice_get_within kept m.0 m.1 m.4 in omega arith)))
    ]

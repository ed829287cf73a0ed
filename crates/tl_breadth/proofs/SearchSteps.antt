-- Each step of a breadth-first search keeps what is said of it.
use Rattle.std.proofs.Common.{◌≡◌, ◌<◌, ◌⊎◌, ℕ, ◌+◌, List, [], ◌∷◌, ◌++◌, length, slice_get, Some, None, Less, sym, ap, ◌∙◌, subst, inl}
use Rattle.std.proofs.Common.{inr, arith}
use native.Mathlib.Decide.{dec_lt}
use Rattle.std.proofs.lemmas.Option.{slice_get_within}
use Rattle.tl_terms.specs.LawsOrders.{OrdersTotally}
use Rattle.tl_syntax.specs.Lists.{Among}
use Rattle.tl_search.specs.Graphs.{Graph, walk}
use Rattle.tl_breadth.specs.PathOrder.{IsBefore}
use Rattle.tl_search.specs.Kept.{Kept, AreKept}
use Rattle.tl_breadth.specs.Searched.{IsTried, IsKeptUpto, IsSearched}
use Rattle.tl_search.proofs.WalkLaws.{length-snoc, walk-root, walk-onward}
use Rattle.tl_breadth.proofs.PathOrder.{before-trans, grows, onward, last-before}
use Rattle.tl_search.proofs.ListLaws.{get-old, get-new, get-either, get-single, get-one, among-new, among-old}

compare : (i j : ℕ) → (i < j) ⊎ ((i ≡ j) ⊎ (j < i))
compare i j = elim (dec_lt i j) [ yes h ↦ inl h | no h ↦ elim (dec_lt j i) [ yes k ↦ inr (inr k) | no k ↦ inr (inl (omega arith)) ] ]

module _ {A V : Type 0} (g : Graph A V) (o : OrdersTotally g.cmp) where
  -- ---- what is kept

  pub kept-root : (v : V) → g.root ≡ Some v → AreKept g (record { node = v; path = [] } ∷ [])
  kept-root v e = record {
    begins = λ x at. sym (ap (λ (y : Kept A V). y.path) (get-single (record { node = v; path = [] }) 0 x at).1);
    walks = λ i x at. (let q = get-single (record { node = v; path = [] }) i x at in
        subst (λ (y : Kept A V). walk g y.path ≡ Some y.node) q.1 (walk-root g v e));
    differ = λ i j x y at there same. (get-single (record { node = v; path = [] }) i x at).0 ∙
        sym (get-single (record { node = v; path = [] }) j y there).0;
  }

  -- a fresh node is kept with the path of the node it was met from and the action
  pub kept-fresh : (kept : List (Kept A V)) (j : ℕ) (x : Kept A V) (a : A) (v : V) → AreKept g kept → slice_get kept j ≡ Some x →
      g.after x.node a ≡ Some v → ((i : ℕ) (y : Kept A V) → slice_get kept i ≡ Some y → y.node ≡ v → ⊥) →
      AreKept g (kept ++ record { node = v; path = x.path ++ a ∷ [] } ∷ [])
  kept-fresh kept j x a v k at e fresh = record {
    begins = λ y there. elim (get-either kept new 0 y there) [
      | inl h ↦ k.begins y h
      | inr h ↦
          (let p : j < length kept = slice_get_within kept j x at in let b : ⊥ = omega (arith, h.0) in absurd b)
    ];
    walks = λ i y there. elim (get-either kept new i y there) [
      | inl h ↦ k.walks i y h
      | inr h ↦ subst (λ (z : Kept A V). walk g z.path ≡ Some z.node) h.1 (walk-onward g x.path a x.node v (k.walks j x at) e)
    ];
    differ = λ m n y z here there same. by_cases m n y z same (get-either kept new m y here) (get-either kept new n z there);
  }
    where
      new : Kept A V
      new = record { node = v; path = x.path ++ a ∷ [] }

      by_cases : (m n : ℕ) (y z : Kept A V) → y.node ≡ z.node → (slice_get kept m ≡ Some y) ⊎ ((m ≡ length kept) × (new ≡ y)) →
          (slice_get kept n ≡ Some z) ⊎ ((n ≡ length kept) × (new ≡ z)) → m ≡ n
      by_cases m n y z same (inl h) (inl l) = k.differ m n y z h l same
      by_cases m n y z same (inl h) (inr l) = absurd (fresh m y h (same ∙ ap (λ (u : Kept A V). u.node) (sym l.1)))
      by_cases m n y z same (inr h) (inl l) = absurd (fresh n z l (sym same ∙ ap (λ (u : Kept A V). u.node) (sym h.1)))
      by_cases m n y z same (inr h) (inr l) = h.0 ∙ sym l.0

  -- ---- what was done

  -- nothing was tried at the root
  pub searched-root : (v : V) → IsSearched g (record { node = v; path = [] } ∷ []) 0 []
  searched-root v = record {
    some = omega arith;
    order = λ i j x y less at there. (let p : i ≡ 0 = (get-single root i x at).0 in let q : j ≡ 0 = (get-single root j y there).0 in
        let b : ⊥ = omega arith in absurd b);
    closed = λ i x a w at h e. absurd (nothing i a h);
    beyond = λ i j x y a w at there h e. (let p : root ≡ x = (get-single root i x at).1 in let q : root ≡ y =
        (get-single root j y there).1 in subst (λ (z : Kept A V). IsBefore g z.path (y.path ++ a ∷ [])) p
        (subst (λ (z : Kept A V). IsBefore g [] (z.path ++ a ∷ [])) q (grows g o [] a)));
  }
    where
      root : Kept A V
      root = record { node = v; path = [] }

      nothing : (i : ℕ) (a : A) → IsTried 0 [] i a → ⊥
      nothing i a (inl h) = let b : ⊥ = omega arith in b
      nothing i a (inr h) = h.1

  -- one more action counts as tried: it leads nowhere, or to a node that is kept with an earlier path
  tried-more : (done : ℕ) (tried : List A) (a : A) (i : ℕ) (b : A) → IsTried done tried i b → IsTried done (tried ++ a ∷ []) i b
  tried-more done tried a i b (inl h) = inl h
  tried-more done tried a i b (inr h) = inr (h.0, among-old b a tried h.1)

  tried-new : (done : ℕ) (tried : List A) (a : A) (i : ℕ) (b : A) → IsTried done (tried ++ a ∷ []) i b → IsTried done tried i b ⊎
      ((i ≡ done) × (a ≡ b))
  tried-new done tried a i b (inl h) = inl (inl h)
  tried-new done tried a i b (inr h) = elim (among-new b a tried h.1) [ inl k ↦ inl (inr (h.0, k)) | inr e ↦ inr (h.0, e) ]

  untried : (done : ℕ) (tried : List A) (a : A) → (Among a tried → ⊥) → IsTried done tried done a → ⊥
  untried done tried a n (inl h) = let b : ⊥ = omega arith in b
  untried done tried a n (inr h) = n h.1

  -- a pruned arrival
  pub searched-pruned : (kept : List (Kept A V)) (done : ℕ) (tried : List A) (x : Kept A V) (a : A) → IsSearched g kept done tried →
      slice_get kept done ≡ Some x → g.after x.node a ≡ None → IsSearched g kept done (tried ++ a ∷ [])
  searched-pruned kept done tried x a s at e = record {
    some = s.some;
    order = s.order;
    closed = λ i y b v there h f. elim (tried-new done tried a i b h) [
      | inl k ↦ s.closed i y b v there k f
      | inr k ↦ (let same : x ≡ y = get-one kept done x y at (subst (λ n. slice_get kept n ≡ Some y) k.0 there) in let d : None ≡ Some v =
          sym e ∙ (ap (λ (z : Kept A V). g.after z.node a) same ∙ (ap (g.after y.node) k.1 ∙ f)) in let c : ⊥ = cc in absurd c)
    ];
    beyond = λ i j y z b v here there h f. s.beyond i j y z b v here there (λ t. h (tried-more done tried a j b t)) f;
  }

  -- an arrival at a node that is kept
  pub searched-seen : (kept : List (Kept A V)) (done : ℕ) (tried : List A) (x : Kept A V) (a : A) (m : ℕ) (u : Kept A V) →
      IsSearched g kept done tried → slice_get kept done ≡ Some x → (Among a tried → ⊥) → slice_get kept m ≡ Some u → g.after x.node a ≡
      Some u.node → IsSearched g kept done (tried ++ a ∷ [])
  searched-seen kept done tried x a m u s at new met e = record {
    some = s.some;
    order = s.order;
    closed = λ i y b v there h f. elim (tried-new done tried a i b h) [
      | inl k ↦ s.closed i y b v there k f
      | inr k ↦ here i y b v (get-one kept done x y at (subst (λ n. slice_get kept n ≡ Some y) k.0 there)) k.1 f
    ];
    beyond = λ i j y z b v here there h f. s.beyond i j y z b v here there (λ t. h (tried-more done tried a j b t)) f;
  }
    where
      here : (i : ℕ) (y : Kept A V) (b : A) (v : V) → x ≡ y → a ≡ b → g.after y.node b ≡ Some v → IsKeptUpto g kept v (y.path ++ b ∷ [])
      here i y b v p q f =
          let same : Some u.node ≡ Some v = sym e ∙ (ap (λ (z : Kept A V). g.after z.node a) p ∙ (ap (g.after y.node) q ∙ f)) in
          let node : u.node ≡ v = cc in
          let path : x.path ++ a ∷ [] ≡ y.path ++ b ∷ [] = ap (λ (z : Kept A V). z.path ++ a ∷ []) p ∙ ap (λ c. y.path ++ c ∷ []) q in
          (m, u, met, node, inr (subst (IsBefore g u.path) path (s.beyond m done u x a u.node met at (untried done tried a new) e)))

  -- a fresh arrival: the actions that are still to be tried come after this one
  pub searched-fresh : (kept : List (Kept A V)) (done : ℕ) (tried : List A) (x : Kept A V) (a : A) (v : V) → IsSearched g kept done tried →
      slice_get kept done ≡ Some x → (Among a tried → ⊥) → ((b : A) (w : V) → g.after x.node b ≡ Some w → (Among b (tried ++ a ∷ []) → ⊥) →
      g.cmp a b ≡ Less) → g.after x.node a ≡ Some v → IsSearched g (kept ++ record { node = v; path = x.path ++ a ∷ [] } ∷ []) done
      (tried ++ a ∷ [])
  searched-fresh kept done tried x a v s at fresh later e = record {
    some = get-length kept done x at;
    order = λ i j y z less here there. in_order i j y z less (get-either kept new i y here) (get-either kept new j z there);
    closed = λ i y b w there h f. shut i y b w h f (get-either kept new i y there);
    beyond = λ i j y z b w here there h f. ahead i j y z b w h f (get-either kept new i y here) (get-either kept new j z there);
  }
    where
      new : Kept A V
      new = record { node = v; path = x.path ++ a ∷ [] }

      -- all old paths come before the new one
      get-length : (xs : List (Kept A V)) (i : ℕ) (y : Kept A V) → slice_get xs i ≡ Some y → 0 < length (xs ++ new ∷ [])
      get-length xs i y h = omega (arith, length-snoc xs new)

      old : (i : ℕ) (y : Kept A V) → slice_get kept i ≡ Some y → IsBefore g y.path new.path
      old i y here = s.beyond i done y x a v here at (untried done tried a fresh) e

      in_order : (i j : ℕ) (y z : Kept A V) → i < j → (slice_get kept i ≡ Some y) ⊎ ((i ≡ length kept) × (new ≡ y)) →
          (slice_get kept j ≡ Some z) ⊎ ((j ≡ length kept) × (new ≡ z)) → IsBefore g y.path z.path
      in_order i j y z less (inl h) (inl k) = s.order i j y z less h k
      in_order i j y z less (inl h) (inr k) = subst (λ (u : Kept A V). IsBefore g y.path u.path) k.1 (old i y h)
      in_order i j y z less (inr h) (inl k) = let p : j < length kept = slice_get_within kept j z k in let b : ⊥ = omega (arith, h.0) in
          absurd b
      in_order i j y z less (inr h) (inr k) = let b : ⊥ = omega (arith, h.0, k.0) in absurd b

      more : (w : V) (path : List A) → IsKeptUpto g kept w path → IsKeptUpto g (kept ++ new ∷ []) w path
      more w path k = (k.0, k.1, get-old kept (new ∷ []) k.0 k.1 k.2, k.3, k.4)

      shut : (i : ℕ) (y : Kept A V) (b : A) (w : V) → IsTried done (tried ++ a ∷ []) i b → g.after y.node b ≡ Some w →
          (slice_get kept i ≡ Some y) ⊎ ((i ≡ length kept) × (new ≡ y)) → IsKeptUpto g (kept ++ new ∷ []) w (y.path ++ b ∷ [])
      shut i y b w h f (inl k) = elim (tried-new done tried a i b h) [
        | inl t ↦ more w (y.path ++ b ∷ []) (s.closed i y b w k t f)
        | inr t ↦ (
            let same : x ≡ y = get-one kept done x y at (subst (λ n. slice_get kept n ≡ Some y) t.0 k) in
            let ends : Some v ≡ Some w = sym e ∙ (ap (λ (z : Kept A V). g.after z.node a) same ∙ (ap (g.after y.node) t.1 ∙ f)) in
            let node : v ≡ w = cc in
            let path : x.path ++ a ∷ [] ≡ y.path ++ b ∷ [] = ap (λ (z : Kept A V). z.path ++ a ∷ []) same ∙
            ap (λ c. y.path ++ c ∷ []) t.1 in
            (length kept, new, get-new kept new, node, inl path)
            )
      ]
      shut i y b w h f (inr k) = absurd (too_late h)
        where
          too_late : IsTried done (tried ++ a ∷ []) i b → ⊥
          too_late (inl t) = let p : done < length kept = slice_get_within kept done x at in let q : ⊥ = omega (arith, k.0) in q
          too_late (inr t) = let p : done < length kept = slice_get_within kept done x at in let q : ⊥ = omega (arith, k.0, t.0) in q

      -- the new path comes before what is still to be tried at an old node
      before_rest : (j : ℕ) (z : Kept A V) (b : A) (w : V) → (IsTried done (tried ++ a ∷ []) j b → ⊥) → g.after z.node b ≡ Some w →
          slice_get kept j ≡ Some z → (j < done) ⊎ ((j ≡ done) ⊎ (done < j)) → IsBefore g new.path (z.path ++ b ∷ [])
      before_rest j z b w h f k (inl less) = absurd (h (inl less))
      before_rest j z b w h f k (inr (inl same)) =
          let p : x ≡ z = get-one kept done x z at (subst (λ n. slice_get kept n ≡ Some z) same k) in
          let q : g.after x.node b ≡ Some w = subst (λ (u : Kept A V). g.after u.node b ≡ Some w) (sym p) f in
          subst (λ (u : Kept A V). IsBefore g new.path (u.path ++ b ∷ [])) p
          (last-before g o x.path a b (later b w q (λ m. h (inr (same, m)))))
      before_rest j z b w h f k (inr (inr more)) = onward g o x.path z.path a b (s.order done j x z more at k)

      ahead : (i j : ℕ) (y z : Kept A V) (b : A) (w : V) → (IsTried done (tried ++ a ∷ []) j b → ⊥) → g.after z.node b ≡ Some w →
          (slice_get kept i ≡ Some y) ⊎ ((i ≡ length kept) × (new ≡ y)) → (slice_get kept j ≡ Some z) ⊎ ((j ≡ length kept) × (new ≡ z)) →
          IsBefore g y.path (z.path ++ b ∷ [])
      ahead i j y z b w h f (inl k) (inl l) = s.beyond i j y z b w k l (λ t. h (tried-more done tried a j b t)) f
      ahead i j y z b w h f (inl k) (inr l) = subst (λ (u : Kept A V). IsBefore g y.path (u.path ++ b ∷ [])) l.1
          (before-trans g o y.path new.path (new.path ++ b ∷ []) (old i y k) (grows g o new.path b))
      ahead i j y z b w h f (inr k) (inl l) = subst (λ (u : Kept A V). IsBefore g u.path (z.path ++ b ∷ [])) k.1
          (before_rest j z b w h f l (compare j done))
      ahead i j y z b w h f (inr k) (inr l) = subst (λ (u : Kept A V). IsBefore g u.path (z.path ++ b ∷ [])) k.1
          (subst (λ (u : Kept A V). IsBefore g new.path (u.path ++ b ∷ [])) l.1 (grows g o new.path b))

  -- all was tried at a node, so the next one's turn comes
  pub searched-next : (kept : List (Kept A V)) (done : ℕ) (tried : List A) (x : Kept A V) → IsSearched g kept done tried →
      slice_get kept done ≡ Some x → ((b : A) (w : V) → g.after x.node b ≡ Some w → Among b tried) → IsSearched g kept (done + 1) []
  searched-next kept done tried x s at all = record {
    some = s.some;
    order = s.order;
    closed = λ i y b v there h f. s.closed i y b v there (was i y b v there f h) f;
    beyond = λ i j y z b v here there h f. s.beyond i j y z b v here there (λ t. h (is j b t)) f;
  }
    where
      was : (i : ℕ) (y : Kept A V) (b : A) (v : V) → slice_get kept i ≡ Some y → g.after y.node b ≡ Some v → IsTried (done + 1) [] i b →
          IsTried done tried i b
      was i y b v there f (inl h) = elim (compare i done) [
        | inl less ↦ inl less
        | inr k ↦ elim k [
          | inl same ↦ inr (
            same,
            all b v (subst (λ (u : Kept A V). g.after u.node b ≡ Some v)
                (get-one kept done y x (subst (λ n. slice_get kept n ≡ Some y) same there) at) f),
          )
          | inr more ↦ (let c : ⊥ = omega arith in absurd c)
        ]
      ]
      was i y b v there f (inr h) = absurd h.1

      is : (j : ℕ) (b : A) → IsTried done tried j b → IsTried (done + 1) [] j b
      is j b (inl h) = inl (omega arith)
      is j b (inr h) = inl (omega (arith, h.0))

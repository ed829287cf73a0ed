-- The order of walks.
use Rattle.std.proofs.Common.{◌≡◌, ◌≤◌, suc, List, [], ◌∷◌, ◌++◌, length, Less, Equal, Greater, refl, sym, ap, ◌∙◌, subst, inl, inr, arith}
use Rattle.std.proofs.Common.{Ordering}
use Rattle.std.specs.Ordering.{ordering_then}
use Rattle.std.specs.Cmp.{tied_itself}
use Rattle.std.specs.Cmp.Lexicographic.{slice_cmp, lists_total}
use Rattle.tl_terms.specs.LawsOrders.{OrdersTotally}
use Rattle.tl_search.specs.Graphs.{Graph}
use Rattle.tl_breadth.specs.PathOrder.{IsBefore, IsUpto}
use Rattle.tl_search.proofs.WalkLaws.{length-snoc}

module _ {A V : Type 0} (g : Graph A V) (o : OrdersTotally g.cmp) where
  not_before_itself : (u : List A) → slice_cmp g.cmp u u ≡ Equal
  not_before_itself u = tied_itself (lists_total o.total) u

  pub irreflexive : (u : List A) → IsBefore g u u → ⊥
  irreflexive u (inl h) = omega arith
  irreflexive u (inr h) = let e : Less ≡ Equal = sym h.1 ∙ not_before_itself u in cc

  pub before-trans : (u v w : List A) → IsBefore g u v → IsBefore g v w → IsBefore g u w
  before-trans u v w (inl h) (inl k) = inl (omega arith)
  before-trans u v w (inl h) (inr k) = inl (omega (arith, k.0))
  before-trans u v w (inr h) (inl k) = inl (omega (arith, h.0))
  before-trans u v w (inr h) (inr k) = inr (h.0 ∙ k.0, (lists_total o.total).trans u v w h.1 k.1)

  pub upto-before : (u v w : List A) → IsUpto g u v → IsBefore g v w → IsBefore g u w
  upto-before u v w (inl e) k = subst (λ x. IsBefore g x w) (sym e) k
  upto-before u v w (inr h) k = before-trans u v w h k

  pub before-upto : (u v w : List A) → IsBefore g u v → IsUpto g v w → IsBefore g u w
  before-upto u v w h (inl e) = subst (IsBefore g u) e h
  before-upto u v w h (inr k) = before-trans u v w h k

  pub upto-trans : (u v w : List A) → IsUpto g u v → IsUpto g v w → IsUpto g u w
  upto-trans u v w (inl e) k = subst (λ x. IsUpto g x w) (sym e) k
  upto-trans u v w (inr h) k = inr (before-upto u v w h k)

  pub grows : (u : List A) (a : A) → IsBefore g u (u ++ a ∷ [])
  grows u a = inl (omega (arith, length-snoc u a))

  snoc-less : (u w : List A) (a b : A) → slice_cmp g.cmp u w ≡ Less → length u ≡ length w → slice_cmp g.cmp (u ++ a ∷ []) (w ++ b ∷ []) ≡
      Less
  snoc-less [] [] a b h e = cc
  snoc-less [] (y ∷ w) a b h e = let k : ⊥ = omega (arith, e) in absurd k
  snoc-less (x ∷ u) [] a b h e = let k : ⊥ = omega (arith, e) in absurd k
  snoc-less (x ∷ u) (y ∷ w) a b h e = by_first (g.cmp x y) h (let k : length u ≡ length w = omega (arith, e) in k) (snoc-less u w a b)
    where
      by_first : (r : Ordering) → ordering_then r (slice_cmp g.cmp u w) ≡ Less → length u ≡ length w →
          (slice_cmp g.cmp u w ≡ Less → length u ≡ length w → slice_cmp g.cmp (u ++ a ∷ []) (w ++ b ∷ []) ≡ Less) →
          ordering_then r (slice_cmp g.cmp (u ++ a ∷ []) (w ++ b ∷ [])) ≡ Less
      by_first Less k f m = refl
      by_first Equal k f m = m k f
      by_first Greater k f m = cc

  pub onward : (u w : List A) (a b : A) → IsBefore g u w → IsBefore g (u ++ a ∷ []) (w ++ b ∷ [])
  onward u w a b (inl h) = inl (omega (arith, length-snoc u a, length-snoc w b))
  onward u w a b (inr h) = inr (length-snoc u a ∙ (ap suc h.0 ∙ sym (length-snoc w b)), snoc-less u w a b h.1 h.0)

  last-less : (u : List A) (a b : A) → g.cmp a b ≡ Less → slice_cmp g.cmp (u ++ a ∷ []) (u ++ b ∷ []) ≡ Less
  last-less [] a b h = ap (λ r. ordering_then r Equal) h
  last-less (x ∷ u) a b h = ap (λ r. ordering_then r (slice_cmp g.cmp (u ++ a ∷ []) (u ++ b ∷ []))) (tied_itself o.total x) ∙
      last-less u a b h

  pub last-before : (u : List A) (a b : A) → g.cmp a b ≡ Less → IsBefore g (u ++ a ∷ []) (u ++ b ∷ [])
  last-before u a b h = inr (length-snoc u a ∙ sym (length-snoc u b), last-less u a b h)

  pub upto-onward : (u w : List A) (a : A) → IsUpto g u w → IsUpto g (u ++ a ∷ []) (w ++ a ∷ [])
  upto-onward u w a (inl e) = inl (ap (λ x. x ++ a ∷ []) e)
  upto-onward u w a (inr h) = inr (onward u w a a h)

  pub upto-longer : (u w : List A) → IsUpto g u w → length u ≤ length w
  upto-longer u w (inl e) = omega (arith, ap length e)
  upto-longer u w (inr (inl h)) = omega arith
  upto-longer u w (inr (inr h)) = omega (arith, h.0)

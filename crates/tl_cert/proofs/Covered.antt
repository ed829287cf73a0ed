-- Where a proof covers the search space, each walk leads to a listed node, so none leads to an accepted one.
use Rattle.std.proofs.Common.{◌≡◌, ◌≢◌, ◌≤◌, ◌⊎◌, ℕ, List, [], ◌∷◌, ◌++◌, length, slice_get, Option, Some, None, refl, sym, ap, ◌∙◌, subst}
use Rattle.std.proofs.Common.{inl, inr, arith}
use Rattle.tl_syntax.specs.declared.action.Action.{Action}
use Rattle.tl_syntax.specs.Trees.{falsum}
use Rattle.tl_terms.specs.Acceptance.{IsAccepted}
use Rattle.tl_terms.specs.Pairs.{Pair, IsPairAccepted}
use Rattle.tl_terms.specs.Problem.{PlainProblem}
use Rattle.tl_search.specs.Graphs.{walk, walk_from}
use Rattle.tl_search.specs.KeptPairs.{KeptPair}
use Rattle.tl_search.specs.PairGraph.{next_pair, pair_graph}
use Rattle.tl_search.proofs.PathLaws.{unless-pruned, walk-accepted}
use Rattle.tl_search.proofs.WalkLaws.{by_last, length-snoc, walk-back}
use Rattle.tl_cert.specs.Covers.{Covers, HasNone, IsListedNear, IsNoFarther, IsRightNode, MustBeClosed}
use Rattle.tl_cert.specs.Links.{IsWithinBound}
use Rattle.tl_cert.specs.declared.proof.Proof.{Proof}
use Rattle.tl_cert.proofs.GoodLinks.{root-listed}

-- the first path has no more actions than the second, where there is a bound
abbrev IsNoLonger : Option ℕ → List Action → List Action → Type 0
IsNoLonger None path other = Unit {0}
IsNoLonger (Some n) path other = length path ≤ length other

-- a walk with one action more at its end
within-front : (bound : Option ℕ) (front : List Action) (a : Action) → IsWithinBound bound (front ++ a ∷ []) → IsWithinBound bound front
within-front None front a h = tt
within-front (Some n) front a h = omega (arith, length-snoc front a)

asked-within : (bound : Option ℕ) (path front : List Action) (a : Action) → IsNoLonger bound path front →
    IsWithinBound bound (front ++ a ∷ []) → MustBeClosed bound path
asked-within None path front a h k = tt
asked-within (Some n) path front a h k = omega (arith, length-snoc front a)

no-longer-on : (bound : Option ℕ) (path other front : List Action) (a : Action) → IsNoLonger bound path front →
    IsNoFarther bound path other → IsNoLonger bound other (front ++ a ∷ [])
no-longer-on None path other front a h k = tt
no-longer-on (Some n) path other front a h k = omega (arith, length-snoc front a)

no-longer-root : (bound : Option ℕ) → IsNoLonger bound [] []
no-longer-root None = tt
no-longer-root (Some n) = omega arith

walk-first : (p : PlainProblem) (v : Pair) → walk (pair_graph p) [] ≡ Some v → (pair_graph p).root ≡ Some v
unfolding walk_from
walk-first p v e = by_root (pair_graph p).root refl e
  where
    by_root : (o : Option Pair) → (pair_graph p).root ≡ o → walk_from (pair_graph p) o [] ≡ Some v → (pair_graph p).root ≡ Some v
    by_root None q h = let b : ⊥ = cc in absurd b
    by_root (Some u) q h = q ∙ h

leads-on : (p : PlainProblem) (x : Pair) (a : Action) (v : Pair) → (pair_graph p).after x a ≡ Some v → (next_pair p x a ≡ Some v) ×
    (v.formula ≢ falsum)
unfolding pair_graph
leads-on p x a v e = (unless-pruned (next_pair p x a) v).0 e

module _ (p : PlainProblem) (bound : Option ℕ) (listed : List KeptPair)
    (right : (k : ℕ) (x : KeptPair) → slice_get listed k ≡ Some x → IsRightNode p bound listed x) where
  -- the node is listed, by a path that is no longer
  abbrev IsReached : List Action → Pair → Type 0
  IsReached path v = (m : ℕ) × (z : KeptPair) × (slice_get listed m ≡ Some z) × (z.node ≡ v) × IsNoLonger bound z.path path

  module _ (first : (v : Pair) → (pair_graph p).root ≡ Some v → slice_get listed 0 ≡ Some (record { node = v; path = [] })) where
    reached : (path : List Action) (v : Pair) → IsWithinBound bound path → walk (pair_graph p) path ≡ Some v → IsReached path v
    reached = by_last (λ path. (v : Pair) → IsWithinBound bound path → walk (pair_graph p) path ≡ Some v → IsReached path v) at_root further
      where
        at_root : (v : Pair) → IsWithinBound bound [] → walk (pair_graph p) [] ≡ Some v → IsReached [] v
        at_root v w e = (0, record { node = v; path = [] }, first v (walk-first p v e), refl, no-longer-root bound)

        onward : (front : List Action) (a : Action) (u v : Pair) → IsWithinBound bound (front ++ a ∷ []) → (next_pair p u a ≡ Some v) ×
            (v.formula ≢ falsum) → IsReached front u → IsReached (front ++ a ∷ []) v
        onward front a u v w l h = by_successor ((right h.0 h.1 h.2).closed (asked-within bound h.1.path front a h.4 w) a v
            (ap (λ (z : Pair). next_pair p z a) h.3 ∙ l.0))
          where
            by_successor : (v.formula ≡ falsum) ⊎ IsListedNear bound listed h.1.path v → IsReached (front ++ a ∷ []) v
            by_successor (inl f) = absurd (l.1 f)
            by_successor (inr m) = (m.0, m.1, m.2, m.3, no-longer-on bound h.1.path m.1.path front a h.4 m.4)

        further : (front : List Action) (a : Action) → ((v : Pair) → IsWithinBound bound front → walk (pair_graph p) front ≡ Some v →
            IsReached front v) → (v : Pair) → IsWithinBound bound (front ++ a ∷ []) → walk (pair_graph p) (front ++ a ∷ []) ≡ Some v →
            IsReached (front ++ a ∷ []) v
        further front a earlier v w e =
            let b = walk-back (pair_graph p) front a v e in
            onward front a b.0 v w (leads-on p b.0 a v b.2) (earlier b.0 (within-front bound front a w) b.1)

    not-accepted : (path : List Action) (v : Pair) → IsWithinBound bound path → walk (pair_graph p) path ≡ Some v → IsPairAccepted p v → ⊥
    not-accepted path v w e h = let m = reached path v w e in (right m.0 m.1 m.2).unaccepted (subst (IsPairAccepted p) (sym m.3) h)

pub covered-has-none : (p : PlainProblem) (proof : Proof) → Covers p proof → HasNone p proof.bound
covered-has-none p proof c = by_bound proof.bound (λ plan w h. let k = (walk-accepted p plan).0 h in
    not-accepted p proof.bound c.listed c.right (λ v e. root-listed p proof.bound proof.links c.listed v c.lists e) plan k.0 w k.1 k.2)
  where
    by_bound : (bound : Option ℕ) → ((plan : List Action) → IsWithinBound bound plan → IsAccepted p plan → ⊥) → HasNone p bound
    by_bound None h = λ plan. h plan tt
    by_bound (Some n) h = λ plan short. h plan short

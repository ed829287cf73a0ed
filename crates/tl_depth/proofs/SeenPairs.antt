-- What arrives at the kept pairs, seen as pairs alone.
use Rattle.std.proofs.Common.{◌≡◌, ◌≢◌, ◌<◌, ◌↔◌, ℕ, suc, List, [], ◌∷◌, ◌++◌, length, Bool, IsTrue, cond, Option, Some, None, refl, sym}
use Rattle.std.proofs.Common.{ap, ◌∙◌, subst}
use Rattle.std.specs.List.{slice_get}
use Rattle.tl_syntax.specs.declared.action.Action.{Action}
use Rattle.tl_syntax.specs.Lists.{Each}
use Rattle.tl_syntax.specs.Trees.{falsum}
use Rattle.tl_terms.specs.Pairs.{Pair, pair_of, IsPairAccepted}
use Rattle.tl_eval.specs.declared.range.RangeNote.{RangeNote}
use Rattle.tl_eval.specs.Notes.{Tells}
use Rattle.tl_terms.specs.Looked.{looked_by_progressing, looked_by_action}
use Rattle.tl_terms.specs.World.{World}
use Rattle.tl_terms.specs.Step.{step}
use Rattle.tl_terms.specs.Problem.{PlainProblem}
use Rattle.tl_terms.specs.Simplification.{is_falsum}
use Rattle.tl_search.proofs.PathLaws.{pair-first}
use Rattle.tl_search.specs.Causes.{IsCausedByAcceptance, IsCausedByActions}
use Rattle.tl_search.specs.Faults.{TellsPair}
use Rattle.tl_search.specs.Kept.{AreKept}
use Rattle.tl_search.specs.KeptPairs.{KeptPair, pairs_of}
use Rattle.tl_search.specs.PairGraph.{next_pair, unless_pruned, pair_graph}
use Rattle.tl_search.specs.ListedActions.{ListsActions}
use Rattle.tl_depth.specs.PairGraph.{first_pair}
use Rattle.tl_search.specs.Arrivals.{Arrives}
use Rattle.tl_search.specs.declared.arrival.Arrival.{Arrival}
use Rattle.tl_search.specs.declared.arrival.Arrival.TheVariants as arrival
use Rattle.tl_search.proofs.KeptLaws.{pair-kept, kept-pair, length-pairs}
use Rattle.tl_search.proofs.PathLaws.{unless-pruned, walk-pair}
use Rattle.tl_search.proofs.EventLaws.{last-differs}
use Rattle.tl_search.specs.declared.fault.SearchFault.{SearchFault}
use Rattle.tl_search.specs.declared.fault.SearchFault.TheVariants as fault
use Rattle.tl_search.specs.declared.fault.SpaceFault.{SpaceFault}
use Rattle.tl_search.specs.declared.fault.SpaceFault.TheVariants as space
use Rattle.tl_depth.specs.Arrivals.{ArrivesAs}
use Rattle.tl_depth.specs.Ongoing.{IsEntryFault}

each-pair : (P : Pair → Type 0) (kept : List KeptPair) → ((i : ℕ) (z : KeptPair) → slice_get kept i ≡ Some z → P z.node) →
    Each P (pairs_of kept)
each-pair P [] h = tt
each-pair P (x ∷ kept) h = (h 0 x refl, each-pair P kept (λ i z e. h (suc i) z e))

pub pairs-append : (kept : List KeptPair) (y : KeptPair) → pairs_of (kept ++ y ∷ []) ≡ pairs_of kept ++ y.node ∷ []
pairs-append [] y = refl
pairs-append (x ∷ kept) y = ap (λ us. x.node ∷ us) (pairs-append kept y)

-- a pair whose formula is FALSE is pruned
pruned-none : (x : Pair) → x.formula ≡ falsum → unless_pruned (Some x) ≡ None
pruned-none x f = ap (λ g. cond (is_falsum g) None (Some x)) f

-- the arrival, with the paths left out
pub as-pairs : (p : PlainProblem) (old new : List KeptPair) (o : Option Pair) (path : List Action) (a : Arrival) →
    AreKept (pair_graph p) new → Arrives old new o path a → ArrivesAs (pairs_of old) (pairs_of new) o a
as-pairs p old new o path arrival.Pruned all h = (ap pairs_of h.0, ap unless_pruned h.1.1 ∙ pruned-none h.1.0 h.1.2)
as-pairs p old new o path (arrival.Seen k) all h =
    let there : slice_get new k ≡ Some h.1.0 = subst (λ xs. slice_get xs k ≡ Some h.1.0) (sym h.0) h.1.1 in
    let open_pair = (walk-pair p h.1.0.path h.1.0.node).0 (all.walks k h.1.0 there) in
    (ap pairs_of h.0, (h.1.0.node, kept-pair old k h.1.0 h.1.1, (unless-pruned o h.1.0.node).1 (h.1.2, open_pair.1)))
as-pairs p old new o path (arrival.Fresh k) all h = (
  h.0 ∙ sym (length-pairs old),
  (
    h.1.0,
    (unless-pruned o h.1.0).1 (h.1.1, h.1.2),
    each-pair (λ y. y ≢ h.1.0) old
        (last-differs p old new (record { node = h.1.0; path = path }) all h.1.3),
    ap pairs_of h.1.3 ∙
        pairs-append old (record { node = h.1.0; path = path }),
  ),
)

-- a number of a pair is a number of a kept pair
pub number-kept : (kept : List KeptPair) (k : ℕ) → k < length (pairs_of kept) → k < length kept
number-kept kept k l = subst (λ n. k < n) (length-pairs kept) l

-- ---- what the calls of a space say of kept pairs, said of pairs

pub root-as-pairs : (p q : PlainProblem) (old new : List KeptPair) (a : Arrival) → AreKept (pair_graph q) new →
    Arrives old new (pair_of p []) [] a → ArrivesAs (pairs_of old) (pairs_of new) (Some (first_pair p)) a
root-as-pairs p q old new a all h = subst (λ o. ArrivesAs (pairs_of old) (pairs_of new) o a) (pair-first p)
    (as-pairs q old new (pair_of p []) [] a all h)

pub child-as-pairs : (p q : PlainProblem) (old new : List KeptPair) (at : ℕ) (a : Action) (r : Arrival) → AreKept (pair_graph q) new →
    ((x : KeptPair) → slice_get old at ≡ Some x → Arrives old new (next_pair p x.node a) (x.path ++ a ∷ []) r)
    → (x : Pair) → slice_get (pairs_of old) at ≡ Some x → ArrivesAs (pairs_of old) (pairs_of new) (next_pair p x a) r
child-as-pairs p q old new at a r all h x e =
    let y = pair-kept old at x e in
    subst (λ z. ArrivesAs (pairs_of old) (pairs_of new) (next_pair p z a) r) y.2
    (as-pairs q old new (next_pair p y.0.node a) (y.0.path ++ a ∷ []) r all (h y.0 y.1))

pub accepted-pair : (p : PlainProblem) (kept : List KeptPair) (at : ℕ) (answer : Bool) →
    ((x : KeptPair) → slice_get kept at ≡ Some x → IsTrue answer ↔ IsPairAccepted p x.node) → (x : Pair) → slice_get (pairs_of kept) at ≡
    Some x → IsTrue answer ↔ IsPairAccepted p x
accepted-pair p kept at answer h x e = let y = pair-kept kept at x e in subst (λ z. IsTrue answer ↔ IsPairAccepted p z) y.2 (h y.0 y.1)

pub lists_pair : (p : PlainProblem) (kept : List KeptPair) (at : ℕ) (listed : List Action) →
    ((x : KeptPair) → slice_get kept at ≡ Some x → ListsActions p x.node.world listed) → (x : Pair) → slice_get (pairs_of kept) at ≡
    Some x → ListsActions p x.world listed
lists_pair p kept at listed h x e = let y = pair-kept kept at x e in subst (λ (z : Pair). ListsActions p z.world listed) y.2 (h y.0 y.1)

acts-pair : (p : PlainProblem) (kept : List KeptPair) (at : ℕ) (note : RangeNote) →
    ((x : KeptPair) → slice_get kept at ≡ Some x → (a : Action) × Tells (looked_by_action p x.node.world a) note) → (x : Pair) →
    slice_get (pairs_of kept) at ≡ Some x → (a : Action) × Tells (looked_by_action p x.world a) note
acts-pair p kept at note h x e = let y = pair-kept kept at x e in subst
    (λ (z : Pair). (a : Action) × Tells (looked_by_action p z.world a) note) y.2 (h y.0 y.1)

-- the fault of listing the actions is one of entering the pair
pub entry-fault : (p : PlainProblem) (kept : List KeptPair) (k : ℕ) (at : List Action) (s : SpaceFault) (f : SearchFault) →
    TellsPair at s f → ((x : KeptPair) → slice_get kept k ≡ Some x → IsCausedByActions p x.node s) → IsEntryFault p (pairs_of kept) k at f
entry-fault p kept k at s fault.NoMemory t h = tt
entry-fault p kept k at (space.RangeHere note) (fault.Range path o) t h = (
  t.0,
  subst (λ (m : RangeNote). (x : Pair) → slice_get (pairs_of kept) k ≡ Some x → (a : Action) ×
      Tells (looked_by_action p x.world a) m) (sym t.1) (acts-pair p kept k note h),
)
entry-fault p kept k at (space.RangeAfter note) (fault.Range path o) t h = absurd t
entry-fault p kept k at space.NoMemory (fault.Range path o) t h = absurd t

pub acceptance-pair : (p : PlainProblem) (kept : List KeptPair) (at : ℕ) (s : SpaceFault) →
    ((x : KeptPair) → slice_get kept at ≡ Some x → IsCausedByAcceptance p x.node s) → (x : Pair) → slice_get (pairs_of kept) at ≡ Some x →
    IsCausedByAcceptance p x s
acceptance-pair p kept at s h x e = let y = pair-kept kept at x e in subst (λ (z : Pair). IsCausedByAcceptance p z s) y.2 (h y.0 y.1)

pub action-pair : (p : PlainProblem) (kept : List KeptPair) (at : ℕ) (a : Action) (note : RangeNote) →
    ((x : KeptPair) → slice_get kept at ≡ Some x → Tells (looked_by_action p x.node.world a) note) → (x : Pair) →
    slice_get (pairs_of kept) at ≡ Some x → Tells (looked_by_action p x.world a) note
action-pair p kept at a note h x e = let y = pair-kept kept at x e in subst (λ (z : Pair). Tells (looked_by_action p z.world a) note) y.2
    (h y.0 y.1)

pub after-pair : (p : PlainProblem) (kept : List KeptPair) (at : ℕ) (a : Action) (note : RangeNote) →
    ((x : KeptPair) → slice_get kept at ≡ Some x → (v : World) × (step p x.node.world a ≡ Some v) ×
    Tells (looked_by_progressing p v x.node.formula) note)
    → (x : Pair) → slice_get (pairs_of kept) at ≡ Some x → (v : World) × (step p x.world a ≡ Some v) ×
    Tells (looked_by_progressing p v x.formula) note
after-pair p kept at a note h x e = let y = pair-kept kept at x e in subst
    (λ (z : Pair). (v : World) × (step p z.world a ≡ Some v) × Tells (looked_by_progressing p v z.formula) note) y.2 (h y.0 y.1)

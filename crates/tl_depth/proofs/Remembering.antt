-- What is remembered stays right.
use Rattle.std.proofs.Common.{Bool, true, false, cond, ◌≡◌, ◌<◌, ◌⊎◌, ℕ, zero, suc, List, [], ◌∷◌, ◌++◌, length, slice_index_or, set}
use Rattle.std.proofs.Common.{Option, Some, None, IfSome, refl, sym, ap, ◌∙◌, subst, arith, length-append, inl, inr}
use Rattle.std.specs.List.{slice_get}
use Rattle.tl_syntax.specs.declared.action.Action.{Action}
use Rattle.tl_terms.specs.Problem.{PlainProblem}
use Rattle.tl_world.specs.declared.task.Task.{Task}
use Rattle.tl_search.specs.Arrivals.{Arrives}
use Rattle.tl_search.specs.Calls.{ChildArrives}
use Rattle.tl_search.specs.Kept.{AreKept}
use Rattle.tl_search.specs.KeptPairs.{KeptPair}
use Rattle.tl_search.specs.PairGraph.{next_pair, pair_graph}
use Rattle.tl_search.specs.declared.arrival.Arrival.{Arrival}
use Rattle.tl_search.specs.declared.arrival.Arrival.TheVariants as arrival
use Rattle.tl_search.proofs.ListLaws.{get-old, get-new, get-one, get-either}
use Rattle.tl_depth.proofs.Ends.{get-at}
use Rattle.tl_depth.specs.Expansions.{IsListed, CameOf, IsExpansion, AreExpansions, Remembers, KnowsNothing, KnowsActions, as_seen, AddsAt}
use Rattle.tl_depth.specs.Expansions.{KeepNumbers}
use Rattle.tl_depth.specs.declared.expansions.Expansion.{Expansion}
use Rattle.tl_depth.specs.declared.expansions.Expansions.{Expansions}

-- ---- more pairs are kept

no-more : (kept : List KeptPair) (x : KeptPair) → kept ≡ kept ++ x ∷ [] → ⊥
no-more kept x e = omega (arith, ap length e, length-append kept (x ∷ []))

pub grows-by-arrival : (p : PlainProblem) (old new : List KeptPair) (at : ℕ) (x : KeptPair) (a : Action) (r : Arrival) → slice_get old at ≡
    Some x → ChildArrives p old new at a r → KeepNumbers old new
grows-by-arrival p old new at x a arrival.Pruned is h k y e = subst (λ ks. slice_get ks k ≡ Some y) (sym (h x is).0) e
grows-by-arrival p old new at x a (arrival.Seen j) is h k y e = subst (λ ks. slice_get ks k ≡ Some y) (sym (h x is).0) e
grows-by-arrival p old new at x a (arrival.Fresh j) is h k y e = let t = (h x is).1 in
    subst (λ ks. slice_get ks k ≡ Some y) (sym t.3) (get-old old (record { node = t.0; path = x.path ++ a ∷ [] } ∷ []) k y e)

-- what arrived would arrive again, with nothing more kept
pub arrives-again : (p : PlainProblem) (old new : List KeptPair) (at : ℕ) (x : KeptPair) (a : Action) (r : Arrival) → slice_get old at ≡
    Some x → ChildArrives p old new at a r → ChildArrives p new new at a (as_seen r)
arrives-again p old new at x a r is h y e = by_case r (h x is) (get-one new at x y (grows-by-arrival p old new at x a r is h at x is) e)
  where
    by_case : (q : Arrival) → Arrives old new (next_pair p x.node a) (x.path ++ a ∷ []) q → x ≡ y →
        Arrives new new (next_pair p y.node a) (y.path ++ a ∷ []) (as_seen q)
    by_case arrival.Pruned t same = (refl, (t.1.0, subst (λ (z : KeptPair). next_pair p z.node a ≡ Some t.1.0) same t.1.1, t.1.2))
    by_case (arrival.Seen k) t same = (
      refl,
      (
        t.1.0,
        subst (λ ks. slice_get ks k ≡ Some t.1.0) (sym t.0) t.1.1,
        subst (λ (z : KeptPair). next_pair p z.node a ≡ Some t.1.0.node) same t.1.2,
      ),
    )
    by_case (arrival.Fresh k) t same =
        let added : KeptPair = record { node = t.1.0; path = x.path ++ a ∷ [] } in
        let there : slice_get new k ≡ Some added = ap (λ ks. slice_get ks k) t.1.3 ∙
        (ap (slice_get (old ++ added ∷ [])) t.0 ∙ get-new old added) in
        (refl, (added, there, subst (λ (z : KeptPair). next_pair p z.node a ≡ Some t.1.0) same t.1.1))

stays-arrived : (p : PlainProblem) (old new : List KeptPair) (at : ℕ) (x : KeptPair) (a : Action) (r : Arrival) → KeepNumbers old new →
    slice_get old at ≡ Some x → ChildArrives p old old at a r → ChildArrives p new new at a r
stays-arrived p old new at x a r grows is h y e = by_case r (h x is) (get-one new at x y (grows at x is) e)
  where
    by_case : (q : Arrival) → Arrives old old (next_pair p x.node a) (x.path ++ a ∷ []) q → x ≡ y →
        Arrives new new (next_pair p y.node a) (y.path ++ a ∷ []) q
    by_case arrival.Pruned t same = (refl, (t.1.0, subst (λ (z : KeptPair). next_pair p z.node a ≡ Some t.1.0) same t.1.1, t.1.2))
    by_case (arrival.Seen k) t same = (
      refl,
      (
        t.1.0,
        grows k t.1.0 t.1.1,
        subst (λ (z : KeptPair). next_pair p z.node a ≡ Some t.1.0.node) same t.1.2,
      ),
    )
    by_case (arrival.Fresh k) t same = absurd (no-more old (record { node = t.1.0; path = x.path ++ a ∷ [] }) t.1.3)

pub stays-listed : (p : PlainProblem) (task : Task) (old new : List KeptPair) (at : ℕ) (listed : List Action) → KeepNumbers old new →
    IsListed p task old at listed → IsListed p task new at listed
stays-listed p task old new at listed grows h = (h.0, grows at h.0 h.1, h.2, h.3)

stays-come : (p : PlainProblem) (old new : List KeptPair) (at i : ℕ) (r : Arrival) → KeepNumbers old new → CameOf p old at i r →
    CameOf p new at i r
stays-come p old new at i r grows h = (h.0, grows at h.0 h.1, h.2, h.3, h.4, h.5, stays-arrived p old new at h.0 h.4 r grows h.1 h.6)

if-some : {A : Type 0} (o : Option A) (P Q : A → Type 0) → IfSome o P → ((x : A) → P x → Q x) → IfSome o Q
if-some None P Q h f = tt
if-some (Some x) P Q h f = f x h

pub stay-right : (p : PlainProblem) (task : Task) (old new : List KeptPair) (known : Expansions) → KeepNumbers old new →
    AreExpansions p task old known → AreExpansions p task new known
stay-right p task old new known grows h at e is =
    let k = h at e is in
    record {
      actions = if-some e.actions (IsListed p task old at) (IsListed p task new at) k.actions
          (λ us z. stays-listed p task old new at us grows z);
      arrivals = λ i r q. stays-come p old new at i r grows (k.arrivals i r q);
    }

-- ---- nothing is known

nothing-right : (p : PlainProblem) (task : Task) (kept : List KeptPair) (known : Expansions) → KnowsNothing known →
    AreExpansions p task kept known
nothing-right p task kept known none at e is = let q : slice_get [] at ≡ Some e = subst (λ es. slice_get es at ≡ Some e) none is in
    let b : ⊥ = cc in absurd b

-- ---- entries change

-- one more, of which nothing is known
right-pushed : (p : PlainProblem) (task : Task) (kept : List KeptPair) (old new : List Expansion) (blank : Expansion) → new ≡ old ++
    blank ∷ [] → blank.actions ≡ None → blank.arrivals.items ≡ []
    → ((at : ℕ) (e : Expansion) → slice_get old at ≡ Some e → IsExpansion p task kept at e) → (at : ℕ) (e : Expansion) → slice_get new at ≡
    Some e → IsExpansion p task kept at e
right-pushed p task kept old new blank more none empty h at e is =
    by_place (get-either old blank at e (subst (λ es. slice_get es at ≡ Some e) more is))
  where
    bare : IsExpansion p task kept at blank
    bare = record {
      actions = subst (λ o. IfSome o (IsListed p task kept at)) (sym none) tt;
      arrivals = λ i r q. (let z : slice_get [] i ≡ Some r = subst (λ rs. slice_get rs i ≡ Some r) empty q in let b : ⊥ = cc in absurd b);
    }

    by_place : (slice_get old at ≡ Some e) ⊎ ((at ≡ length old) × (blank ≡ e)) → IsExpansion p task kept at e
    by_place (inl q) = h at e q
    by_place (inr q) = subst (IsExpansion p task kept at) q.1 bare

-- or none, where there was no room for it
pub right-added : (p : PlainProblem) (task : Task) (kept : List KeptPair) (ok : Bool) (old new : List Expansion) (blank : Expansion) → new ≡
    cond ok (old ++ blank ∷ []) old → blank.actions ≡ None → blank.arrivals.items ≡ []
    → ((at : ℕ) (e : Expansion) → slice_get old at ≡ Some e → IsExpansion p task kept at e) → (at : ℕ) (e : Expansion) → slice_get new at ≡
    Some e → IsExpansion p task kept at e
right-added p task kept true old new blank more none empty h at e is = right-pushed p task kept old new blank more none empty h at e is
right-added p task kept false old new blank more none empty h at e is = h at e (subst (λ es. slice_get es at ≡ Some e) more is)

-- another stands at a place
get-set : {A : Type 0} (xs : List A) (i j : ℕ) (x y : A) → slice_get (set xs i x) j ≡ Some y → ((i ≡ j) × (x ≡ y)) ⊎
    (slice_get xs j ≡ Some y)
get-set [] i j x y e = inr e
get-set (z ∷ xs) zero zero x y e = inl (refl, let d : x ≡ y = cc in d)
get-set (z ∷ xs) zero (suc j) x y e = inr e
get-set (z ∷ xs) (suc i) zero x y e = inr e
get-set (z ∷ xs) (suc i) (suc j) x y e = by_place (get-set xs i j x y e)
  where
    by_place : ((i ≡ j) × (x ≡ y)) ⊎ (slice_get xs j ≡ Some y) → ((suc i ≡ suc j) × (x ≡ y)) ⊎ (slice_get xs j ≡ Some y)
    by_place (inl q) = inl (ap suc q.0, q.1)
    by_place (inr q) = inr q

pub right-set : (p : PlainProblem) (task : Task) (kept : List KeptPair) (old : List Expansion) (place : ℕ) (entry : Expansion) →
    IsExpansion p task kept place entry
    → ((at : ℕ) (e : Expansion) → slice_get old at ≡ Some e → IsExpansion p task kept at e) → (at : ℕ) (e : Expansion) →
    slice_get (set old place entry) at ≡ Some e → IsExpansion p task kept at e
right-set p task kept old place entry right h at e is = by_place (get-set old place at entry e is)
  where
    by_place : ((place ≡ at) × (entry ≡ e)) ⊎ (slice_get old at ≡ Some e) → IsExpansion p task kept at e
    by_place (inl q) = subst (IsExpansion p task kept at) q.1 (subst (λ i. IsExpansion p task kept i entry) q.0 right)
    by_place (inr q) = h at e q

-- one more arrival at the end
come-pushed : (p : PlainProblem) (kept : List KeptPair) (at : ℕ) (old : List Arrival) (r : Arrival) → CameOf p kept at (length old) r →
    ((i : ℕ) (q : Arrival) → slice_get old i ≡ Some q → CameOf p kept at i q)
    → (i : ℕ) (q : Arrival) → slice_get (old ++ r ∷ []) i ≡ Some q → CameOf p kept at i q
come-pushed p kept at old r came h i q is = by_place (get-either old r i q is)
  where
    by_place : (slice_get old i ≡ Some q) ⊎ ((i ≡ length old) × (r ≡ q)) → CameOf p kept at i q
    by_place (inl k) = h i q k
    by_place (inr k) = subst (CameOf p kept at i) k.1 (subst (λ j. CameOf p kept at j r) (sym k.0) came)

-- ---- what is read

-- the entry of a place
pub right-at : (p : PlainProblem) (task : Task) (kept : List KeptPair) (entries : List Expansion) (at : ℕ) (now : Expansion) →
    at < length entries → now ≡ slice_index_or entries at now
    → ((k : ℕ) (e : Expansion) → slice_get entries k ≡ Some e → IsExpansion p task kept k e) → IsExpansion p task kept at now
right-at p task kept entries at now inside is h = h at now (get-at entries at now inside ∙ ap Some (sym is))

-- an arrival of the entry
pub right-arrival : (p : PlainProblem) (task : Task) (kept : List KeptPair) (at i : ℕ) (now : Expansion) (read : List Arrival)
    (r : Arrival) → IsExpansion p task kept at now → read ≡ now.arrivals.items → i < length read →
    CameOf p kept at i (slice_index_or read i r)
right-arrival p task kept at i now read r right same inside = right.arrivals i (slice_index_or read i r)
    (subst (λ rs. slice_get rs i ≡ Some (slice_index_or read i r)) same (get-at read i r inside))

-- the entry that has one more arrival
pub right-learnt : (p : PlainProblem) (task : Task) (kept : List KeptPair) (at i : ℕ) (old new : Expansion) (r : Arrival) →
    IsExpansion p task kept at old → new.actions ≡ old.actions → AddsAt old.arrivals.items new.arrivals.items i r → CameOf p kept at i r →
    IsExpansion p task kept at new
right-learnt p task kept at i old new r right same adds came = record {
  actions = subst (λ o. IfSome o (IsListed p task kept at)) (sym same) right.actions;
  arrivals = by_add adds;
}
  where
    by_add : AddsAt old.arrivals.items new.arrivals.items i r → (j : ℕ) (q : Arrival) → slice_get new.arrivals.items j ≡ Some q →
        CameOf p kept at j q
    by_add (inl e) j q is = right.arrivals j q (subst (λ rs. slice_get rs j ≡ Some q) e is)
    by_add (inr e) j q is = come-pushed p kept at old.arrivals.items r (subst (λ k. CameOf p kept at k r) (sym e.0) came) right.arrivals j q
        (subst (λ rs. slice_get rs j ≡ Some q) e.1 is)

-- the entry without its actions
pub right-entered : (p : PlainProblem) (task : Task) (kept : List KeptPair) (at : ℕ) (old new : Expansion) → new.actions ≡ None →
    new.arrivals.items ≡ old.arrivals.items → IsExpansion p task kept at old → IsExpansion p task kept at new
right-entered p task kept at old new none same right = record {
  actions = subst (λ o. IfSome o (IsListed p task kept at)) (sym none) tt;
  arrivals = λ i r q. right.arrivals i r (subst (λ rs. slice_get rs i ≡ Some r) same q);
}

-- the entry with its actions, or without
pub right-left : (p : PlainProblem) (task : Task) (kept : List KeptPair) (at : ℕ) (listed : List Action) (old new : Expansion) →
    (new.actions ≡ old.actions) ⊎ (new.actions ≡ Some listed) → new.arrivals.items ≡ old.arrivals.items → IsListed p task kept at listed →
    IsExpansion p task kept at old → IsExpansion p task kept at new
right-left p task kept at listed old new either same is right = record {
  actions = by_actions either;
  arrivals = λ i r q. right.arrivals i r (subst (λ rs. slice_get rs i ≡ Some r) same q);
}
  where
    by_actions : (new.actions ≡ old.actions) ⊎ (new.actions ≡ Some listed) → IfSome new.actions (IsListed p task kept at)
    by_actions (inl e) = subst (λ o. IfSome o (IsListed p task kept at)) (sym e) right.actions
    by_actions (inr e) = subst (λ o. IfSome o (IsListed p task kept at)) (sym e) is

-- actions that are found are those of the pair
pub knows-actions : (known : Expansions) (at : ℕ) (found : Option (List Action)) →
    ((p : PlainProblem) (task : Task) (kept : List KeptPair) → AreExpansions p task kept known → IfSome found (IsListed p task kept at)) →
    IfSome found (KnowsActions known at)
knows-actions known at None h = tt
knows-actions known at (Some listed) h = h

-- ---- the same elsewhere

pub as-remembered : {p q : PlainProblem} {task other : Task} {kept : List KeptPair} {known : Expansions} → p ≡ q → task ≡ other →
    Remembers p task kept known → Remembers q other kept known
as-remembered {q = q} {task = task} {kept = kept} {known = known} e f h =
    subst (λ t. Remembers q t kept known) f (subst (λ z. Remembers z task kept known) e h)

pub nothing-remembered : {p q : PlainProblem} {task : Task} {kept : List KeptPair} {known : Expansions} → p ≡ q →
    AreKept (pair_graph p) kept → KnowsNothing known → Remembers q task kept known
nothing-remembered {p = p} {q = q} {task = task} {kept = kept} {known = known} e h none =
    record { kept_rightly = subst (λ z. AreKept (pair_graph z) kept) e h; expansions = nothing-right q task kept known none }

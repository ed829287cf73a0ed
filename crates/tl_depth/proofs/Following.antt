-- What a depth-first search has still to tell, after each of its steps.
use Rattle.std.proofs.Common.{◌≡◌, ◌≢◌, ◌≤◌, ◌<◌, ◌+◌, ◌-◌, ◌⊎◌, ℕ, zero, suc, List, [], ◌∷◌, ◌++◌, length, drop, set, reverse, Bool, true}
use Rattle.std.proofs.Common.{false, Some, refl, sym, ap, ◌∙◌, subst, inl, inr, arith, append_assoc, append-nil}
use Rattle.std.specs.List.{slice_get}
use Rattle.std.proofs.lemmas.List.{reverse-append, length-set}
use Rattle.std.proofs.lemmas.Option.{slice_get_within}
use Rattle.tl_syntax.specs.declared.action.Action.{Action}
use Rattle.tl_syntax.specs.Lists.{Among}
use Rattle.tl_terms.specs.Pairs.{Pair}
use Rattle.tl_terms.specs.Problem.{PlainProblem}
use Rattle.tl_search.specs.ListedActions.{ListsActions}
use Rattle.tl_search.specs.declared.event.Event.{Event}
use Rattle.tl_search.specs.declared.event.Event.TheVariants as event
use Rattle.tl_search.proofs.ListLaws.{get-one, get-either}
use Rattle.tl_search.proofs.WalkLaws.{length-snoc}
use Rattle.tl_depth.specs.Entering.{Meeting, Part, IsMore, Follows, AreTried, Meets, AreInDepth}
use Rattle.tl_depth.specs.Following.{AreGreatest, TriesRest, GoOn, AllGoOn, StayPairs, IsFollowed}
use Rattle.tl_depth.specs.Levels.{stepped}
use Rattle.tl_depth.specs.Stacks.{IsEventOf}
use Rattle.tl_depth.specs.declared.level.Level.{Level}
use Rattle.tl_depth.proofs.LevelFacts.{get-rest, rest-none}

-- ---- a search that is cut short tells nothing more

stop-tried : (meets : ℕ → Part) (at : ℕ) (actions : List Action) (met : List Meeting) → AreTried true meets at actions met [] met []
unfolding AreTried
stop-tried meets at [] met = (refl, refl)
stop-tried meets at (a ∷ actions) met = inl (refl, refl, refl)

stop-below : (p : PlainProblem) (kept : List Pair) (below : List Level) (met : List Meeting) → GoOn p kept true below met []
unfolding GoOn
stop-below p kept [] met = refl
stop-below p kept (h ∷ below) met = (
  met,
  [],
  stop-tried (Meets p kept true (h.left - 1)) h.at (drop (h.tried + 1) h.actions) met,
  stop-below p kept below met,
)

pub stop-met : (p : PlainProblem) (kept : List Pair) (left k : ℕ) (met : List Meeting) → (mid : List Meeting) ×
    Meets p kept true left k met [] mid []
unfolding Meets
stop-met p kept zero k met = ((k, 0) ∷ met, (refl, refl))
stop-met p kept (suc left) k met = (met, inl (refl, refl, refl))

-- ---- with how many remaining actions pairs were met

get-set : (xs : List ℕ) (k r j m : ℕ) → slice_get (set xs k r) j ≡ Some m → ((j ≡ k) × (m ≡ r)) ⊎ ((j ≢ k) × (slice_get xs j ≡ Some m))
get-set [] k r j m e = absurd (let b : ⊥ = cc in b)
get-set (x ∷ xs) zero r zero m e = inl (refl, let q : m ≡ r = cc in q)
get-set (x ∷ xs) zero r (suc j) m e = inr (λ q. let b : ⊥ = omega (arith, q) in b, e)
get-set (x ∷ xs) (suc k) r zero m e = inr (λ q. let b : ⊥ = omega (arith, q) in b, e)
get-set (x ∷ xs) (suc k) r (suc j) m e = elim (get-set xs k r j m e) [
  | inl h ↦ inl (ap suc h.0, h.1)
  | inr h ↦ inr
      (λ q. h.0 (let i : j ≡ k = omega (arith, q) in i), h.1)
]

meeting : (k l j m : ℕ) → k ≡ j → l ≡ m → let v : Meeting = (k, l) in let w : Meeting = (j, m) in v ≡ w
meeting k l j m e f = λ i. (e i, f i)

-- nothing was met
none-met : AreGreatest [] []
none-met = record { reached = λ k m e. absurd (let b : ⊥ = cc in b); greatest = λ k m l e a. absurd a; known = λ k l a. absurd a }

module _ (most : List ℕ) (met : List Meeting) (t : AreGreatest most met) (k left : ℕ) where
  -- a pair is met with no more than before
  pub greatest-passed : (b : ℕ) → slice_get most k ≡ Some b → left ≤ b → AreGreatest most ((k, left) ∷ met)
  greatest-passed b e l = record {
    reached = λ j m f. inr (t.reached j m f);
    greatest = λ j m i f a. elim a [
      | inl q ↦ (let same : k ≡ j = ap (λ (v : Meeting). v.0) q in let this : left ≡ i = ap (λ (v : Meeting). v.1) q in let one : b ≡ m =
          get-one most k b m e (subst (λ z. slice_get most z ≡ Some m) (sym same) f) in omega (arith, l, this, one))
      | inr a ↦ t.greatest j m i f a
    ];
    known = λ j i a. elim a [
      | inl q ↦ (let same : k ≡ j = ap (λ (v : Meeting). v.0) q in let r : k < length most = slice_get_within most k b e in
          omega (arith, same, r))
      | inr a ↦ t.known j i a
    ];
  }

  -- with more
  pub greatest-more : (b : ℕ) → slice_get most k ≡ Some b → b < left → AreGreatest (set most k left) ((k, left) ∷ met)
  greatest-more b e l = record {
    reached = λ j m f. elim (get-set most k left j m f) [
      | inl h ↦ inl (meeting k left j m (sym h.0) (sym h.1))
      | inr h ↦ inr
          (t.reached j m h.1)
    ];
    greatest = λ j m i f a. elim (get-set most k left j m f) [
      | inl h ↦ elim a [
        | inl q ↦ (let this : left ≡ i = ap (λ (v : Meeting). v.1) q in omega (arith, this, h.1))
        | inr a ↦ (let old : i ≤ b = t.greatest k b i e (subst (λ z. Among (z, i) met) h.0 a) in omega (arith, old, l, h.1))
      ]
      | inr h ↦ elim a [ inl q ↦ absurd (h.0 (sym (ap (λ (v : Meeting). v.0) q))) | inr a ↦ t.greatest j m i h.1 a ]
    ];
    known = λ j i a. elim a [
      | inl q ↦ (let same : k ≡ j = ap (λ (v : Meeting). v.0) q in let r : k < length most = slice_get_within most k b e in
          omega (arith, same, r, length-set most k left))
      | inr a ↦ (let r : j < length most = t.known j i a in omega (arith, r, length-set most k left))
    ];
  }

  -- for the first time
  pub greatest-first : k ≡ length most → AreGreatest (most ++ left ∷ []) ((k, left) ∷ met)
  greatest-first n = record {
    reached = λ j m f. elim (get-either most left j m f) [
      | inl h ↦ inr (t.reached j m h)
      | inr h ↦ inl
          (meeting k left j m (n ∙ sym h.0) h.1)
    ];
    greatest = λ j m i f a. elim (get-either most left j m f) [
      | inl h ↦ elim a [
        | inl q ↦ (let same : k ≡ j = ap (λ (v : Meeting). v.0) q in let r : j < length most = slice_get_within most j m h in let b : ⊥ =
            omega (arith, same, r, n) in absurd b)
        | inr a ↦ t.greatest j m i h a
      ]
      | inr h ↦ elim a [
        | inl q ↦ (let this : left ≡ i = ap (λ (v : Meeting). v.1) q in omega (arith, this, h.1))
        | inr a ↦ (let r : j < length most = t.known j i a in let b : ⊥ = omega (arith, r, h.0) in absurd b)
      ]
    ];
    known = λ j i a. elim a [
      | inl q ↦ (let same : k ≡ j = ap (λ (v : Meeting). v.0) q in omega (arith, same, n, length-snoc most left))
      | inr a ↦ (let r : j < length most = t.known j i a in omega (arith, r, length-snoc most left))
    ];
  }

  pub more-than : (b : ℕ) → slice_get most k ≡ Some b → b < left → IsMore met k left
  more-than b e l i a = let h : i ≤ b = t.greatest k b i e a in omega (arith, h, l)

  pub not-more : (b : ℕ) → slice_get most k ≡ Some b → left ≤ b → IsMore met k left → ⊥
  not-more b e l h = let q : b < left = h b (t.reached k b e) in omega (arith, q, l)

  pub more-first : k ≡ length most → IsMore met k left
  more-first n i a = let q : k < length most = t.known k i a in let b : ⊥ = omega (arith, q, n) in absurd b

-- ---- what follows an event

module _ (p : PlainProblem) (kept : List Pair) (cut : Bool) where
  pub meets-passed : (left k : ℕ) (met : List Meeting) (rest : List Event) → (IsMore met k left → ⊥) →
      Meets p kept cut left k met rest ((k, left) ∷ met) rest
  unfolding Meets
  meets-passed zero k met rest never = (refl, refl)
  meets-passed (suc left) k met rest never = inr (inr (never, (refl, refl)))

  pub meets-last : (left k : ℕ) (met : List Meeting) (rest : List Event) → left ≡ 0 →
      Meets p kept cut left k met rest ((k, left) ∷ met) rest
  unfolding Meets
  meets-last zero k met rest e = (refl, refl)
  meets-last (suc left) k met rest e = absurd (let b : ⊥ = omega (arith, e) in b)

  pub meets-entered : (left k : ℕ) (met : List Meeting) (rest : List Event) (mid : List Meeting) (next : List Event) (level : Level)
      (x : Pair) → 0 < left → IsMore met k left → slice_get kept k ≡ Some x → ListsActions p x.world level.actions
      → level.at ≡ k → level.left ≡ left → level.tried ≡ 0 → TriesRest p kept cut level ((k, left) ∷ met) rest mid next →
      Meets p kept cut left k met rest mid next
  unfolding Meets
  meets-entered zero k met rest mid next level x some more e l at m none t = absurd (let b : ⊥ = omega (arith, some) in b)
  meets-entered (suc left) k met rest mid next level x some more e l at m none t = inr (inl (more, (x, level.actions, e, l, tried)))
    where
      tried : AreTried cut (Meets p kept cut left) k level.actions ((k, suc left) ∷ met) rest mid next
      tried =
          subst (λ z. AreTried cut (Meets p kept cut z) k level.actions ((k, suc left) ∷ met) rest mid next)
          (let q : level.left - 1 ≡ left = omega (arith, m) in q)
          (subst (λ z. AreTried cut (Meets p kept cut (level.left - 1)) z level.actions ((k, suc left) ∷ met) rest mid next) at
          (subst (λ z. AreTried cut (Meets p kept cut (level.left - 1)) level.at (drop z level.actions) ((k, suc left) ∷ met) rest mid next)
          none t))

-- ---- steps

on-top : (front : List Level) (c : Level) → reverse (front ++ c ∷ []) ≡ c ∷ reverse front
on-top front c = reverse-append front (c ∷ [])

module _ (p : PlainProblem) (n : ℕ) (old kept : List Pair) (most : List ℕ) (front : List Level) (c : Level) (events : List Event)
    (f : IsFollowed p n old most (front ++ c ∷ []) events) (a : Action) (at-action : slice_get c.actions c.tried ≡ Some a) (left : ℕ)
    (remaining : suc left ≡ c.left) (e : Event) (is : IsEventOf c.at a e) (stay : StayPairs old kept) where
  -- an event of the top level is told, and what follows it
  tells : (all : List Pair) → StayPairs kept all → (cut : Bool) (rest : List Event) (mid : List Meeting) (next : List Event) →
      Follows (Meets p all cut left) e f.met rest mid next → (last : List Meeting) (later : List Event) →
      TriesRest p all cut (stepped c) mid next last later → GoOn p all cut (reverse front) last later →
      AreInDepth p n all cut ((events ++ e ∷ []) ++ rest)
  unfolding AreTried AllGoOn
  tells all s cut rest mid next h last later t g = subst (AreInDepth p n all cut) (sym (append_assoc events (e ∷ []) rest))
      (f.goes_on all (λ k x q. s k x (stay k x q)) cut (e ∷ rest) (subst (λ ls. AllGoOn p all cut ls f.met (e ∷ rest))
      (sym (on-top front c)) (last, later, tried, g)))
    where
      tried : TriesRest p all cut c f.met (e ∷ rest) last later
      tried = subst (λ us. AreTried cut (Meets p all cut (c.left - 1)) c.at us f.met (e ∷ rest) last later)
          (sym (get-rest c.actions c.tried a at-action))
          (inr (
            e,
            rest,
            mid,
            next,
            refl,
            is,
            subst (λ z. Follows (Meets p all cut z) e f.met rest mid next)
                (let q : left ≡ c.left - 1 = omega (arith, remaining) in q) h,
            t,
          ))

  -- the top level goes on with its next action
  pub follow-passed : (more : List ℕ) (met : List Meeting) → AreGreatest more met →
      ((all : List Pair) (cut : Bool) (rest : List Event) → Follows (Meets p all cut left) e f.met rest met rest) →
      IsFollowed p n kept more (front ++ stepped c ∷ []) (events ++ e ∷ [])
  unfolding AllGoOn
  follow-passed more met t pass = record {
    met = met;
    table = t;
    goes_on = λ all s cut rest g. (let h = subst (λ ls. AllGoOn p all cut ls met rest) (on-top front (stepped c)) g in
        tells all s cut rest met rest (pass all cut rest) h.0 h.1 h.2 h.3);
  }

  -- a pair is entered
  pub follow-entered : (more : List ℕ) (met : List Meeting) → AreGreatest more met → (level : Level) →
      ((all : List Pair) → StayPairs kept all → (cut : Bool) (rest : List Event) (mid : List Meeting) (next : List Event) →
      TriesRest p all cut level met rest mid next → Follows (Meets p all cut left) e f.met rest mid next) →
      IsFollowed p n kept more ((front ++ c ∷ []) ++ level ∷ []) (events ++ e ∷ [])
  unfolding AllGoOn GoOn
  follow-entered more met t level enter = record {
    met = met;
    table = t;
    goes_on = λ all s cut rest g. (let h = subst (λ ls. AllGoOn p all cut ls met rest)
        (on-top (front ++ c ∷ []) level ∙ ap (λ ls. level ∷ ls) (on-top front c)) g in
        tells all s cut rest h.0 h.1 (enter all s cut rest h.0 h.1 h.2) h.3.0 h.3.1 h.3.2 h.3.3);
  }

  -- the search ends with the event
  pub follow-stopped : ((all : List Pair) → (mid : List Meeting) × Follows (Meets p all true left) e f.met [] mid []) →
      AreInDepth p n kept true (events ++ e ∷ [])
  follow-stopped stops =
      let h = stops kept in
      subst (AreInDepth p n kept true) (append-nil (events ++ e ∷ []))
      (tells kept (λ k x q. q) true [] h.0 [] h.1 h.0 [] (stop-tried (Meets p kept true (c.left - 1)) c.at
      (drop (c.tried + 1) c.actions) h.0) (stop-below p kept (reverse front) h.0))

-- nothing is left of the top level
no-rest : (p : PlainProblem) (kept : List Pair) (cut : Bool) (c : Level) → length c.actions ≤ c.tried →
    (met : List Meeting) (rest : List Event) → TriesRest p kept cut c met rest met rest
unfolding AreTried
no-rest p kept cut c over met rest = subst (λ us. AreTried cut (Meets p kept cut (c.left - 1)) c.at us met rest met rest)
    (sym (rest-none c.actions c.tried over)) (refl, refl)

-- the top level is left
pub follow-left : (p : PlainProblem) (n : ℕ) (kept : List Pair) (most : List ℕ) (front : List Level) (h c : Level) (events : List Event) →
    length c.actions ≤ c.tried → IsFollowed p n kept most ((front ++ h ∷ []) ++ c ∷ []) events →
    IsFollowed p n kept most (front ++ stepped h ∷ []) events
unfolding AllGoOn GoOn
follow-left p n kept most front h c events over f = record {
  met = f.met;
  table = f.table;
  goes_on = λ all s cut rest g. f.goes_on all s cut rest (subst (λ ls. AllGoOn p all cut ls f.met rest)
      (sym (on-top (front ++ h ∷ []) c ∙ ap (λ ls. c ∷ ls) (on-top front h)))
      (f.met, rest, no-rest p all cut c over f.met rest, subst (λ ls. AllGoOn p all cut ls f.met rest) (on-top front (stepped h)) g));
}

pub follow-root-left : (p : PlainProblem) (n : ℕ) (kept : List Pair) (most : List ℕ) (c : Level) (events : List Event) →
    length c.actions ≤ c.tried → IsFollowed p n kept most (c ∷ []) events → IsFollowed p n kept most [] events
unfolding AllGoOn GoOn
follow-root-left p n kept most c events over f = record {
  met = f.met;
  table = f.table;
  goes_on = λ all s cut rest g. f.goes_on all s cut rest (f.met, rest, no-rest p all cut c over f.met rest, g);
}

-- nothing is left to expand
pub follow-ended : (p : PlainProblem) (n : ℕ) (kept : List Pair) (most : List ℕ) (events : List Event) →
    IsFollowed p n kept most [] events → AreInDepth p n kept false events
unfolding AllGoOn
follow-ended p n kept most events f = subst (AreInDepth p n kept false) (append-nil events) (f.goes_on kept (λ k x q. q) false [] refl)

-- ---- the beginning

-- the root is kept, and not expanded
pub follow-root-last : (p : PlainProblem) (n : ℕ) (kept : List Pair) → n ≡ 0 → IsFollowed p n kept (n ∷ []) [] (event.RootKept ∷ [])
unfolding AllGoOn AreInDepth
follow-root-last p n kept z = record {
  met = (0, n) ∷ [];
  table = greatest-first [] [] none-met 0 n refl;
  goes_on = λ all s cut rest g. (
    (0, n) ∷ [],
    subst (λ es. Meets p all cut n 0 [] rest ((0, n) ∷ []) es) g
        (meets-last p all cut n 0 [] rest z),
  );
}

-- or entered
pub follow-root-entered : (p : PlainProblem) (n : ℕ) (kept : List Pair) (level : Level) (x : Pair) → 0 < n → slice_get kept 0 ≡ Some x →
    ListsActions p x.world level.actions → level.at ≡ 0 → level.left ≡ n → level.tried ≡ 0 →
    IsFollowed p n kept (n ∷ []) (level ∷ []) (event.RootKept ∷ [])
unfolding AllGoOn GoOn AreInDepth
follow-root-entered p n kept level x some e l at m none = record {
  met = (0, n) ∷ [];
  table = greatest-first [] [] none-met 0 n refl;
  goes_on = λ all s cut rest g. (
    g.0,
    subst (λ es. Meets p all cut n 0 [] rest g.0 es) g.3
        (meets-entered p all cut n 0 [] rest g.0 g.1 level x some (more-first [] [] none-met 0 n refl) (s 0 x e) l at m none g.2),
  );
}

-- the root alone is told of
pub pruned-in-depth : (p : PlainProblem) (n : ℕ) (kept : List Pair) → AreInDepth p n kept false (event.RootPruned ∷ [])
unfolding AreInDepth
pruned-in-depth p n kept = refl

pub root-in-depth : (p : PlainProblem) (n : ℕ) (kept : List Pair) → AreInDepth p n kept true (event.RootKept ∷ [])
unfolding AreInDepth
root-in-depth p n kept = stop-met p kept n 0 []

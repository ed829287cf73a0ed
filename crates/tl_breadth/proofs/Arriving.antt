-- What a search does with the pair after an action.
use Rattle.std.proofs.Common.{◌≡◌, ◌≢◌, ◌≤◌, ◌<◌, ◌+◌, ◌↔◌, ℕ, suc, List, [], ◌∷◌, ◌++◌, length, take, slice_get, Option, Some, None}
use Rattle.std.proofs.Common.{Result, Ok, Err, IfOk, IsTrue, is_some, refl, sym, ap, ◌∙◌, subst, arith, inl, inr}
use Rattle.tl_syntax.specs.declared.action.Action.{Action}
use Rattle.tl_syntax.specs.Trees.{falsum}
use Rattle.tl_terms.specs.Looked.{looked_by_action, looked_by_progressing}
use Rattle.tl_terms.specs.Pairs.{Pair}
use Rattle.tl_terms.specs.Problem.{PlainProblem}
use Rattle.tl_terms.specs.Step.{step}
use Rattle.tl_terms.specs.World.{World}
use Rattle.tl_eval.specs.Notes.{Tells, operation_of}
use Rattle.tl_eval.specs.declared.range.RangeNote.{RangeNote}
use Rattle.tl_search.specs.Graphs.{walk}
use Rattle.tl_search.specs.Kept.{AreKept}
use Rattle.tl_search.specs.Plans.{HasNoPlanBelow}
use Rattle.tl_search.specs.PairGraph.{next_pair, unless_pruned, pair_graph}
use Rattle.tl_search.specs.RangeCauses.{IsRangeCause}
use Rattle.tl_search.specs.KeptPairs.{KeptPair}
use Rattle.tl_breadth.specs.BreadthFirst.{IsBreadthFirst, NoneAccepted}
use Rattle.tl_search.specs.ListedActions.{ListsActions}
use Rattle.tl_search.proofs.WalkLaws.{length-snoc}
use Rattle.tl_search.proofs.ListLaws.{among-at, get-one, get-either}
use Rattle.tl_search.proofs.PathLaws.{unless-pruned, walk-pair}
use Rattle.tl_search.proofs.RangeLaws.{range-by-action, range-after}
use Rattle.tl_breadth.proofs.BreadthSteps.{breadth-pruned, breadth-seen, breadth-fresh}
use Rattle.tl_breadth.proofs.BreadthAnswers.{kept-open, kept-pair-of, turn-no-shorter}
use Rattle.tl_search.specs.declared.arrival.Arrival.TheVariants as arrival
use Rattle.tl_search.specs.Arrivals.{Arrives}
use Rattle.tl_search.specs.Causes.{IsCausedByChild}
use Rattle.tl_search.specs.Faults.{TellsChild}
use Rattle.tl_search.specs.declared.fault.SearchFault.{SearchFault}
use Rattle.tl_search.specs.declared.fault.SearchFault.TheVariants as fault
use Rattle.tl_search.specs.declared.fault.SpaceFault.{SpaceFault}
use Rattle.tl_search.specs.declared.fault.SpaceFault.TheVariants as space
use Rattle.tl_breadth.specs.Outcomes.{IsSearching, AwaitsJudgement, HasTurn, IsTriedThen, Leaves, IsBreadthFirstFault}
use Rattle.tl_search.specs.declared.outcome.Outcome.{Outcome}

-- what one part leaves is what the next part leaves
pub leaves-map : {E : Type 0} (p : PlainProblem) (n b : ℕ) (kept : List KeptPair) (A B : Type 0) (r : Result (Option Outcome) E) → (A → B) →
    IfOk r (Leaves p n b kept A) → IfOk r (Leaves p n b kept B)
leaves-map p n b kept A B (Ok None) f h = f h
leaves-map p n b kept A B (Ok (Some o)) f h = h
leaves-map p n b kept A B (Err e) f h = tt

none-more : (p : PlainProblem) (old : List KeptPair) (x : KeptPair) → NoneAccepted p old (length old) →
    NoneAccepted p (old ++ x ∷ []) (length old)
none-more p old x none i y e less = elim (get-either old x i y e) [
  | inl h ↦ none i y h less
  | inr h ↦
      (let b : ⊥ = omega (arith, h.0) in absurd b)
]

after-some : (p : PlainProblem) (x y : Pair) (a : Action) → next_pair p x a ≡ Some y → y.formula ≢ falsum → (pair_graph p).after x a ≡
    Some y
unfolding pair_graph
after-some p x y a e n = (unless-pruned (next_pair p x a) y).1 (e, n)

after-none : (p : PlainProblem) (x y : Pair) (a : Action) → next_pair p x a ≡ Some y → y.formula ≡ falsum → (pair_graph p).after x a ≡ None
unfolding pair_graph
after-none p x y a e f = by_end (unless_pruned (next_pair p x a)) refl
  where
    by_end : (o : Option Pair) → unless_pruned (next_pair p x a) ≡ o → unless_pruned (next_pair p x a) ≡ None
    by_end None q = q
    by_end (Some z) q =
        let k = (unless-pruned (next_pair p x a) z).0 q in
        let d : Some y ≡ Some z = sym e ∙ k.0 in
        let s : y ≡ z = cc in
        absurd (k.1 (ap (λ (u : Pair). u.formula) (sym s) ∙ f))

module _ (p : PlainProblem) (n b : ℕ) (old : List KeptPair) (at : ℕ) (a : Action) where
  pub turn-executable : HasTurn p n b old at a → (x : KeptPair) → slice_get old at ≡ Some x → IsTrue (is_some (step p x.node.world a))
  turn-executable t x e = subst (λ (y : KeptPair). IsTrue (is_some (step p y.node.world a))) (get-one old at t.pair x t.is_pair e)
      ((t.lists.exact a).0 (among-at t.listed t.k a t.turn))

  module _ (new : List KeptPair) (pair : KeptPair) (is_pair : slice_get old at ≡ Some pair) where
    pub fresh-awaits : (m : ℕ) (t : HasTurn p n b old at a) → Arrives old new (next_pair p pair.node a) (pair.path ++ a ∷ [])
        (arrival.Fresh m) → AreKept (pair_graph p) new → AwaitsJudgement p n b new m
    fresh-awaits m t h all =
        let x : KeptPair = record { node = h.1.0; path = pair.path ++ a ∷ [] } in
        let same : t.pair ≡ pair = get-one old at t.pair pair t.is_pair is_pair in
        record {
          done = at;
          tried = take (t.k + 1) t.listed;
          breadth = subst (λ xs. IsBreadthFirst p n xs at (take (t.k + 1) t.listed)) (sym h.1.3)
              (breadth-fresh p n old at pair t.listed (subst (λ (y : KeptPair). ListsActions p y.node.world t.listed) same t.lists) is_pair
              t.k a t.turn t.searching.breadth h.1.0 (after-some p pair.node h.1.0 a h.1.1 h.1.2) (subst (AreKept (pair_graph p)) h.1.3 all)
              (subst (λ (y : KeptPair). length y.path < n) same t.short));
          none = subst (λ xs. NoneAccepted p xs m) (sym h.1.3) (subst (NoneAccepted p (old ++ x ∷ [])) (sym h.0)
              (none-more p old x t.searching.none));
          last = ap length h.1.3 ∙ (length-snoc old x ∙ (let q : suc (length old) ≡ m + 1 = omega (arith, h.0) in q));
          few = omega (arith, h.0, t.searching.few);
        }

    pub fresh-tried : (m : ℕ) (t : HasTurn p n b old at a) → Arrives old new (next_pair p pair.node a) (pair.path ++ a ∷ [])
        (arrival.Fresh m) → AreKept (pair_graph p) new → NoneAccepted p new (m + 1) → m + 1 ≤ b → IsTriedThen p n b old new at a
    fresh-tried m t h all none few other listed k e l turn s =
        let x : KeptPair = record { node = h.1.0; path = pair.path ++ a ∷ [] } in
        let same : pair ≡ other = get-one old at pair other is_pair e in
        let long : length new ≡ m + 1 = ap length h.1.3 ∙ (length-snoc old x ∙ (let q : suc (length old) ≡ m + 1 = omega (arith, h.0) in q))
        in
        let short : length pair.path < n = subst (λ (y : KeptPair). length y.path < n)
        (get-one old at t.pair pair t.is_pair is_pair) t.short in
        record {
          breadth = subst (λ xs. IsBreadthFirst p n xs at (take (k + 1) listed)) (sym h.1.3)
              (breadth-fresh p n old at pair listed (subst (λ (y : KeptPair). ListsActions p y.node.world listed) (sym same) l) is_pair k a
              turn s.breadth h.1.0 (after-some p pair.node h.1.0 a h.1.1 h.1.2) (subst (AreKept (pair_graph p)) h.1.3 all) short);
          none = subst (NoneAccepted p new) (sym long) none;
          few = omega (arith, long);
        }

    pub seen-tried : (m : ℕ) → Arrives old new (next_pair p pair.node a) (pair.path ++ a ∷ []) (arrival.Seen m) →
        IsTriedThen p n b old new at a
    seen-tried m h other listed k e l turn s =
        let same : pair ≡ other = get-one old at pair other is_pair e in
        let whole : (walk (pair_graph p) h.1.0.path ≡ Some h.1.0.node) ↔ _ = walk-pair p h.1.0.path h.1.0.node in
        subst (λ xs. IsSearching p n b xs at (take (k + 1) listed)) (sym h.0) (record {
          breadth = breadth-seen p n old at pair listed (subst (λ (y : KeptPair). ListsActions p y.node.world listed) (sym same) l) is_pair
              k a turn s.breadth m h.1.0 h.1.1 (after-some p pair.node h.1.0.node a h.1.2
              (whole.0 (s.breadth.are_kept.walks m h.1.0 h.1.1)).1);
          none = s.none;
          few = s.few;
        })

    pub pruned-tried : Arrives old new (next_pair p pair.node a) (pair.path ++ a ∷ []) arrival.Pruned → IsTriedThen p n b old new at a
    pruned-tried h other listed k e l turn s =
        let same : pair ≡ other = get-one old at pair other is_pair e in
        subst (λ xs. IsSearching p n b xs at (take (k + 1) listed)) (sym h.0) (record {
          breadth = breadth-pruned p n old at pair listed (subst (λ (y : KeptPair). ListsActions p y.node.world listed) (sym same) l)
              is_pair k a turn s.breadth (after-none p pair.node h.1.0 a h.1.1 h.1.2);
          none = s.none;
          few = s.few;
        })

  -- ---- past range

  module _ (t : HasTurn p n b old at a) (path : List Action) (note : RangeNote) where
    pub range-here : ((x : KeptPair) → slice_get old at ≡ Some x → path ≡ x.path) →
        ((x : KeptPair) → slice_get old at ≡ Some x → Tells (looked_by_action p x.node.world a) note) →
        IsRangeCause p n path (operation_of note) × HasNoPlanBelow p (length path)
    range-here is_path h =
        let m = h t.pair t.is_pair in
        let longer = turn-no-shorter p n old at (take t.k t.listed) t.searching.breadth t.searching.none t.pair t.is_pair in
        subst (λ us. IsRangeCause p n us (operation_of note) × HasNoPlanBelow p (length us)) (sym (is_path t.pair t.is_pair)) (
          range-by-action p n (operation_of note) m.1 t.pair.path t.pair.node
              (kept-pair-of p n old at (take t.k t.listed) t.searching.breadth at t.pair t.is_pair)
              (kept-open p n old at (take t.k t.listed) t.searching.breadth at t.pair t.is_pair) t.short a m.0,
          λ plan k. (let q : length t.pair.path + 1 ≤ length plan = longer plan k in omega arith),
        )

    pub range-behind : ((x : KeptPair) → slice_get old at ≡ Some x → path ≡ x.path ++ a ∷ []) →
        ((x : KeptPair) → slice_get old at ≡ Some x → (w : World) × (step p x.node.world a ≡ Some w) ×
        Tells (looked_by_progressing p w x.node.formula) note) → IsRangeCause p n path (operation_of note) × HasNoPlanBelow p (length path)
    range-behind is_path h =
        let m = h t.pair t.is_pair in
        let longer = turn-no-shorter p n old at (take t.k t.listed) t.searching.breadth t.searching.none t.pair t.is_pair in
        subst (λ us. IsRangeCause p n us (operation_of note) × HasNoPlanBelow p (length us)) (sym (is_path t.pair t.is_pair)) (
          range-after p n (operation_of note) m.2.1 t.pair.path t.pair.node
              (kept-pair-of p n old at (take t.k t.listed) t.searching.breadth at t.pair t.is_pair)
              (kept-open p n old at (take t.k t.listed) t.searching.breadth at t.pair t.is_pair) t.short a m.0 m.1 m.2.0,
          λ plan k. (let q : length t.pair.path + 1 ≤ length plan = longer plan k in omega (arith, length-snoc t.pair.path a)),
        )

  -- the search's fault has its cause where the space's fault has
  pub child-fault : (t : HasTurn p n b old at a) (s : SpaceFault) (f : SearchFault) →
      ((x : KeptPair) → slice_get old at ≡ Some x → TellsChild x.path a s f)
      → ((x : KeptPair) → slice_get old at ≡ Some x → IsCausedByChild p x.node a s) → IsBreadthFirstFault p n f
  child-fault t s fault.NoMemory is h = tt
  child-fault t (space.RangeHere note) (fault.Range path o) is h =
      subst (λ (m : RangeNote). IsBreadthFirstFault p n (fault.Range path m)) (sym (is t.pair t.is_pair).1)
      (range-here t path note (λ x e. (is x e).0) h)
  child-fault t (space.RangeAfter note) (fault.Range path o) is h =
      subst (λ (m : RangeNote). IsBreadthFirstFault p n (fault.Range path m)) (sym (is t.pair t.is_pair).1)
      (range-behind t path note (λ x e. (is x e).0) h)
  child-fault t space.NoMemory (fault.Range path o) is h = absurd (is t.pair t.is_pair)

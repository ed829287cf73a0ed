-- What a search does with all actions of a pair, and with all pairs of a level.
use Rattle.std.proofs.Common.{◌≡◌, ◌≤◌, ◌<◌, ◌+◌, ℕ, List, [], ◌∷◌, ◌++◌, length, take, slice_get, Option, Some, None, ◌≢◌, refl, sym, ap}
use Rattle.std.proofs.Common.{◌∙◌, subst, arith, take_all}
use Rattle.std.proofs.lemmas.Option.{slice_get_within}
use Rattle.tl_syntax.specs.declared.action.Action.{Action}
use Rattle.tl_syntax.specs.Trees.{falsum}
use Rattle.tl_terms.specs.Pairs.{Pair, pair_of}
use Rattle.tl_terms.specs.Looked.{looked_by_action, looked_by_progressing}
use Rattle.tl_terms.specs.Problem.{PlainProblem}
use Rattle.tl_eval.specs.Notes.{Tells, operation_of}
use Rattle.tl_eval.specs.declared.range.RangeNote.{RangeNote}
use Rattle.tl_search.specs.Plans.{HasNoPlan, HasNoPairFrom, HasNoPlanBelow, HasNoPlanWithin, HasPairAt}
use Rattle.tl_search.specs.RangeCauses.{IsRangeCause}
use Rattle.tl_search.specs.KeptPairs.{KeptPair}
use Rattle.tl_breadth.specs.BreadthFirst.{IsBreadthFirst, NoneAccepted}
use Rattle.tl_search.specs.ListedActions.{ListsActions}
use Rattle.tl_search.proofs.ListLaws.{get-one, get-inside, get-single}
use Rattle.tl_search.specs.PairGraph.{unless_pruned, pair_graph}
use Rattle.tl_search.proofs.PathLaws.{unless-pruned}
use Rattle.tl_search.proofs.RangeLaws.{range-at-root, range-by-action}
use Rattle.tl_breadth.proofs.BreadthSteps.{breadth-root, breadth-next}
use Rattle.tl_breadth.proofs.BreadthAnswers.{kept-distance, kept-open, kept-pair-of, turn-no-shorter, end-within, end-no-plan, end-no-pair}
use Rattle.tl_breadth.proofs.BreadthAnswers.{no-root-no-plan, no-root-no-pair}
use Rattle.tl_breadth.proofs.Growing.{levels-grow}
use Rattle.tl_search.specs.declared.arrival.Arrival.TheVariants as arrival
use Rattle.tl_search.specs.Arrivals.{Arrives}
use Rattle.tl_search.specs.Causes.{IsCausedByActions, IsRootFault}
use Rattle.tl_search.specs.Faults.{TellsPair}
use Rattle.tl_search.specs.declared.fault.SearchFault.{SearchFault}
use Rattle.tl_search.specs.declared.fault.SearchFault.TheVariants as fault
use Rattle.tl_search.specs.declared.fault.SpaceFault.{SpaceFault}
use Rattle.tl_search.specs.declared.fault.SpaceFault.TheVariants as space
use Rattle.tl_breadth.specs.Outcomes.{PathsAreShortest, AwaitsJudgement, IsSearching, HasTurn, IsTriedThen, GrowsBy, IsReady, IsAtLevel}
use Rattle.tl_breadth.specs.Outcomes.{IsBreadthFirstFault}

module _ (p : PlainProblem) (n b : ℕ) (old : List KeptPair) (at : ℕ) (r : IsReady p n b old at) where
  module _ (items : List Action) (lists : (x : KeptPair) → slice_get old at ≡ Some x → ListsActions p x.node.world items)
      (new : List KeptPair) (grows : (x : KeptPair) → slice_get old at ≡ Some x → GrowsBy (length x.path + 1) old new) where
    is_pair : slice_get new at ≡ Some r.pair
    is_pair = (grows r.pair r.is_pair).stay at r.pair r.is_pair

    pub expand-turn : (k : ℕ) (a : Action) → slice_get items k ≡ Some a → IsSearching p n b new at (take k items) → HasTurn p n b new at a
    expand-turn k a turn s = record {
      pair = r.pair;
      is_pair = is_pair;
      short = r.short;
      listed = items;
      lists = lists r.pair r.is_pair;
      k =
          k;
      turn = turn;
      searching = s;
    }

    pub expand-on : (k : ℕ) (a : Action) (next : List KeptPair) → slice_get items k ≡ Some a → IsSearching p n b new at (take k items) →
        IsTriedThen p n b new next at a → IsSearching p n b next at (take (k + 1) items)
    expand-on k a next turn s h = h r.pair items k is_pair (lists r.pair r.is_pair) turn s

    pub expand-done : (k : ℕ) → length items ≤ k → IsSearching p n b new at (take k items) → IsSearching p n b new (at + 1) []
    expand-done k all s = record {
      breadth = breadth-next p n new at r.pair items (lists r.pair r.is_pair) is_pair
          (subst (IsBreadthFirst p n new at) (take_all k items all) s.breadth) r.short;
      none = s.none;
      few = s.few;
    }

    -- the pair is the same pair when the list grows further
    pub expand-pair : (x : KeptPair) → slice_get new at ≡ Some x → slice_get old at ≡ Some x
    expand-pair x e = subst (λ (y : KeptPair). slice_get old at ≡ Some y) (get-one new at r.pair x is_pair e) r.is_pair

  pub expand-range : (path : List Action) (note : RangeNote) → ((x : KeptPair) → slice_get old at ≡ Some x → path ≡ x.path) →
      ((x : KeptPair) → slice_get old at ≡ Some x → (a : Action) × Tells (looked_by_action p x.node.world a) note) →
      IsRangeCause p n path (operation_of note) × HasNoPlanBelow p (length path)
  expand-range path note is_path h =
      let m = h r.pair r.is_pair in
      let longer = turn-no-shorter p n old at [] r.searching.breadth r.searching.none r.pair r.is_pair in
      subst (λ us. IsRangeCause p n us (operation_of note) × HasNoPlanBelow p (length us)) (sym (is_path r.pair r.is_pair)) (
        range-by-action p n (operation_of note) m.1.1 r.pair.path r.pair.node
            (kept-pair-of p n old at [] r.searching.breadth at r.pair r.is_pair)
            (kept-open p n old at [] r.searching.breadth at r.pair r.is_pair) r.short m.0 m.1.0,
        λ plan k. (let q : length r.pair.path + 1 ≤ length plan = longer plan k in omega arith),
      )

  -- the search's fault has its cause where the space's fault has
  pub expand-fault : (s : SpaceFault) (f : SearchFault) → ((x : KeptPair) → slice_get old at ≡ Some x → TellsPair x.path s f)
      → ((x : KeptPair) → slice_get old at ≡ Some x → IsCausedByActions p x.node s) → IsBreadthFirstFault p n f
  expand-fault s fault.NoMemory is h = tt
  expand-fault (space.RangeHere note) (fault.Range path o) is h =
      subst (λ (m : RangeNote). IsBreadthFirstFault p n (fault.Range path m)) (sym (is r.pair r.is_pair).1)
      (expand-range path note (λ x e. (is x e).0) h)
  expand-fault (space.RangeAfter note) (fault.Range path o) is h = absurd (is r.pair r.is_pair)
  expand-fault space.NoMemory (fault.Range path o) is h = absurd (is r.pair r.is_pair)

-- ---- levels

level-pair : (p : PlainProblem) (n b : ℕ) (kept : List KeptPair) (at end depth : ℕ) → IsAtLevel p n b kept at end depth → at < end →
    (x : KeptPair) × (slice_get kept at ≡ Some x) × (length x.path ≡ depth)
level-pair p n b kept at end depth l less = let x = get-inside kept at (omega (arith, l.inside)) in
    (x.0, x.1, (l.levels at x.0 x.1 (let q : at ≤ at = omega arith in q)).0 less)

pub level-ready : (p : PlainProblem) (n b : ℕ) (kept : List KeptPair) (at end depth : ℕ) → IsAtLevel p n b kept at end depth → at < end →
    depth < n → IsReady p n b kept at
level-ready p n b kept at end depth l less near = let x = level-pair p n b kept at end depth l less in
    record { pair = x.0; is_pair = x.1; short = omega (arith, x.2); searching = l.searching }

pub level-on : (p : PlainProblem) (n b : ℕ) (old new : List KeptPair) (at end depth : ℕ) → IsAtLevel p n b old at end depth → at < end →
    ((x : KeptPair) → slice_get old at ≡ Some x → GrowsBy (length x.path + 1) old new) → IsSearching p n b new (at + 1) [] →
    IsAtLevel p n b new (at + 1) end depth
level-on p n b old new at end depth l less grows s =
    let x = level-pair p n b old at end depth l less in
    let h : GrowsBy (depth + 1) old new = subst (λ m. GrowsBy (m + 1) old new) x.2 (grows x.0 x.1) in
    record {
      searching = s;
      levels = levels-grow old new at end depth l.inside h l.levels;
      inside =
          omega (arith, l.inside, h.longer);
      here = omega (arith, l.inside, h.longer);
    }

-- a level is done, and the next one begins
pub level-next : (p : PlainProblem) (n b : ℕ) (kept : List KeptPair) (at end depth : ℕ) → IsAtLevel p n b kept at end depth → end ≤ at →
    IsAtLevel p n b kept at (length kept) (depth + 1)
level-next p n b kept at end depth l done = record {
  searching = l.searching;
  levels = λ i x e from. (
    λ _. (l.levels i x e from).1 (omega arith),
    λ far.
        (let q : i < length kept = slice_get_within kept i x e in let c : ⊥ = omega arith in absurd c),
  );
  inside = omega arith;
  here = l.here;
}

root-some : (p : PlainProblem) (x : Pair) → pair_of p [] ≡ Some x → x.formula ≢ falsum → (pair_graph p).root ≡ Some x
unfolding pair_graph
root-some p x e n = (unless-pruned (pair_of p []) x).1 (e, n)

root-none : (p : PlainProblem) (x : Pair) → pair_of p [] ≡ Some x → x.formula ≡ falsum → (pair_graph p).root ≡ None
unfolding pair_graph
root-none p x e f = by_root (unless_pruned (pair_of p [])) refl
  where
    by_root : (o : Option Pair) → unless_pruned (pair_of p []) ≡ o → unless_pruned (pair_of p []) ≡ None
    by_root None q = q
    by_root (Some y) q = let k = (unless-pruned (pair_of p []) y).0 q in let d : Some x ≡ Some y = sym e ∙ k.0 in let s : x ≡ y = cc in
        absurd (k.1 (ap (λ (u : Pair). u.formula) (sym s) ∙ f))

-- ---- the end

pub end-none : (p : PlainProblem) (n b : ℕ) (kept : List KeptPair) (at : ℕ) → IsSearching p n b kept at [] → at ≡ length kept →
    HasNoPlan p × HasNoPairFrom p n × (length kept ≤ b) × PathsAreShortest p kept
end-none p n b kept at s e = (
  end-no-plan p n kept at [] s.breadth s.none (omega (arith, e)),
  end-no-pair p n kept at [] s.breadth (omega (arith, e)),
  s.few,
  kept-distance p n kept at [] s.breadth,
)

pub end-far : (p : PlainProblem) (n b : ℕ) (kept : List KeptPair) (at : ℕ) → IsAtLevel p n b kept at (length kept) n → at < length kept →
    HasNoPlanWithin p n × HasPairAt p n × (length kept ≤ b) × PathsAreShortest p kept
end-far p n b kept at l less =
    let x = level-pair p n b kept at (length kept) n l less in
    let h = end-within p n kept at [] l.searching.breadth l.searching.none x.0 x.1 (omega (arith, x.2)) in
    (h.0, h.1, l.searching.few, kept-distance p n kept at [] l.searching.breadth)

-- the root was judged, so the first level begins
pub first-level : (p : PlainProblem) (n b : ℕ) (kept : List KeptPair) → IsBreadthFirst p n kept 0 [] →
    ((i : ℕ) (x : KeptPair) → slice_get kept i ≡ Some x → x.path ≡ []) → NoneAccepted p kept (length kept) → length kept ≤ b →
    IsAtLevel p n b kept 0 (length kept) 0
first-level p n b kept s short none few = record {
  searching = record { breadth = s; none = none; few = few };
  levels = λ i x e from. (
    λ _. ap length (short i x e),
    λ far. (let q : i < length kept = slice_get_within kept i x e in let c : ⊥ =
        omega arith in absurd c),
  );
  inside = omega arith;
  here = omega arith;
}

pub root-level : (p : PlainProblem) (n b : ℕ) (old new : List KeptPair) (m : ℕ) → old ≡ [] →
    Arrives old new (pair_of p []) [] (arrival.Fresh m) → NoneAccepted p new (m + 1) → m + 1 ≤ b → IsAtLevel p n b new 0 (length new) 0
root-level p n b old new m e h none few =
    let x : KeptPair = record { node = h.1.0; path = [] } in
    let one : new ≡ x ∷ [] = h.1.3 ∙ ap (λ xs. xs ++ x ∷ []) e in
    let long : length new ≡ m + 1 = ap length one ∙ (let q : 1 ≡ m + 1 = omega (arith, h.0, ap length e) in q) in
    first-level p n b new (subst (λ xs. IsBreadthFirst p n xs 0 []) (sym one) (breadth-root p n h.1.0 (root-some p h.1.0 h.1.1 h.1.2)))
    (λ i y at. sym (ap (λ (z : KeptPair). z.path) (get-single x i y (subst (λ xs. slice_get xs i ≡ Some y) one at)).1))
    (subst (NoneAccepted p new) (sym long) none)
    (omega (arith, long))

pub root-awaits : (p : PlainProblem) (n b : ℕ) (old new : List KeptPair) (m : ℕ) → old ≡ [] →
    Arrives old new (pair_of p []) [] (arrival.Fresh m) → 1 ≤ b → AwaitsJudgement p n b new m
root-awaits p n b old new m e h few =
    let x : KeptPair = record { node = h.1.0; path = [] } in
    let one : new ≡ x ∷ [] = h.1.3 ∙ ap (λ xs. xs ++ x ∷ []) e in
    let zero_m : m ≡ 0 = h.0 ∙ ap length e in
    record {
      done = 0;
      tried = [];
      breadth = subst (λ xs. IsBreadthFirst p n xs 0 []) (sym one) (breadth-root p n h.1.0 (root-some p h.1.0 h.1.1 h.1.2));
      none = λ i y at less. (let c : ⊥ = omega (arith, zero_m) in absurd c);
      last = ap length one ∙ (let q : 1 ≡ m + 1 = omega (arith, zero_m) in q);
      few = omega (arith, zero_m);
    }

pub root-pruned : (p : PlainProblem) (n b : ℕ) (old new : List KeptPair) → old ≡ [] → Arrives old new (pair_of p []) [] arrival.Pruned →
    HasNoPlan p × HasNoPairFrom p n × (length new ≤ b) × PathsAreShortest p new
root-pruned p n b old new e h = let r = root-none p h.1.0 h.1.1 h.1.2 in (
  no-root-no-plan p r,
  no-root-no-pair p n r,
  omega (arith, ap length (h.0 ∙ e)),
  λ i x at.
      (let f : slice_get [] i ≡ Some x = subst (λ xs. slice_get xs i ≡ Some x) (h.0 ∙ e) at in let c : ⊥ = cc in absurd c),
)

pub root-not-seen : (old new : List KeptPair) (o : Option Pair) (m : ℕ) → old ≡ [] → Arrives old new o [] (arrival.Seen m) → ⊥
root-not-seen old new o m e h = let q : slice_get [] m ≡ Some h.1.0 = subst (λ xs. slice_get xs m ≡ Some h.1.0) e h.1.1 in let b : ⊥ = cc in
    b

pub root-range : (p : PlainProblem) (n : ℕ) (note : RangeNote) → Tells (looked_by_progressing p p.first p.control) note →
    IsRangeCause p n [] (operation_of note) × HasNoPlanBelow p 0
root-range p n note t = (range-at-root p n (operation_of note) t.1 t.0, λ plan h. omega arith)

-- the search's fault at the root has its cause where the space's fault has
pub root-fault : (p : PlainProblem) (n : ℕ) (s : SpaceFault) (f : SearchFault) → TellsPair [] s f → IsRootFault p s →
    IsBreadthFirstFault p n f
root-fault p n s fault.NoMemory t h = tt
root-fault p n (space.RangeHere note) (fault.Range path o) t h =
    subst (λ (us : List Action). IsBreadthFirstFault p n (fault.Range us o)) (sym t.0)
    (subst (λ (m : RangeNote). IsBreadthFirstFault p n (fault.Range [] m)) (sym t.1) (root-range p n note h))
root-fault p n (space.RangeAfter note) (fault.Range path o) t h = absurd h
root-fault p n space.NoMemory (fault.Range path o) t h = absurd t

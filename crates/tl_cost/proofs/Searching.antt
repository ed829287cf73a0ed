-- A search from the root on, turn by turn.
use Rattle.std.proofs.Common.{◌≡◌, ◌≢◌, ◌≤◌, ◌<◌, ℕ, ◌+◌, ◌-◌, Bool, true, false, List, [], ◌∷◌, ◌++◌, length, slice_get, Option, Some}
use Rattle.std.proofs.Common.{None, Result, Ok, Err, IfOk, refl, sym, ap, ◌∙◌, subst, inl, arith}
use Rattle.std.specs.Prelude.{IfErr}
use Rattle.tl_syntax.specs.declared.action.Action.{Action}
use Rattle.tl_syntax.specs.Trees.{falsum}
use Rattle.tl_terms.specs.Looked.{looked_by_progressing}
use Rattle.tl_terms.specs.Pairs.{Pair, pair_of}
use Rattle.tl_terms.specs.Problem.{PlainProblem}
use Rattle.tl_eval.specs.Notes.{Tells, operation_of}
use Rattle.tl_eval.specs.declared.range.RangeNote.{RangeNote}
use Rattle.tl_world.specs.declared.task.Task.{Task}
use Rattle.tl_search.specs.Arrivals.{Arrives}
use Rattle.tl_search.specs.Graphs.{walk, walk_from}
use Rattle.tl_search.specs.Kept.{AreKept}
use Rattle.tl_search.specs.KeptPairs.{KeptPair, pairs_of}
use Rattle.tl_search.specs.PairGraph.{unless_pruned, pair_graph}
use Rattle.tl_search.specs.Plans.{HasNoPlan}
use Rattle.tl_search.specs.declared.arrival.Arrival.TheVariants as arrival
use Rattle.tl_search.specs.Causes.{IsRootFault}
use Rattle.tl_search.specs.Faults.{TellsPair}
use Rattle.tl_search.specs.declared.fault.SpaceFault.{SpaceFault}
use Rattle.tl_search.specs.declared.fault.SpaceFault.TheVariants as space
use Rattle.tl_search.specs.declared.fault.SearchFault.{SearchFault}
use Rattle.tl_search.specs.declared.fault.SearchFault.TheVariants as fault
use Rattle.tl_search.proofs.KeptLaws.{length-pairs}
use Rattle.tl_search.proofs.ListLaws.{get-one, get-single}
use Rattle.tl_search.proofs.PathLaws.{unless-pruned, walk-accepted}
use Rattle.tl_search.proofs.RangeLaws.{range-at-root}
use Rattle.tl_cost.specs.LeastCosts.{HasFewNearPairs, IsCalmAtLeastCost, IsCheapestCause}
use Rattle.tl_cost.specs.Ongoing.{IsAt, IsOngoing, IsBetweenTurns, IsInTurn}
use Rattle.tl_cost.specs.Outcomes.{AnswersWhereCalm, IsCheapestFault, IsCheapestOutcome, OpensAsMany}
use Rattle.tl_cost.specs.Ticks.{IsTickedByTurns, IsCounted, IsPairSettled, StaySettled}
use Rattle.tl_cost.specs.Ways.{Adds, Drops, IsFirstOf, entry_of, is_listed, listed_len}
use Rattle.tl_cost.specs.declared.open_list.Entry.{Entry}
use Rattle.tl_cost.specs.declared.open_list.OpenList.{OpenList}
use Rattle.tl_cost.specs.declared.outcome.CostOutcome.{CostOutcome}
use Rattle.tl_cost.specs.declared.outcome.CostOutcome.TheVariants as outcome
use Rattle.tl_cost.specs.declared.ways.Found.{Found}
use Rattle.tl_cost.specs.declared.ways.Way.{Way}
use Rattle.tl_cost.proofs.CostOrder.{upto-zero}
use Rattle.tl_cost.proofs.Entries.{same-entry}
use Rattle.tl_cost.proofs.Reach.{none-open}
use Rattle.tl_cost.proofs.Settling.{settle-first}

true-false : (t : Bool) → t ≡ true → t ≡ false → ⊥
true-false t e f = let d : true ≡ false = sym e ∙ f in cc

-- ---- between two turns

module _ (p : PlainProblem) (task : Task) (costs : List ℕ) (b : ℕ) (kept : List KeptPair) (found : Found)
    (t : IsBetweenTurns p task costs b kept found) where
  -- where the open list is empty, there is no plan
  pub between-none : ((e : Entry) → is_listed found.open_list e ≡ false) → HasNoPlan p × (length kept ≤ b)
  between-none empty = (
    none-open p task costs b kept found.ways.items (is_listed found.open_list)
        (listed_len found.open_list) t.cost t.length_ t.at t.ongoing empty,
    t.ongoing.few,
  )

  pub between-few : length kept ≤ b
  between-few = t.ongoing.few

  module _ (e : Entry) (left : OpenList) (listed : is_listed found.open_list e ≡ true)
      (d : Drops (is_listed found.open_list) (is_listed left) e) where
    -- it is the turn of the pair of the first entry
    pub between-settles : IsFirstOf (is_listed found.open_list) e → listed_len left + 1 ≡ listed_len found.open_list →
        IsInTurn p task costs b kept (record { ways = found.ways; open_list = left }) e.number None
    between-settles first len =
        let x = t.ongoing.exact e listed in
        record {
          pair = x.0;
          way = x.1;
          is_at = x.2;
          settled = ap (is_listed left) (sym x.3) ∙ d.is;
          ongoing = settle-first p task costs b kept found.ways.items (is_listed found.open_list)
              (listed_len found.open_list) t.cost t.length_ t.at t.ongoing e listed first (is_listed left) d
              (listed_len left) len x.0 x.1 x.2 x.3;
        }

    -- which was not settled
    pub between-unsettled : IsPairSettled found e.number → ⊥
    between-unsettled h =
        let x = t.ongoing.exact e listed in
        let same : x.1 ≡ h.way = get-one found.ways.items e.number x.1 h.way x.2.way h.its_way in
        true-false (is_listed found.open_list e) listed (ap (is_listed found.open_list) (x.3 ∙ ap (λ (w : Way). entry_of w e.number) same) ∙
        h.settled)

    -- settled pairs stay so
    pub between-stay : StaySettled found (record { ways = found.ways; open_list = left })
    between-stay k h = record {
      way = h.way;
      its_way = h.its_way;
      settled = d.others (entry_of h.way k) (λ q. true-false (is_listed found.open_list e) listed
          (ap (is_listed found.open_list) (sym q) ∙ h.settled)) ∙ h.settled;
    }

-- the pair whose turn it is is settled
pub turn-settled : (p : PlainProblem) (task : Task) (costs : List ℕ) (b : ℕ) (kept : List KeptPair) (found : Found) (at : ℕ)
    (rest : Option (List Action)) → IsInTurn p task costs b kept found at rest → IsPairSettled found at
turn-settled p task costs b kept found at rest t = record { way = t.way; its_way = t.is_at.way; settled = t.settled }

-- fewer turns are left
pub turns-fall : (b : ℕ) (old new : List KeptPair) (found popped after : Found) → length old ≤ b → listed_len popped.open_list + 1 ≡
    listed_len found.open_list → OpensAsMany old new popped after → b + listed_len after.open_list - length new < b + listed_len
    found.open_list - length old
turns-fall b old new found popped after few len opens = omega (arith, few, len, opens)

-- ---- at first

-- no step was counted
pub ticked-none : (p : PlainProblem) (from : ℕ) (kept : List KeptPair) → IsTickedByTurns p from kept from
ticked-none p from kept = record {
  turns = [];
  are = record {
    differ = λ i j s u e f q. (let c : ⊥ = cc in absurd c);
    right = λ i s e.
        (let c : ⊥ = cc in absurd c);
  };
  ticks = omega arith;
}

pub counted-none : (p : PlainProblem) (from : ℕ) (kept : List KeptPair) (found : Found) → IsCounted p from kept found from
counted-none p from kept found = record {
  turns = [];
  are = record {
    differ = λ i j s u e f q. (let c : ⊥ = cc in absurd c);
    right =
        λ i s e. (let c : ⊥ = cc in absurd c);
  };
  ticks = omega arith;
  settled = λ i s e. (let c : ⊥ = cc in absurd c);
}

-- what is counted is ticked
pub counted-ticked : (p : PlainProblem) (from : ℕ) (kept : List KeptPair) (found : Found) (steps : ℕ) → IsCounted p from kept found steps →
    IsTickedByTurns p from kept steps
counted-ticked p from kept found steps c = record { turns = c.turns; are = c.are; ticks = c.ticks }

module _ (p : PlainProblem) (task : Task) (costs : List ℕ) (b : ℕ) (x : KeptPair) (r : Way) (open_ : Entry → Bool)
    (is_root : r ≡ record { cost = 0; length = 0; last = None }) (listed : open_ (entry_of r 0) ≡ true)
    (only : (e : Entry) → open_ e ≡ true → e ≡ entry_of r 0) where
  at-root : (k : ℕ) (y : KeptPair) (w : Way) → IsAt (x ∷ []) (r ∷ []) k y w → (k ≡ 0) × (x ≡ y) × (r ≡ w)
  at-root k y w i = let q = get-single x k y i.pair in (q.0, q.1, (get-single r k w i.way).1)

  not-settled : (k : ℕ) (w : Way) → slice_get (r ∷ []) k ≡ Some w → open_ (entry_of w k) ≡ false → ⊥
  not-settled k w e h =
      let q = get-single r k w e in
      true-false (open_ (entry_of r 0)) listed (ap open_ (ap (λ n. entry_of r n) (sym q.0) ∙ ap (λ (u : Way). entry_of u k) q.1) ∙ h)

  cost-of : (w : Way) → r ≡ w → w.cost ≡ 0
  cost-of w e = ap (λ (u : Way). u.cost) (sym e ∙ is_root)

  length-of : (w : Way) → r ≡ w → w.length ≡ 0
  length-of w e = ap (λ (u : Way). u.length) (sym e ∙ is_root)

  last-of : (w : Way) → r ≡ w → w.last ≡ None
  last-of w e = ap (λ (u : Way). u.last) (sym e ∙ is_root)

  -- the root is open
  pub ongoing-root : AreKept (pair_graph p) (x ∷ []) → 1 ≤ b → IsOngoing p task costs b (x ∷ []) (r ∷ []) open_ 1 0 0 0 (Some [])
  ongoing-root are some = record {
    are_kept = are;
    as_many = refl;
    some = omega arith;
    few = some;
    root = λ y w i. (let q = at-root 0 y w i in (cost-of w q.2, length-of w q.2));
    reached = λ k y w i. (let q = at-root k y w i in record {
      path = [];
      walks = ap (walk (pair_graph p)) (sym (are.begins y (subst (λ n. slice_get (x ∷ []) n ≡ Some y) q.0 i.pair))) ∙ are.walks k y i.pair;
      its_cost = sym (cost-of w q.2);
      its_length = sym (length-of w q.2);
    });
    linked = λ k y w i. (let q = at-root k y w i in rw (last-of w q.2) q.0);
    named = λ k w last e l. (let d : Some last ≡ None = sym l ∙ last-of w (get-single r k w e).1 in let c : ⊥ = cc in absurd c);
    small = λ k w e. (let q = cost-of w (get-single r k w e).1 in omega (arith, q));
    short = λ k w e. (let q = length-of w (get-single r k w e).1 in omega (arith, q));
    settled_short = λ k w e h. absurd (not-settled k w e h);
    exact = λ e h. (let q = only e h in let n : e.number ≡ 0 = ap (λ (u : Entry). u.number) q in
        (x, r, record { pair = ap (slice_get (x ∷ [])) n; way = ap (slice_get (r ∷ [])) n }, q ∙ ap (λ k. entry_of r k) (sym n)));
    least = λ k y w i h. absurd (not-settled k w i.way h);
    below = λ k y w i h. absurd (not-settled k w i.way h);
    above = λ k y w i h. upto-zero 0 0 w.cost w.length refl refl;
    closed = λ k y w a z i h. absurd (not-settled k w i.way h);
    none = λ k y w i h. absurd (not-settled k w i.way h);
    cheap = λ plan h. upto-zero 0 0 _ _ refl refl;
  }

-- the search begins at the root
pub root-between : (p : PlainProblem) (task : Task) (costs : List ℕ) (b : ℕ) (old new : List KeptPair) (k : ℕ) (was found : Found)
    (r : Way) → old ≡ [] → Arrives old new (pair_of p []) [] (arrival.Fresh k) → AreKept (pair_graph p) new → 1 ≤ b → was.ways.items ≡ [] →
    ((e : Entry) → is_listed was.open_list e ≡ false) → listed_len was.open_list ≡ 0
    → r ≡ record { cost = 0; length = 0; last = None } → found.ways.items ≡ was.ways.items ++ r ∷ [] →
    Adds (is_listed was.open_list) (is_listed found.open_list) (entry_of r (length was.ways.items)) → listed_len found.open_list ≡
    listed_len was.open_list + 1 → IsBetweenTurns p task costs b new found
root-between p task costs b old new k was found r empty h are some none unlisted zero_len is_root ways adds len =
    let x : KeptPair = record { node = h.1.0; path = [] } in
    let one : new ≡ x ∷ [] = h.1.3 ∙ ap (λ xs. xs ++ x ∷ []) empty in
    let only_way : found.ways.items ≡ r ∷ [] = ways ∙ ap (λ xs. xs ++ r ∷ []) none in
    let at_zero : entry_of r (length was.ways.items) ≡ entry_of r 0 = ap (λ xs. entry_of r (length xs)) none in
    let listed : is_listed found.open_list (entry_of r 0) ≡ true = ap (is_listed found.open_list) (sym at_zero) ∙ adds.is in
    let o = ongoing-root p task costs b x r (is_listed found.open_list) is_root listed (only-root was found r adds unlisted at_zero)
    (subst (AreKept (pair_graph p)) one are) some in
    record {
      cost = 0;
      length_ = 0;
      at = 0;
      ongoing = subst (λ n. IsOngoing p task costs b new found.ways.items (is_listed found.open_list) n 0 0 0 (Some []))
          (let q : 1 ≡ listed_len found.open_list = omega (arith, len, zero_len) in q)
          (subst (λ us. IsOngoing p task costs b new us (is_listed found.open_list) 1 0 0 0 (Some [])) (sym only_way)
          (subst (λ xs. IsOngoing p task costs b xs (r ∷ []) (is_listed found.open_list) 1 0 0 0 (Some [])) (sym one) o));
    }
  where
    only-root : (was found : Found) (r : Way) → Adds (is_listed was.open_list) (is_listed found.open_list)
        (entry_of r (length was.ways.items)) → ((e : Entry) → is_listed was.open_list e ≡ false) → entry_of r (length was.ways.items) ≡
        entry_of r 0 → (e : Entry) → is_listed found.open_list e ≡ true → e ≡ entry_of r 0
    only-root was found r adds unlisted at_zero e l = elim (same-entry e (entry_of r (length was.ways.items))) [
      | yes q ↦ q ∙ at_zero
      | no n ↦ absurd (true-false (is_listed was.open_list e) (sym (adds.others e n) ∙ l) (unlisted e))
    ]

root-none : (p : PlainProblem) (x : Pair) → pair_of p [] ≡ Some x → x.formula ≡ falsum → (pair_graph p).root ≡ None
unfolding pair_graph
root-none p x e f = by_root (unless_pruned (pair_of p [])) refl
  where
    by_root : (o : Option Pair) → unless_pruned (pair_of p []) ≡ o → unless_pruned (pair_of p []) ≡ None
    by_root None q = q
    by_root (Some y) q = let k = (unless-pruned (pair_of p []) y).0 q in let d : Some x ≡ Some y = sym e ∙ k.0 in let s : x ≡ y = cc in
        absurd (k.1 (ap (λ (u : Pair). u.formula) (sym s) ∙ f))

no-root-no-plan : (p : PlainProblem) → (pair_graph p).root ≡ None → HasNoPlan p
unfolding walk_from
no-root-no-plan p e plan h = let k = (walk-accepted p plan).0 h in let d : None ≡ Some k.0 =
    sym (ap (λ o. walk_from (pair_graph p) o plan) e) ∙ k.1 in let c : ⊥ = cc in c

-- a pruned root has no plan
pub root-pruned : (p : PlainProblem) (b : ℕ) (old new : List KeptPair) → old ≡ [] → Arrives old new (pair_of p []) [] arrival.Pruned →
    HasNoPlan p × (length new ≤ b)
root-pruned p b old new e h = (no-root-no-plan p (root-none p h.1.0 h.1.1 h.1.2), omega (arith, ap length (h.0 ∙ e)))

-- nothing was kept, so the root was not seen
pub root-not-seen : (old new : List KeptPair) (o : Option Pair) (m : ℕ) → old ≡ [] → Arrives old new o [] (arrival.Seen m) → ⊥
root-not-seen old new o m e h = let q : slice_get [] m ≡ Some h.1.0 = subst (λ xs. slice_get xs m ≡ Some h.1.0) e h.1.1 in let c : ⊥ = cc in
    c

pub root-range : (p : PlainProblem) (costs : List ℕ) (b : ℕ) (path : List Action) (note : RangeNote) → path ≡ [] →
    Tells (looked_by_progressing p p.first p.control) note → IsCheapestCause p costs b path (operation_of note)
root-range p costs b path note e t = subst (λ us. IsCheapestCause p costs b us (operation_of note)) (sym e)
    (record { cause = range-at-root p b (operation_of note) t.1 t.0; begins = inl refl })

-- the search's fault at the root has its cause where the space's fault has
pub root-fault : (p : PlainProblem) (costs : List ℕ) (b : ℕ) (s : SpaceFault) (f : SearchFault) → TellsPair [] s f → IsRootFault p s →
    IsCheapestFault p costs b f
root-fault p costs b s fault.NoMemory t h = tt
root-fault p costs b (space.RangeHere note) (fault.Range path o) t h =
    subst (λ (m : RangeNote). IsCheapestFault p costs b (fault.Range path m)) (sym t.1) (root-range p costs b path note t.0 h)
root-fault p costs b (space.RangeAfter note) (fault.Range path o) t h = absurd h
root-fault p costs b space.NoMemory (fault.Range path o) t h = absurd t

-- ---- calm searches

calm-outcome : (p : PlainProblem) (costs : List ℕ) (b : ℕ) (kept : List KeptPair) (o : CostOutcome) → HasFewNearPairs p costs b →
    IsCheapestOutcome p costs b kept o → o ≢ outcome.Spent
calm-outcome p costs b kept (outcome.Plan plan cost) few h e = cc
calm-outcome p costs b kept outcome.NoPlan few h e = cc
calm-outcome p costs b kept outcome.Spent few h e = let q : length (pairs_of kept) ≤ b = few (pairs_of kept) h.near in
    omega (arith, h.many, length-pairs kept)

calm-fault : (p : PlainProblem) (costs : List ℕ) (b : ℕ) (f : SearchFault) → IsCalmAtLeastCost p costs b → IsCheapestFault p costs b f → f ≡
    fault.NoMemory
calm-fault p costs b (fault.Range path note) calm h = absurd (calm path (operation_of note) h)
calm-fault p costs b fault.NoMemory calm h = refl

-- a calm search among few near pairs ends with a plan or without one
pub calm-answers : (p : PlainProblem) (costs : List ℕ) (b : ℕ) (kept : List KeptPair) (r : Result CostOutcome SearchFault) →
    IfOk r (IsCheapestOutcome p costs b kept) → IfErr r (IsCheapestFault p costs b) → AnswersWhereCalm p costs b r
calm-answers p costs b kept (Ok o) right cause calm few = calm-outcome p costs b kept o few right
calm-answers p costs b kept (Err f) right cause calm few = calm-fault p costs b f calm cause

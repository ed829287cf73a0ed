-- The top level and its next action, as the code reads them.
use Rattle.std.proofs.Common.{◌≡◌, ◌<◌, ◌≤◌, ◌+◌, ◌-◌, ℕ, suc, List, [], ◌∷◌, ◌++◌, length, take, drop, slice_index_or, Some, Result, IfOk}
use Rattle.std.proofs.Common.{OnErr, sym, ap, ◌∙◌, subst, arith}
use Rattle.std.proofs.lemmas.List.{append-nil, take_more, drop_all, flat_map_more}
use Rattle.std.specs.List.{slice_get}
use Rattle.tl_syntax.specs.declared.action.Action.{Action}
use Rattle.tl_terms.specs.Problem.{PlainProblem}
use Rattle.tl_search.specs.Calls.{ChildArrives}
use Rattle.tl_search.specs.KeptPairs.{KeptPair, pairs_of}
use Rattle.tl_search.specs.declared.arrival.Arrival.{Arrival}
use Rattle.tl_search.proofs.ListLaws.{get-inside}
use Rattle.tl_search.specs.declared.fault.SpaceFault.{SpaceFault}
use Rattle.tl_depth.specs.declared.level.Level.{Level}
use Rattle.tl_depth.specs.declared.stack.DepthFirst.{DepthFirst}
use Rattle.tl_depth.specs.Levels.{path_of}
use Rattle.tl_depth.specs.Ongoing.{IsOngoing, IsTop}
use Rattle.tl_depth.specs.Outcomes.{AreFewCalls}
use Rattle.tl_depth.specs.Search.{at_hand}
use Rattle.tl_depth.proofs.Counting.{child-few}
use Rattle.tl_depth.proofs.Ends.{last-of, some-length, top-is}
use Rattle.tl_depth.proofs.Histories.{there}
use Rattle.tl_depth.proofs.LevelFacts.{get-rest}
use Rattle.tl_depth.proofs.Trying.{top-placed, few-next}

-- the level that is read at the place is the last one
pub record ReadsLast (levels : List Level) (place : ℕ) (now : Level) : Type 0 where
  pub front : List Level
  pub is : levels ≡ front ++ now ∷ []
  pub last : suc place ≡ length levels

read-end : (levels counted read front : List Level) (now top : Level) → levels ≡ front ++ top ∷ [] → counted ≡ levels → read ≡ levels →
    now ≡ slice_index_or read (length counted - 1) now → ReadsLast levels (length counted - 1) now
read-end levels counted read front now top is e f n = record {
  front = front;
  is = subst (λ (d : Level). levels ≡ front ++ d ∷ []) (sym (top-is levels read front top now (length counted - 1) is f last n)) is;
  last = last;
}
  where
    last : suc (length counted - 1) ≡ length levels
    last = let long : length levels ≡ suc (length front) = some-length levels front top is in omega (arith, ap length e)

pub reads-last : (levels counted read : List Level) (now : Level) → 0 < length levels → counted ≡ levels → read ≡ levels → now ≡
    slice_index_or read (length counted - 1) now → ReadsLast levels (length counted - 1) now
reads-last levels counted read now some e f n = let v = last-of levels some in read-end levels counted read v.0 now v.1 v.2 e f n

-- and the action is its next one
pub record ReadsTop (levels : List Level) (place left : ℕ) (now : Level) (a : Action) : Type 0 where
  pub level : ReadsLast levels place now
  pub at_action : slice_get now.actions now.tried ≡ Some a
  pub remaining : suc left ≡ now.left

-- which the code gets by its place
pub reads-got : (levels counted read : List Level) (left : ℕ) (now : Level) (a : Action) → IsTop levels left → counted ≡ levels → read ≡
    levels → now ≡ slice_index_or read (length counted - 1) now → slice_get now.actions now.tried ≡ Some a →
    ReadsTop levels (length counted - 1) left now a
reads-got levels counted read left now a t e f n got = record {
  level = level;
  at_action = got;
  remaining = subst (λ (d : Level). suc left ≡ d.left) (sym same) t.4;
}
  where
    level : ReadsLast levels (length counted - 1) now
    level = read-end levels counted read t.0 now t.1 t.2 e f n

    same : now ≡ t.1
    same = top-is levels read t.0 t.1 now (length counted - 1) t.2 f level.last n

-- the top level has a next action, also where it is not read
pub reads-some : (levels counted read : List Level) (left : ℕ) (now : Level) → IsTop levels left → counted ≡ levels → read ≡ levels → now ≡
    slice_index_or read (length counted - 1) now → (a : Action) × ReadsTop levels (length counted - 1) left now a
reads-some levels counted read left now t e f n = (
  next.0,
  record {
    level = level;
    at_action = subst (λ (d : Level). slice_get d.actions d.tried ≡ Some next.0) (sym same) next.1;
    remaining = subst (λ (d : Level). suc left ≡ d.left) (sym same) t.4;
  },
)
  where
    next : (a : Action) × (slice_get t.1.actions t.1.tried ≡ Some a)
    next = get-inside t.1.actions t.1.tried t.3

    level : ReadsLast levels (length counted - 1) now
    level = read-end levels counted read t.0 now t.1 t.2 e f n

    same : now ≡ t.1
    same = top-is levels read t.0 t.1 now (length counted - 1) t.2 f level.last n

module _ (p : PlainProblem) (b : ℕ) (kept : List KeptPair) (w : DepthFirst) (calls place left : ℕ) (now : Level) (a : Action)
    (s : IsOngoing p b (pairs_of kept) w calls) (r : ReadsTop w.stack.items place left now a) where
  now-placed : now.at < length (pairs_of kept)
  now-placed = top-placed p b (pairs_of kept) w calls s r.level.front now r.level.is

  -- the pair of the level
  pub now-pair : (x : KeptPair) × (slice_get kept now.at ≡ Some x)
  now-pair = there kept now.at now-placed

  -- with the call of the action there are few calls still, whatever it answers
  pub few-called : (new : List KeptPair) (answer : Result Arrival SpaceFault) → IfOk answer (ChildArrives p kept new now.at a) →
      OnErr answer (new ≡ kept) → AreFewCalls p w.within (pairs_of new) (calls + 1)
  few-called new answer h stay = child-few p w.within (calls + 1) kept new now.at a answer now-placed h stay
      (few-next p b (pairs_of kept) w calls s r.level.front now r.level.is a r.at_action)

-- the path of the levels, one level on: with the action that the level is at, or none
module _ (levels : List Level) (i : ℕ) (c : Level) (below : i < length levels) (is : c ≡ slice_index_or levels i c) where
  path-taken : path_of (take (i + 1) levels) ≡ path_of (take i levels) ++ at_hand (drop c.tried c.actions)
  path-taken =
      ap path_of (take_more levels i c below ∙ ap (λ (d : Level). take i levels ++ d ∷ []) (sym is))
      ∙ sym (flat_map_more (λ (d : Level). at_hand (drop d.tried d.actions)) [] (take i levels) c)

  pub path-got : (a : Action) → slice_get c.actions c.tried ≡ Some a → path_of (take (i + 1) levels) ≡ path_of (take i levels) ++ a ∷ []
  path-got a got = path-taken ∙ ap (λ us. path_of (take i levels) ++ at_hand us) (get-rest c.actions c.tried a got)

  pub path-passed : length c.actions ≤ c.tried → path_of (take (i + 1) levels) ≡ path_of (take i levels)
  path-passed past = path-taken ∙ (ap (λ us. path_of (take i levels) ++ at_hand us) (drop_all c.tried c.actions past) ∙
      append-nil (path_of (take i levels)))

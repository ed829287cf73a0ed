-- What the search needs between its steps: what is left to do falls, and lists of actions keep their sizes.
use Rattle.std.proofs.Common.{◌≡◌, ◌≢◌, ◌≤◌, ◌<◌, ◌+◌, ◌*◌, ◌^◌, ℕ, zero, suc, List, [], ◌∷◌, ◌++◌, length, drop, set, Bool, true, false}
use Rattle.std.proofs.Common.{Some, sym, ap, ◌∙◌, subst, inl, inr, arith, mul-le-mul_right}
use Rattle.std.specs.List.{slice_get}
use Rattle.tl_syntax.specs.declared.action.Action.{Action}
use Rattle.tl_syntax.specs.Lists.{AtLeastOne}
use Rattle.tl_syntax.specs.Trees.{falsum}
use Rattle.tl_terms.specs.Pairs.{Pair}
use Rattle.tl_terms.specs.Problem.{PlainProblem}
use Rattle.tl_depth.specs.Search.{Reports, ReportsOneMore}
use Rattle.tl_depth.specs.Tables.{IsUncut, entries_left}
use Rattle.tl_depth.specs.Levels.{stepped, frames_of, IsRunning, level_height}
use Rattle.tl_depth.specs.PairGraph.{first_pair, graph_of}
use Rattle.tl_terms.proofs.SamePairs.{pair_discrete}
use Rattle.tl_depth.specs.declared.level.Level.{Level}
use Rattle.tl_depth.proofs.LevelFacts.{get-rest, frames-height, frames-sized}
use Rattle.tl_depth.proofs.Tables.{height-bounded}
use Rattle.tl_depth.specs.Tables.{met_in, height}
use Rattle.tl_depth.specs.Following.{IsFollowed}
use Rattle.tl_depth.specs.Stacks.{IsEventOf, IsToldOf}
use Rattle.tl_depth.specs.Outcomes.{Reported}
use Rattle.tl_depth.specs.Ongoing.{AreSized, IsOngoing, to_do}
use Rattle.tl_search.specs.declared.event.Event.{Event}
use Rattle.tl_depth.specs.declared.stack.DepthFirst.{DepthFirst}

pub one-first : {A : Type 0} (P : A → Type 0) (xs : List A) (y : A) → AtLeastOne P xs → AtLeastOne P (xs ++ y ∷ [])
one-first P [] y h = absurd h
one-first P (x ∷ xs) y h = elim h [ inl k ↦ inl k | inr k ↦ inr (one-first P xs y k) ]

pub one-end : {A : Type 0} (P : A → Type 0) (xs : List A) (y : A) → P y → AtLeastOne P (xs ++ y ∷ [])
one-end P [] y h = inl h
one-end P (x ∷ xs) y h = inr (one-end P xs y h)

pub told-reports : (watch : Bool) (before after : List Event) (top : Level) (old kept : List Pair) (from : Pair) (a : Action) →
    IsToldOf watch before after top → slice_get top.actions top.tried ≡ Some a → slice_get old top.at ≡ Some from
    → ((j : ℕ) (x : Pair) → slice_get old j ≡ Some x → slice_get kept j ≡ Some x) →
    ReportsOneMore from a (Reported watch old before) (Reported watch kept after)
told-reports false before after top old kept from a t e f more = record
    { this = λ w. absurd (let q : false ≡ true = w in cc); others = λ y b h w. absurd (let q : false ≡ true = w in cc) }
told-reports true before after top old kept from a t e f more = record {
  this = λ w. (
    top.at,
    more top.at from f,
    subst (AtLeastOne (IsEventOf top.at a)) (sym t.1) (one-end (IsEventOf top.at a) before t.0 (t.2 a e)),
  );
  others = λ y b h w. (let k = h w in (
    k.0,
    more k.0 y k.1,
    subst (AtLeastOne (IsEventOf k.0 b)) (sym t.1)
        (one-first (IsEventOf k.0 b) before t.0 k.2),
  ));
}

pub get-more : {A : Type 0} (xs : List A) (y : A) (j : ℕ) (x : A) → slice_get xs j ≡ Some x → slice_get (xs ++ y ∷ []) j ≡ Some x
get-more [] y j x e = cc
get-more (z ∷ xs) y zero x e = e
get-more (z ∷ xs) y (suc j) x e = get-more xs y j x e

-- ---- what is left to do

pub height-append : (front : List Level) (c : Level) → level_height (front ++ c ∷ []) ≡
    level_height front + suc (length (drop c.tried c.actions))
height-append [] c = omega arith
height-append (d ∷ front) c = omega (arith, height-append front c)

pub height-stepped : (front : List Level) (c : Level) (a : Action) → slice_get c.actions c.tried ≡ Some a →
    level_height (front ++ stepped c ∷ []) < level_height (front ++ c ∷ [])
height-stepped front c a e = omega (
  arith,
  height-append front c,
  height-append front (stepped c),
  ap length (get-rest c.actions c.tried a e),
)

pub to-do-is : (b : ℕ) (w : DepthFirst) (n : ℕ) (most : List ℕ) (levels : List Level) → w.within ≡ n → w.most.items ≡ most → w.stack.items ≡
    levels → to_do b w ≡ entries_left b n most * (suc n * 2 ^ 64) + level_height levels
to-do-is b w n most levels e f h =
    ap (λ x. entries_left b x w.most.items * (suc x * 2 ^ 64) + level_height w.stack.items) e
    ∙ (ap (λ x. entries_left b n x * (suc n * 2 ^ 64) + level_height w.stack.items) f ∙
    ap (λ x. entries_left b n most * (suc n * 2 ^ 64) + level_height x) h)

pub less-pass : (e d k h i : ℕ) → d ≤ e → i < h → d * k + i < e * k + h
less-pass e d k h i l m = let q : d * k ≤ e * k = mul-le-mul_right k l in omega (arith, q)

pub less-enter : (e d k h i : ℕ) → d < e → i < k → d * k + i < e * k + h
less-enter e d k h i l m = let q : suc d * k ≤ e * k = mul-le-mul_right k l in omega (arith, q)

-- the levels of a search are not high
pub low : (p : PlainProblem) (n : ℕ) (reported : Reports Pair) (kept : List Pair) (most : List ℕ) (levels : List Level) (calls : ℕ) →
    IsRunning pair_discrete (graph_of p) n reported kept most levels calls → AreSized levels → level_height levels < suc n * 2 ^ 64
low p n reported kept most levels calls r z =
    let h : height (frames_of kept (graph_of p).root levels []) ≡ level_height levels + 0 =
    frames-height kept (graph_of p).root levels [] in
    let b = height-bounded (graph_of p) n reported (met_in pair_discrete kept most) (frames_of kept (graph_of p).root levels []) r.searching
    (frames-sized kept (graph_of p).root levels [] z tt) in
    omega (arith, h, b)

-- ---- no pair was met with no remaining action

pub uncut-set : (most : List ℕ) (k r : ℕ) → 0 < r → IsUncut most → IsUncut (set most k r)
uncut-set [] k r p u j e = u j e
uncut-set (m ∷ most) zero r p u zero e = let i : r ≡ 0 = cc in omega (arith, i)
uncut-set (m ∷ most) zero r p u (suc j) e = u (suc j) e
uncut-set (m ∷ most) (suc k) r p u zero e = u zero e
uncut-set (m ∷ most) (suc k) r p u (suc j) e = uncut-set most k r p (λ i f. u (suc i) f) j e

pub uncut-pushed : (most : List ℕ) (r : ℕ) → 0 < r → IsUncut most → IsUncut (most ++ r ∷ [])
uncut-pushed [] r p u zero e = let i : r ≡ 0 = cc in omega (arith, i)
uncut-pushed [] r p u (suc j) e = cc
uncut-pushed (m ∷ most) r p u zero e = u zero e
uncut-pushed (m ∷ most) r p u (suc j) e = uncut-pushed most r p (λ i f. u (suc i) f) j e

-- ---- a search that goes on

pub ongoing : (p : PlainProblem) (b n : ℕ) (watch : Bool) (kept : List Pair) (events : List Event) (most : List ℕ) (levels : List Level)
    (calls : ℕ) (w : DepthFirst) → (first_pair p).formula ≢ falsum
    → IsRunning pair_discrete (graph_of p) n (Reported watch kept events) kept most levels calls → length kept ≤ b → AreSized levels
    → (w.reenters ≡ false → IsUncut most) → (watch ≡ true → w.reenters ≡ true) → (watch ≡ true → IsFollowed p n kept most levels events) →
    w.within ≡ n → w.watch ≡ watch → w.events ≡ events → w.most.items ≡ most → w.stack.items ≡ levels → IsOngoing p b kept w calls
ongoing p b n watch kept events most levels calls w u r f z c enters followed wn ww we wm ws = record {
  unpruned = u;
  running =
      subst (λ x. IsRunning pair_discrete (graph_of p) x (Reported w.watch kept w.events) kept w.most.items w.stack.items calls) (sym wn)
      (subst (λ x. IsRunning pair_discrete (graph_of p) n (Reported x kept w.events) kept w.most.items w.stack.items calls) (sym ww)
      (subst (λ x. IsRunning pair_discrete (graph_of p) n (Reported watch kept x) kept w.most.items w.stack.items calls) (sym we)
      (subst (λ x. IsRunning pair_discrete (graph_of p) n (Reported watch kept events) kept x w.stack.items calls) (sym wm)
      (subst (λ x. IsRunning pair_discrete (graph_of p) n (Reported watch kept events) kept most x calls) (sym ws) r))));
  few = f;
  sized = subst AreSized (sym ws) z;
  uncut = λ e. subst IsUncut (sym wm) (c e);
  enters = λ e. enters (sym ww ∙ e);
  followed = λ e.
      subst (λ x. IsFollowed p x kept w.most.items w.stack.items w.events) (sym wn)
      (subst (λ x. IsFollowed p n kept w.most.items w.stack.items x) (sym we)
      (subst (λ x. IsFollowed p n kept x w.stack.items events) (sym wm)
      (subst (λ x. IsFollowed p n kept most x events) (sym ws) (followed (sym ww ∙ e)))));
}

pub sized-front : (front : List Level) (c : Level) → AreSized (front ++ c ∷ []) → AreSized front
sized-front [] c z = tt
sized-front (d ∷ front) c z = (z.0, sized-front front c z.1)

pub sized-end : (front : List Level) (c : Level) → AreSized (front ++ c ∷ []) → length c.actions < 2 ^ 64
sized-end [] c z = z.0
sized-end (d ∷ front) c z = sized-end front c z.1

pub sized-last : (front : List Level) (c : Level) → AreSized front → length c.actions < 2 ^ 64 → AreSized (front ++ c ∷ [])
sized-last [] c z l = (l, tt)
sized-last (d ∷ front) c z l = (z.0, sized-last front c z.1 l)

pub sized-stepped : (front : List Level) (c : Level) → AreSized (front ++ c ∷ []) → AreSized (front ++ stepped c ∷ [])
sized-stepped front c z = sized-last front (stepped c) (sized-front front c z) (sized-end front c z)

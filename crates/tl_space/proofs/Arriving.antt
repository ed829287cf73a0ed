-- The pairs that arrive at a space.
use Rattle.std.proofs.Common.{◌≡◌, ◌≢◌, ◌<◌, ℕ, List, [], ◌∷◌, ◌++◌, length, slice_get, Option, Some, refl, sym, ap, ap₂, subst, ◌∙◌}
use Rattle.std.proofs.Common.{IsTrue, nat_eq, eqb-true}
use Rattle.std.specs.Option.{option_map}
use Rattle.std.proofs.lemmas.Option.{get_or_from_slice_get}
use Rattle.tl_syntax.specs.declared.action.Action.{Action}
use Rattle.tl_syntax.specs.Assignment.{no_values}
use Rattle.tl_syntax.specs.Trees.{FormulaTree, falsum, verum}
use Rattle.tl_terms.specs.Acceptance.{states_from}
use Rattle.tl_terms.specs.Definitions.{situation_of}
use Rattle.tl_terms.specs.Looked.{looked_by_progressing}
use Rattle.tl_terms.specs.Operations.{Operation}
use Rattle.tl_terms.specs.Pairs.{Pair, pair_of, residual}
use Rattle.tl_terms.specs.Problem.{PlainProblem}
use Rattle.tl_terms.specs.Progression.{progressed}
use Rattle.tl_terms.specs.Step.{step}
use Rattle.tl_terms.specs.World.{World}
use Rattle.tl_eval.specs.declared.range.RangeNote.{RangeNote}
use Rattle.tl_eval.specs.Notes.{Tells}
use Rattle.tl_nodes.specs.NodeTrees.{tree_at}
use Rattle.tl_nodes.specs.Numbers.{trees}
use Rattle.tl_search.specs.Arrivals.{Arrives}
use Rattle.tl_search.specs.Graphs.{walk}
use Rattle.tl_search.specs.KeptPairs.{KeptPair}
use Rattle.tl_search.specs.PairGraph.{pair_graph, next_pair, pair_in}
use Rattle.tl_search.specs.declared.arrival.Arrival.{Arrival}
use Rattle.tl_search.specs.declared.arrival.Arrival.TheVariants as arrival
use Rattle.tl_search.proofs.PathLaws.{walk-pair, unless-pruned}
use Rattle.tl_search.proofs.WalkLaws.{walk-onward}
use Rattle.tl_search.proofs.ListLaws.{get-inside}
use Rattle.tl_space.specs.declared.numbers.Met.{Met}
use Rattle.tl_space.specs.declared.numbers.Numbers.{Numbers}
use Rattle.tl_space.specs.declared.space.Space.{Space}
use Rattle.tl_space.specs.Inner.{node_in, nodes_in, arriving_in, IsLabelIn, AreNumbersIn, IsKnownIn, KeepsPairs, IsNew, IsToKeep, IsRootKey}
use Rattle.tl_space.specs.Inner.{IsKeyAfter, IsChildKey, way_after}
use Rattle.tl_space.specs.Kept.{world_at, node_at, path_at, paths_of}
use Rattle.tl_space.specs.Remembered.{pair_in_at, IsKnown}
use Rattle.tl_space.specs.Spaces.{problem_of, kept_of}
use Rattle.tl_known.specs.WorldNumbers.{worlds_in}
use Rattle.tl_space.proofs.Growing.{kept-get, world-stays}
use Rattle.tl_space.proofs.Keeping.{known-arrives}
use Rattle.tl_space.proofs.SpaceLaws.{world-at, tree-is, keeps-problem, keeps-kept, keeps-trans, numbers-later, node-later, nodes-later}
use Rattle.tl_space.proofs.SpaceLaws.{arriving-later}

-- ---- the pair of an arrival

module _ (s : Space) (n : Numbers) (p : PlainProblem) (w : World) (f : FormulaTree) (is_p : problem_of s ≡ p)
    (is_w : slice_get (worlds_in s.worlds) n.world ≡ Some w) (is_f : slice_get (trees s.nodes) n.label ≡ Some f) where
  -- the world of its number, with the formula of its number progressed through it
  arriving-is : arriving_in s n ≡ record { world = w; formula = progressed (situation_of p w) no_values f }
  unfolding pair_in_at
  arriving-is =
      let v = world-at (worlds_in s.worlds) n.world w is_w in
      let g = tree-is (trees s.nodes) n.label f is_f in
      λ i. record { world = v i; formula = progressed (situation_of (is_p i) (v i)) no_values (g i) }

  looked-is : looked_by_progressing (problem_of s) (world_at (worlds_in s.worlds) n.world) (tree_at (trees s.nodes) n.label) ≡
      looked_by_progressing p w f
  looked-is =
      let v = world-at (worlds_in s.worlds) n.world w is_w in
      let g = tree-is (trees s.nodes) n.label f is_f in
      λ i. looked_by_progressing (is_p i) (v i) (g i)

  pub told-at : (note : RangeNote) → Tells (looked_by_progressing (problem_of s) (world_at (worlds_in s.worlds) n.world)
      (tree_at (trees s.nodes) n.label)) note → Tells (looked_by_progressing p w f) note
  told-at note h = subst (λ (os : List Operation). Tells os note) looked-is h

-- ---- the first pair

first-pair : (p : PlainProblem) → pair_of p [] ≡ Some (record {
  world = p.first;
  formula =
      progressed (situation_of p p.first) no_values p.control;
})
unfolding states_from residual
first-pair p = refl

-- it is the pair of the arrival at the empty path
pub root-pair : (s : Space) (n : Numbers) → IsRootKey s n → pair_of (problem_of s) [] ≡ Some (arriving_in s n)
root-pair s n k = first-pair (problem_of s) ∙ ap (λ x. Some x) (sym (arriving-is s n (problem_of s) (problem_of s).first
    (problem_of s).control refl k.world k.label))

pub root-walk : (s : Space) (n : Numbers) → IsRootKey s n → (arriving_in s n).formula ≢ falsum → walk (pair_graph (problem_of s)) [] ≡
    Some (arriving_in s n)
root-walk s n k h = (walk-pair (problem_of s) [] (arriving_in s n)).1 (root-pair s n k, h)

pub root-told : (s : Space) (n : Numbers) (p : PlainProblem) (note : RangeNote) → problem_of s ≡ p → IsRootKey s n →
    Tells (looked_by_progressing (problem_of s) (world_at (worlds_in s.worlds) n.world) (tree_at (trees s.nodes) n.label)) note →
    Tells (looked_by_progressing p p.first p.control) note
root-told s n p note e k h = told-at s n p p.first p.control e (k.world ∙ ap (λ (q : PlainProblem). Some q.first) e)
    (k.label ∙ ap (λ (q : PlainProblem). Some q.control) e) note h

-- ---- the next pair

-- it is the pair of the arrival by the action
pub child-pair : (p : PlainProblem) (x : Pair) (a : Action) (s : Space) (n : Numbers) → problem_of s ≡ p → IsKeyAfter p x a s n →
    next_pair p x a ≡ Some (arriving_in s n)
unfolding pair_in
child-pair p x a s n e k = ap (option_map (pair_in p x.formula)) k.steps ∙
    ap (λ y. Some y) (sym (arriving-is s n p k.world x.formula e k.number k.label))

pub child-told : (p : PlainProblem) (x : Pair) (a : Action) (s : Space) (n : Numbers) (note : RangeNote) → problem_of s ≡ p →
    IsKeyAfter p x a s n → Tells (looked_by_progressing (problem_of s) (world_at (worlds_in s.worlds) n.world)
    (tree_at (trees s.nodes) n.label)) note
    → (w : World) × (step p x.world a ≡ Some w) × Tells (looked_by_progressing p w x.formula) note
child-told p x a s n note e k h = (k.world, k.steps, told-at s n p k.world x.formula e k.number k.label note h)

next-walk : (p : PlainProblem) (path : List Action) (x y : Pair) (a : Action) → walk (pair_graph p) path ≡ Some x → next_pair p x a ≡
    Some y → y.formula ≢ falsum → walk (pair_graph p) (path ++ a ∷ []) ≡ Some y
unfolding pair_graph
next-walk p path x y a h e n = walk-onward (pair_graph p) path a x y h ((unless-pruned (next_pair p x a) y).1 (e, n))

-- the path of a kept pair
pub path-of : (s : Space) (at : ℕ) (x : KeptPair) → slice_get (kept_of s) at ≡ Some x → path_at (paths_of s.from) at ≡ x.path
path-of s at x e = get_or_from_slice_get (paths_of s.from) at x.path []
    (kept-get (worlds_in s.worlds) (trees s.nodes) s.pairs.keys (paths_of s.from) at x e).is_path

pub path-later : (s t : Space) → KeepsPairs s t → (at : ℕ) (x : KeptPair) → slice_get (kept_of s) at ≡ Some x →
    path_at (paths_of t.from) at ≡ x.path
path-later s t k at x e = ap (λ (ms : List Met). path_at (paths_of ms) at) k.from ∙ path-of s at x e

pub way-later : (s t : Space) (at : ℕ) (a : Action) → KeepsPairs s t → way_after t at a ≡ way_after s at a
way-later s t at a k = ap (λ (ms : List Met). path_at (paths_of ms) at ++ a ∷ []) k.from

-- where it is not pruned, the path of the pair and the action walk to it
pub child-walk : (s t : Space) → KeepsPairs s t → (at : ℕ) (a : Action) (n : Numbers) → at < length (kept_of s) → IsChildKey s t at a n →
    (arriving_in t n).formula ≢ falsum
    → walk (pair_graph (problem_of t)) (path_at (paths_of t.from) at ++ a ∷ []) ≡ Some (arriving_in t n)
child-walk s t k at a n h key unpruned =
    let x = get-inside (kept_of s) at h in
    let next = child-pair (problem_of s) x.0.node a t n (keeps-problem s t k) (key x.0 x.1) in
    let w = next-walk (problem_of s) x.0.path x.0.node (arriving_in t n) a (s.kept.walks at x.0 x.1) next unpruned in
    subst (λ (p : PlainProblem). walk (pair_graph p) (path_at (paths_of t.from) at ++ a ∷ []) ≡ Some (arriving_in t n))
    (sym (keeps-problem s t k))
    (subst (λ (u : List Action). walk (pair_graph (problem_of s)) (u ++ a ∷ []) ≡ Some (arriving_in t n))
    (sym (path-later s t k at x.0 x.1)) w)

-- ---- what arrives, in an earlier space's words

pub arrives-as : (s t : Space) (new : List KeptPair) (x : Pair) (o : Option Pair) (p q : List Action) (r : Arrival) → kept_of t ≡
    kept_of s → o ≡ Some x → p ≡ q → Arrives (kept_of t) new (Some x) p r → Arrives (kept_of s) new o q r
arrives-as s t new x o p q r k e f h = subst (λ (xs : List KeptPair). Arrives xs new o q r) k
    (subst (λ (z : Option Pair). Arrives (kept_of t) new z q r) (sym e)
    (subst (λ (u : List Action). Arrives (kept_of t) new (Some x) u r) f h))

-- ---- what is found of an arrival, in the words of later spaces

pub known-later : (a b : Space) (key : Numbers) (r : Arrival) → KeepsPairs a b → AreNumbersIn a key → IsKnownIn a key r → IsKnownIn b key r
known-later a b key r k n h =
    subst (λ (xs : List Pair). IsKnown xs (arriving_in b key) r) (sym (nodes-later a b k))
    (subst (λ (x : Pair). IsKnown (nodes_in a) x r) (sym (arriving-later a b key k n)) h)

module _ (a b : Space) (key : Numbers) (l : ℕ) (k : KeepsPairs a b) (n : AreNumbersIn a key)
    (e : slice_get (trees b.nodes) l ≡ Some (arriving_in a key).formula) where
  -- the pair of the arrival, by the number of its residual
  arriving-node : node_in b (record { world = key.world; label = l }) ≡ arriving_in a key
  unfolding node_at pair_in_at
  arriving-node =
      let p = world-stays (worlds_in a.worlds) (worlds_in b.worlds) key.world k.worlds n.world in
      let q = tree-is (trees b.nodes) l (arriving_in a key).formula e in
      λ i. record { world = p i; formula = q i }

  pub known-as : (r : Arrival) → IsKnown (nodes_in b) (node_in b (record { world = key.world; label = l })) r → IsKnownIn b key r
  known-as r h = subst (λ (x : Pair). IsKnown (nodes_in b) x r) (arriving-node ∙ sym (arriving-later a b key k n)) h

  -- it is to be kept, where it is new
  pub to-keep : (c : Space) → KeepsPairs b c → IsLabelIn b l → IsNew b (record { world = key.world; label = l }) →
      IsToKeep c key (record { world = key.world; label = l })
  to-keep c k2 label new =
      let m : Numbers = record { world = key.world; label = l } in
      let here : AreNumbersIn b m = record { world = (numbers-later a b key k n).world; label = label } in
      let same : node_in c m ≡ node_in b m = node-later b c m k2 here in
      record {
        numbers = numbers-later b c m k2 here;
        new = record {
          unpruned = λ f. new.unpruned (ap (λ (x : Pair). x.formula) (sym same) ∙ f);
          absent = λ i f.
              new.absent i (ap (λ (ns : List Numbers). slice_get ns i) (sym k2.pairs) ∙ f);
        };
        arrives = same ∙ (arriving-node ∙ sym (arriving-later a c key (keeps-trans a b c k k2) n));
      }

-- ---- an arrival whose pair has its own numbers

-- TRUE leaves TRUE
pub true-leaves-itself : (s : Space) (n : Numbers) → slice_get (trees s.nodes) 0 ≡ Some verum → IsTrue (nat_eq n.label 0) → node_in s n ≡
    arriving_in s n
unfolding node_at pair_in_at progressed
true-leaves-itself s n t e =
    let g : tree_at (trees s.nodes) n.label ≡ verum = tree-is (trees s.nodes) n.label verum
    (ap (slice_get (trees s.nodes)) (eqb-true n.label 0 e) ∙ t) in
    let w = world_at (worlds_in s.worlds) n.world in
    (λ i. record { world = w; formula = g i }) ∙ sym (λ i. record {
      world = w;
      formula =
          progressed (situation_of (problem_of s) w) no_values (g i);
    })

-- ---- what comes of an arrival, in the words of the space before it

module _ (s t : Space) (key : Numbers) (k : KeepsPairs s t) (h : AreNumbersIn s key) where
  -- it is known
  pub known-comes : (r : Arrival) (path : List Action) → IsKnownIn t key r →
      Arrives (kept_of s) (kept_of t) (Some (arriving_in s key)) path r
  known-comes r path known = arrives-as s t (kept_of t) (arriving_in t key) (Some (arriving_in s key)) path path r (keeps-kept s t k)
      (ap (λ z. Some z) (sym (arriving-later s t key k h))) refl (known-arrives t (arriving_in t key) r known path)

  module _ (n : Numbers) (f : IsToKeep t key n) where
    -- or it is to be kept
    to-keep-is : node_in t n ≡ arriving_in s key
    to-keep-is = f.arrives ∙ arriving-later s t key k h

    pub walk-later : (path : List Action) → ((arriving_in s key).formula ≢ falsum → walk (pair_graph (problem_of s)) path ≡
        Some (arriving_in s key)) → walk (pair_graph (problem_of t)) path ≡ Some (node_in t n)
    walk-later path w =
        ap (λ (p : PlainProblem). walk (pair_graph p) path) (keeps-problem s t k)
        ∙ (w (λ e. f.new.unpruned (ap (λ (x : Pair). x.formula) to-keep-is ∙ e)) ∙ ap (λ z. Some z) (sym to-keep-is))

    pub fresh-comes : (i : ℕ) (new : List KeptPair) (q path : List Action) → i ≡ length (kept_of t) → new ≡ kept_of t ++
        record { node = node_in t n; path = q } ∷ [] → q ≡ path → Arrives (kept_of s) new (Some (arriving_in s key)) path (arrival.Fresh i)
    fresh-comes i new q path number kept is = (
      number ∙ ap length (keeps-kept s t k),
      (
        node_in t n,
        ap (λ z. Some z) (sym to-keep-is),
        f.new.unpruned,
        kept ∙
            ap₂ (λ (xs : List KeptPair) (u : List Action). xs ++ record { node = node_in t n; path = u } ∷ []) (keeps-kept s t k) is,
      ),
    )

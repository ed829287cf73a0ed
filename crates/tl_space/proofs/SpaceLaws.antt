-- What is known of a space, and of a later one whose pairs stay.
use Rattle.std.proofs.Common.{◌≡◌, ◌<◌, ℕ, List, [], length, map, slice_get, Some, Result, Ok, Err, IsOk, IfOk, OnOk, OnErr, true≢false}
use Rattle.std.proofs.Common.{refl, sym, ap, ap₂, subst, ◌∙◌}
use Rattle.std.specs.Option.{option_map}
use Rattle.std.proofs.lemmas.Option.{slice_get-get_or, slice_get-map, slice_get_within, get_or_from_slice_get}
use Rattle.tl_syntax.specs.Named.{IsNamed}
use Rattle.tl_syntax.specs.Signature.{Signature, signature_of}
use Rattle.tl_syntax.specs.Trees.{FormulaTree, verum}
use Rattle.tl_terms.specs.Pairs.{Pair}
use Rattle.tl_terms.specs.ProblemMeaning.{plain_problem, world_of}
use Rattle.tl_terms.specs.World.{World}
use Rattle.tl_world.specs.declared.task.Task.{Task}
use Rattle.tl_nodes.specs.NodeTrees.{tree_at}
use Rattle.tl_nodes.specs.Numbers.{trees}
use Rattle.tl_progress.specs.Sentences.{IsSentence}
use Rattle.tl_search.specs.Calls.{ForPair}
use Rattle.tl_search.specs.Kept.{AreKept}
use Rattle.tl_search.specs.PairGraph.{pair_graph}
use Rattle.tl_search.proofs.ListLaws.{get-one}
use Rattle.tl_space.specs.declared.numbers.Met.{Met}
use Rattle.tl_space.specs.declared.numbers.Numbers.{Numbers}
use Rattle.tl_space.specs.declared.space.Space.{Space}
use Rattle.tl_space.specs.Inner.{node_in, nodes_in, arriving_in, IsLabelIn, AreNumbersIn, KeepsPairs}
use Rattle.tl_space.specs.Kept.{world_at, node_at, nodes_at, paths_of, kept_over, IsLabel, AreNumbers, AreKeptBy}
use Rattle.tl_known.specs.NumberedLists.{Stay}
use Rattle.tl_space.specs.Remembered.{pair_in_at, AreRemembered}
use Rattle.tl_space.specs.Spaces.{problem_of, name_count, kept_of, labels_of, Grows}
use Rattle.tl_known.specs.WorldNumbers.{worlds_in}
use Rattle.tl_space.proofs.Growing.{IsGiven, AreGiven, kept-length, kept-get, kept-stays, label-stays, numbers-stay, node-stays, nodes-stay}
use Rattle.tl_space.proofs.Growing.{kept-by-stays, are-given, are-kept, paths-length}
use Rattle.tl_space.proofs.Remembering.{arriving-stays, all-remembered-stay}

-- ---- one space

pub lengths : (s : Space) → length s.pairs.keys ≡ length (paths_of s.from)
lengths s = sym (paths-length s.from ∙ s.kept.all_met)

pub count : (s : Space) → length (kept_of s) ≡ length s.pairs.keys
count s = kept-length (worlds_in s.worlds) (trees s.nodes) s.pairs.keys (paths_of s.from) (lengths s)

pub given-in : (s : Space) → AreGiven (worlds_in s.worlds) (trees s.nodes) s.pairs.keys
given-in s = are-given (signature_of s.task.problem.domain) (name_count s) (problem_of s) (worlds_in s.worlds)
    (trees s.nodes) s.pairs.keys s.from s.kept

pub all-kept : (s : Space) → AreKept (pair_graph (problem_of s)) (kept_of s)
all-kept s = are-kept (signature_of s.task.problem.domain) (name_count s) (problem_of s) (worlds_in s.worlds)
    (trees s.nodes) s.pairs.keys s.from s.worlds.one_to_one s.nodes.one_to_one s.kept

pub world-at : (ws : List World) (i : ℕ) (w : World) → slice_get ws i ≡ Some w → world_at ws i ≡ w
world-at ws i w e = get_or_from_slice_get ws i w (world_of [] []) e

pub tree-is : (ts : List FormulaTree) (i : ℕ) (t : FormulaTree) → slice_get ts i ≡ Some t → tree_at ts i ≡ t
tree-is ts i t e = get_or_from_slice_get ts i t verum e

-- the pair of a number by its numbers
pub node-of : (s : Space) (at : ℕ) (n : Numbers) → slice_get s.pairs.keys at ≡ Some n → ForPair (kept_of s) at (λ x. x.node ≡ node_in s n)
node-of s at n e x f =
    let k = kept-get (worlds_in s.worlds) (trees s.nodes) s.pairs.keys (paths_of s.from) at x f in
    k.is_node ∙ ap (node_at (worlds_in s.worlds) (trees s.nodes)) (get-one s.pairs.keys at k.numbers n k.is_there e)

pub world-of : (s : Space) (n : Numbers) (w : World) → slice_get (worlds_in s.worlds) n.world ≡ Some w → (x : Pair) → x ≡ node_in s n →
    x.world ≡ w
unfolding node_at
world-of s n w e x f = ap (λ (z : Pair). z.world) f ∙ world-at (worlds_in s.worlds) n.world w e

pub tree-of : (s : Space) (n : Numbers) → n.label < length (trees s.nodes) → (x : Pair) → x ≡ node_in s n →
    slice_get (trees s.nodes) n.label ≡ Some x.formula
unfolding node_at
tree-of s n h x f = slice_get-get_or (trees s.nodes) n.label verum h ∙ ap (λ (z : Pair). Some z.formula) (sym f)

pub label-of : (s : Space) (at : ℕ) (n : Numbers) → slice_get s.pairs.keys at ≡ Some n → slice_get (labels_of s) at ≡ Some n.label
label-of s at n e = slice_get-map (λ (m : Numbers). m.label) s.pairs.keys at ∙ ap (option_map (λ (m : Numbers). m.label)) e

pub given-of : (s : Space) (n : Numbers) → AreNumbersIn s n → IsGiven (worlds_in s.worlds) (trees s.nodes) n
given-of s n h = (h.world, h.label.inside)

-- ---- worlds and trees that stay

pub kept-still : (s : Space) (vs : List World) (us : List FormulaTree) → Stay (worlds_in s.worlds) vs → Stay (trees s.nodes) us →
    AreKeptBy (signature_of s.task.problem.domain) (name_count s) (problem_of s) vs us s.pairs.keys s.from
kept-still s vs us h k = kept-by-stays (signature_of s.task.problem.domain) (name_count s) (problem_of s) (worlds_in s.worlds) vs
    (trees s.nodes) us s.pairs.keys s.from h k s.kept

pub remembered-still : (s : Space) (vs : List World) (us : List FormulaTree) → Stay (worlds_in s.worlds) vs → Stay (trees s.nodes) us →
    AreRemembered (problem_of s) vs us s.pairs.keys s.arrivals
remembered-still s vs us h k = all-remembered-stay (problem_of s) (worlds_in s.worlds) vs (trees s.nodes) us s.pairs.keys s.arrivals
    (given-in s) h k s.remembered

-- ---- a later space whose pairs stay

pub keeps-same : (s : Space) → KeepsPairs s s
keeps-same s = record { task = refl; worlds = λ i x e. e; trees = λ i x e. e; pairs = refl; from = refl }

pub keeps-trans : (a b c : Space) → KeepsPairs a b → KeepsPairs b c → KeepsPairs a c
keeps-trans a b c h k = record {
  task = k.task ∙ h.task;
  worlds = λ i x e. k.worlds i x (h.worlds i x e);
  trees = λ i x e. k.trees i x (h.trees i x e);
  pairs = k.pairs ∙ h.pairs;
  from = k.from ∙ h.from;
}

pub keeps-kept : (old new : Space) → KeepsPairs old new → kept_of new ≡ kept_of old
keeps-kept old new h =
    let a : kept_of new ≡ kept_over (worlds_in new.worlds) (trees new.nodes) old.pairs.keys (paths_of old.from) =
    ap₂ (λ (ns : List Numbers) (ms : List Met). kept_over (worlds_in new.worlds) (trees new.nodes) ns (paths_of ms)) h.pairs h.from in
    a ∙ kept-stays (worlds_in old.worlds) (worlds_in new.worlds) (trees old.nodes) (trees new.nodes) old.pairs.keys (paths_of old.from)
    (given-in old) h.worlds h.trees

pub keeps-problem : (old new : Space) → KeepsPairs old new → problem_of new ≡ problem_of old
keeps-problem old new h = ap (λ (t : Task). plain_problem t.problem) h.task

pub keeps-names : (old new : Space) → KeepsPairs old new → name_count new ≡ name_count old
keeps-names old new h = ap (λ (t : Task). length t.problem.names) h.task

pub keeps-grows : (old new : Space) → KeepsPairs old new → Grows old new
keeps-grows old new h = record {
  task = h.task;
  kept = λ i x e. subst (λ xs. slice_get xs i ≡ Some x) (sym (keeps-kept old new h)) e;
  labels = λ i x e. subst (λ (ns : List Numbers). slice_get (map (λ (m : Numbers). m.label) ns) i ≡ Some x) (sym h.pairs) e;
  trees = h.trees;
}

pub grows-trans : (a b c : Space) → Grows a b → Grows b c → Grows a c
grows-trans a b c h k = record {
  task = k.task ∙ h.task;
  kept = λ i x e. k.kept i x (h.kept i x e);
  labels = λ i x e. k.labels i x (h.labels i x e);
  trees = λ i x e. k.trees i x (h.trees i x e);
}

-- what grew behind pairs that stayed grew from the first
pub grows-behind : (a b c : Space) → KeepsPairs a b → Grows b c → Grows a c
grows-behind a b c h k = grows-trans a b c (keeps-grows a b h) k

pub label-later : (a b : Space) (l : ℕ) → KeepsPairs a b → IsLabelIn a l → IsLabelIn b l
label-later a b l k h = subst (λ (t : Task). IsLabel (signature_of t.problem.domain) (length t.problem.names) (trees b.nodes) l)
    (sym k.task) (label-stays (signature_of a.task.problem.domain) (name_count a) (trees a.nodes) (trees b.nodes) l k.trees h)

pub numbers-later : (a b : Space) (n : Numbers) → KeepsPairs a b → AreNumbersIn a n → AreNumbersIn b n
numbers-later a b n k h = subst (λ (t : Task). AreNumbers (signature_of t.problem.domain) (length t.problem.names) (worlds_in b.worlds)
    (trees b.nodes) n) (sym k.task) (numbers-stay (signature_of a.task.problem.domain) (name_count a) (worlds_in a.worlds)
    (worlds_in b.worlds) (trees a.nodes) (trees b.nodes) n k.worlds k.trees h)

pub arriving-later : (a b : Space) (n : Numbers) → KeepsPairs a b → AreNumbersIn a n → arriving_in b n ≡ arriving_in a n
arriving-later a b n k h =
    ap (λ (t : Task). pair_in_at (plain_problem t.problem) (worlds_in b.worlds) (trees b.nodes) n) k.task
    ∙ arriving-stays (problem_of a) (worlds_in a.worlds) (worlds_in b.worlds) (trees a.nodes) (trees b.nodes) n
    (given-of a n h) k.worlds k.trees

pub node-later : (a b : Space) (n : Numbers) → KeepsPairs a b → AreNumbersIn a n → node_in b n ≡ node_in a n
node-later a b n k h = node-stays (worlds_in a.worlds) (worlds_in b.worlds) (trees a.nodes) (trees b.nodes) n
    (given-of a n h) k.worlds k.trees

pub nodes-later : (a b : Space) → KeepsPairs a b → nodes_in b ≡ nodes_in a
nodes-later a b k =
    ap (nodes_at (worlds_in b.worlds) (trees b.nodes)) k.pairs
    ∙ nodes-stay (worlds_in a.worlds) (worlds_in b.worlds) (trees a.nodes) (trees b.nodes) a.pairs.keys (given-in a) k.worlds k.trees

-- ---- labels

-- the number of the control formula is that of a sentence of named things
pub control-label : (s : Space) (ts : List FormulaTree) (n : ℕ) → slice_get ts n ≡ Some (problem_of s).control →
    IsLabel (signature_of s.task.problem.domain) (name_count s) ts n
unfolding plain_problem
control-label s ts n e =
    let keeps = s.task.problem.domain_keeps in
    let is = sym (tree-is ts n (problem_of s).control e) in
    record {
      inside = slice_get_within ts n (problem_of s).control e;
      sentence = subst (IsSentence (signature_of s.task.problem.domain)) is
          (record { fits = keeps.control_fits; closed = keeps.control_closed });
      named = subst (IsNamed (name_count s)) is keeps.control_named;
    }

-- so is the number that is answered
pub label-of-answer : {E : Type 0} (r : Result ℕ E) (g : Signature) (c : ℕ) (ts : List FormulaTree) (t : FormulaTree) (A B : Type 0) →
    IfOk r (λ n. slice_get ts n ≡ Some t) → IfOk r (λ n. IsSentence g (tree_at ts n)) → IfOk r (λ n. A → B → IsNamed c (tree_at ts n)) → A →
    B → IfOk r (IsLabel g c ts)
label-of-answer (Ok n) g c ts t A B e f h a b = record { inside = slice_get_within ts n t e; sentence = f; named = h a b }
label-of-answer (Err x) g c ts t A B e f h a b = tt

-- ---- results

pub if-ok-then : {X E : Type 0} (r : Result X E) (P Q : X → Type 0) → IfOk r P → ((x : X) → P x → Q x) → IfOk r Q
if-ok-then (Ok x) P Q h k = k x h
if-ok-then (Err e) P Q h k = tt

pub ok-or-err : {X E : Type 0} (r : Result X E) (A B P : Type 0) → OnOk r A → OnErr r B → (A → P) → (B → P) → P
ok-or-err (Ok x) A B P a b f g = f a
ok-or-err (Err e) A B P a b f g = g b

pub when-ok : {X E : Type 0} (r : Result X E) (A : Type 0) → IsOk r → OnOk r A → A
when-ok (Ok x) A h a = a
when-ok (Err e) A h a = absurd (true≢false (sym h))

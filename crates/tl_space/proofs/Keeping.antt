-- What is known of pairs, and one more.
use Rattle.std.proofs.Common.{◌≡◌, ◌≢◌, ◌<◌, ℕ, Bool, List, [], ◌∷◌, ◌++◌, length, map, nat_eq, slice_get, Some, refl, sym, ap, ap₂, subst}
use Rattle.std.proofs.Common.{◌∙◌, arith, eqb-true, eq-eqb, Option, None}
use Rattle.std.specs.Option.{option_map}
use Rattle.std.proofs.lemmas.List.{map-append, length-map}
use Rattle.std.proofs.lemmas.Option.{slice_get-get_or, slice_get-map, get_or_from_slice_get, slice_get_within}
use Rattle.tl_syntax.proofs.Plain.{Tells, both, with_both}
use Rattle.tl_syntax.specs.declared.action.Action.{Action}
use Rattle.tl_syntax.specs.Signature.{signature_of}
use Rattle.tl_syntax.specs.Trees.{FormulaTree, verum, falsum}
use Rattle.tl_terms.specs.Pairs.{Pair}
use Rattle.tl_terms.specs.Problem.{PlainProblem}
use Rattle.tl_terms.specs.World.{World}
use Rattle.tl_nodes.specs.Numbers.{trees}
use Rattle.tl_nodes.proofs.Constants.{falsehood}
use Rattle.tl_search.specs.Arrivals.{Arrives}
use Rattle.tl_search.specs.KeptPairs.{KeptPair}
use Rattle.tl_search.specs.Graphs.{walk}
use Rattle.tl_search.specs.PairGraph.{pair_graph}
use Rattle.tl_search.specs.declared.arrival.Arrival.{Arrival}
use Rattle.tl_search.specs.declared.arrival.Arrival.TheVariants as arrival
use Rattle.tl_search.proofs.ListLaws.{get-old, get-new, get-inside}
use Rattle.tl_space.specs.contracts.numbers.NumbersPartialEq.TheImpl as numbers_impl
use Rattle.tl_space.specs.declared.numbers.Met.{Met}
use Rattle.tl_space.specs.declared.numbers.Met.TheVariants as met
use Rattle.tl_space.specs.declared.numbers.Numbers.{Numbers}
use Rattle.tl_space.specs.declared.space.Space.{Space}
use Rattle.tl_space.specs.Entries.{HasOneMore}
use Rattle.tl_space.specs.Inner.{node_in, nodes_in, arriving_in, AreNumbersIn, IsKnownIn}
use Rattle.tl_space.specs.Kept.{node_at, nodes_at, path_at, path_by, paths_of, kept_over, IsNamedMet, MayMeet, AreKeptBy}
use Rattle.tl_known.specs.NumberedLists.{Stay}
use Rattle.tl_space.specs.Remembered.{pair_in_at, IsKnown, IsRemembered, AreRemembered}
use Rattle.tl_space.specs.Spaces.{problem_of, name_count, kept_of, labels_of}
use Rattle.tl_known.specs.WorldNumbers.{worlds_in}
use Rattle.tl_space.proofs.Growing.{kept-at, kept-with, kept-by-more, empty-length}
use Rattle.tl_space.proofs.Remembering.{nodes-more, all-remembered-more, each-more}
use Rattle.tl_space.proofs.SpaceLaws.{lengths, count}

-- ---- numbers

abbrev pub numbers_eq : Numbers → Numbers → Bool
numbers_eq = (numbers_impl.ghosts).eq

pub numbers-tells : Tells numbers_eq
numbers-tells a b = (
  λ h. let k = both (nat_eq a.world b.world) (nat_eq a.label b.label) h in
      let p = eqb-true a.world b.world k.0 in let q = eqb-true a.label b.label k.1 in λ i. record { world = p i; label = q i },
  λ e. with_both (eq-eqb a.world b.world (ap (λ (n : Numbers). n.world) e)) (eq-eqb a.label b.label (ap (λ (n : Numbers). n.label) e)),
)

-- ---- pruned, or kept already

pub is-false : (s : Space) (n : Numbers) → n.label ≡ 1 → (node_in s n).formula ≡ falsum
unfolding node_at
is-false s n e = get_or_from_slice_get (trees s.nodes) n.label falsum verum
    (ap (slice_get (trees s.nodes)) e ∙ falsehood s.nodes.table.keys s.nodes.constants)

pub is-open : (s : Space) (n : Numbers) → AreNumbersIn s n → (n.label ≡ 1 → ⊥) → (node_in s n).formula ≢ falsum
unfolding node_at
is-open s n h k e = k (s.nodes.one_to_one n.label 1 falsum (slice_get-get_or (trees s.nodes) n.label verum h.label.inside ∙
    ap (λ z. Some z) e) (falsehood s.nodes.table.keys s.nodes.constants))

-- the pair of kept numbers is among the kept pairs
pub known-at : (s : Space) (n : Numbers) (at : ℕ) → slice_get s.pairs.keys at ≡ Some n → slice_get (nodes_in s) at ≡ Some (node_in s n)
known-at s n at e = slice_get-map (node_at (worlds_in s.worlds) (trees s.nodes)) s.pairs.keys at ∙
    ap (option_map (node_at (worlds_in s.worlds) (trees s.nodes))) e

-- what is known of an arrival is what comes of it
pub known-arrives : (s : Space) (x : Pair) (r : Arrival) → IsKnown (nodes_in s) x r → (path : List Action) →
    Arrives (kept_of s) (kept_of s) (Some x) path r
known-arrives s x arrival.Pruned h path = (refl, (x, refl, h))
known-arrives s x (arrival.Fresh k) h path = absurd h
known-arrives s x (arrival.Seen k) h path = (
  refl,
  by_numbers (slice_get s.pairs.keys k) refl
      (sym (slice_get-map (node_at (worlds_in s.worlds) (trees s.nodes)) s.pairs.keys k) ∙ h),
)
  where
    by_numbers : (o : Option Numbers) → slice_get s.pairs.keys k ≡ o → option_map (node_at (worlds_in s.worlds) (trees s.nodes)) o ≡
        Some x → (y : KeptPair) × (slice_get (kept_of s) k ≡ Some y) × (Some x ≡ Some y.node)
    by_numbers None e q = let b : ⊥ = cc in absurd b
    by_numbers (Some n) e q =
        let inside : k < length s.pairs.keys = slice_get_within s.pairs.keys k n e in
        let p = get-inside (paths_of s.from) k (let l = lengths s in omega arith) in (
          record { node = node_in s n; path = p.0 },
          kept-at (worlds_in s.worlds) (trees s.nodes) s.pairs.keys
              (paths_of s.from) k n p.0 e p.1,
          sym q,
        )

-- ---- one more pair

-- one more arrival is remembered, that of the pair which is kept last
pub remembered-with : (p : PlainProblem) (ws : List World) (ts : List FormulaTree) (ns : List Numbers) (n key : Numbers) (k : ℕ)
    (es : List (Numbers × Arrival)) → AreRemembered p ws ts ns es
    → key.world < length ws → key.label < length ts → k ≡ length ns → node_at ws ts n ≡ pair_in_at p ws ts key →
    (fs : List (Numbers × Arrival)) → HasOneMore es (key, arrival.Seen k) fs → AreRemembered p ws ts (ns ++ n ∷ []) fs
remembered-with p ws ts ns n key k es h l m e q fs more = each-more (IsRemembered p ws ts (ns ++ n ∷ [])) es (key, arrival.Seen k) fs more
    (all-remembered-more p ws ts ns n es h) (record { world = l; label = m; known = known })
  where
    at_last : slice_get (nodes_at ws ts ns ++ node_at ws ts n ∷ []) k ≡ Some (node_at ws ts n)
    at_last = ap (slice_get (nodes_at ws ts ns ++ node_at ws ts n ∷ [])) (e ∙ sym (length-map ns (node_at ws ts))) ∙
        get-new (nodes_at ws ts ns) (node_at ws ts n)

    known : slice_get (nodes_at ws ts (ns ++ n ∷ [])) k ≡ Some (pair_in_at p ws ts key)
    known = ap (λ (xs : List Pair). slice_get xs k) (nodes-more ws ts ns n) ∙ (at_last ∙ ap (λ z. Some z) q)

module _ (s : Space) (n : Numbers) (m : Met) (ks : List Numbers) (ms : List Met) (e : ks ≡ s.pairs.keys ++ n ∷ [])
    (f : ms ≡ s.from ++ m ∷ []) where
  pub kept-after : kept_over (worlds_in s.worlds) (trees s.nodes) ks (paths_of ms) ≡ kept_of s ++
      record { node = node_in s n; path = path_by (paths_of s.from) m } ∷ []
  kept-after =
      ap₂ (λ (ns : List Numbers) (qs : List Met). kept_over (worlds_in s.worlds) (trees s.nodes) ns (paths_of qs)) e f
      ∙ kept-with (signature_of s.task.problem.domain) (name_count s) (problem_of s) (worlds_in s.worlds)
      (trees s.nodes) s.pairs.keys s.from n m s.kept

  pub still-kept : Stay (kept_of s) (kept_over (worlds_in s.worlds) (trees s.nodes) ks (paths_of ms))
  still-kept i x g = subst (λ xs. slice_get xs i ≡ Some x) (sym kept-after)
      (get-old (kept_of s) (record { node = node_in s n; path = path_by (paths_of s.from) m } ∷ []) i x g)

  pub labels-still : Stay (labels_of s) (map (λ (k : Numbers). k.label) ks)
  labels-still i x g = subst (λ xs. slice_get xs i ≡ Some x) (sym (ap (map (λ (k : Numbers). k.label)) e ∙
      map-append (λ (k : Numbers). k.label) s.pairs.keys (n ∷ []))) (get-old (labels_of s) (n.label ∷ []) i x g)

  pub kept-by-with : AreNumbersIn s n → ((i : ℕ) → slice_get s.pairs.keys i ≡ Some n → ⊥) → MayMeet s.from m → IsNamedMet (name_count s) m →
      walk (pair_graph (problem_of s)) (path_by (paths_of s.from) m) ≡ Some (node_in s n)
      → AreKeptBy (signature_of s.task.problem.domain) (name_count s) (problem_of s) (worlds_in s.worlds) (trees s.nodes) ks ms
  kept-by-with numbers absent may named reaches =
      subst (λ (ns : List Numbers). AreKeptBy (signature_of s.task.problem.domain) (name_count s) (problem_of s) (worlds_in s.worlds)
      (trees s.nodes) ns ms) (sym e)
      (subst (AreKeptBy (signature_of s.task.problem.domain) (name_count s) (problem_of s) (worlds_in s.worlds) (trees s.nodes)
      (s.pairs.keys ++ n ∷ [])) (sym f)
      (kept-by-more (signature_of s.task.problem.domain) (name_count s) (problem_of s) (worlds_in s.worlds)
      (trees s.nodes) s.pairs.keys s.from n m s.kept numbers absent may named reaches))

  pub remembered-after : (key : Numbers) (k : ℕ) (es : List (Numbers × Arrival)) → AreNumbersIn s key → k ≡ length s.pairs.keys →
      node_in s n ≡ arriving_in s key → HasOneMore s.arrivals (key, arrival.Seen k) es
      → AreRemembered (problem_of s) (worlds_in s.worlds) (trees s.nodes) ks es
  remembered-after key k es numbers is arrives g =
      subst (λ (ns : List Numbers). AreRemembered (problem_of s) (worlds_in s.worlds) (trees s.nodes) ns es) (sym e)
      (remembered-with (problem_of s) (worlds_in s.worlds) (trees s.nodes) s.pairs.keys n key k s.arrivals s.remembered numbers.world
      numbers.label.inside is arrives es g)

-- where the pairs and the ways are as before, so is what is kept
module _ (s : Space) (ks : List Numbers) (ms : List Met) (e : ks ≡ s.pairs.keys) (f : ms ≡ s.from) where
  pub kept-by-same : AreKeptBy (signature_of s.task.problem.domain) (name_count s) (problem_of s) (worlds_in s.worlds) (trees s.nodes) ks ms
  kept-by-same =
      subst (λ (ns : List Numbers). AreKeptBy (signature_of s.task.problem.domain) (name_count s) (problem_of s) (worlds_in s.worlds)
      (trees s.nodes) ns ms) (sym e)
      (subst (AreKeptBy (signature_of s.task.problem.domain) (name_count s) (problem_of s) (worlds_in s.worlds)
      (trees s.nodes) s.pairs.keys) (sym f) s.kept)

  pub remembered-same : AreRemembered (problem_of s) (worlds_in s.worlds) (trees s.nodes) ks s.arrivals
  remembered-same = subst (λ (ns : List Numbers). AreRemembered (problem_of s) (worlds_in s.worlds) (trees s.nodes) ns s.arrivals)
      (sym e) s.remembered

  pub kept-same : kept_over (worlds_in s.worlds) (trees s.nodes) ks (paths_of ms) ≡ kept_of s
  kept-same = ap₂ (λ (ns : List Numbers) (qs : List Met). kept_over (worlds_in s.worlds) (trees s.nodes) ns (paths_of qs)) e f

  pub kept-stays-same : Stay (kept_of s) (kept_over (worlds_in s.worlds) (trees s.nodes) ks (paths_of ms))
  kept-stays-same i x g = subst (λ xs. slice_get xs i ≡ Some x) (sym kept-same) g

  pub labels-stay-same : Stay (labels_of s) (map (λ (k : Numbers). k.label) ks)
  labels-stay-same i x g = subst (λ (ns : List Numbers). slice_get (map (λ (k : Numbers). k.label) ns) i ≡ Some x) (sym e) g

-- one more arrival is remembered, which is known
pub remembered-known : (s : Space) (key : Numbers) (r : Arrival) (es : List (Numbers × Arrival)) → AreNumbersIn s key → IsKnownIn s key r →
    HasOneMore s.arrivals (key, r) es → AreRemembered (problem_of s) (worlds_in s.worlds) (trees s.nodes) s.pairs.keys es
remembered-known s key r es numbers known g =
    each-more (IsRemembered (problem_of s) (worlds_in s.worlds) (trees s.nodes) s.pairs.keys) s.arrivals (key, r) es g s.remembered
    (record { world = numbers.world; label = numbers.label.inside; known = known })

-- ---- paths by which a pair is met

pub first-path : (ps : List (List Action)) → path_by ps met.First ≡ []
unfolding path_by
first-path ps = refl

pub after-path : (ps : List (List Action)) (j : ℕ) (a b : Action) → b ≡ a → path_by ps (met.After j b) ≡ path_at ps j ++ a ∷ []
unfolding path_by
after-path ps j a b e = ap (λ x. path_at ps j ++ x ∷ []) e

pub none-met : (s : Space) → kept_of s ≡ [] → s.from ≡ []
none-met s h = empty-length s.from (s.kept.all_met ∙ (sym (count s) ∙ ap length h))

pub met-before : (s : Space) (at : ℕ) → at < length (kept_of s) → at < length s.from
met-before s at h = let c = count s in let m : length s.from ≡ length s.pairs.keys = s.kept.all_met in omega (arith, c, m, h)

-- A world that nothing is kept of is let go.
use Rattle.std.proofs.Common.{◌≡◌, ◌<◌, ◌≤◌, ◌-◌, ℕ, zero, suc, List, [], ◌∷◌, length, take, slice_get, Some, None, inl, inr, refl, sym, ap}
use Rattle.std.proofs.Common.{subst, ◌∙◌, arith}
use Rattle.std.proofs.lemmas.List.{length-take-le}
use Rattle.tl_syntax.specs.declared.action.Action.{Action}
use Rattle.tl_syntax.specs.Lists.{Each}
use Rattle.tl_syntax.specs.Signature.{Signature, signature_of}
use Rattle.tl_syntax.specs.Trees.{FormulaTree}
use Rattle.tl_terms.specs.NamedWorlds.{WorldIsNamed}
use Rattle.tl_terms.specs.Pairs.{Pair}
use Rattle.tl_terms.specs.Problem.{PlainProblem}
use Rattle.tl_terms.specs.World.{World}
use Rattle.tl_known.specs.declared.worlds.Worlds.{Worlds}
use Rattle.tl_known.specs.NumberedLists.{Stay, IsAdded}
use Rattle.tl_known.specs.WorldNumbers.{worlds_in}
use Rattle.tl_nodes.specs.NodeTrees.{tree_at}
use Rattle.tl_nodes.specs.Numbers.{trees}
use Rattle.tl_progress.specs.declared.residuals.Residuals.{Residuals}
use Rattle.tl_progress.specs.Answers.{residual}
use Rattle.tl_progress.specs.KeptResiduals.{found_in}
use Rattle.tl_search.specs.declared.arrival.Arrival.{Arrival}
use Rattle.tl_search.proofs.WalkLaws.{length-snoc}
use Rattle.tl_space.specs.declared.numbers.Met.{Met}
use Rattle.tl_space.specs.declared.numbers.Numbers.{Numbers}
use Rattle.tl_space.specs.declared.space.Space.{Space}
use Rattle.tl_space.specs.Inner.{AreNumbersIn, KeepsPairs, KeepsMet, MeetsOneMore, IsLastUnmet}
use Rattle.tl_space.specs.Kept.{world_at, nodes_at, paths_of, kept_over, AreWalks, AreKeptBy}
use Rattle.tl_space.specs.Remembered.{pair_in_at, IsKnown, IsRemembered, AreRemembered, AreFound}
use Rattle.tl_space.specs.Spaces.{problem_of, name_count, kept_of}
use Rattle.tl_space.proofs.Growing.{AreGiven, kept-stays, nodes-stay, world-stays}
use Rattle.tl_space.proofs.MetWays.{each-taken}
use Rattle.tl_space.proofs.Remembering.{arriving-stays}

-- ---- the first items of a list

take-stays : {A : Type 0} (n : ℕ) (xs : List A) → Stay (take n xs) xs
take-stays zero xs i x e = cc
take-stays (suc n) [] i x e = e
take-stays (suc n) (y ∷ ys) zero x e = e
take-stays (suc n) (y ∷ ys) (suc i) x e = take-stays n ys i x e

-- a list with at most one item more
pub added-count : {A : Type 0} (xs : List A) (x : A) (ys : List A) → IsAdded xs x ys → length ys ≤ suc (length xs)
added-count xs x ys (inl e) = let l = ap length e in omega (arith, l)
added-count xs x ys (inr e) = let l = ap length e ∙ length-snoc xs x in omega (arith, l)

below-other : (m n : ℕ) → m < suc n → (m ≡ n → ⊥) → m < n
below-other zero zero h k = absurd (k refl)
below-other zero (suc n) h k = omega arith
below-other (suc m) zero h k = let b : ⊥ = omega (arith, h) in absurd b
below-other (suc m) (suc n) h k = let l : m < n = below-other m n (omega (arith, h)) (λ e. k (ap suc e)) in omega (arith, l)

-- ---- the last world is let go

module _ (p : PlainProblem) (ws vs : List World) (ts : List FormulaTree) (n : ℕ) (made : vs ≡ take n ws) (last : suc n ≡ length ws) where
  stay : Stay vs ws
  stay = subst (λ xs. Stay xs ws) (sym made) (take-stays n ws)

  inside : (k : ℕ) → k < n → k < length vs
  inside k h = subst (λ m. k < m) (sym (ap length made ∙ length-take-le n ws (omega (arith, last)))) h

  module _ (ns : List Numbers) (given : AreGiven vs ts ns) where
    pub kept-is : (ps : List (List Action)) → kept_over ws ts ns ps ≡ kept_over vs ts ns ps
    kept-is ps = kept-stays vs ws ts ts ns ps given stay (λ i x e. e)

    remembered-is : (e : Numbers × Arrival) → IsRemembered p ws ts ns e → e.0.world < n → IsRemembered p vs ts ns e
    remembered-is e h below = record {
      world = inside e.0.world below;
      label = h.label;
      known =
          subst (λ (xs : List Pair). IsKnown xs (pair_in_at p vs ts e.0) e.1) (nodes-stay vs ws ts ts ns given stay (λ i x g. g))
          (subst (λ (x : Pair). IsKnown (nodes_at ws ts ns) x e.1) (arriving-stays p vs ws ts ts e.0 (inside e.0.world below, h.label) stay
          (λ i x g. g)) h.known);
    }

    pub remembered-are : (es : List (Numbers × Arrival)) → AreRemembered p ws ts ns es →
        Each (λ (e : Numbers × Arrival). e.0.world < n) es → AreRemembered p vs ts ns es
    remembered-are [] h below = tt
    remembered-are (e ∷ es) h below = (remembered-is e h.0 below.0, remembered-are es h.1 below.1)

  pub given-are : (g : Signature) (c : ℕ) (ns : List Numbers) (ms : List Met) → AreKeptBy g c p ws ts ns ms →
      ((i : ℕ) (m : Numbers) → slice_get ns i ≡ Some m → m.world < n) → AreGiven vs ts ns
  given-are g c ns ms h below i m e = (inside m.world (below i m e), (h.numbers i m e).label.inside)

  pub kept-are : (g : Signature) (c : ℕ) (ns : List Numbers) (ms : List Met) → AreKeptBy g c p ws ts ns ms →
      ((i : ℕ) (m : Numbers) → slice_get ns i ≡ Some m → m.world < n) → AreKeptBy g c p vs ts ns ms
  kept-are g c ns ms h below = record {
    all_met = h.all_met;
    once = h.once;
    numbers = λ i m e. record { world = inside m.world (below i m e); label = (h.numbers i m e).label };
    earlier = h.earlier;
    begins = h.begins;
    walks = subst (AreWalks p) (kept-is ns (given-are g c ns ms h below) (paths_of ms)) h.walks;
    named = h.named;
  }

  pub found-are : (old new : Residuals) → AreFound p ws ts old → ((k : ℕ) → found_in new n k ≡ None) →
      ((m k i : ℕ) → found_in new m k ≡ Some i → found_in old m k ≡ Some i) → AreFound p vs ts new
  found-are old new was none fewer m k i e =
      let h = was m k i (fewer m k i e) in
      let other : m ≡ n → ⊥ = λ q. let z : None ≡ Some i = sym (none k) ∙ (ap (λ (x : ℕ). found_in new x k) (sym q) ∙ e) in
      (let f : ⊥ = cc in f) in
      let below : m < length vs = inside m (below-other m n (subst (λ (x : ℕ). m < x) (sym last) h.0) other) in
      let w : world_at ws m ≡ world_at vs m = world-stays vs ws m stay below in
      (below, (h.1.0, λ a. h.1.1 a ∙ ap (λ (v : World). Some (residual p v a (tree_at ts k))) w))

module _ (s : Space) (vs : List World) (n : ℕ) (unmet : IsLastUnmet s n) (made : vs ≡ take n (worlds_in s.worlds)) where
  still-given : AreGiven vs (trees s.nodes) s.pairs.keys
  still-given = given-are (problem_of s) (worlds_in s.worlds) vs (trees s.nodes) n made unmet.last (signature_of s.task.problem.domain)
      (name_count s) s.pairs.keys s.from s.kept unmet.pairs

  pub still-named : Each (WorldIsNamed (name_count s)) vs
  still-named = subst (Each (WorldIsNamed (name_count s))) (sym made) (each-taken (WorldIsNamed (name_count s)) n
      (worlds_in s.worlds) s.named_worlds)

  pub still-kept : AreKeptBy (signature_of s.task.problem.domain) (name_count s) (problem_of s) vs (trees s.nodes) s.pairs.keys s.from
  still-kept = kept-are (problem_of s) (worlds_in s.worlds) vs (trees s.nodes) n made unmet.last (signature_of s.task.problem.domain)
      (name_count s) s.pairs.keys s.from s.kept unmet.pairs

  pub still-remembered : AreRemembered (problem_of s) vs (trees s.nodes) s.pairs.keys s.arrivals
  still-remembered = remembered-are (problem_of s) (worlds_in s.worlds) vs
      (trees s.nodes) n made unmet.last s.pairs.keys still-given s.arrivals s.remembered unmet.arrivals

  pub still-found : (r : Residuals) → ((k : ℕ) → found_in r n k ≡ None) →
      ((m k i : ℕ) → found_in r m k ≡ Some i → found_in s.residuals m k ≡ Some i) → AreFound (problem_of s) vs (trees s.nodes) r
  still-found r none fewer = found-are (problem_of s) (worlds_in s.worlds) vs
      (trees s.nodes) n made unmet.last s.residuals r s.found none fewer

  pub kept-as-before : kept_over vs (trees s.nodes) s.pairs.keys (paths_of s.from) ≡ kept_of s
  kept-as-before = sym (kept-is (problem_of s) (worlds_in s.worlds) vs (trees s.nodes) n made unmet.last s.pairs.keys still-given
      (paths_of s.from))

  pub kept-stay : Stay (kept_of s) (kept_over vs (trees s.nodes) s.pairs.keys (paths_of s.from))
  kept-stay i x e = subst (λ xs. slice_get xs i ≡ Some x) (sym kept-as-before) e

-- the first worlds without the last one
pub one-fewer : (ws vs : List World) (n : ℕ) → suc n ≡ length ws → vs ≡ take (length ws - 1) ws → vs ≡ take n ws
one-fewer ws vs n last e = e ∙ ap (λ k. take k ws) (omega (arith, last))

-- ---- a world that nothing is kept of

before-new : (p : PlainProblem) (ws : List World) (ts : List FormulaTree) (ns : List Numbers) (n : ℕ) → n ≡ length ws →
    (es : List (Numbers × Arrival)) → AreRemembered p ws ts ns es → Each (λ (e : Numbers × Arrival). e.0.world < n) es
before-new p ws ts ns n q [] h = tt
before-new p ws ts ns n q (e ∷ es) h = (subst (λ k. e.0.world < k) (sym q) h.0.world, before-new p ws ts ns n q es h.1)

-- a world that has just got its number
pub new-is-unmet : (s t : Space) (key : Numbers) → KeepsPairs s t → MeetsOneMore s t → AreNumbersIn t key → key.world ≡
    length (worlds_in s.worlds) → IsLastUnmet t key.world
new-is-unmet s t key k m h q = record {
  last = let a = h.world in let b = m.worlds in omega (arith, a, b, q);
  pairs = λ i n e. subst (λ x. n.world < x) (sym q) (s.kept.numbers i n
      (ap (λ (ns : List Numbers). slice_get ns i) (sym k.pairs) ∙ e)).world;
  arrivals = subst (Each (λ (e : Numbers × Arrival). e.0.world < key.world)) (sym m.arrivals)
      (before-new (problem_of s) (worlds_in s.worlds) (trees s.nodes) s.pairs.keys key.world q s.arrivals s.remembered);
}

pub unmet-later : (s t : Space) (n : ℕ) → KeepsPairs s t → KeepsMet s t → IsLastUnmet s n → IsLastUnmet t n
unmet-later s t n k m h = record {
  last = h.last ∙ ap (λ (w : Worlds). length (worlds_in w)) (sym m.worlds);
  pairs = λ i x e. h.pairs i x (ap (λ (ns : List Numbers). slice_get ns i) (sym k.pairs) ∙ e);
  arrivals = subst (Each (λ (e : Numbers × Arrival). e.0.world < n)) (sym m.arrivals) h.arrivals;
}

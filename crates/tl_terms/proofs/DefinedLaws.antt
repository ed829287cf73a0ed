-- A defined atom is the body of its definition with the values put in.
use Rattle.std.proofs.Common.{◌≡◌, ℕ, zero, suc, ◌+◌, ◌<◌, List, [], ◌∷◌, ◌++◌, fold, filter, cond, length, slice_get, Bool, not, ◌&&◌}
use Rattle.std.proofs.Common.{◌||◌, Option, Some, None, refl, sym, ap, ap₂, ◌∙◌, arith}
use Rattle.std.specs.List.{list_any, list_all}
use mathlib.Core.Path.{fun_ext}
use native.Mathlib.Decide.{dec_lt}
use borrow.Author.Tests.{eq-eqb, ne_eqb}
use Rattle.tl_syntax.specs.Assignment.{Assignment, no_values, bind}
use Rattle.tl_terms.specs.Bounds.{bound_true, tuples_of, tuples}
use Rattle.tl_terms.specs.Definitions.{Tests, asked, table_of, situation_under, true_at_level, with_tests_of, tests_of, situation_of}
use Rattle.tl_terms.specs.LawsDefinitions.{own_or_outer, body_at_level}
use Rattle.tl_syntax.specs.DefinitionNames.{IsNamingBelow, AreNamingBelow}
use Rattle.tl_terms.specs.Problem.{PlainDefinition, PlainProblem}
use Rattle.tl_terms.specs.Situation.{DefinitionTruths}
use Rattle.tl_terms.specs.Terms.{term_values}
use Rattle.tl_syntax.specs.Trees.{FormulaTree, verum, falsum, atom, defined, compare, goal_fact, goal_place, goal_not, negation}
use Rattle.tl_syntax.specs.Trees.{conjunction, disjunction, for_all, for_some, next, always, eventually, until, within, during}
use Rattle.tl_syntax.specs.Trees.{FormulaTrees, no_formula, more_formulas}
use Rattle.tl_terms.specs.Truth.{defined_true, state_true, all_true, one_true}
use Rattle.tl_terms.specs.World.{World, values_of}
use Rattle.tl_syntax.specs.declared.value.Value.{Value}
use Rattle.tl_syntax.specs.declared.variable.Var.{Var}
use Rattle.tl_syntax.specs.declared.bound.Bound.{Bound}
use Rattle.tl_syntax.specs.declared.bound.Bound.TheVariants as bound

-- bounds do not see the table
bound-table : (w g a : World) (s t : DefinitionTruths) (e : Assignment) (b : Bound)
    → bound_true (record { world = w; goal = g; avoid = a; table = s }) e b ≡
    bound_true (record { world = w; goal = g; avoid = a; table = t }) e b
unfolding bound_true
bound-table w g a s t e (bound.Fact p xs) = refl
bound-table w g a s t e (bound.Place f xs x) = refl
bound-table w g a s t e (bound.GoalFact p xs) = refl
bound-table w g a s t e (bound.GoalPlace f xs x) = refl
bound-table w g a s t e (bound.GoalNot p xs) = refl

tuples-table : (w g a : World) (s t : DefinitionTruths) (e : Assignment) (ss : List Var) (b : Bound)
    → tuples (record { world = w; goal = g; avoid = a; table = s }) e ss b ≡
    tuples (record { world = w; goal = g; avoid = a; table = t }) e ss b
unfolding tuples
tuples-table w g a s t e ss b =
    ap (λ (test : List Value → Bool). filter test (tuples_of (values_of (w ∷ g ∷ a ∷ [])) (length ss)))
    (fun_ext (λ u. bound-table w g a s t (bind ss u e) b))

-- formulas see the table only at the definitions that they name
mutual
  unfolding state_true

  agrees : (w g a : World) (s t : DefinitionTruths) (n : ℕ) → ((k : ℕ) → k < n → s k ≡ t k) → (e : Assignment) (f : FormulaTree) →
      IsNamingBelow n f
      → state_true (record { world = w; goal = g; avoid = a; table = s }) e f ≡
      state_true (record { world = w; goal = g; avoid = a; table = t }) e f
  agrees w g a s t n same e verum h = refl
  agrees w g a s t n same e falsum h = refl
  agrees w g a s t n same e (atom p ts) h = refl
  agrees w g a s t n same e (defined p ts) h = at (term_values w e ts)
    where
      at : (o : Option (List Value)) → defined_true s p o ≡ defined_true t p o
      at None = refl
      at (Some vs) = ap (λ (q : List Value → Bool). q vs) (same p h)
  agrees w g a s t n same e (compare c x y) h = refl
  agrees w g a s t n same e (goal_fact p xs) h = refl
  agrees w g a s t n same e (goal_place k xs x) h = refl
  agrees w g a s t n same e (goal_not p xs) h = refl
  agrees w g a s t n same e (negation f) h = ap not (agrees w g a s t n same e f h)
  agrees w g a s t n same e (conjunction fs) h = all_agree w g a s t n same e fs h
  agrees w g a s t n same e (disjunction fs) h = one_agree w g a s t n same e fs h
  agrees w g a s t n same e (for_all ss b f) h = ap₂ (λ (p : List Value → Bool) ts. list_all p ts)
      (fun_ext (λ u. agrees w g a s t n same (bind ss u e) f h)) (tuples-table w g a s t e ss b)
  agrees w g a s t n same e (for_some ss b f) h = ap₂ (λ (p : List Value → Bool) ts. list_any p ts)
      (fun_ext (λ u. agrees w g a s t n same (bind ss u e) f h)) (tuples-table w g a s t e ss b)
  agrees w g a s t n same e (next f) h = refl
  agrees w g a s t n same e (always f) h = refl
  agrees w g a s t n same e (eventually f) h = refl
  agrees w g a s t n same e (until f g') h = refl
  agrees w g a s t n same e (within k f) h = refl
  agrees w g a s t n same e (during k f) h = refl

  all_agree : (w g a : World) (s t : DefinitionTruths) (n : ℕ) → ((k : ℕ) → k < n → s k ≡ t k) → (e : Assignment) (fs : FormulaTrees) →
      AreNamingBelow n fs
      → all_true (record { world = w; goal = g; avoid = a; table = s }) e fs ≡
      all_true (record { world = w; goal = g; avoid = a; table = t }) e fs
  all_agree w g a s t n same e no_formula h = refl
  all_agree w g a s t n same e (more_formulas f fs) h = ap₂ ◌&&◌ (agrees w g a s t n same e f h.0) (all_agree w g a s t n same e fs h.1)

  one_agree : (w g a : World) (s t : DefinitionTruths) (n : ℕ) → ((k : ℕ) → k < n → s k ≡ t k) → (e : Assignment) (fs : FormulaTrees) →
      AreNamingBelow n fs
      → one_true (record { world = w; goal = g; avoid = a; table = s }) e fs ≡
      one_true (record { world = w; goal = g; avoid = a; table = t }) e fs
  one_agree w g a s t n same e no_formula h = refl
  one_agree w g a s t n same e (more_formulas f fs) h = ap₂ ◌||◌ (agrees w g a s t n same e f h.0) (one_agree w g a s t n same e fs h.1)

-- ---- lists of tests

module _ {A : Type 0} where
  get-front : (ps qs : List A) (k : ℕ) → k < length ps → slice_get (ps ++ qs) k ≡ slice_get ps k
  get-front [] qs k h = absurd (omega arith)
  get-front (p ∷ ps) qs zero h = refl
  get-front (p ∷ ps) qs (suc k) h = get-front ps qs k (omega arith)

  get-end : (ps : List A) (p : A) → slice_get (ps ++ p ∷ []) (length ps) ≡ Some p
  get-end [] p = refl
  get-end (q ∷ ps) p = get-end ps p

  length-push : (ps : List A) (p : A) → length (ps ++ p ∷ []) ≡ suc (length ps)
  length-push [] p = refl
  length-push (q ∷ ps) p = ap suc (length-push ps p)

module _ (p : PlainProblem) (w : World) where
  abbrev tests_over : Tests → List PlainDefinition → Tests
  tests_over ts ds = fold (with_tests_of p w) ts ds

  -- what is there already stays
  stays : (ts : Tests) (ds : List PlainDefinition) (k : ℕ) → k < length ts → slice_get (tests_over ts ds) k ≡ slice_get ts k
  stays ts [] k h = refl
  stays ts (d ∷ ds) k h = stays (with_tests_of p w ts d) ds k (omega (arith, length-push ts (true_at_level p w ts d d.levels))) ∙
      get-front ts (true_at_level p w ts d d.levels ∷ []) k h

  -- definition k is over a list of the first k tests
  found : (ts : Tests) (ds : List PlainDefinition) (k : ℕ) (d : PlainDefinition) → slice_get ds k ≡ Some d
      → (es : Tests) × (slice_get (tests_over ts ds) (length ts + k) ≡ Some (true_at_level p w es d d.levels)) ×
      (length es ≡ length ts + k) × ((m : ℕ) → m < length es → slice_get (tests_over ts ds) m ≡ slice_get es m)
  found ts [] k d e = cc
  found ts (c ∷ ds) zero d e = (
    ts,
    ap (slice_get (tests_over (with_tests_of p w ts c) ds)) (let q : length ts + zero ≡ length ts = omega arith in q)
        ∙ (stays (with_tests_of p w ts c) ds (length ts) (omega (arith, length-push ts (true_at_level p w ts c c.levels))) ∙
        (get-end ts (true_at_level p w ts c c.levels) ∙ ap (λ (x : PlainDefinition). Some (true_at_level p w ts x x.levels))
        (let q : c ≡ d = cc in q))),
    omega arith,
    λ m h. stays ts (c ∷ ds) m h,
  )
  found ts (c ∷ ds) (suc k) d e =
      let r = found (with_tests_of p w ts c) ds k d e in
      let n = length-push ts (true_at_level p w ts c c.levels) in (
        r.0,
        ap (slice_get (tests_over (with_tests_of p w ts c) ds)) (let q : length ts + suc k ≡ length (with_tests_of p w ts c) + k =
            omega (arith, n) in q) ∙ r.1,
        r.2 ∙ (let q : length (with_tests_of p w ts c) + k ≡ length ts + suc k = omega (arith, n) in q),
        r.3,
      )

  -- a level over the first definitions is that level over all of them
  levels-agree : (es : Tests) (n : ℕ) (d : PlainDefinition) → length es ≡ n →
      ((m : ℕ) → m < length es → slice_get (tests_over [] p.definitions) m ≡ slice_get es m) → IsNamingBelow (suc n) d.body
      → (k : ℕ) (vs : List Value) → true_at_level p w es d k vs ≡ body_at_level p w n d k vs
  unfolding true_at_level body_at_level situation_of tests_of
  levels-agree es n d len same below zero vs = refl
  levels-agree es n d len same below (suc k) vs = agrees w p.goal p.avoid (table_of (es ++ true_at_level p w es d k ∷ []))
      (own_or_outer n (body_at_level p w n d k) (table_of (tests_over [] p.definitions))) (suc n)
      (each_name (λ us. levels-agree es n d len same below k us)) (bind d.params vs no_values) d.body below
    where
      each_name : ((us : List Value) → true_at_level p w es d k us ≡ body_at_level p w n d k us) → (m : ℕ) → m < suc n →
          table_of (es ++ true_at_level p w es d k ∷ []) m ≡ own_or_outer n (body_at_level p w n d k)
          (table_of (tests_over [] p.definitions)) m
      each_name lower m h = elim (dec_lt m n) [
        | yes q ↦ fun_ext (λ us. ap (λ o. asked o us) (get-front es (true_at_level p w es d k ∷ []) m (omega arith) ∙
            sym (same m (omega arith))) ∙ sym (ap (λ b. cond b (body_at_level p w n d k us)
            (asked (slice_get (tests_over [] p.definitions) m) us)) (ne_eqb m n (omega arith))))
        | no q ↦ fun_ext (λ us. ap (λ o. asked o us) (ap (slice_get (es ++ true_at_level p w es d k ∷ []))
            (let z : m ≡ length es = omega arith in z) ∙ get-end es (true_at_level p w es d k)) ∙
            (lower us ∙ sym (ap (λ b. cond b (body_at_level p w n d k us) (asked (slice_get (tests_over [] p.definitions) m) us))
            (eq-eqb m n (omega arith)))))
      ]

  one_level : (es : Tests) (n : ℕ) (d : PlainDefinition) (k : ℕ) → length es ≡ n →
      ((m : ℕ) → m < length es → slice_get (tests_over [] p.definitions) m ≡ slice_get es m) → IsNamingBelow n d.body
      → (vs : List Value) → true_at_level p w es d (suc k) vs ≡ state_true (situation_under p w (tests_over [] p.definitions))
      (bind d.params vs no_values) d.body
  unfolding true_at_level
  one_level es n d k len same below vs = agrees w p.goal p.avoid (table_of (es ++ true_at_level p w es d k ∷ []))
      (table_of (tests_over [] p.definitions)) n
      (λ m h. fun_ext (λ us. ap (λ o. asked o us) (get-front es (true_at_level p w es d k ∷ []) m (omega arith) ∙
      sym (same m (omega arith)))))
      (bind d.params vs no_values) d.body below

  -- a defined atom of defined arguments is the body of its definition at the level of its number
  pub defined-body : (n : ℕ) (d : PlainDefinition) (vs : List Value) → slice_get p.definitions n ≡ Some d → IsNamingBelow (suc n) d.body
      → (situation_of p w).table n vs ≡ body_at_level p w n d d.levels vs
  unfolding situation_of tests_of
  defined-body n d vs e below =
      let r = found [] p.definitions n d e in
      let at : slice_get (tests_over [] p.definitions) n ≡ Some (true_at_level p w r.0 d d.levels) =
      ap (slice_get (tests_over [] p.definitions)) (let z : n ≡ zero + n = omega arith in z) ∙ r.1 in
      ap (λ (o : Option (List Value → Bool)). asked o vs) at ∙ levels-agree r.0 n d
      (let z : length r.0 ≡ n = r.2 ∙ (let y : zero + n ≡ n = omega arith in y) in z) r.3 below d.levels vs

  -- where the body does not name its own definition, the level makes no difference
  pub defined-once : (n : ℕ) (d : PlainDefinition) (vs : List Value) → slice_get p.definitions n ≡ Some d → IsNamingBelow n d.body →
      0 < d.levels
      → (situation_of p w).table n vs ≡ state_true (situation_of p w) (bind d.params vs no_values) d.body
  unfolding situation_of tests_of
  defined-once n d vs e below some =
      let r = found [] p.definitions n d e in
      let at : slice_get (tests_over [] p.definitions) n ≡ Some (true_at_level p w r.0 d d.levels) =
      ap (slice_get (tests_over [] p.definitions)) (let z : n ≡ zero + n = omega arith in z) ∙ r.1 in
      ap (λ (o : Option (List Value → Bool)). asked o vs) at ∙ at_some_level r.0 d.levels some
      (let z : length r.0 ≡ n = r.2 ∙ (let y : zero + n ≡ n = omega arith in y) in z) r.3
    where
      at_some_level : (es : Tests) (k : ℕ) → 0 < k → length es ≡ n → ((m : ℕ) → m < length es → slice_get (tests_over [] p.definitions) m ≡
          slice_get es m) → true_at_level p w es d k vs ≡ state_true (situation_under p w (tests_over [] p.definitions))
          (bind d.params vs no_values) d.body
      at_some_level es zero h len same = absurd (omega arith)
      at_some_level es (suc k) h len same = one_level es n d k len same below vs

-- Facts that changes delete or add, and what formulas then leave.
use Rattle.std.proofs.Common.{◌≡◌, ◌≢◌, ◌==◌, ℕ, suc, length, List, [], ◌∷◌, ◌++◌, map, Bool, true, false, true≢false, not, ◌&&◌, ◌||◌}
use Rattle.std.proofs.Common.{eqb-true, Some, slice_get, inl, inr, refl, sym, ap, ap₂, ◌∙◌}
use Rattle.std.specs.FinSet as set
use Rattle.std.specs.List.{list_any}
use Rattle.std.specs.Ordering.{eq_by_cmp}
use Rattle.tl_nodes.specs.declared.node.Node.{Node}
use Rattle.tl_nodes.specs.declared.node.Node.TheVariants as node
use Rattle.tl_nodes.specs.NodeTrees.{tree_at, trees_at, tree_of_node}
use Rattle.tl_syntax.specs.declared.fact.Fact.{Fact}
use Rattle.tl_syntax.specs.declared.formula.Formula.{Formula}
use Rattle.tl_syntax.specs.declared.formula.Formula.TheVariants as variant
use Rattle.tl_syntax.specs.declared.term.Term.{Term}
use Rattle.tl_syntax.specs.declared.term.Terms.{Terms}
use Rattle.tl_syntax.specs.declared.value.Value.{Value}
use Rattle.tl_syntax.specs.Assignment.{Assignment, no_values}
use Rattle.tl_syntax.specs.DerivedTests.{fact_eq}
use Rattle.tl_syntax.specs.Keys.{key_cmp, fact_key}
use Rattle.tl_syntax.specs.Lists.{Among}
use Rattle.tl_syntax.proofs.TotalOrders.{key_total}
use Rattle.tl_syntax.specs.TreeOfFormula.{tree_of_formula}
use Rattle.tl_syntax.specs.TreeOfTerm.{tree_of_term, terms_of_list}
use Rattle.tl_syntax.specs.Trees.{TermTree, variable, value, place, arith, FormulaTree, falsum, atom, formulas_of_list}
use Rattle.tl_syntax.proofs.FormulaTrees.{tree-Atom}
use Rattle.tl_syntax.proofs.Plain.{both, fact_eq-key, value-tells}
use Rattle.tl_syntax.proofs.TermTrees.{trees-Terms}
use Rattle.tl_terms.specs.Bounds.{fact_in}
use Rattle.tl_terms.specs.Definitions.{situation_of}
use Rattle.tl_terms.specs.Progression.{constant, progressed, progressed_all}
use Rattle.tl_terms.specs.Simplification.{simplified_and, simplified_not}
use Rattle.tl_terms.specs.Situation.{Situation}
use Rattle.tl_terms.specs.Step.{with_all, without_all}
use Rattle.tl_terms.specs.Terms.{prepend, term_value, term_values}
use Rattle.tl_terms.specs.Truth.{state_true}
use Rattle.tl_terms.specs.World.{World}
use Rattle.tl_terms.proofs.KeyLaws.{key-itself}
use Rattle.tl_progress.specs.Broken.{AreChanged, LeavesTruth, is_value_term, are_value_terms, is_fact_of, is_added, is_deleted}
use Rattle.tl_progress.proofs.Gathering.{and-decided}
use Rattle.tl_progress.proofs.TruthLayers.{shown}

-- ---- tests

neither : (a b : Bool) → (a || b) ≡ false → (a ≡ false) × (b ≡ false)
neither true b h = absurd (true≢false h)
neither false b h = (refl, h)

not-true : (b : Bool) → not b ≡ true → b ≡ false
not-true true h = absurd (true≢false (sym h))
not-true false h = refl

or-true : (a : Bool) → (a || true) ≡ true
or-true true = refl
or-true false = refl

and-false : (a : Bool) → (a && false) ≡ false
and-false true = refl
and-false false = refl

-- one of the list passes the test
find-one : {A : Type 0} (q : A → Bool) (xs : List A) → list_any q xs ≡ true → (x : A) × (Among x xs × (q x ≡ true))
find-one q [] h = absurd (true≢false (sym h))
find-one {A} q (x ∷ xs) h = by (q x) refl (find-one q xs) h
  where
    by : (b : Bool) → q x ≡ b → (list_any q xs ≡ true → (y : A) × (Among y xs × (q y ≡ true))) → (b || list_any q xs) ≡ true → (y : A) ×
        (Among y (x ∷ xs) × (q y ≡ true))
    by true e rest k = (x, (inl refl, e))
    by false e rest k = let r = rest k in (r.0, (inr r.1.0, r.1.1))

-- ---- terms that are values

value-term : (w : World) (e : Assignment) (u : TermTree) (v : Value) → is_value_term u v ≡ true → term_value w e u ≡ Some v
unfolding term_value
value-term w e (variable s) v h = absurd (true≢false (sym h))
value-term w e (value x) v h = ap (λ (y : Value). Some y) ((value-tells x v).0 h)
value-term w e (place f ts) v h = absurd (true≢false (sym h))
value-term w e (arith op s t at) v h = absurd (true≢false (sym h))

value-terms : (w : World) (e : Assignment) (ts : List Term) (vs : List Value) → are_value_terms ts vs ≡ true →
    term_values w e (terms_of_list (map tree_of_term ts)) ≡ Some vs
unfolding term_value
value-terms w e [] [] h = refl
value-terms w e [] (v ∷ vs) h = absurd (true≢false (sym h))
value-terms w e (t ∷ ts) [] h = absurd (true≢false (sym h))
value-terms w e (t ∷ ts) (v ∷ vs) h =
    let k = both (is_value_term (tree_of_term t) v) (are_value_terms ts vs) h in
    ap₂ prepend (value-term w e (tree_of_term t) v k.0) (value-terms w e ts vs k.1)

-- there are as many
values-count : (ts : List Term) (vs : List Value) → are_value_terms ts vs ≡ true → length ts ≡ length vs
values-count [] [] h = refl
values-count [] (v ∷ vs) h = absurd (true≢false (sym h))
values-count (t ∷ ts) [] h = absurd (true≢false (sym h))
values-count (t ∷ ts) (v ∷ vs) h = ap suc (values-count ts vs (both (is_value_term (tree_of_term t) v) (are_value_terms ts vs) h).1)

pub values-short : (ts : List Term) (vs : List Value) → length ts ≢ length vs → false ≡ are_value_terms ts vs
values-short ts vs d = elim (are_value_terms ts vs) as (λ b. are_value_terms ts vs ≡ b → false ≡ b) [
  | true ↦ λ h.
      absurd (d (values-count ts vs h))
  | false ↦ λ h. refl
] refl

-- a fact of the world, by terms that are its values
fact-is : (v : World) (e : Assignment) (p : ℕ) (ts : List Term) (f : Fact) → is_fact_of p ts f ≡ true →
    fact_in v p (term_values v e (terms_of_list (map tree_of_term ts))) ≡ set.contains v.facts (fact_key f)
fact-is v e p ts f h =
    let k = both (f.pred == p) (are_value_terms ts f.args) h in
    ap (fact_in v p) (value-terms v e ts f.args k.1) ∙ ap (λ (q : ℕ). set.contains v.facts (q, f.args)) (sym (eqb-true f.pred p k.0))

-- ---- facts after changes

contained : (s : set.FinSet key_cmp) (fs : List Fact) (f : Fact) → Among f fs → set.contains (with_all s (map fact_key fs)) (fact_key f) ≡
    true
contained s [] f h = absurd h
contained s (g ∷ fs) f h =
    set.contains-insert key_total (with_all s (map fact_key fs)) (fact_key g) (fact_key f)
    ∙ elim h [
      | inl e ↦ ap (λ b. b || set.contains (with_all s (map fact_key fs)) (fact_key f))
          (key-itself (fact_key f) (fact_key g) (ap fact_key e))
      | inr m ↦ ap (λ b. eq_by_cmp key_cmp (fact_key f) (fact_key g) || b) (contained s fs f m) ∙
          or-true (eq_by_cmp key_cmp (fact_key f) (fact_key g))
    ]

absent : (s : set.FinSet key_cmp) (ds : List Fact) (f : Fact) → Among f ds → set.contains (without_all s (map fact_key ds)) (fact_key f) ≡
    false
absent s [] f h = absurd h
absent s (g ∷ ds) f h =
    set.contains-remove key_total (without_all s (map fact_key ds)) (fact_key g) (fact_key f)
    ∙ elim h [
      | inl e ↦ ap (λ b. not b && set.contains (without_all s (map fact_key ds)) (fact_key f))
          (key-itself (fact_key f) (fact_key g) (ap fact_key e))
      | inr m ↦ ap (λ b. not (eq_by_cmp key_cmp (fact_key f) (fact_key g)) && b) (absent s ds f m) ∙
          and-false (not (eq_by_cmp key_cmp (fact_key f) (fact_key g)))
    ]

still-absent : (s : set.FinSet key_cmp) (fs : List Fact) (f : Fact) → list_any (λ g. fact_eq g f) fs ≡ false → set.contains s (fact_key f) ≡
    false → set.contains (with_all s (map fact_key fs)) (fact_key f) ≡ false
still-absent s [] f h k = k
still-absent s (g ∷ fs) f h k =
    let d = neither (fact_eq g f) (list_any (λ x. fact_eq x f) fs) h in
    set.contains-insert key_total (with_all s (map fact_key fs)) (fact_key g) (fact_key f)
    ∙ ap₂ (λ a b. a || b) (sym (fact_eq-key g f) ∙ d.0) (still-absent s fs f d.1 k)

module _ (w v : World) (dels adds : List Fact) (change : AreChanged w v dels adds) (e : Assignment) (p : ℕ) (ts : List Term) where
  deleted-false : is_deleted p ts dels adds ≡ true → fact_in v p (term_values v e (terms_of_list (map tree_of_term ts))) ≡ false
  deleted-false h =
      let r = find-one (λ f. is_fact_of p ts f && not (list_any (λ g. fact_eq g f) adds)) dels h in
      let k = both (is_fact_of p ts r.0) (not (list_any (λ g. fact_eq g r.0) adds)) r.1.1 in
      fact-is v e p ts r.0 k.0
      ∙ (ap (λ (s : set.FinSet key_cmp). set.contains s (fact_key r.0)) change ∙
      still-absent (without_all w.facts (map fact_key dels)) adds r.0 (not-true (list_any (λ g. fact_eq g r.0) adds) k.1)
      (absent w.facts dels r.0 r.1.0))

  added-true : is_added p ts adds ≡ true → fact_in v p (term_values v e (terms_of_list (map tree_of_term ts))) ≡ true
  added-true h =
      let r = find-one (is_fact_of p ts) adds h in
      fact-is v e p ts r.0 r.1.1 ∙ (ap (λ (s : set.FinSet key_cmp). set.contains s (fact_key r.0)) change ∙
      contained (without_all w.facts (map fact_key dels)) adds r.0 r.1.0)

-- ---- formulas

tree-is : (f : Formula) (p : ℕ) (terms : Terms) (ts : List Term) → f ≡ variant.Atom p terms → ts ≡ terms.items.items → tree_of_formula f ≡
    atom p (terms_of_list (map tree_of_term ts))
tree-is f p terms ts is items = ap tree_of_formula is ∙ (tree-Atom p terms ∙
    ap (atom p) (trees-Terms terms ∙ ap (λ (us : List Term). terms_of_list (map tree_of_term us)) (sym items)))

module _ (f : Formula) (p : ℕ) (terms : Terms) (ts : List Term) (is : f ≡ variant.Atom p terms) (items : ts ≡ terms.items.items)
    (dels adds : List Fact) where
  pub leaves-deleted : is_deleted p ts dels adds ≡ true → LeavesTruth false (tree_of_formula f) dels adds
  unfolding progressed state_true situation_of
  leaves-deleted h = λ m w v change. ap (progressed (situation_of m v) no_values) (tree-is f p terms ts is items) ∙
      ap constant (deleted-false w v dels adds change no_values p ts h)

  pub leaves-added : is_added p ts adds ≡ true → LeavesTruth true (tree_of_formula f) dels adds
  unfolding progressed state_true situation_of
  leaves-added h = λ m w v change. ap (progressed (situation_of m v) no_values) (tree-is f p terms ts is items) ∙
      ap constant (added-true w v dels adds change no_values p ts h)

-- the conjunction of the trees of the numbers, of which one leaves FALSE
part-leaves : (s : Situation) (e : Assignment) (ts : List FormulaTree) (ids : List ℕ) (q : ℕ) → Among q ids →
    progressed s e (tree_at ts q) ≡ falsum
    → (us : List FormulaTree) × (vs : List FormulaTree) × (progressed_all s e (formulas_of_list (trees_at ts ids)) ≡ us ++ falsum ∷ vs)
unfolding progressed
part-leaves s e ts [] q m h = absurd m
part-leaves s e ts (i ∷ ids) q m h = elim m [
  | inl k ↦ (
    [],
    progressed_all s e (formulas_of_list (trees_at ts ids)),
    ap (λ (f : FormulaTree). f ∷ progressed_all s e (formulas_of_list (trees_at ts ids)))
        (ap (λ (j : ℕ). progressed s e (tree_at ts j)) k ∙ h),
  )
  | inr k ↦ let r = part-leaves s e ts ids q k h in (
    progressed s e (tree_at ts i) ∷ r.0,
    r.1,
    ap (λ (fs : List FormulaTree). progressed s e (tree_at ts i) ∷ fs) r.2,
  )
]

module _ (ts : List FormulaTree) (at : ℕ) (a : Node) (is : slice_get ts at ≡ Some (tree_of_node ts a)) (dels adds : List Fact) where
  pub leaves-basic : (b : Bool) (f : Formula) → a ≡ node.Basic f → LeavesTruth b (tree_of_formula f) dels adds →
      LeavesTruth b (tree_at ts at) dels adds
  unfolding tree_of_node
  leaves-basic b f k h = λ m w v change. ap (progressed (situation_of m v) no_values) (shown ts at a is (node.Basic f) k) ∙ h m w v change

  pub leaves-not : (q : ℕ) → a ≡ node.Not q → LeavesTruth true (tree_at ts q) dels adds → LeavesTruth false (tree_at ts at) dels adds
  unfolding tree_of_node progressed simplified_not
  leaves-not q k h = λ m w v change. ap (progressed (situation_of m v) no_values) (shown ts at a is (node.Not q) k) ∙
      ap simplified_not (h m w v change)

  pub leaves-and : (ids : List ℕ) → a ≡ node.And ids → (q : ℕ) → Among q ids → LeavesTruth false (tree_at ts q) dels adds →
      LeavesTruth false (tree_at ts at) dels adds
  unfolding tree_of_node progressed
  leaves-and ids k q among h = λ m w v change.
      let r = part-leaves (situation_of m v) no_values ts ids q among (h m w v change) in
      ap (progressed (situation_of m v) no_values) (shown ts at a is (node.And ids) k) ∙ (ap simplified_and r.2 ∙ and-decided r.0 r.1)

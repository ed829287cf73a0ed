-- What a state formula evaluates to, by what its parts evaluate to.
use Rattle.std.proofs.Common.{◌≡◌, ◌<◌, ◌≤◌, ◌+◌, ℕ, zero, suc, List, [], ◌∷◌, ◌++◌, map, drop, length, get_or, Bool, true, false, not}
use Rattle.std.proofs.Common.{Option, Some, None, Result, Ok, Err, Box, Global, refl, sym, ap, ◌∙◌, subst, drop-cons, add-one, arith}
use Rattle.tl_eval.specs.Notes.{AreInRange, Tells, Evaluates, operation_of}
use Rattle.tl_eval.specs.Reading.{situation_read, looked_read}
use Rattle.tl_eval.specs.StateTruth.{IsTruth}
use Rattle.tl_eval.specs.declared.range.RangeNote.{RangeNote}
use Rattle.tl_eval.proofs.ScopeTruth.{in-scope, truth-alike, state-looks-alike}
use Rattle.tl_eval.proofs.DecidedLaws.{decided, looked_until, Through, through-begun, through-on, through-stop, through-noted, through-end}
use Rattle.tl_eval.proofs.DecidedLaws.{joined-truth, joined-looks, instance_truth, instance_looks, quantified-truth, quantified-looks}
use Rattle.tl_eval.proofs.ReadingLaws.{Closed, Opened}
use Rattle.tl_eval.proofs.TupleRest.{rest_after, all-after-none, rest-none, rest-some, next-read}
use Rattle.tl_eval.proofs.TermLaws.{in_range-append, among-left, among-right}
use Rattle.tl_syntax.specs.declared.bound.Bound.{Bound}
use Rattle.tl_syntax.specs.declared.formula.Formula.{Formula}
use Rattle.tl_syntax.specs.declared.formula.Formula.TheVariants as formula
use Rattle.tl_syntax.specs.declared.formula.Formulas.{Formulas}
use Rattle.tl_syntax.specs.declared.junction.Junction.{Junction}
use Rattle.tl_syntax.specs.declared.junction.Junction.TheVariants.{All, Any}
use Rattle.tl_syntax.specs.declared.term.Term.{Term}
use Rattle.tl_syntax.specs.declared.term.Terms.{Terms}
use Rattle.tl_syntax.specs.declared.value.Cmp.{Cmp}
use Rattle.tl_syntax.specs.declared.value.Value.{Value}
use Rattle.tl_syntax.specs.declared.variable.Arg.{Arg}
use Rattle.tl_syntax.specs.declared.variable.Var.{Var}
use Rattle.tl_syntax.specs.FreeVariables.{slots_of, free_slots, InScope}
use Rattle.tl_syntax.specs.Assignment.{Assignment, no_values, bind}
use Rattle.tl_syntax.specs.BoundVariables.{OccurIn, DifferInSlot}
use Rattle.tl_syntax.specs.Fits.{term_count}
use Rattle.tl_syntax.specs.Junctions.{deciding_truth, joined, quantified}
use Rattle.tl_syntax.specs.TreeOfFormula.{tree_of_formula, tree_of_formulas}
use Rattle.tl_syntax.specs.TreeOfTerm.{tree_of_term, tree_of_terms}
use Rattle.tl_syntax.specs.Trees.{TermTrees, no_term, more_terms, FormulaTree, verum, falsum, atom, defined, compare, goal_fact, goal_place}
use Rattle.tl_syntax.specs.Trees.{goal_not, negation, conjunction, disjunction, for_all, for_some, next, always, eventually, until, within}
use Rattle.tl_syntax.specs.Trees.{during, formulas_of_list}
use Rattle.tl_syntax.proofs.FormulaTrees.{tree-True, tree-False, tree-Atom, tree-Defined, tree-Compare, tree-GoalFact, tree-GoalPlace}
use Rattle.tl_syntax.proofs.FormulaTrees.{tree-GoalNot, tree-Not, tree-And, tree-Or, tree-ForAll, tree-Exists, tree-Next, tree-Always}
use Rattle.tl_syntax.proofs.FormulaTrees.{tree-Eventually, tree-Until, tree-Within, tree-During, trees-Formulas}
use Rattle.tl_terms.specs.Bounds.{arg_value, arg_values, fact_in, same_value, bound_true, tuples}
use Rattle.tl_terms.specs.Definitions.{situation_of}
use Rattle.tl_terms.specs.Looked.{followed_if, leaves_open, looked_in_term, looked_in_terms, looked_in_body, looked_in_state}
use Rattle.tl_terms.specs.Operations.{Operation}
use Rattle.tl_terms.specs.Problem.{PlainDefinition, PlainProblem}
use Rattle.tl_terms.specs.Terms.{place_value, prepend, term_value, term_values}
use Rattle.tl_terms.specs.Truth.{compared, defined_true, state_true}
use Rattle.tl_terms.specs.World.{World}
use Rattle.tl_match.specs.Next.{IsNext}

module _ (p : PlainProblem) (w : World) (n k : ℕ) (e : Assignment) where
  by_formula : (f : Formula) (t : FormulaTree) (r : Result Bool RangeNote) → tree_of_formula f ≡ t → IsTruth p w n k e t r →
      IsTruth p w n k e (tree_of_formula f) r
  by_formula f t r q h = subst (λ (x : FormulaTree). IsTruth p w n k e x r) (sym q) h

  -- ---- constants, and formulas with a temporal word, which the definition makes false

  pub at-True : (f : Formula) → f ≡ formula.True → IsTruth p w n k e (tree_of_formula f) (Ok true)
  unfolding state_true looked_in_state
  at-True f q = by_formula f verum (Ok true) (ap tree_of_formula q ∙ tree-True) (refl, tt)

  pub at-False : (f : Formula) → f ≡ formula.False → IsTruth p w n k e (tree_of_formula f) (Ok false)
  unfolding state_true looked_in_state
  at-False f q = by_formula f falsum (Ok false) (ap tree_of_formula q ∙ tree-False) (refl, tt)

  pub at-Next : (f : Formula) (x : Box Formula Global) → f ≡ formula.Next x → IsTruth p w n k e (tree_of_formula f) (Ok false)
  unfolding state_true looked_in_state
  at-Next f x q = by_formula f (next (tree_of_formula x.value)) (Ok false) (ap tree_of_formula q ∙ tree-Next x) (refl, tt)

  pub at-Always : (f : Formula) (x : Box Formula Global) → f ≡ formula.Always x → IsTruth p w n k e (tree_of_formula f) (Ok false)
  unfolding state_true looked_in_state
  at-Always f x q = by_formula f (always (tree_of_formula x.value)) (Ok false) (ap tree_of_formula q ∙ tree-Always x) (refl, tt)

  pub at-Eventually : (f : Formula) (x : Box Formula Global) → f ≡ formula.Eventually x → IsTruth p w n k e (tree_of_formula f) (Ok false)
  unfolding state_true looked_in_state
  at-Eventually f x q = by_formula f (eventually (tree_of_formula x.value)) (Ok false) (ap tree_of_formula q ∙ tree-Eventually x) (refl, tt)

  pub at-Until : (f : Formula) (x y : Box Formula Global) → f ≡ formula.Until x y → IsTruth p w n k e (tree_of_formula f) (Ok false)
  unfolding state_true looked_in_state
  at-Until f x y q = by_formula f (until (tree_of_formula x.value) (tree_of_formula y.value)) (Ok false)
      (ap tree_of_formula q ∙ tree-Until x y) (refl, tt)

  pub at-Within : (f : Formula) (m : ℕ) (x : Box Formula Global) → f ≡ formula.Within m x → IsTruth p w n k e (tree_of_formula f) (Ok false)
  unfolding state_true looked_in_state
  at-Within f m x q = by_formula f (within m (tree_of_formula x.value)) (Ok false) (ap tree_of_formula q ∙ tree-Within m x) (refl, tt)

  pub at-During : (f : Formula) (m : ℕ) (x : Box Formula Global) → f ≡ formula.During m x → IsTruth p w n k e (tree_of_formula f) (Ok false)
  unfolding state_true looked_in_state
  at-During f m x q = by_formula f (during m (tree_of_formula x.value)) (Ok false) (ap tree_of_formula q ∙ tree-During m x) (refl, tt)

  -- ---- formulas that have no formula below them

  pub at-Atom : (f : Formula) (c : ℕ) (ts : Terms) (r : Result Bool RangeNote) → f ≡ formula.Atom c ts
      → Evaluates (fact_in w c (term_values w e (tree_of_terms ts))) (looked_in_terms w e (tree_of_terms ts)) r →
      IsTruth p w n k e (tree_of_formula f) r
  unfolding state_true looked_in_state
  at-Atom f c ts r q h = by_formula f (atom c (tree_of_terms ts)) r (ap tree_of_formula q ∙ tree-Atom c ts) h

  pub at-Compare : (f : Formula) (c : Cmp) (s t : Term) (r : Result Bool RangeNote) → f ≡ formula.Compare c s t
      → Evaluates (compared c (term_value w e (tree_of_term s)) (term_value w e (tree_of_term t)))
      (followed_if (leaves_open c (term_value w e (tree_of_term s))) (looked_in_term w e (tree_of_term s))
      (looked_in_term w e (tree_of_term t))) r
      → IsTruth p w n k e (tree_of_formula f) r
  unfolding state_true looked_in_state
  at-Compare f c s t r q h = by_formula f (compare c (tree_of_term s) (tree_of_term t)) r (ap tree_of_formula q ∙ tree-Compare c s t) h

  pub at-GoalFact : (f : Formula) (c : ℕ) (xs : List Arg) (g : World) (b : Bool) → f ≡ formula.GoalFact c xs → g ≡ p.goal → b ≡
      fact_in g c (arg_values e xs) → IsTruth p w n k e (tree_of_formula f) (Ok b)
  unfolding state_true looked_in_state
  at-GoalFact f c xs g b q s h = by_formula f (goal_fact c xs) (Ok b) (ap tree_of_formula q ∙ tree-GoalFact c xs)
      (h ∙ ap (λ (x : World). fact_in x c (arg_values e xs)) s, tt)

  pub at-GoalNot : (f : Formula) (c : ℕ) (xs : List Arg) (g : World) (b : Bool) → f ≡ formula.GoalNot c xs → g ≡ p.avoid → b ≡
      fact_in g c (arg_values e xs) → IsTruth p w n k e (tree_of_formula f) (Ok b)
  unfolding state_true looked_in_state
  at-GoalNot f c xs g b q s h = by_formula f (goal_not c xs) (Ok b) (ap tree_of_formula q ∙ tree-GoalNot c xs)
      (h ∙ ap (λ (x : World). fact_in x c (arg_values e xs)) s, tt)

  pub at-GoalPlace : (f : Formula) (c : ℕ) (xs : List Arg) (x : Arg) (g : World) (b : Bool) → f ≡ formula.GoalPlace c xs x → g ≡ p.goal →
      b ≡ same_value (place_value g c (arg_values e xs)) (arg_value e x) → IsTruth p w n k e (tree_of_formula f) (Ok b)
  unfolding state_true looked_in_state
  at-GoalPlace f c xs x g b q s h = by_formula f (goal_place c xs x) (Ok b) (ap tree_of_formula q ∙ tree-GoalPlace c xs x)
      (h ∙ ap (λ (y : World). same_value (place_value y c (arg_values e xs)) (arg_value e x)) s, tt)

  -- ---- negations, and formulas that are evaluated by a call of their own

  pub at-Not : (f : Formula) (x : Box Formula Global) (u : Formula) (b : Bool) → f ≡ formula.Not x → u ≡ x.value →
      IsTruth p w n k e (tree_of_formula u) (Ok b) → IsTruth p w n k e (tree_of_formula f) (Ok (not b))
  unfolding state_true looked_in_state
  at-Not f x u b q s h =
      let below : IsTruth p w n k e (tree_of_formula x.value) (Ok b) =
      subst (λ (y : Formula). IsTruth p w n k e (tree_of_formula y) (Ok b)) s h in
      by_formula f (negation (tree_of_formula x.value)) (Ok (not b)) (ap tree_of_formula q ∙ tree-Not x) (ap not below.0, below.1)

  pub at-Not-Err : (f : Formula) (x : Box Formula Global) (u : Formula) (m : RangeNote) → f ≡ formula.Not x → u ≡ x.value →
      IsTruth p w n k e (tree_of_formula u) (Err m) → IsTruth p w n k e (tree_of_formula f) (Err m)
  unfolding state_true looked_in_state
  at-Not-Err f x u m q s h =
      by_formula f (negation (tree_of_formula x.value)) (Err m) (ap tree_of_formula q ∙ tree-Not x)
      (subst (λ (y : Formula). IsTruth p w n k e (tree_of_formula y) (Err m)) s h)

  pub at-Defined : (f : Formula) (c : ℕ) (ts : Terms) (r : Result Bool RangeNote) → f ≡ formula.Defined c ts →
      IsTruth p w n k e (defined c (tree_of_terms ts)) r → IsTruth p w n k e (tree_of_formula f) r
  at-Defined f c ts r q h = by_formula f (defined c (tree_of_terms ts)) r (ap tree_of_formula q ∙ tree-Defined c ts) h

  pub at-And : (f : Formula) (fs : Formulas) (r : Result Bool RangeNote) → f ≡ formula.And fs →
      IsTruth p w n k e (joined All (tree_of_formulas fs)) r → IsTruth p w n k e (tree_of_formula f) r
  at-And f fs r q h = by_formula f (conjunction (tree_of_formulas fs)) r (ap tree_of_formula q ∙ tree-And fs) h

  pub at-Or : (f : Formula) (fs : Formulas) (r : Result Bool RangeNote) → f ≡ formula.Or fs →
      IsTruth p w n k e (joined Any (tree_of_formulas fs)) r → IsTruth p w n k e (tree_of_formula f) r
  at-Or f fs r q h = by_formula f (disjunction (tree_of_formulas fs)) r (ap tree_of_formula q ∙ tree-Or fs) h

  pub at-ForAll : (f : Formula) (ss : List Var) (b : Bound) (x : Box Formula Global) (u : Formula) (r : Result Bool RangeNote) → f ≡
      formula.ForAll ss b x → u ≡ x.value → IsTruth p w n k e (quantified All ss b (tree_of_formula u)) r →
      IsTruth p w n k e (tree_of_formula f) r
  at-ForAll f ss b x u r q s h = by_formula f (for_all ss b (tree_of_formula x.value)) r (ap tree_of_formula q ∙ tree-ForAll ss b x)
      (subst (λ (y : Formula). IsTruth p w n k e (quantified All ss b (tree_of_formula y)) r) s h)

  pub at-Exists : (f : Formula) (ss : List Var) (b : Bound) (x : Box Formula Global) (u : Formula) (r : Result Bool RangeNote) → f ≡
      formula.Exists ss b x → u ≡ x.value → IsTruth p w n k e (quantified Any ss b (tree_of_formula u)) r →
      IsTruth p w n k e (tree_of_formula f) r
  at-Exists f ss b x u r q s h = by_formula f (for_some ss b (tree_of_formula x.value)) r (ap tree_of_formula q ∙ tree-Exists ss b x)
      (subst (λ (y : Formula). IsTruth p w n k e (quantified Any ss b (tree_of_formula y)) r) s h)

  -- ---- an atom of a definition

  pub defined-values : (c : ℕ) (ts : Terms) (o : Option (List Value)) (row xs : List Value) (r : Result Bool RangeNote)
      → Evaluates (term_values w e (tree_of_terms ts)) (looked_in_terms w e (tree_of_terms ts)) (Ok o) → o ≡ Some row → xs ≡ row
      → Evaluates ((situation_read p w n k).table c xs) (looked_read p w n k c xs) r → IsTruth p w n k e (defined c (tree_of_terms ts)) r
  unfolding state_true looked_in_state
  defined-values c ts o row xs r h q s b =
      let are : term_values w e (tree_of_terms ts) ≡ Some xs = sym h.0 ∙ (q ∙ ap (λ (x : List Value). Some x) (sym s)) in
      subst (λ (x : Option (List Value)). Evaluates (defined_true (situation_read p w n k).table c x)
      (looked_in_terms w e (tree_of_terms ts) ++ looked_in_body (looked_read p w n k) c x) r) (sym are) (by r b)
    where
      by : (r : Result Bool RangeNote) → Evaluates ((situation_read p w n k).table c xs) (looked_read p w n k c xs) r →
          Evaluates ((situation_read p w n k).table c xs) (looked_in_terms w e (tree_of_terms ts) ++ looked_read p w n k c xs) r
      by (Ok v) g = (g.0, in_range-append (looked_in_terms w e (tree_of_terms ts)) (looked_read p w n k c xs) h.1 g.1)
      by (Err m) g = (among-right (operation_of m) (looked_in_terms w e (tree_of_terms ts)) (looked_read p w n k c xs) g.0, g.1)

  pub defined-None : (c : ℕ) (ts : Terms) (o : Option (List Value))
      → Evaluates (term_values w e (tree_of_terms ts)) (looked_in_terms w e (tree_of_terms ts)) (Ok o) → o ≡ None →
      IsTruth p w n k e (defined c (tree_of_terms ts)) (Ok false)
  unfolding state_true looked_in_state
  defined-None c ts o h q =
      let are : term_values w e (tree_of_terms ts) ≡ None = sym h.0 ∙ q in
      subst (λ (x : Option (List Value)). Evaluates (defined_true (situation_read p w n k).table c x)
      (looked_in_terms w e (tree_of_terms ts) ++ looked_in_body (looked_read p w n k) c x) (Ok false)) (sym are)
      (refl, in_range-append (looked_in_terms w e (tree_of_terms ts)) [] h.1 tt)

  pub defined-Err : (c : ℕ) (ts : Terms) (m : RangeNote) → Tells (looked_in_terms w e (tree_of_terms ts)) m →
      IsTruth p w n k e (defined c (tree_of_terms ts)) (Err m)
  unfolding looked_in_state
  defined-Err c ts m h = (among-left (operation_of m) (looked_in_terms w e (tree_of_terms ts)) _ h.0, h.1)

  -- ---- the parts of a conjunction or a disjunction

  -- the parts so far leave it open
  abbrev pub PartsPassed : Bool → List Formula → List Formula → Type 0
  PartsPassed stop all rest = Through stop (state_true (situation_read p w n k) e)
      (looked_in_state (looked_read p w n k) (situation_read p w n k) e) (map tree_of_formula all) (map tree_of_formula rest)

  pub parts-begun : (stop : Bool) (items : List Formula) → PartsPassed stop items items
  parts-begun stop items = through-begun stop (state_true (situation_read p w n k) e)
      (looked_in_state (looked_read p w n k) (situation_read p w n k) e) (map tree_of_formula items)

  rest-from : (items : List Formula) (i : ℕ) (x : Formula) → i < length items → x ≡ get_or items i x → map tree_of_formula (drop i items) ≡
      tree_of_formula x ∷ map tree_of_formula (drop (i + 1) items)
  rest-from items i x h q =
      ap (map tree_of_formula) (drop-cons items i x h) ∙ (ap (λ (y : Formula). tree_of_formula y ∷ map tree_of_formula (drop (suc i) items))
      (sym q)
      ∙ ap (λ (j : ℕ). tree_of_formula x ∷ map tree_of_formula (drop j items)) (sym (add-one i)))

  at-part : (stop : Bool) (items : List Formula) (i : ℕ) (x : Formula) → i < length items → x ≡ get_or items i x →
      PartsPassed stop items (drop i items)
      → Through stop (state_true (situation_read p w n k) e) (looked_in_state (looked_read p w n k) (situation_read p w n k) e)
      (map tree_of_formula items) (tree_of_formula x ∷ map tree_of_formula (drop (i + 1) items))
  at-part stop items i x h q t = subst (Through stop (state_true (situation_read p w n k) e)
      (looked_in_state (looked_read p w n k) (situation_read p w n k) e) (map tree_of_formula items)) (rest-from items i x h q) t

  pub parts-on : (stop : Bool) (items : List Formula) (i : ℕ) (x : Formula) (b : Bool) → i < length items → x ≡ get_or items i x →
      PartsPassed stop items (drop i items)
      → IsTruth p w n k e (tree_of_formula x) (Ok b) → (b ≡ stop → ⊥) → PartsPassed stop items (drop (i + 1) items)
  parts-on stop items i x b h q t found open_still =
      through-on stop (state_true (situation_read p w n k) e) (looked_in_state (looked_read p w n k) (situation_read p w n k) e)
      (map tree_of_formula items) (tree_of_formula x) (map tree_of_formula (drop (i + 1) items)) b
      (at-part stop items i x h q t) found open_still

  -- the whole is decided as its list of parts is
  by_parts : (j : Junction) (stop : Bool) (decides : stop ≡ deciding_truth j) (fs : Formulas) (items : List Formula)
      (r : Result Bool RangeNote) → items ≡ fs.items.items
      → Evaluates (decided stop (state_true (situation_read p w n k) e) (map tree_of_formula items))
      (looked_until stop (state_true (situation_read p w n k) e) (looked_in_state (looked_read p w n k) (situation_read p w n k) e)
      (map tree_of_formula items)) r
      → IsTruth p w n k e (joined j (tree_of_formulas fs)) r
  by_parts j stop decides fs items r q h =
      let same : tree_of_formulas fs ≡ formulas_of_list (map tree_of_formula items) = trees-Formulas fs ∙
      ap (λ (xs : List Formula). formulas_of_list (map tree_of_formula xs)) (sym q) in
      let truth = joined-truth (looked_read p w n k) (situation_read p w n k) e j stop decides (map tree_of_formula items) in
      let looks = joined-looks (looked_read p w n k) (situation_read p w n k) e j stop decides (map tree_of_formula items) in
      subst (λ xs. IsTruth p w n k e (joined j xs) r) (sym same) (subst
      (λ (b : Bool). Evaluates b (looked_in_state (looked_read p w n k) (situation_read p w n k) e
      (joined j (formulas_of_list (map tree_of_formula items)))) r) (sym truth)
      (subst (λ (l : List Operation). Evaluates (decided stop (state_true (situation_read p w n k) e) (map tree_of_formula items)) l r)
      (sym looks) h))

  pub parts-stop : (j : Junction) (stop : Bool) (decides : stop ≡ deciding_truth j) (fs : Formulas) (items : List Formula) (i : ℕ)
      (x : Formula) (b : Bool) → items ≡ fs.items.items → i < length items → x ≡ get_or items i x → PartsPassed stop items (drop i items)
      → IsTruth p w n k e (tree_of_formula x) (Ok b) → b ≡ stop → IsTruth p w n k e (joined j (tree_of_formulas fs)) (Ok stop)
  parts-stop j stop decides fs items i x b s h q t found is =
      by_parts j stop decides fs items (Ok stop) s (through-stop stop (state_true (situation_read p w n k) e)
      (looked_in_state (looked_read p w n k) (situation_read p w n k) e) (map tree_of_formula items) (tree_of_formula x)
      (map tree_of_formula (drop (i + 1) items)) b (at-part stop items i x h q t) found is)

  pub parts-noted : (j : Junction) (stop : Bool) (decides : stop ≡ deciding_truth j) (fs : Formulas) (items : List Formula) (i : ℕ)
      (x : Formula) (m : RangeNote) → items ≡ fs.items.items → i < length items → x ≡ get_or items i x →
      PartsPassed stop items (drop i items)
      → IsTruth p w n k e (tree_of_formula x) (Err m) → IsTruth p w n k e (joined j (tree_of_formulas fs)) (Err m)
  parts-noted j stop decides fs items i x m s h q t found =
      by_parts j stop decides fs items (Err m) s (through-noted stop (state_true (situation_read p w n k) e)
      (looked_in_state (looked_read p w n k) (situation_read p w n k) e) (map tree_of_formula items) (tree_of_formula x)
      (map tree_of_formula (drop (i + 1) items)) m (at-part stop items i x h q t) found)

  pub parts-end : (j : Junction) (stop : Bool) (decides : stop ≡ deciding_truth j) (fs : Formulas) (items : List Formula) (i : ℕ) → items ≡
      fs.items.items → length items ≤ i → PartsPassed stop items (drop i items) →
      IsTruth p w n k e (joined j (tree_of_formulas fs)) (Ok (not stop))
  parts-end j stop decides fs items i s h t =
      by_parts j stop decides fs items (Ok (not stop)) s (through-end stop (state_true (situation_read p w n k) e)
      (looked_in_state (looked_read p w n k) (situation_read p w n k) e) (map tree_of_formula items)
      (subst (λ (xs : List Formula). PartsPassed stop items xs) (past-end items i h) t))
    where
      past-end : (xs : List Formula) (j : ℕ) → length xs ≤ j → drop j xs ≡ []
      past-end [] zero l = refl
      past-end [] (suc j) l = refl
      past-end (x ∷ xs) zero l = absurd (omega arith)
      past-end (x ∷ xs) (suc j) l = past-end xs j (omega arith)

-- ---- the body of a definition

pub closed-is : (p : PlainProblem) (w : World) (n k i : ℕ) (vs : List Value) → Closed p w n k i vs →
    Evaluates ((situation_read p w n k).table i vs) (looked_read p w n k i vs) (Ok false)
closed-is p w n k i vs c = (sym c.truth, subst AreInRange (sym c.looked) tt)

pub opened-is : (p : PlainProblem) (w : World) (n k i j : ℕ) (d : PlainDefinition) (vs : List Value) (e u : Assignment)
    (r : Result Bool RangeNote) → Opened p w n k i j d vs → InScope (slots_of d.params) (free_slots d.body) → e ≡ bind d.params vs u
    → IsTruth p w i j e d.body r → Evaluates ((situation_read p w n k).table i vs) (looked_read p w n k i vs) r
opened-is p w n k i j d vs e u r o scope q h =
    let s = situation_read p w i j in
    let looks = looked_read p w i j in
    let body : IsTruth p w i j (bind d.params vs u) d.body r = subst (λ (x : Assignment). IsTruth p w i j x d.body r) q h in
    let agree = in-scope d.params vs u no_values (free_slots d.body) scope in
    subst (λ (b : Bool). Evaluates b (looked_read p w n k i vs) r) (sym o.truth)
    (subst (λ (l : List Operation). Evaluates (state_true s (bind d.params vs no_values) d.body) l r) (sym o.looked)
    (subst (λ (b : Bool). Evaluates b (looked_in_state looks s (bind d.params vs no_values) d.body) r)
    (truth-alike s (bind d.params vs u) (bind d.params vs no_values) d.body agree)
    (subst (λ (l : List Operation). Evaluates (state_true s (bind d.params vs u) d.body) l r)
    (state-looks-alike looks s (bind d.params vs u) (bind d.params vs no_values) d.body agree) body)))

-- as many values as terms
pub count-values : (w : World) (e : Assignment) (ts : TermTrees) (row : List Value) → term_values w e ts ≡ Some row → length row ≡
    term_count ts
unfolding term_values term_count
count-values w e no_term row h = let k : Some [] ≡ Some row = h in let q : [] ≡ row = cc in ap length (sym q)
count-values w e (more_terms t ts) row h = by (term_value w e t) (term_values w e ts) (λ vs q. count-values w e ts vs q) refl h
  where
    by : (o : Option Value) (os : Option (List Value)) → ((vs : List Value) → term_values w e ts ≡ Some vs → length vs ≡ term_count ts) →
        term_values w e ts ≡ os → prepend o os ≡ Some row → length row ≡ suc (term_count ts)
    by None os more q k = absurd (let z : ⊥ = cc in z)
    by (Some v) None more q k = absurd (let z : ⊥ = cc in z)
    by (Some v) (Some vs) more q k = let same : v ∷ vs ≡ row = cc in ap length (sym same) ∙ ap suc (more vs q)

-- ---- the tuples of a quantifier

module _ (p : PlainProblem) (w : World) (n k : ℕ) (e : Assignment) (ss : List Var) (b : Bound) (f : FormulaTree) where
  -- its tuples, in their order
  abbrev pub tuples_read : List (List Value)
  tuples_read = tuples (situation_read p w n k) e ss b

  -- the tuples so far leave it open, and those after the given one are left
  abbrev pub TuplesPassed : Bool → Option (List Value) → Type 0
  TuplesPassed stop after = Through stop (instance_truth (situation_read p w n k) e ss f)
      (instance_looks (looked_read p w n k) (situation_read p w n k) e ss f) tuples_read (rest_after after tuples_read)

  pub tuples-begun : (stop : Bool) → TuplesPassed stop None
  tuples-begun stop = subst (Through stop (instance_truth (situation_read p w n k) e ss f)
      (instance_looks (looked_read p w n k) (situation_read p w n k) e ss f) tuples_read) (all-after-none tuples_read)
      (through-begun stop (instance_truth (situation_read p w n k) e ss f)
      (instance_looks (looked_read p w n k) (situation_read p w n k) e ss f) tuples_read)

  -- the quantifier is decided as its list of tuples is
  by_tuples : (j : Junction) (stop : Bool) (decides : stop ≡ deciding_truth j) (r : Result Bool RangeNote)
      → Evaluates (decided stop (instance_truth (situation_read p w n k) e ss f) tuples_read)
      (looked_until stop (instance_truth (situation_read p w n k) e ss f)
      (instance_looks (looked_read p w n k) (situation_read p w n k) e ss f) tuples_read) r
      → IsTruth p w n k e (quantified j ss b f) r
  by_tuples j stop decides r h =
      subst (λ (x : Bool). Evaluates x (looked_in_state (looked_read p w n k) (situation_read p w n k) e (quantified j ss b f)) r)
      (sym (quantified-truth (looked_read p w n k) (situation_read p w n k) e ss b f j stop decides))
      (subst (λ (l : List Operation). Evaluates (decided stop (instance_truth (situation_read p w n k) e ss f) tuples_read) l r)
      (sym (quantified-looks (looked_read p w n k) (situation_read p w n k) e ss b f j stop decides)) h)

  module _ (d : DifferInSlot ss) (o : OccurIn ss b) (j : Junction) (stop : Bool) (decides : stop ≡ deciding_truth j)
      (after : Option (List Value)) (passed : TuplesPassed stop after) where
    pub tuples-end : (answer : Option (List Value)) → IsNext (length ss) (λ t. bound_true (situation_of p w) (bind ss t e) b) after answer →
        answer ≡ None → IsTruth p w n k e (quantified j ss b f) (Ok (not stop))
    tuples-end answer h q =
        let none = rest-none (situation_read p w n k) e ss b d o after
        (subst (IsNext (length ss) (λ t. bound_true (situation_read p w n k) (bind ss t e) b) after) q
        (next-read p w n k e ss b after answer h)) in
        by_tuples j stop decides (Ok (not stop)) (through-end stop (instance_truth (situation_read p w n k) e ss f)
        (instance_looks (looked_read p w n k) (situation_read p w n k) e ss f) tuples_read
        (subst (Through stop (instance_truth (situation_read p w n k) e ss f)
        (instance_looks (looked_read p w n k) (situation_read p w n k) e ss f) tuples_read) none passed))

    module _ (answer : Option (List Value)) (t : List Value) (h : IsNext (length ss)
        (λ u. bound_true (situation_of p w) (bind ss u e) b) after answer) (q : answer ≡ Some t) where
      pub rest-is-next : rest_after after tuples_read ≡ t ∷ rest_after (Some t) tuples_read
      rest-is-next = rest-some (situation_read p w n k) e ss b d o after t
          (subst (IsNext (length ss) (λ t. bound_true (situation_read p w n k) (bind ss t e) b) after) q
          (next-read p w n k e ss b after answer h))

      at-tuple : Through stop (instance_truth (situation_read p w n k) e ss f)
          (instance_looks (looked_read p w n k) (situation_read p w n k) e ss f) tuples_read (t ∷ rest_after (Some t) tuples_read)
      at-tuple = subst (Through stop (instance_truth (situation_read p w n k) e ss f)
          (instance_looks (looked_read p w n k) (situation_read p w n k) e ss f) tuples_read) rest-is-next passed

      -- fewer tuples are left
      pub fewer-left : length (rest_after (Some t) tuples_read) < length (rest_after after tuples_read)
      fewer-left = let size : length (rest_after after tuples_read) ≡ suc (length (rest_after (Some t) tuples_read)) =
          ap length rest-is-next in omega arith

      pub tuples-on : (x : Bool) → IsTruth p w n k (bind ss t e) f (Ok x) → (x ≡ stop → ⊥) → TuplesPassed stop (Some t)
      tuples-on x found still = through-on stop (instance_truth (situation_read p w n k) e ss f)
          (instance_looks (looked_read p w n k) (situation_read p w n k) e ss f) tuples_read t
          (rest_after (Some t) tuples_read) x at-tuple found still

      pub tuples-stop : (x : Bool) → IsTruth p w n k (bind ss t e) f (Ok x) → x ≡ stop → IsTruth p w n k e (quantified j ss b f) (Ok stop)
      tuples-stop x found is = by_tuples j stop decides (Ok stop) (through-stop stop (instance_truth (situation_read p w n k) e ss f)
          (instance_looks (looked_read p w n k) (situation_read p w n k) e ss f) tuples_read t
          (rest_after (Some t) tuples_read) x at-tuple found is)

      pub tuples-noted : (m : RangeNote) → IsTruth p w n k (bind ss t e) f (Err m) → IsTruth p w n k e (quantified j ss b f) (Err m)
      tuples-noted m found = by_tuples j stop decides (Err m) (through-noted stop (instance_truth (situation_read p w n k) e ss f)
          (instance_looks (looked_read p w n k) (situation_read p w n k) e ss f) tuples_read t
          (rest_after (Some t) tuples_read) m at-tuple found)

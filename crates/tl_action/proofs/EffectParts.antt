-- The parts of an effect, and what it makes of them.
use Rattle.std.proofs.Common.{◌≡◌, ◌<◌, ◌+◌, ℕ, List, [], ◌∷◌, ◌++◌, map, flat_map, append-nil, Bool, true, false, true≢false, ◌==◌, ◌||◌}
use Rattle.std.proofs.Common.{not, cond, Option, Some, None, Result, Ok, Err, IsTrue, inl, inr, refl, sym, ap, ◌∙◌, subst, arith, eqb-true}
use Rattle.std.proofs.lemmas.Bool.{eq-eqb}
use Rattle.std.proofs.lemmas.List.{map-append}
use Rattle.std.specs.List.{list_all}
use Rattle.tl_action.specs.declared.changes.Changes.{Changes}
use Rattle.tl_eval.specs.declared.fault.EvalFault.{EvalFault}
use Rattle.tl_eval.specs.declared.fault.EvalFault.TheVariants as fault
use Rattle.tl_action.specs.Agreement.{Agree, EffectReads, EffectsRead, EachReads, EffectLeaves, EffectsLeave, EachLeaves}
use Rattle.tl_action.specs.Collected.{HasMore, Collects, GivesFact, GivesPlace}
use Rattle.tl_action.proofs.Agreement.{agree-both, agree-through, agree-under, bind-leaves, slot-of-two, EffectsAgree, effects-agree}
use Rattle.tl_action.proofs.EffectSizes.{effect_nodes, effects_nodes}
use Rattle.tl_terms.proofs.FitsAlone.{fits-alone}
use Rattle.tl_action.proofs.Passed.{caused-more, nothing-more}
use Rattle.tl_eval.specs.Notes.{Tells, operation_of}
use Rattle.tl_eval.specs.declared.range.RangeNote.{RangeNote}
use Rattle.tl_eval.proofs.TermLaws.{among-left, among-right}
use Rattle.tl_syntax.specs.declared.bound.Bound.{Bound}
use Rattle.tl_syntax.specs.declared.effect.Effect.{Effect}
use Rattle.tl_syntax.specs.declared.effect.Effect.TheVariants as variant
use Rattle.tl_syntax.specs.declared.effect.Effects.{Effects}
use Rattle.tl_syntax.specs.declared.fact.Fact.{Fact}
use Rattle.tl_syntax.specs.declared.formula.Formula.{Formula}
use Rattle.tl_syntax.specs.declared.place_value.PlaceValue.{PlaceValue}
use Rattle.tl_syntax.specs.declared.term.Term.{Term}
use Rattle.tl_syntax.specs.declared.term.Terms.{Terms}
use Rattle.tl_syntax.specs.declared.value.Value.{Value}
use Rattle.tl_syntax.specs.declared.variable.Var.{Var}
use Rattle.tl_syntax.specs.Assignment.{Assignment, bind}
use Rattle.tl_syntax.specs.Effects.{EffectTree, EffectTrees, add, del, assign, when, each}
use Rattle.tl_syntax.specs.Fits.{TermFits, TermsFit, Fits, VariablesFit, EffectFits}
use Rattle.tl_syntax.specs.FreeVariables.{is_slot_in, slots_of, slots_without, bound_slots, free_slots, effect_slots, effects_slots}
use Rattle.tl_syntax.specs.FreeVariables.{InScope}
use Rattle.tl_syntax.specs.Keys.{fact_key, place_entry}
use Rattle.tl_syntax.specs.Lists.{Each, Among}
use Rattle.tl_syntax.specs.Signature.{Signature}
use Rattle.tl_syntax.specs.StateFormulas.{IsState}
use Rattle.tl_syntax.specs.TreeOfEffect.{tree_of_effect, tree_of_effects}
use Rattle.tl_syntax.specs.Trees.{FormulaTree}
use Rattle.tl_syntax.specs.TreeOfFormula.{tree_of_formula}
use Rattle.tl_syntax.specs.TreeOfTerm.{tree_of_term, tree_of_terms}
use Rattle.tl_syntax.proofs.EffectTrees.{tree-Add, tree-Del, tree-Assign, tree-When, tree-Each}
use Rattle.tl_syntax.proofs.ListLaws.{Each-append}
use Rattle.tl_terms.specs.Bounds.{tuples}
use Rattle.tl_terms.specs.Definitions.{situation_of}
use Rattle.tl_terms.specs.Looked.{followed_if, looked_in_term, looked_in_each, looked_in_state, looked_in_effect, looked_in_effects}
use Rattle.tl_terms.specs.Looked.{looks_of}
use Rattle.tl_terms.specs.Operations.{Operation}
use Rattle.tl_terms.specs.Problem.{PlainProblem}
use Rattle.tl_terms.specs.Step.{EffectInstance, adds, dels, sets, effect_instances, all_instances, is_defined}
use Rattle.tl_terms.specs.Terms.{term_value, term_values}
use Rattle.tl_terms.specs.Truth.{state_true}
use Rattle.tl_terms.specs.World.{World}

-- ---- facts and places

pub add-one : (p : ℕ) (o : Option (List Value)) (looked : List Operation) (before : Changes) (after : List Fact)
    (r : Result Bool EvalFault) → GivesFact p o looked before.adds after r →
    Collects (adds p o ∷ []) looked before (record before { adds = after }) r
add-one p o looked before after (Ok true) h =
    subst (λ (x : Option (List Value)). HasMore (adds p x ∷ []) before (record before { adds = after })) (sym h.1) (record {
      defined = refl;
      dels = sym (append-nil (map fact_key before.dels));
      adds = ap (map fact_key) h.2 ∙ map-append fact_key before.adds (record { pred = p; args = h.0 } ∷ []);
      sets = sym (append-nil (map place_entry before.sets));
    })
add-one p o looked before after (Ok false) h = ap (λ (x : Option (List Value)). list_all is_defined (adds p x ∷ [])) h
add-one p o looked before after (Err x) h = h

pub del-one : (p : ℕ) (o : Option (List Value)) (looked : List Operation) (before : Changes) (after : List Fact)
    (r : Result Bool EvalFault) → GivesFact p o looked before.dels after r →
    Collects (dels p o ∷ []) looked before (record before { dels = after }) r
del-one p o looked before after (Ok true) h =
    subst (λ (x : Option (List Value)). HasMore (dels p x ∷ []) before (record before { dels = after })) (sym h.1) (record {
      defined = refl;
      dels = ap (map fact_key) h.2 ∙ map-append fact_key before.dels (record { pred = p; args = h.0 } ∷ []);
      adds = sym (append-nil (map fact_key before.adds));
      sets = sym (append-nil (map place_entry before.sets));
    })
del-one p o looked before after (Ok false) h = ap (λ (x : Option (List Value)). list_all is_defined (dels p x ∷ [])) h
del-one p o looked before after (Err x) h = h

undefined-value : (f : ℕ) (o : Option (List Value)) → list_all is_defined (sets f o None ∷ []) ≡ false
undefined-value f (Some vs) = refl
undefined-value f None = refl

pub set-one : (f : ℕ) (o : Option (List Value)) (u : Option Value) (looked ls : List Operation) (before : Changes) (after : List PlaceValue)
    (r : Result Bool EvalFault) → GivesPlace f o u looked ls before.sets after r →
    Collects (sets f o u ∷ []) (looked ++ ls) before (record before { sets = after }) r
set-one f o u looked ls before after (Ok true) h =
    subst (λ (x : Option (List Value)). HasMore (sets f x u ∷ []) before (record before { sets = after })) (sym h.2)
    (subst (λ (y : Option Value). HasMore (sets f (Some h.0) y ∷ []) before (record before { sets = after })) (sym h.3) (record {
      defined = refl;
      dels = sym (append-nil (map fact_key before.dels));
      adds = sym (append-nil (map fact_key before.adds));
      sets = ap (map place_entry) h.4 ∙ map-append place_entry before.sets (record { fun = f; args = h.0; value = h.1 } ∷ []);
    }))
set-one f o u looked ls before after (Ok false) h = elim h [
  | inl q ↦ ap (λ (x : Option (List Value)). list_all is_defined (sets f x u ∷ [])) q
  | inr q ↦ ap (λ (y : Option Value). list_all is_defined (sets f o y ∷ [])) q ∙ undefined-value f o
]
set-one f o u looked ls before after (Err x) h = h

-- ---- effects by their kinds

abbrev pub CollectsEffect : PlainProblem → World → Assignment → EffectTree → Changes → Changes → Result Bool EvalFault → Type 0
CollectsEffect p w e x before after r = Collects (effect_instances (situation_of p w) e x)
    (looked_in_effect (looks_of p w) (situation_of p w) e x) before after r

abbrev pub CollectsAll : PlainProblem → World → Assignment → EffectTrees → Changes → Changes → Result Bool EvalFault → Type 0
CollectsAll p w e xs before after r = Collects (all_instances (situation_of p w) e xs)
    (looked_in_effects (looks_of p w) (situation_of p w) e xs) before after r

pub reads-Add : (g : Signature) (x : Effect) (p : ℕ) (ts : Terms) → x ≡ variant.Add p ts → EffectReads g (tree_of_effect x) →
    TermsFit g (tree_of_terms ts)
unfolding EffectFits
reads-Add g x p ts q r = let k : EffectReads g (add p (tree_of_terms ts)) = subst (EffectReads g) (ap tree_of_effect q ∙ tree-Add p ts) r in
    k.fits.1

pub reads-Del : (g : Signature) (x : Effect) (p : ℕ) (ts : Terms) → x ≡ variant.Del p ts → EffectReads g (tree_of_effect x) →
    TermsFit g (tree_of_terms ts)
unfolding EffectFits
reads-Del g x p ts q r = let k : EffectReads g (del p (tree_of_terms ts)) = subst (EffectReads g) (ap tree_of_effect q ∙ tree-Del p ts) r in
    k.fits.1

pub reads-Assign : (g : Signature) (x : Effect) (f : ℕ) (ts : Terms) (t : Term) → x ≡ variant.Assign f ts t →
    EffectReads g (tree_of_effect x) → TermsFit g (tree_of_terms ts) × TermFits g (tree_of_term t)
unfolding EffectFits
reads-Assign g x f ts t q r = let k : EffectReads g (assign f (tree_of_terms ts) (tree_of_term t)) =
    subst (EffectReads g) (ap tree_of_effect q ∙ tree-Assign f ts t) r in (k.fits.1, k.fits.2)

module _ (p : PlainProblem) (w : World) (e : Assignment) (x : Effect) (before : Changes) (r : Result Bool EvalFault) where
  pub at-Add : (n : ℕ) (ts : Terms) (after : List Fact) → x ≡ variant.Add n ts →
      GivesFact n (term_values w e (tree_of_terms ts)) (looked_in_each w e (tree_of_terms ts)) before.adds after r →
      CollectsEffect p w e (tree_of_effect x) before (record before { adds = after }) r
  unfolding effect_instances looked_in_effect situation_of
  at-Add n ts after q h = subst (λ (y : EffectTree). CollectsEffect p w e y before (record before { adds = after }) r)
      (sym (ap tree_of_effect q ∙ tree-Add n ts)) (add-one n (term_values w e (tree_of_terms ts))
      (looked_in_each w e (tree_of_terms ts)) before after r h)

  pub at-Del : (n : ℕ) (ts : Terms) (after : List Fact) → x ≡ variant.Del n ts →
      GivesFact n (term_values w e (tree_of_terms ts)) (looked_in_each w e (tree_of_terms ts)) before.dels after r →
      CollectsEffect p w e (tree_of_effect x) before (record before { dels = after }) r
  unfolding effect_instances looked_in_effect situation_of
  at-Del n ts after q h = subst (λ (y : EffectTree). CollectsEffect p w e y before (record before { dels = after }) r)
      (sym (ap tree_of_effect q ∙ tree-Del n ts)) (del-one n (term_values w e (tree_of_terms ts))
      (looked_in_each w e (tree_of_terms ts)) before after r h)

  pub at-Assign : (f : ℕ) (ts : Terms) (t : Term) (after : List PlaceValue) → x ≡ variant.Assign f ts t →
      GivesPlace f (term_values w e (tree_of_terms ts)) (term_value w e (tree_of_term t)) (looked_in_each w e (tree_of_terms ts))
      (looked_in_term w e (tree_of_term t)) before.sets after r → CollectsEffect p w e (tree_of_effect x) before
      (record before { sets = after }) r
  unfolding effect_instances looked_in_effect situation_of
  at-Assign f ts t after q h = subst (λ (y : EffectTree). CollectsEffect p w e y before (record before { sets = after }) r)
      (sym (ap tree_of_effect q ∙ tree-Assign f ts t)) (set-one f (term_values w e (tree_of_terms ts)) (term_value w e (tree_of_term t))
      (looked_in_each w e (tree_of_terms ts)) (looked_in_term w e (tree_of_term t)) before after r h)

-- the frame is as it was
pub agree-self : (qs : List ℕ) (e : Assignment) → Agree qs e e
agree-self [] e = tt
agree-self (q ∷ qs) e = (refl, agree-self qs e)

pub frame-same : (g : Signature) (x : EffectTree) (d e : Assignment) → d ≡ e → EffectLeaves g x e d
frame-same g x d e q around h = subst (λ (a : Assignment). Agree around a e) (sym q) (agree-self around e)

-- ---- effects under a condition

pub record WhenReads (g : Signature) (x : EffectTree) (f : FormulaTree) (xs : EffectTrees) : Type 0 where
  pub fits : Fits g [] f
  pub state : IsState f
  pub effects : EffectsRead g xs
  pub smaller : effects_nodes xs < effect_nodes x

pub reads-When : (g : Signature) (x : Effect) (f : Formula) (xs : Effects) → x ≡ variant.When f xs → EffectReads g (tree_of_effect x) →
    WhenReads g (tree_of_effect x) (tree_of_formula f) (tree_of_effects xs)
unfolding EffectFits effect_slots effect_nodes
reads-When g x f xs q r =
    let same : tree_of_effect x ≡ when (tree_of_formula f) (tree_of_effects xs) = ap tree_of_effect q ∙ tree-When f xs in
    let k : EffectReads g (when (tree_of_formula f) (tree_of_effects xs)) = subst (EffectReads g) same r in
    let nodes : effect_nodes (tree_of_effect x) ≡ 1 + effects_nodes (tree_of_effects xs) = ap effect_nodes same in
    record {
      fits = fits-alone g k.around (tree_of_formula f) k.fits.0;
      state = k.state.0;
      effects = record {
        around = k.around;
        fits = k.fits.1;
        scope = ((Each-append (λ n. IsTrue (is_slot_in k.around n))
            (free_slots (tree_of_formula f)) (effects_slots (tree_of_effects xs))).0 k.scope).1;
        state = k.state.1;
      };
      smaller = omega arith;
    }

pub collects-more : (cs : List EffectInstance) (ls ms : List Operation) (before after : Changes) (r : Result Bool EvalFault) →
    ((o : Operation) → Among o ls → Among o ms) → Collects cs ls before after r → Collects cs ms before after r
collects-more cs ls ms before after (Ok true) m h = h
collects-more cs ls ms before after (Ok false) m h = h
collects-more cs ls ms before after (Err x) m h = caused-more ls ms x m h

module _ (p : PlainProblem) (w : World) (e : Assignment) (x : Effect) (f : Formula) (xs : Effects) (q : x ≡ variant.When f xs)
    (before : Changes) where
  opened : (t : Bool) → t ≡ state_true (situation_of p w) e (tree_of_formula f) → (after : Changes) (r : Result Bool EvalFault)
      → Collects (cond t (all_instances (situation_of p w) e (tree_of_effects xs)) [])
      (followed_if t (looked_in_state (looks_of p w) (situation_of p w) e (tree_of_formula f))
      (looked_in_effects (looks_of p w) (situation_of p w) e (tree_of_effects xs))) before after r
      → CollectsEffect p w e (tree_of_effect x) before after r
  unfolding effect_instances looked_in_effect
  opened t k after r h =
      subst (λ (y : EffectTree). CollectsEffect p w e y before after r) (sym (ap tree_of_effect q ∙ tree-When f xs))
      (subst (λ (b : Bool). Collects (cond b (all_instances (situation_of p w) e (tree_of_effects xs)) [])
      (followed_if b (looked_in_state (looks_of p w) (situation_of p w) e (tree_of_formula f))
      (looked_in_effects (looks_of p w) (situation_of p w) e (tree_of_effects xs))) before after r) k h)

  pub when-true : true ≡ state_true (situation_of p w) e (tree_of_formula f) → (after : Changes) (r : Result Bool EvalFault) →
      CollectsAll p w e (tree_of_effects xs) before after r → CollectsEffect p w e (tree_of_effect x) before after r
  when-true k after r h = opened true k after r (collects-more (all_instances (situation_of p w) e (tree_of_effects xs))
      (looked_in_effects (looks_of p w) (situation_of p w) e (tree_of_effects xs))
      (looked_in_state (looks_of p w) (situation_of p w) e (tree_of_formula f) ++
      looked_in_effects (looks_of p w) (situation_of p w) e (tree_of_effects xs)) before after r
      (λ o. among-right o (looked_in_state (looks_of p w) (situation_of p w) e (tree_of_formula f))
      (looked_in_effects (looks_of p w) (situation_of p w) e (tree_of_effects xs))) h)

  pub when-false : false ≡ state_true (situation_of p w) e (tree_of_formula f) →
      CollectsEffect p w e (tree_of_effect x) before before (Ok true)
  when-false k = opened false k before (Ok true) (nothing-more before)

  pub when-noted : (n : RangeNote) → Tells (looked_in_state (looks_of p w) (situation_of p w) e (tree_of_formula f)) n → (after : Changes) →
      CollectsEffect p w e (tree_of_effect x) before after (Err (fault.Range n))
  when-noted n t after = opened (state_true (situation_of p w) e (tree_of_formula f)) refl after (Err (fault.Range n))
      (among-left (operation_of n) _ _ t.0, t.1)

pub frame-When : (g : Signature) (x : Effect) (f : Formula) (xs : Effects) (d c e : Assignment) → x ≡ variant.When f xs → d ≡ e →
    EffectsLeave g (tree_of_effects xs) d c → EffectLeaves g (tree_of_effect x) e c
unfolding EffectFits
frame-When g x f xs d c e q k h = subst (λ (y : EffectTree). EffectLeaves g y e c) (sym (ap tree_of_effect q ∙ tree-When f xs))
    (λ around fits. subst (λ (a : Assignment). Agree around c a) k (h around fits.1))

-- ---- effects for each tuple

pub scope-below : (ss : List Var) (around qs : List ℕ) → InScope around (slots_without (slots_of ss) qs) →
    InScope (slots_of ss ++ around) qs
scope-below ss around [] h = tt
scope-below ss around (q ∷ qs) h = (elim (is_slot_in (slots_of ss) q) as
    (λ b. is_slot_in (slots_of ss) q ≡ b → InScope around (cond (not b) (q ∷ slots_without (slots_of ss) qs)
    (slots_without (slots_of ss) qs)) → InScope (slots_of ss ++ around) (q ∷ qs)) [
      | true ↦ λ z k. (slot-of-two (slots_of ss) around q ∙ ap (λ (b : Bool). b || is_slot_in around q) z, scope-below ss around qs k)
      | false ↦ λ z k. (
        slot-of-two (slots_of ss) around q ∙ (ap (λ (b : Bool). b || is_slot_in around q) z ∙ k.0),
        scope-below ss around qs k.1,
      )
    ]) refl h

pub record ForEachReads (g : Signature) (x : EffectTree) (ss : List Var) (b : Bound) (xs : EffectTrees) : Type 0 where
  pub around : List ℕ
  pub variables : VariablesFit g around ss b
  pub effects : EachReads g ss xs
  pub smaller : 1 + effects_nodes xs < effect_nodes x

pub reads-Each : (g : Signature) (x : Effect) (ss : List Var) (b : Bound) (xs : Effects) → x ≡ variant.Each ss b xs →
    EffectReads g (tree_of_effect x) → ForEachReads g (tree_of_effect x) ss b (tree_of_effects xs)
unfolding EffectFits effect_slots effect_nodes
reads-Each g x ss b xs q r =
    let same : tree_of_effect x ≡ each ss b (tree_of_effects xs) = ap tree_of_effect q ∙ tree-Each ss b xs in
    let k : EffectReads g (each ss b (tree_of_effects xs)) = subst (EffectReads g) same r in
    let nodes : effect_nodes (tree_of_effect x) ≡ 2 + effects_nodes (tree_of_effects xs) = ap effect_nodes same in
    record {
      around = k.around;
      variables = k.fits.0;
      effects = record {
        around = k.around;
        frame = k.fits.0.frame;
        fresh = k.fits.0.fresh;
        fits = k.fits.1;
        scope = ((Each-append (λ n. IsTrue (is_slot_in (slots_of ss ++ k.around) n)) (bound_slots b) (effects_slots (tree_of_effects xs))).0
            (scope-below ss k.around (bound_slots b ++ effects_slots (tree_of_effects xs)) k.scope)).1;
        state = k.state;
      };
      smaller = omega arith;
    }

-- the instances of effects for some tuples, and what is looked at for them
abbrev pub instances_for : PlainProblem → World → Assignment → List Var → EffectTrees → List (List Value) → List EffectInstance
instances_for p w e ss xs ts = flat_map (λ t. all_instances (situation_of p w) (bind ss t e) xs) ts

abbrev pub looked_for : PlainProblem → World → Assignment → List Var → EffectTrees → List (List Value) → List Operation
looked_for p w e ss xs ts = flat_map (λ t. looked_in_effects (looks_of p w) (situation_of p w) (bind ss t e) xs) ts

pub at-Each : (p : PlainProblem) (w : World) (e : Assignment) (x : Effect) (ss : List Var) (b : Bound) (xs : Effects)
    (ts : List (List Value)) (before after : Changes) (r : Result Bool EvalFault) → x ≡ variant.Each ss b xs → ts ≡
    tuples (situation_of p w) e ss b
    → Collects (instances_for p w e ss (tree_of_effects xs) ts) (looked_for p w e ss (tree_of_effects xs) ts) before after r →
    CollectsEffect p w e (tree_of_effect x) before after r
unfolding effect_instances looked_in_effect
at-Each p w e x ss b xs ts before after r q k h =
    subst (λ (y : EffectTree). CollectsEffect p w e y before after r) (sym (ap tree_of_effect q ∙ tree-Each ss b xs))
    (subst (λ (us : List (List Value)). Collects (instances_for p w e ss (tree_of_effects xs) us)
    (looked_for p w e ss (tree_of_effects xs) us) before after r) k h)

pub frame-Each : (g : Signature) (x : Effect) (ss : List Var) (b : Bound) (xs : Effects) (c e : Assignment) → x ≡ variant.Each ss b xs →
    EachLeaves g ss (tree_of_effects xs) e c → EffectLeaves g (tree_of_effect x) e c
unfolding EffectFits
frame-Each g x ss b xs c e q h = subst (λ (y : EffectTree). EffectLeaves g y e c) (sym (ap tree_of_effect q ∙ tree-Each ss b xs))
    (λ around fits. h around fits.0.fresh fits.1)

-- ---- one tuple

not-equal-sym : (a b : ℕ) → (a == b) ≡ false → (b == a) ≡ false
not-equal-sym a b h = (elim (b == a) as (λ c. (b == a) ≡ c → c ≡ false) [
  | true ↦ λ z.
      absurd (true≢false (sym (eq-eqb a b (sym (eqb-true b a z))) ∙ h))
  | false ↦ λ z. refl
]) refl

fresh-first : (ss : List Var) (q : ℕ) (around : List ℕ) → Each (λ s. is_slot_in (q ∷ around) s.slot ≡ false) ss →
    (is_slot_in (slots_of ss) q ≡ false) × Each (λ s. is_slot_in around s.slot ≡ false) ss
fresh-first [] q around h = (refl, tt)
fresh-first (s ∷ ss) q around h =
    let k = fresh-first ss q around h.1 in
    (elim (s.slot == q) as (λ b. (s.slot == q) ≡ b → (b || is_slot_in around s.slot) ≡ false → (is_slot_in (slots_of (s ∷ ss)) q ≡ false) ×
    Each (λ u. is_slot_in around u.slot ≡ false) (s ∷ ss)) [
      | true ↦ λ z m. absurd (true≢false m)
      | false ↦ λ z m. (ap (λ (b : Bool). b || is_slot_in (slots_of ss) q) (not-equal-sym s.slot q z) ∙ k.0, (m, k.1))
    ]) refl h.0

pub fresh-apart : (ss : List Var) (around : List ℕ) → Each (λ s. is_slot_in around s.slot ≡ false) ss →
    Each (λ q. is_slot_in (slots_of ss) q ≡ false) around
fresh-apart ss [] h = tt
fresh-apart ss (q ∷ around) h = let k = fresh-first ss q around h in (k.0, fresh-apart ss around k.1)

pub inner-reads : (g : Signature) (ss : List Var) (xs : EffectTrees) → EachReads g ss xs → EffectsRead g xs
inner-reads g ss xs r = record { around = slots_of ss ++ r.around; fits = r.fits; scope = r.scope; state = r.state }

-- the effects are read for a tuple as in the first frame
pub tuple-agrees : (g : Signature) (p : PlainProblem) (w : World) (ss : List Var) (xs : EffectTrees) (t : List Value) (d c e : Assignment) →
    EachReads g ss xs → d ≡ bind ss t c → EachLeaves g ss xs e c → EffectsAgree (looks_of p w) (situation_of p w) d (bind ss t e) xs
tuple-agrees g p w ss xs t d c e r q h =
    subst (λ (a : Assignment). EffectsAgree (looks_of p w) (situation_of p w) a (bind ss t e) xs) (sym q)
    (effects-agree (looks_of p w) (situation_of p w) (bind ss t c) (bind ss t e) xs
    (agree-under ss t r.around (effects_slots xs) c e r.scope (h r.around r.fresh r.fits)))

-- the frame after a tuple
pub frame-after : (g : Signature) (ss : List Var) (xs : EffectTrees) (t : List Value) (a d c e : Assignment) → d ≡ bind ss t c →
    EachLeaves g ss xs e c → EffectsLeave g xs d a → EachLeaves g ss xs e a
frame-after g ss xs t a d c e q h k around fresh fits =
    let left = (agree-both (slots_of ss) around a d (k (slots_of ss ++ around) fits)).1 in
    agree-through around a d e left
    (subst (λ (x : Assignment). Agree around x e) (sym q) (agree-through around (bind ss t c) c e
    (bind-leaves ss t c around (fresh-apart ss around fresh)) (h around fresh fits)))

-- Assignments that agree on the free slots of a tree give it one meaning.
use Rattle.std.proofs.Common.{◌≡◌, ℕ, List, [], ◌∷◌, ◌++◌, filter, flat_map, length, Bool, true, false, true≢false, cond, not, ◌==◌, ◌&&◌}
use Rattle.std.proofs.Common.{◌||◌, Some, None, is_some, refl, sym, ap, ap₂, ◌∙◌, subst, eqb-true}
use Rattle.std.specs.List.{list_any, list_all}
use Rattle.tl_action.specs.Agreement.{Agree}
use Rattle.tl_syntax.specs.Assignment.{Assignment, bind}
use Rattle.tl_syntax.specs.Effects.{EffectTree, EffectTrees, add, del, assign, when, each, no_effect, more_effects}
use Rattle.tl_syntax.specs.FreeVariables.{slots_of, arg_slots, bound_slots, is_slot_in, slots_without, term_slots, terms_slots, free_slots}
use Rattle.tl_syntax.specs.FreeVariables.{all_free_slots, effect_slots, effects_slots, InScope}
use Rattle.tl_syntax.specs.Lists.{Each}
use Rattle.tl_syntax.specs.Trees.{TermTree, TermTrees, variable, value, place, arith, no_term, more_terms, FormulaTree, FormulaTrees, verum}
use Rattle.tl_syntax.specs.Trees.{falsum, atom, defined, compare, goal_fact, goal_place, goal_not, negation, conjunction, disjunction}
use Rattle.tl_syntax.specs.Trees.{for_all, for_some, next, always, eventually, until, within, during, no_formula, more_formulas}
use Rattle.tl_syntax.proofs.ListLaws.{Each-append}
use Rattle.tl_terms.specs.Bounds.{arg_value, arg_values, fact_in, same_value, bound_true, tuples, tuples_of}
use Rattle.tl_terms.specs.Looked.{LookedTable, followed_if, is_defined_integer, operation_on, leaves_open, looked_in_term, looked_in_terms}
use Rattle.tl_terms.specs.Looked.{looked_in_body, looked_in_turn, looked_in_state, looked_in_and, looked_in_or, looked_in_each}
use Rattle.tl_terms.specs.Looked.{looked_in_effect, looked_in_effects}
use Rattle.tl_terms.specs.Situation.{Situation}
use Rattle.tl_terms.specs.Step.{adds, dels, sets, effect_instances, all_instances}
use Rattle.tl_terms.specs.Terms.{apply_op, prepend, place_value, term_value, term_values}
use Rattle.tl_terms.specs.Truth.{defined_true, compared, state_true, all_true, one_true}
use Rattle.tl_terms.specs.World.{World, values_of}
use Rattle.tl_syntax.specs.declared.value.Value.{Value}
use Rattle.tl_syntax.specs.declared.variable.Var.{Var}
use Rattle.tl_syntax.specs.declared.variable.Arg.{Arg}
use Rattle.tl_syntax.specs.declared.variable.Arg.TheVariants as arg
use Rattle.tl_syntax.specs.declared.bound.Bound.{Bound}
use Rattle.tl_syntax.specs.declared.bound.Bound.TheVariants as bound

-- ---- slots

pub agree-both : (xs ys : List ℕ) (d e : Assignment) → Agree (xs ++ ys) d e → Agree xs d e × Agree ys d e
agree-both xs ys d e h = (Each-append (λ q. d q ≡ e q) xs ys).0 h

-- a slot that is none of the variables', or at which the two agree before
pub bind-kept : (ss : List Var) (t : List Value) (d e : Assignment) (q : ℕ) → (is_slot_in (slots_of ss) q ≡ false → d q ≡ e q) →
    bind ss t d q ≡ bind ss t e q
bind-kept [] t d e q h = h refl
bind-kept (s ∷ ss) [] d e q h = (elim (q == s.slot) as (λ b. ((b || is_slot_in (slots_of ss) q) ≡ false → d q ≡ e q) →
    cond b None (bind ss [] d q) ≡ cond b None (bind ss [] e q)) [ true ↦ λ k. refl | false ↦ λ k. bind-kept ss [] d e q k ]) h
bind-kept (s ∷ ss) (v ∷ t) d e q h = (elim (q == s.slot) as (λ b. ((b || is_slot_in (slots_of ss) q) ≡ false → d q ≡ e q) →
    cond b (Some v) (bind ss t d q) ≡ cond b (Some v) (bind ss t e q)) [ true ↦ λ k. refl | false ↦ λ k. bind-kept ss t d e q k ]) h

-- below a quantifier
pub agree-below : (ss : List Var) (t : List Value) (d e : Assignment) (qs : List ℕ) → Agree (slots_without (slots_of ss) qs) d e →
    Agree qs (bind ss t d) (bind ss t e)
agree-below ss t d e [] h = tt
agree-below ss t d e (q ∷ qs) h = (elim (is_slot_in (slots_of ss) q) as
    (λ b. is_slot_in (slots_of ss) q ≡ b → Agree (cond (not b) (q ∷ slots_without (slots_of ss) qs) (slots_without (slots_of ss) qs)) d e →
    (bind ss t d q ≡ bind ss t e q) × Agree qs (bind ss t d) (bind ss t e)) [
      | true ↦ λ x k. (bind-kept ss t d e q (λ z. absurd (true≢false (sym x ∙ z))), agree-below ss t d e qs k)
      | false ↦ λ x k. (bind-kept ss t d e q (λ z. k.0), agree-below ss t d e qs k.1)
    ]) refl h

-- at a slot of the scope
pub agree-at : (scope : List ℕ) (d e : Assignment) (q : ℕ) → Agree scope d e → is_slot_in scope q ≡ true → d q ≡ e q
agree-at [] d e q h x = absurd (true≢false (sym x))
agree-at (k ∷ scope) d e q h x = (elim (q == k) as (λ b. (q == k) ≡ b → (b || is_slot_in scope q) ≡ true → d q ≡ e q) [
  | true ↦ λ y z. subst (λ (m : ℕ). d m ≡ e m) (sym (eqb-true q k y)) h.0
  | false ↦ λ y z. agree-at scope d e q h.1 z
]) refl x

-- at all slots that are of the scope
pub agree-within : (scope qs : List ℕ) (d e : Assignment) → InScope scope qs → Agree scope d e → Agree qs d e
agree-within scope [] d e s h = tt
agree-within scope (q ∷ qs) d e s h = (agree-at scope d e q h s.0, agree-within scope qs d e s.1 h)

pub slot-of-two : (xs ys : List ℕ) (q : ℕ) → is_slot_in (xs ++ ys) q ≡ (is_slot_in xs q || is_slot_in ys q)
slot-of-two [] ys q = refl
slot-of-two (x ∷ xs) ys q = (elim (q == x) as (λ b. (b || is_slot_in (xs ++ ys) q) ≡
    ((b || is_slot_in xs q) || is_slot_in ys q)) [ true ↦ refl | false ↦ slot-of-two xs ys q ])

-- below further variables, at slots that are theirs or of the scope around
pub agree-under : (ss : List Var) (t : List Value) (around qs : List ℕ) (d e : Assignment) → InScope (slots_of ss ++ around) qs →
    Agree around d e → Agree qs (bind ss t d) (bind ss t e)
agree-under ss t around [] d e s h = tt
agree-under ss t around (q ∷ qs) d e s h = (
  bind-kept ss t d e q (λ x. agree-at around d e q h (ap (λ (b : Bool). b || is_slot_in around q) (sym x) ∙
      (sym (slot-of-two (slots_of ss) around q) ∙ s.0))),
  agree-under ss t around qs d e s.1 h,
)

-- the other slots
pub bind-past : (ss : List Var) (t : List Value) (e : Assignment) (q : ℕ) → is_slot_in (slots_of ss) q ≡ false → bind ss t e q ≡ e q
bind-past [] t e q h = refl
bind-past (s ∷ ss) [] e q h = (elim (q == s.slot) as (λ b. (b || is_slot_in (slots_of ss) q) ≡ false → cond b None (bind ss [] e q) ≡
    e q) [ true ↦ λ k. absurd (true≢false k) | false ↦ λ k. bind-past ss [] e q k ]) h
bind-past (s ∷ ss) (v ∷ t) e q h = (elim (q == s.slot) as (λ b. (b || is_slot_in (slots_of ss) q) ≡ false →
    cond b (Some v) (bind ss t e q) ≡ e q) [ true ↦ λ k. absurd (true≢false k) | false ↦ λ k. bind-past ss t e q k ]) h

-- the slots that are not the variables' keep their values
pub bind-leaves : (ss : List Var) (t : List Value) (e : Assignment) (qs : List ℕ) → Each (λ q. is_slot_in (slots_of ss) q ≡ false) qs →
    Agree qs (bind ss t e) e
bind-leaves ss t e [] h = tt
bind-leaves ss t e (q ∷ qs) h = (bind-past ss t e q h.0, bind-leaves ss t e qs h.1)

pub agree-both-ways : (qs : List ℕ) (d e : Assignment) → Agree qs d e → Agree qs e d
agree-both-ways [] d e h = tt
agree-both-ways (q ∷ qs) d e h = (sym h.0, agree-both-ways qs d e h.1)

pub agree-through : (qs : List ℕ) (d e f : Assignment) → Agree qs d e → Agree qs e f → Agree qs d f
agree-through [] d e f h k = tt
agree-through (q ∷ qs) d e f h k = (h.0 ∙ k.0, agree-through qs d e f h.1 k.1)

-- ---- bounds

arg-agrees : (x : Arg) (d e : Assignment) → Agree (arg_slots x) d e → arg_value d x ≡ arg_value e x
arg-agrees (arg.Var s) d e h = h.0
arg-agrees (arg.Val v) d e h = refl

args-agree : (xs : List Arg) (d e : Assignment) → Agree (flat_map arg_slots xs) d e → arg_values d xs ≡ arg_values e xs
args-agree [] d e h = refl
args-agree (x ∷ xs) d e h = let k = agree-both (arg_slots x) (flat_map arg_slots xs) d e h in
    ap₂ prepend (arg-agrees x d e k.0) (args-agree xs d e k.1)

-- an argument and others
value-and-args : (x : Arg) (xs : List Arg) (d e : Assignment) → Agree (flat_map arg_slots (x ∷ xs)) d e → (arg_value d x ≡ arg_value e x) ×
    (arg_values d xs ≡ arg_values e xs)
value-and-args x xs d e h = let k = agree-both (arg_slots x) (flat_map arg_slots xs) d e h in (arg-agrees x d e k.0, args-agree xs d e k.1)

pub bound-agrees : (s : Situation) (b : Bound) (d e : Assignment) → Agree (bound_slots b) d e → bound_true s d b ≡ bound_true s e b
unfolding bound_true
bound-agrees s (bound.Fact p xs) d e h = ap (fact_in s.world p) (args-agree xs d e h)
bound-agrees s (bound.Place f xs x) d e h = let k = value-and-args x xs d e h in λ i. same_value (place_value s.world f (k.1 i)) (k.0 i)
bound-agrees s (bound.GoalFact p xs) d e h = ap (fact_in s.goal p) (args-agree xs d e h)
bound-agrees s (bound.GoalPlace f xs x) d e h = let k = value-and-args x xs d e h in λ i. same_value (place_value s.goal f (k.1 i)) (k.0 i)
bound-agrees s (bound.GoalNot p xs) d e h = ap (fact_in s.avoid p) (args-agree xs d e h)

pub tuples-agree : (s : Situation) (ss : List Var) (b : Bound) (d e : Assignment) →
    ((t : List Value) → Agree (bound_slots b) (bind ss t d) (bind ss t e)) → tuples s d ss b ≡ tuples s e ss b
unfolding tuples
tuples-agree s ss b d e h = λ i. filter (λ t. bound-agrees s b (bind ss t d) (bind ss t e) (h t) i)
    (tuples_of (values_of (s.world ∷ s.goal ∷ s.avoid ∷ [])) (length ss))

-- ---- terms

-- a term has the same value and looks at the same
pub record TermAgrees (w : World) (d e : Assignment) (t : TermTree) : Type 0 where
  pub value : term_value w d t ≡ term_value w e t
  pub looked : looked_in_term w d t ≡ looked_in_term w e t

-- and so each of a list
pub record TermsAgree (w : World) (d e : Assignment) (ts : TermTrees) : Type 0 where
  pub values : term_values w d ts ≡ term_values w e ts
  pub looked : looked_in_terms w d ts ≡ looked_in_terms w e ts
  pub looked_each : looked_in_each w d ts ≡ looked_in_each w e ts

mutual
  unfolding term_value term_slots looked_in_term looked_in_each

  pub term-agrees : (w : World) (d e : Assignment) (t : TermTree) → Agree (term_slots t) d e → TermAgrees w d e t
  term-agrees w d e (variable s) h = record { value = h.0; looked = refl }
  term-agrees w d e (value v) h = record { value = refl; looked = refl }
  term-agrees w d e (place f ts) h = let k = terms-agree w d e ts h in record { value = ap (place_value w f) k.values; looked = k.looked }
  term-agrees w d e (arith op s t at) h =
      let both = agree-both (term_slots s) (term_slots t) d e h in
      let a = term-agrees w d e s both.0 in
      let b = term-agrees w d e t both.1 in
      record {
        value = ap₂ (apply_op op) a.value b.value;
        looked = λ i. followed_if (is_defined_integer (a.value i)) (a.looked i) (b.looked i ++ operation_on at op (a.value i) (b.value i));
      }

  pub terms-agree : (w : World) (d e : Assignment) (ts : TermTrees) → Agree (terms_slots ts) d e → TermsAgree w d e ts
  terms-agree w d e no_term h = record { values = refl; looked = refl; looked_each = refl }
  terms-agree w d e (more_terms t ts) h =
      let both = agree-both (term_slots t) (terms_slots ts) d e h in
      let a = term-agrees w d e t both.0 in
      let b = terms-agree w d e ts both.1 in
      record {
        values = ap₂ prepend a.value b.values;
        looked = λ i. followed_if (is_some (a.value i)) (a.looked i) (b.looked i);
        looked_each = ap₂ ◌++◌ a.looked b.looked_each;
      }

-- ---- formulas

-- a formula has the same truth and looks at the same
pub record StateAgrees (l : LookedTable) (s : Situation) (d e : Assignment) (f : FormulaTree) : Type 0 where
  pub truth : state_true s d f ≡ state_true s e f
  pub looked : looked_in_state l s d f ≡ looked_in_state l s e f

-- and so the parts of a conjunction and of a disjunction
record PartsAgree (l : LookedTable) (s : Situation) (d e : Assignment) (fs : FormulaTrees) : Type 0 where
  all : all_true s d fs ≡ all_true s e fs
  one : one_true s d fs ≡ one_true s e fs
  looked_and : looked_in_and l s d fs ≡ looked_in_and l s e fs
  looked_or : looked_in_or l s d fs ≡ looked_in_or l s e fs

mutual
  unfolding state_true looked_in_state free_slots

  pub state-agrees : (l : LookedTable) (s : Situation) (d e : Assignment) (f : FormulaTree) → Agree (free_slots f) d e →
      StateAgrees l s d e f
  state-agrees l s d e verum h = record { truth = refl; looked = refl }
  state-agrees l s d e falsum h = record { truth = refl; looked = refl }
  state-agrees l s d e (atom p ts) h = let k = terms-agree s.world d e ts h in
      record { truth = ap (fact_in s.world p) k.values; looked = k.looked }
  state-agrees l s d e (defined p ts) h = let k = terms-agree s.world d e ts h in
      record { truth = ap (defined_true s.table p) k.values; looked = λ i. k.looked i ++ looked_in_body l p (k.values i) }
  state-agrees l s d e (compare c x y) h =
      let both = agree-both (term_slots x) (term_slots y) d e h in
      let a = term-agrees s.world d e x both.0 in
      let b = term-agrees s.world d e y both.1 in
      record { truth = ap₂ (compared c) a.value b.value; looked = λ i. followed_if (leaves_open c (a.value i)) (a.looked i) (b.looked i) }
  state-agrees l s d e (goal_fact p xs) h = record { truth = ap (fact_in s.goal p) (args-agree xs d e h); looked = refl }
  state-agrees l s d e (goal_place f xs x) h = let k = value-and-args x xs d e h in
      record { truth = λ i. same_value (place_value s.goal f (k.1 i)) (k.0 i); looked = refl }
  state-agrees l s d e (goal_not p xs) h = record { truth = ap (fact_in s.avoid p) (args-agree xs d e h); looked = refl }
  state-agrees l s d e (negation f) h = let k = state-agrees l s d e f h in record { truth = ap not k.truth; looked = k.looked }
  state-agrees l s d e (conjunction fs) h = let k = parts-agree l s d e fs h in record { truth = k.all; looked = k.looked_and }
  state-agrees l s d e (disjunction fs) h = let k = parts-agree l s d e fs h in record { truth = k.one; looked = k.looked_or }
  state-agrees l s d e (for_all ss b f) h =
      let both = λ (t : List Value). agree-both (bound_slots b) (free_slots f) (bind ss t d) (bind ss t e)
      (agree-below ss t d e (bound_slots b ++ free_slots f) h) in
      let ts = tuples-agree s ss b d e (λ t. (both t).0) in
      record {
        truth = λ i. list_all (λ t. (state-agrees l s (bind ss t d) (bind ss t e) f (both t).1).truth i) (ts i);
        looked = λ i. looked_in_turn (λ t. (state-agrees l s (bind ss t d) (bind ss t e) f (both t).1).looked i)
            (λ t. (state-agrees l s (bind ss t d) (bind ss t e) f (both t).1).truth i) (ts i);
      }
  state-agrees l s d e (for_some ss b f) h =
      let both = λ (t : List Value). agree-both (bound_slots b) (free_slots f) (bind ss t d) (bind ss t e)
      (agree-below ss t d e (bound_slots b ++ free_slots f) h) in
      let ts = tuples-agree s ss b d e (λ t. (both t).0) in
      record {
        truth = λ i. list_any (λ t. (state-agrees l s (bind ss t d) (bind ss t e) f (both t).1).truth i) (ts i);
        looked = λ i. looked_in_turn (λ t. (state-agrees l s (bind ss t d) (bind ss t e) f (both t).1).looked i)
            (λ t. not ((state-agrees l s (bind ss t d) (bind ss t e) f (both t).1).truth i)) (ts i);
      }
  state-agrees l s d e (next f) h = record { truth = refl; looked = refl }
  state-agrees l s d e (always f) h = record { truth = refl; looked = refl }
  state-agrees l s d e (eventually f) h = record { truth = refl; looked = refl }
  state-agrees l s d e (until f g) h = record { truth = refl; looked = refl }
  state-agrees l s d e (within n f) h = record { truth = refl; looked = refl }
  state-agrees l s d e (during n f) h = record { truth = refl; looked = refl }

  parts-agree : (l : LookedTable) (s : Situation) (d e : Assignment) (fs : FormulaTrees) → Agree (all_free_slots fs) d e →
      PartsAgree l s d e fs
  parts-agree l s d e no_formula h = record { all = refl; one = refl; looked_and = refl; looked_or = refl }
  parts-agree l s d e (more_formulas f fs) h =
      let both = agree-both (free_slots f) (all_free_slots fs) d e h in
      let a = state-agrees l s d e f both.0 in
      let b = parts-agree l s d e fs both.1 in
      record {
        all = ap₂ ◌&&◌ a.truth b.all;
        one = ap₂ ◌||◌ a.truth b.one;
        looked_and = λ i. followed_if (a.truth i) (a.looked i) (b.looked_and i);
        looked_or = λ i. followed_if (not (a.truth i)) (a.looked i) (b.looked_or i);
      }

-- ---- effects

-- an effect has the same instances and looks at the same
pub record EffectAgrees (l : LookedTable) (s : Situation) (d e : Assignment) (x : EffectTree) : Type 0 where
  pub instances : effect_instances s d x ≡ effect_instances s e x
  pub looked : looked_in_effect l s d x ≡ looked_in_effect l s e x

-- and so a list of effects
pub record EffectsAgree (l : LookedTable) (s : Situation) (d e : Assignment) (xs : EffectTrees) : Type 0 where
  pub instances : all_instances s d xs ≡ all_instances s e xs
  pub looked : looked_in_effects l s d xs ≡ looked_in_effects l s e xs

mutual
  unfolding effect_instances looked_in_effect effect_slots

  pub effect-agrees : (l : LookedTable) (s : Situation) (d e : Assignment) (x : EffectTree) → Agree (effect_slots x) d e →
      EffectAgrees l s d e x
  effect-agrees l s d e (add p ts) h = let k = terms-agree s.world d e ts h in
      record { instances = λ i. adds p (k.values i) ∷ []; looked = k.looked_each }
  effect-agrees l s d e (del p ts) h = let k = terms-agree s.world d e ts h in
      record { instances = λ i. dels p (k.values i) ∷ []; looked = k.looked_each }
  effect-agrees l s d e (assign f ts t) h =
      let both = agree-both (terms_slots ts) (term_slots t) d e h in
      let a = terms-agree s.world d e ts both.0 in
      let b = term-agrees s.world d e t both.1 in
      record { instances = λ i. sets f (a.values i) (b.value i) ∷ []; looked = ap₂ ◌++◌ a.looked_each b.looked }
  effect-agrees l s d e (when f xs) h =
      let both = agree-both (free_slots f) (effects_slots xs) d e h in
      let a = state-agrees l s d e f both.0 in
      let b = effects-agree l s d e xs both.1 in
      record { instances = λ i. cond (a.truth i) (b.instances i) []; looked = λ i. followed_if (a.truth i) (a.looked i) (b.looked i) }
  effect-agrees l s d e (each ss b xs) h =
      let both = λ (t : List Value). agree-both (bound_slots b) (effects_slots xs) (bind ss t d) (bind ss t e)
      (agree-below ss t d e (bound_slots b ++ effects_slots xs) h) in
      let ts = tuples-agree s ss b d e (λ t. (both t).0) in
      record {
        instances = λ i. flat_map (λ t. (effects-agree l s (bind ss t d) (bind ss t e) xs (both t).1).instances i) (ts i);
        looked = λ i. flat_map (λ t. (effects-agree l s (bind ss t d) (bind ss t e) xs (both t).1).looked i) (ts i);
      }

  pub effects-agree : (l : LookedTable) (s : Situation) (d e : Assignment) (xs : EffectTrees) → Agree (effects_slots xs) d e →
      EffectsAgree l s d e xs
  effects-agree l s d e no_effect h = record { instances = refl; looked = refl }
  effects-agree l s d e (more_effects x xs) h =
      let both = agree-both (effect_slots x) (effects_slots xs) d e h in
      let a = effect-agrees l s d e x both.0 in
      let b = effects-agree l s d e xs both.1 in
      record { instances = ap₂ ◌++◌ a.instances b.instances; looked = ap₂ ◌++◌ a.looked b.looked }

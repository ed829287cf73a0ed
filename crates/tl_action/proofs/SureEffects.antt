-- Effects that cannot fail have only defined instances, which set no place.
use Rattle.std.proofs.Common.{◌≡◌, ℕ, List, [], ◌∷◌, ◌++◌, flat_map, length, Bool, true, false, true≢false, ◌==◌, ◌&&◌, ◌||◌, cond, Option}
use Rattle.std.proofs.Common.{Some, None, is_some, IsTrue, refl, sym, ap, ap₂, ◌∙◌, arith as linear, eqb-true}
use Rattle.std.specs.List.{list_all}
use Rattle.tl_action.specs.Join.{variables}
use Rattle.tl_action.specs.Prepared.{HaveValues, is_prepared}
use Rattle.tl_action.specs.Sure.{is_bare, are_bare, is_sure, are_sure}
use Rattle.tl_action.proofs.EffectParts.{scope-below}
use Rattle.tl_action.proofs.Operators.{scope-itself}
use Rattle.tl_action.proofs.Passed.{all-two, flat-two}
use Rattle.tl_action.proofs.Rows.{prepend-parts}
use Rattle.tl_syntax.specs.declared.operator.Operator.{Operator}
use Rattle.tl_syntax.specs.declared.value.Value.{Value}
use Rattle.tl_syntax.specs.declared.variable.Var.{Var}
use Rattle.tl_syntax.specs.Assignment.{Assignment, bind}
use Rattle.tl_syntax.specs.Effects.{EffectTree, EffectTrees, add, del, assign, when, each, no_effect, more_effects}
use Rattle.tl_syntax.specs.FreeVariables.{is_slot_in, slots_of, bound_slots, term_slots, terms_slots, effect_slots, effects_slots, InScope}
use Rattle.tl_syntax.specs.Keys.{no_clash}
use Rattle.tl_syntax.specs.Kept.{OperatorKeeps}
use Rattle.tl_syntax.specs.Lists.{Each}
use Rattle.tl_syntax.specs.Signature.{Signature}
use Rattle.tl_syntax.specs.TreeOfEffect.{tree_of_effects}
use Rattle.tl_syntax.specs.TreeOfFormula.{tree_of_formula}
use Rattle.tl_syntax.specs.Trees.{TermTree, TermTrees, variable, value, place, arith, no_term, more_terms}
use Rattle.tl_syntax.proofs.ListLaws.{Each-append, Each-Among}
use Rattle.tl_terms.specs.Bounds.{tuples}
use Rattle.tl_terms.specs.Definitions.{situation_of}
use Rattle.tl_terms.specs.Problem.{PlainProblem}
use Rattle.tl_terms.specs.ProblemMeaning.{plain_operator}
use Rattle.tl_terms.specs.Situation.{Situation}
use Rattle.tl_terms.specs.Step.{EffectInstance, adds, dels, effect_instances, all_instances, is_defined, given}
use Rattle.tl_terms.specs.Terms.{prepend, term_value, term_values}
use Rattle.tl_terms.specs.Truth.{state_true}
use Rattle.tl_terms.specs.World.{World}
use Rattle.tl_terms.proofs.Tuples.{Among-tuples}

-- ---- values of slots

both-true : (a b : Bool) → (a && b) ≡ true → (a ≡ true) × (b ≡ true)
both-true true b h = (refl, h)
both-true false b h = absurd (true≢false (sym h))

some-out : {A : Type 0} (o : Option A) → is_some o ≡ true → (v : A) × (o ≡ Some v)
some-out (Some v) h = (v, refl)
some-out None h = absurd (true≢false (sym h))

some-is : {A : Type 0} (o : Option A) (v : A) → o ≡ Some v → is_some o ≡ true
some-is o v q = ap (λ x. is_some x) q

-- a slot of the scope has a value
slot-valued : (around : List ℕ) (e : Assignment) (q : ℕ) → HaveValues around e → is_slot_in around q ≡ true → is_some (e q) ≡ true
slot-valued [] e q h x = absurd (true≢false (sym x))
slot-valued (k ∷ around) e q h x = (elim (q == k) as (λ b. (q == k) ≡ b → (b || is_slot_in around q) ≡ true → is_some (e q) ≡ true) [
  | true ↦ λ z y. let same : q ≡ k = eqb-true q k z in ap (λ n. is_some (e n)) same ∙ h.0
  | false ↦ λ z y. slot-valued around e q h.1 y
]) refl x

-- a variable that is given a value has one, and so has one that had one before
bound-valued : (ss : List Var) (t : List Value) (e : Assignment) (q : ℕ) → length t ≡ length ss →
    (is_slot_in (slots_of ss) q || is_some (e q)) ≡ true → is_some (bind ss t e q) ≡ true
bound-valued [] t e q n h = h
bound-valued (s ∷ ss) [] e q n h = absurd (omega linear)
bound-valued (s ∷ ss) (v ∷ t) e q n h = (elim (q == s.slot) as (λ b. ((b || is_slot_in (slots_of ss) q) || is_some (e q)) ≡ true →
    is_some (cond b (Some v) (bind ss t e q)) ≡ true) [
      | true ↦ λ k. refl
      | false ↦ λ k. bound-valued ss t e q (omega (linear, n)) k
    ]) h

or-second : (a b : Bool) → b ≡ true → (a || b) ≡ true
or-second true b h = refl
or-second false b h = h

new-values : (ss : List Var) (t : List Value) (e : Assignment) (qs : List ℕ) → length t ≡ length ss → InScope (slots_of ss) qs →
    HaveValues qs (bind ss t e)
new-values ss t e [] n h = tt
new-values ss t e (q ∷ qs) n h = (bound-valued ss t e q n (ap (λ (b : Bool). b || is_some (e q)) h.0), new-values ss t e qs n h.1)

old-values : (ss : List Var) (t : List Value) (e : Assignment) (qs : List ℕ) → length t ≡ length ss → HaveValues qs e →
    HaveValues qs (bind ss t e)
old-values ss t e [] n h = tt
old-values ss t e (q ∷ qs) n h = (
  bound-valued ss t e q n (or-second (is_slot_in (slots_of ss) q) (is_some (e q)) h.0),
  old-values ss t e qs n h.1,
)

values-below : (ss : List Var) (t : List Value) (e : Assignment) (around : List ℕ) → length t ≡ length ss → HaveValues around e →
    HaveValues (slots_of ss ++ around) (bind ss t e)
values-below ss t e around n h = (Each-append (λ q. IsTrue (is_some (bind ss t e q))) (slots_of ss) around).1
    (new-values ss t e (slots_of ss) n (scope-itself (slots_of ss)), old-values ss t e around n h)

-- ---- bare terms

bare-value : (w : World) (e : Assignment) (around : List ℕ) (t : TermTree) → is_bare t ≡ true → InScope around (term_slots t) →
    HaveValues around e → is_some (term_value w e t) ≡ true
unfolding term_value term_slots
bare-value w e around (variable s) b h k = slot-valued around e s.slot k h.0
bare-value w e around (value v) b h k = refl
bare-value w e around (place f ts) b h k = absurd (true≢false (sym b))
bare-value w e around (arith op s t at) b h k = absurd (true≢false (sym b))

some-prepended : (o : Option Value) (r : Option (List Value)) → is_some o ≡ true → is_some r ≡ true → is_some (prepend o r) ≡ true
some-prepended (Some v) (Some vs) h k = refl
some-prepended (Some v) None h k = k
some-prepended None r h k = h

bare-values : (w : World) (e : Assignment) (around : List ℕ) (ts : TermTrees) → are_bare ts ≡ true → InScope around (terms_slots ts) →
    HaveValues around e → is_some (term_values w e ts) ≡ true
unfolding term_value term_slots
bare-values w e around no_term b h k = refl
bare-values w e around (more_terms t ts) b h k =
    let parts = both-true (is_bare t) (are_bare ts) b in
    let scopes = (Each-append (λ q. IsTrue (is_slot_in around q)) (term_slots t) (terms_slots ts)).0 h in
    some-prepended (term_value w e t) (term_values w e ts) (bare-value w e around t parts.0 scopes.0 k)
    (bare-values w e around ts parts.1 scopes.1 k)

-- ---- instances

-- all are defined, and none sets a place
pub record AreSure (cs : List EffectInstance) : Type 0 where
  pub defined : list_all is_defined cs ≡ true
  pub given : flat_map given cs ≡ []

sure-both : (xs ys : List EffectInstance) → AreSure xs → AreSure ys → AreSure (xs ++ ys)
sure-both xs ys h k = record {
  defined = all-two is_defined xs ys ∙ ap₂ ◌&&◌ h.defined k.defined;
  given = flat-two given xs ys ∙ ap₂ ◌++◌ h.given k.given;
}

one-added : (p : ℕ) (o : Option (List Value)) → is_some o ≡ true → AreSure (adds p o ∷ [])
one-added p (Some vs) h = record { defined = refl; given = refl }
one-added p None h = absurd (true≢false (sym h))

one-deleted : (p : ℕ) (o : Option (List Value)) → is_some o ≡ true → AreSure (dels p o ∷ [])
one-deleted p (Some vs) h = record { defined = refl; given = refl }
one-deleted p None h = absurd (true≢false (sym h))

sure-for : (f : List Value → List EffectInstance) (ts : List (List Value)) → Each (λ t. AreSure (f t)) ts → AreSure (flat_map f ts)
sure-for f [] h = record { defined = refl; given = refl }
sure-for f (t ∷ ts) h = sure-both (f t) (flat_map f ts) h.0 (sure-for f ts h.1)

mutual
  unfolding is_sure effect_slots effect_instances

  sure-instances : (s : Situation) (e : Assignment) (around : List ℕ) (x : EffectTree) → is_sure x ≡ true →
      InScope around (effect_slots x) → HaveValues around e → AreSure (effect_instances s e x)
  sure-instances s e around (add p ts) b h k = one-added p (term_values s.world e ts) (bare-values s.world e around ts b h k)
  sure-instances s e around (del p ts) b h k = one-deleted p (term_values s.world e ts) (bare-values s.world e around ts b h k)
  sure-instances s e around (assign f ts t) b h k = absurd (true≢false (sym b))
  sure-instances s e around (when f es) b h k = absurd (true≢false (sym b))
  sure-instances s e around (each ss c es) b h k =
      let below = ((Each-append (λ q. IsTrue (is_slot_in (slots_of ss ++ around) q)) (bound_slots c) (effects_slots es)).0
      (scope-below ss around (bound_slots c ++ effects_slots es) h)).1 in
      sure-for (λ t. all_instances s (bind ss t e) es) (tuples s e ss c)
      ((Each-Among (λ t. AreSure (all_instances s (bind ss t e) es)) (tuples s e ss c)).1
      (λ t m. all-sure s (bind ss t e) (slots_of ss ++ around) es b below
      (values-below ss t e around ((Among-tuples s e ss c t).0 m).0.0 k)))

  pub all-sure : (s : Situation) (e : Assignment) (around : List ℕ) (xs : EffectTrees) → are_sure xs ≡ true →
      InScope around (effects_slots xs) → HaveValues around e → AreSure (all_instances s e xs)
  all-sure s e around no_effect b h k = record { defined = refl; given = refl }
  all-sure s e around (more_effects x xs) b h k =
      let parts = both-true (is_sure x) (are_sure xs) b in
      let scopes = (Each-append (λ q. IsTrue (is_slot_in around q)) (effect_slots x) (effects_slots xs)).0 h in
      sure-both (effect_instances s e x) (all_instances s e xs) (sure-instances s e around x parts.0 scopes.0 k)
      (all-sure s e around xs parts.1 scopes.1 k)

-- ---- an operator

and-true : (b : Bool) → (b && true) ≡ b
and-true true = refl
and-true false = refl

-- where its effects cannot fail, its precondition decides
pub sure-prepared : (g : Signature) (n : ℕ) (p : PlainProblem) (w : World) (o : Operator) (e : Assignment) → OperatorKeeps g n o →
    are_sure (tree_of_effects o.effects) ≡ true → HaveValues (slots_of o.params) e
    → state_true (situation_of p w) e (tree_of_formula o.pre) ≡ is_prepared p w e (plain_operator o)
sure-prepared g n p w o e keeps b k =
    let sure = all-sure (situation_of p w) e (slots_of o.params) (tree_of_effects o.effects) b keeps.effects_scope k in
    let pre = state_true (situation_of p w) e (tree_of_formula o.pre) in
    sym ((λ i. pre && (sure.defined i && no_clash (sure.given i))) ∙ and-true pre)

-- variables of which a row tells the values have values
pub row-valued : (w : World) (e : Assignment) (ss : List Var) (t : List Value) → term_values w e (variables ss) ≡ Some t →
    HaveValues (slots_of ss) e
unfolding term_values
row-valued w e [] t h = tt
row-valued w e (s ∷ ss) t h =
    let parts = prepend-parts (e s.slot) (term_values w e (variables ss)) t h in
    (some-is (e s.slot) parts.0 parts.2, row-valued w e ss parts.1 parts.3)

-- What an operator reads of a frame: the values of its parameters alone.
use Rattle.std.proofs.Common.{◌≡◌, ◌<◌, ◌≤◌, ◌+◌, ℕ, zero, suc, List, [], ◌∷◌, flat_map, length, slice_get, Bool, true, false, ◌==◌, ◌&&◌}
use Rattle.std.proofs.Common.{◌||◌, IsTrue, Some, refl, sym, ap, ap₂, ◌∙◌, arith, inl, inr}
use Rattle.std.proofs.lemmas.Bool.{eq-eqb}
use Rattle.std.proofs.lemmas.List.{length-map}
use Rattle.std.specs.List.{list_all}
use Rattle.tl_action.specs.Agreement.{Agree, EffectsRead}
use Rattle.tl_action.specs.Prepared.{instances_of, is_prepared, looked_prepared}
use Rattle.tl_action.proofs.Agreement.{agree-within, bind-kept, bound-agrees, state-agrees, effects-agree}
use Rattle.tl_terms.proofs.FitsAlone.{fits-alone}
use Rattle.tl_syntax.specs.declared.bound.Bound.{Bound}
use Rattle.tl_syntax.specs.declared.operator.Operator.{Operator}
use Rattle.tl_syntax.specs.declared.value.Value.{Value}
use Rattle.tl_syntax.specs.declared.variable.Var.{Var}
use Rattle.tl_syntax.specs.Assignment.{Assignment, bind}
use Rattle.tl_syntax.specs.BoundVariables.{DifferInSlot}
use Rattle.tl_syntax.specs.Fits.{Fits}
use Rattle.tl_syntax.specs.FreeVariables.{is_slot_in, slots_of, bound_slots, free_slots, effects_slots, InScope}
use Rattle.tl_syntax.specs.Kept.{OperatorKeeps}
use Rattle.tl_syntax.specs.Keys.{no_clash}
use Rattle.tl_syntax.specs.Lists.{Each, Among}
use Rattle.tl_syntax.specs.Settled.{AreTheirPlaces}
use Rattle.tl_syntax.specs.Signature.{Signature}
use Rattle.tl_syntax.specs.TreeOfEffect.{tree_of_effects}
use Rattle.tl_syntax.specs.TreeOfFormula.{tree_of_formula}
use Rattle.tl_syntax.proofs.ListLaws.{Each-Among, Each-over}
use Rattle.tl_terms.specs.Bounds.{bound_true}
use Rattle.tl_terms.specs.Definitions.{situation_of}
use Rattle.tl_terms.specs.Looked.{followed_if, looks_of}
use Rattle.tl_terms.specs.Problem.{PlainProblem}
use Rattle.tl_terms.specs.ProblemMeaning.{plain_operator}
use Rattle.tl_terms.specs.Situation.{Situation}
use Rattle.tl_terms.specs.Step.{is_defined, given}
use Rattle.tl_terms.specs.World.{World}

-- ---- slots of parameters

among-slot : (xs : List ℕ) (q : ℕ) → Among q xs → is_slot_in xs q ≡ true
among-slot [] q h = absurd h
among-slot (x ∷ xs) q h = elim h [
  | inl e ↦ ap (λ (b : Bool). b || is_slot_in xs q) (eq-eqb q x (sym e))
  | inr k ↦ ap (λ (b : Bool). (q == x) || b) (among-slot xs q k) ∙ or-true (q == x)
]
  where
    or-true : (b : Bool) → (b || true) ≡ true
    or-true true = refl
    or-true false = refl

-- a list is a scope of its own slots
pub scope-itself : (xs : List ℕ) → InScope xs xs
scope-itself xs = (Each-Among (λ q. IsTrue (is_slot_in xs q)) xs).1 (among-slot xs)

-- variables that are given values have them whatever the frame was
pub bound-alike : (ss : List Var) (t : List Value) (d e : Assignment) → Agree (slots_of ss) (bind ss t d) (bind ss t e)
bound-alike ss t d e = (Each-Among (λ q. bind ss t d q ≡ bind ss t e q) (slots_of ss)).1
    (λ q m. bind-kept ss t d e q (λ z. absurd (let x : true ≡ false = sym (among-slot (slots_of ss) q m) ∙ z in cc)))

-- counted slots are those of a frame
below-all : (xs : List ℕ) (limit : ℕ) → ((i n : ℕ) → slice_get xs i ≡ Some n → n < limit) → Each (λ n. n < limit) xs
below-all [] limit h = tt
below-all (x ∷ xs) limit h = (h 0 x refl, below-all xs limit (λ i n q. h (suc i) n q))

got-below : (xs : List ℕ) (i n : ℕ) → slice_get xs i ≡ Some n → i < length xs
got-below [] i n q = absurd (let z : ⊥ = cc in z)
got-below (x ∷ xs) zero n q = omega arith
got-below (x ∷ xs) (suc i) n q = let k = got-below xs i n q in omega arith

pub counted-slots : (ss : List Var) → AreTheirPlaces (slots_of ss) → length ss ≤ 16 → Each (λ s. s.slot < 32) ss
counted-slots ss h k =
    (Each-over (λ (n : ℕ). n < 32) (λ (s : Var). s.slot) ss).0
    (below-all (slots_of ss) 32 (λ i n q. let e = h i n q in let l = got-below (slots_of ss) i n q in let m =
    length-map ss (λ (s : Var). s.slot) in omega arith))

each-slot : (P : ℕ → Type 0) (ss : List Var) → ((k n : ℕ) → slice_get (slots_of ss) k ≡ Some n → P n) → Each (λ s. P s.slot) ss
each-slot P [] h = tt
each-slot P (s ∷ ss) h = (h 0 s.slot refl, each-slot P ss (λ k n q. h (suc k) n q))

differ-from : (ss : List Var) (m : ℕ) → ((k n : ℕ) → slice_get (slots_of ss) k ≡ Some n → n ≡ m + k) → DifferInSlot ss
differ-from [] m h = tt
differ-from (s ∷ ss) m h = (
  each-slot (λ n. n ≡ s.slot → ⊥) ss (λ k n q e. let a : n ≡ m + suc k = h (suc k) n q in let b : s.slot ≡ m + 0 = h 0 s.slot refl in
      absurd (omega arith)),
  differ-from ss (suc m) (λ k n q. let a : n ≡ m + suc k = h (suc k) n q in omega arith),
)

-- counted slots differ
pub counted-differ : (ss : List Var) → AreTheirPlaces (slots_of ss) → DifferInSlot ss
counted-differ ss h = differ-from ss 0 (λ k n q. let a = h k n q in omega arith)

-- ---- the parts of an operator

pub operator-effects : (g : Signature) (n : ℕ) (o : Operator) → OperatorKeeps g n o → EffectsRead g (tree_of_effects o.effects)
operator-effects g n o h = record { around = slots_of o.params; fits = h.effects_fit; scope = h.effects_scope; state = h.effects_state }

pub operator-condition : (g : Signature) (n : ℕ) (o : Operator) → OperatorKeeps g n o → Fits g [] (tree_of_formula o.pre)
operator-condition g n o h = fits-alone g (slots_of o.params) (tree_of_formula o.pre) h.fits

bounds-agree : (s : Situation) (scope : List ℕ) (bs : List Bound) (d e : Assignment) → Each (λ b. InScope scope (bound_slots b)) bs →
    Agree scope d e → list_all (bound_true s d) bs ≡ list_all (bound_true s e) bs
bounds-agree s scope [] d e h k = refl
bounds-agree s scope (b ∷ bs) d e h k = ap₂ ◌&&◌ (bound-agrees s b d e (agree-within scope (bound_slots b) d e h.0 k))
    (bounds-agree s scope bs d e h.1 k)

-- the two frames mean the same for the operator
pub record OperatorAgrees (p : PlainProblem) (w : World) (o : Operator) (d e : Assignment) : Type 0 where
  pub bounds : list_all (bound_true (situation_of p w) d) o.bounds ≡ list_all (bound_true (situation_of p w) e) o.bounds
  pub instances : instances_of p w d (plain_operator o) ≡ instances_of p w e (plain_operator o)
  pub prepared : is_prepared p w d (plain_operator o) ≡ is_prepared p w e (plain_operator o)
  pub looked : looked_prepared p w d (plain_operator o) ≡ looked_prepared p w e (plain_operator o)

pub operator-agrees : (g : Signature) (n : ℕ) (p : PlainProblem) (w : World) (o : Operator) (d e : Assignment) → OperatorKeeps g n o →
    Agree (slots_of o.params) d e → OperatorAgrees p w o d e
operator-agrees g n p w o d e h k =
    let s = situation_of p w in
    let pre = state-agrees (looks_of p w) s d e (tree_of_formula o.pre)
    (agree-within (slots_of o.params) (free_slots (tree_of_formula o.pre)) d e h.scope k) in
    let effects = effects-agree (looks_of p w) s d e (tree_of_effects o.effects)
    (agree-within (slots_of o.params) (effects_slots (tree_of_effects o.effects)) d e h.effects_scope k) in
    record {
      bounds = bounds-agree s (slots_of o.params) o.bounds d e h.bounds_scope k;
      instances = effects.instances;
      prepared = λ i. pre.truth i && (list_all is_defined (effects.instances i) && no_clash (flat_map given (effects.instances i)));
      looked = λ i. followed_if (pre.truth i) (pre.looked i) (effects.looked i);
    }

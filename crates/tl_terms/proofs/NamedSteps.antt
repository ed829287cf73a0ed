-- The step of a named action in a named world leads to a named world.
use Rattle.std.proofs.Common.{◌≡◌, ℕ, zero, suc, List, [], ◌∷◌, flat_map, slice_get, Bool, true, false, cond, ◌==◌, Option, Some, None, inl}
use Rattle.std.proofs.Common.{inr, refl, subst}
use Rattle.std.specs.FinSet as set
use Rattle.std.specs.FinMap as dict
use Rattle.tl_syntax.specs.declared.action.Action.{Action}
use Rattle.tl_syntax.specs.declared.bound.Bound.{Bound}
use Rattle.tl_syntax.specs.declared.value.Op.{Op}
use Rattle.tl_syntax.specs.declared.value.Value.{Value}
use Rattle.tl_syntax.specs.declared.value.Value.TheVariants.{Int, Sym}
use Rattle.tl_syntax.specs.declared.variable.Var.{Var}
use Rattle.tl_syntax.specs.Assignment.{Assignment, no_values, bind}
use Rattle.tl_syntax.specs.Effects.{EffectTree, EffectTrees, add, del, assign, when, each, no_effect, more_effects}
use Rattle.tl_syntax.specs.Keys.{Key}
use Rattle.tl_syntax.specs.Lists.{Each, Among}
use Rattle.tl_syntax.specs.Named.{ValueIsNamed, TermIsNamed, TermsAreNamed, EffectIsNamed, EffectsAreNamed}
use Rattle.tl_syntax.specs.Trees.{TermTree, TermTrees, variable, value, place, arith, no_term, more_terms}
use Rattle.tl_syntax.proofs.ListLaws.{Each-append, One-append, One-flat, one_out, Each-Among}
use Rattle.tl_terms.specs.Bounds.{tuples}
use Rattle.tl_terms.specs.Definitions.{situation_of}
use Rattle.tl_terms.specs.NamedWorlds.{WorldIsNamed}
use Rattle.tl_terms.specs.Problem.{PlainOperator, PlainProblem}
use Rattle.tl_terms.specs.Situation.{Situation}
use Rattle.tl_terms.specs.Step.{EffectInstance, adds, dels, sets, effect_instances, all_instances, added, deleted, given, changed, applied}
use Rattle.tl_terms.specs.Step.{applied_if, step}
use Rattle.tl_terms.specs.Terms.{apply_op, prepend, place_value, term_value, term_values}
use Rattle.tl_terms.specs.Truth.{state_true}
use Rattle.tl_terms.specs.World.{World, values_in, values_of}
use Rattle.tl_terms.proofs.KeyLaws.{fact-among, place-among}
use Rattle.tl_terms.proofs.NamedWorlds.{KeyIsNamed, EntryIsNamed, world-changed}
use Rattle.tl_terms.proofs.Tuples.{worlds_of, Among-tuples, Among-values_of}

-- ---- assignments

-- all values that it gives are named
abbrev pub AssignmentIsNamed : ℕ → Assignment → Type 0
AssignmentIsNamed n e = (q : ℕ) (v : Value) → e q ≡ Some v → ValueIsNamed n v

pub nothing-named : (n : ℕ) → AssignmentIsNamed n no_values
nothing-named n q v h = absurd (let z : ⊥ = cc in z)

pub bound-named : (n : ℕ) (ss : List Var) (t : List Value) (e : Assignment) → AssignmentIsNamed n e → Each (ValueIsNamed n) t →
    AssignmentIsNamed n (bind ss t e)
bound-named n [] t e h k q v r = h q v r
bound-named n (s ∷ ss) [] e h k q v r = (elim (q == s.slot) as (λ b. cond b None (bind ss [] e q) ≡ Some v → ValueIsNamed n v) [
  | true ↦ λ z. absurd (let f : ⊥ = cc in f)
  | false ↦ λ z. bound-named n ss [] e h tt q v z
]) r
bound-named n (s ∷ ss) (x ∷ t) e h k q v r = (elim (q == s.slot) as (λ b. cond b (Some x) (bind ss t e q) ≡ Some v → ValueIsNamed n v) [
  | true ↦ λ z. let same : x ≡ v = cc in subst (ValueIsNamed n) same k.0
  | false ↦ λ z. bound-named n ss t e h k.1 q v z
]) r

-- ---- terms

prepended : (o : Option Value) (r : Option (List Value)) (t : List Value) → prepend o r ≡ Some t → (v : Value) × (us : List Value) ×
    (o ≡ Some v) × (r ≡ Some us) × (v ∷ us ≡ t)
prepended (Some v) (Some us) t q = let e : v ∷ us ≡ t = cc in (v, us, refl, refl, e)
prepended (Some v) None t q = absurd (let z : ⊥ = cc in z)
prepended None r t q = absurd (let z : ⊥ = cc in z)

computed : (n : ℕ) (op : Op) (a b : Option Value) (v : Value) → apply_op op a b ≡ Some v → ValueIsNamed n v
computed n op (Some (Int a)) (Some (Int b)) (Int c) q = tt
computed n op (Some (Int a)) (Some (Int b)) (Sym k) q = absurd (let z : ⊥ = cc in z)
computed n op (Some (Int a)) (Some (Sym b)) v q = absurd (let z : ⊥ = cc in z)
computed n op (Some (Int a)) None v q = absurd (let z : ⊥ = cc in z)
computed n op (Some (Sym a)) b v q = absurd (let z : ⊥ = cc in z)
computed n op None b v q = absurd (let z : ⊥ = cc in z)

placed : (n : ℕ) (w : World) (f : ℕ) (o : Option (List Value)) (v : Value) → WorldIsNamed n w → place_value w f o ≡ Some v →
    ValueIsNamed n v
placed n w f (Some vs) v h q = (h.places (f, vs) v q).1
placed n w f None v h q = absurd (let z : ⊥ = cc in z)

module _ (n : ℕ) (w : World) (world : WorldIsNamed n w) (e : Assignment) (given_named : AssignmentIsNamed n e) where
  mutual
    unfolding term_value TermIsNamed

    pub term-named : (t : TermTree) (v : Value) → TermIsNamed n t → term_value w e t ≡ Some v → ValueIsNamed n v
    term-named (variable s) v h q = given_named s.slot v q
    term-named (value u) v h q = let same : u ≡ v = cc in subst (ValueIsNamed n) same h
    term-named (place f ts) v h q = placed n w f (term_values w e ts) v world q
    term-named (arith op s t at) v h q = computed n op (term_value w e s) (term_value w e t) v q

    pub terms-named : (ts : TermTrees) (vs : List Value) → TermsAreNamed n ts → term_values w e ts ≡ Some vs → Each (ValueIsNamed n) vs
    terms-named no_term vs h q = let same : [] ≡ vs = cc in subst (Each (ValueIsNamed n)) same tt
    terms-named (more_terms t ts) vs h q =
        let parts = prepended (term_value w e t) (term_values w e ts) vs q in
        subst (Each (ValueIsNamed n)) parts.4 (term-named t parts.0 h.0 parts.2, terms-named ts parts.1 h.1 parts.3)

-- ---- tuples of a bound

in-world : (n : ℕ) (w : World) (v : Value) → WorldIsNamed n w → Among v (values_in w) → ValueIsNamed n v
in-world n w v h m = elim ((One-append (λ y. y ≡ v) (flat_map (λ k. k.1) (set.items w.facts))
    (flat_map (λ x. x.1 ∷ x.0.1) (dict.entries w.places))).0 m) [
      | inl f ↦ (let k = one_out (λ (x : Key). Among v x.1) (set.items w.facts)
          ((One-flat (λ y. y ≡ v) (λ (x : Key). x.1) (set.items w.facts)).0 f) in
          (Each-Among (ValueIsNamed n) k.0.1).0 (h.facts k.0 ((fact-among w k.0).0 k.1.0)) v k.1.1)
      | inr p ↦ (let x = one_out (λ (x : Key × Value). Among v (x.1 ∷ x.0.1)) (dict.entries w.places)
          ((One-flat (λ y. y ≡ v) (λ (x : Key × Value). x.1 ∷ x.0.1) (dict.entries w.places)).0 p) in
          let at = h.places x.0.0 x.0.1 ((place-among w x.0.0 x.0.1).0 x.1.0) in
          (Each-Among (ValueIsNamed n) (x.0.1 ∷ x.0.0.1)).0 (at.1, at.0) v x.1.1)
    ]

-- the worlds of a situation are named
pub record SituationIsNamed (n : ℕ) (s : Situation) : Type 0 where
  pub world : WorldIsNamed n s.world
  pub goal : WorldIsNamed n s.goal
  pub avoid : WorldIsNamed n s.avoid

in-situation : (n : ℕ) (s : Situation) (v : Value) → SituationIsNamed n s → Among v (values_of (worlds_of s)) → ValueIsNamed n v
in-situation n s v h m =
    let w = one_out (λ (x : World). Among v (values_in x)) (worlds_of s)
    ((One-flat (λ y. y ≡ v) values_in (worlds_of s)).0 ((Among-values_of (worlds_of s) v).0 m)) in
    in-world n w.0 v ((Each-Among (WorldIsNamed n) (worlds_of s)).0 (h.world, (h.goal, (h.avoid, tt))) w.0 w.1.0) w.1.1

each-among : (n : ℕ) (s : Situation) (t : List Value) → SituationIsNamed n s → Each (λ v. Among v (values_of (worlds_of s))) t →
    Each (ValueIsNamed n) t
each-among n s [] h k = tt
each-among n s (v ∷ t) h k = (in-situation n s v h k.0, each-among n s t h k.1)

tuple-named : (n : ℕ) (s : Situation) (e : Assignment) (ss : List Var) (b : Bound) (t : List Value) → SituationIsNamed n s →
    Among t (tuples s e ss b) → Each (ValueIsNamed n) t
tuple-named n s e ss b t h m = each-among n s t h ((Among-tuples s e ss b t).0 m).0.1

-- ---- instances of effects

-- what the instance adds and sets is named
pub record InstanceIsNamed (n : ℕ) (c : EffectInstance) : Type 0 where
  pub facts : Each (KeyIsNamed n) (added c)
  pub places : Each (EntryIsNamed n) (given c)

adds-named : (n p : ℕ) (o : Option (List Value)) → ((vs : List Value) → o ≡ Some vs → Each (ValueIsNamed n) vs) →
    InstanceIsNamed n (adds p o)
adds-named n p (Some vs) h = record { facts = (h vs refl, tt); places = tt }
adds-named n p None h = record { facts = tt; places = tt }

dels-named : (n p : ℕ) (o : Option (List Value)) → InstanceIsNamed n (dels p o)
dels-named n p (Some vs) = record { facts = tt; places = tt }
dels-named n p None = record { facts = tt; places = tt }

sets-named : (n f : ℕ) (o : Option (List Value)) (x : Option Value) → ((vs : List Value) → o ≡ Some vs → Each (ValueIsNamed n) vs) →
    ((v : Value) → x ≡ Some v → ValueIsNamed n v) → InstanceIsNamed n (sets f o x)
sets-named n f (Some vs) (Some v) h k = record { facts = tt; places = ((h vs refl, k v refl), tt) }
sets-named n f (Some vs) None h k = record { facts = tt; places = tt }
sets-named n f None x h k = record { facts = tt; places = tt }

each-flat : {A B : Type 0} (P : B → Type 0) (f : A → List B) (xs : List A) → ((x : A) → Among x xs → Each P (f x)) → Each P (flat_map f xs)
each-flat P f [] h = tt
each-flat P f (x ∷ xs) h = (Each-append P (f x) (flat_map f xs)).1 (h x (inl refl), each-flat P f xs (λ y m. h y (inr m)))

module _ (n : ℕ) (s : Situation) (worlds : SituationIsNamed n s) where
  mutual
    unfolding effect_instances EffectIsNamed

    pub effect-named : (e : Assignment) → AssignmentIsNamed n e → (x : EffectTree) → EffectIsNamed n x →
        Each (InstanceIsNamed n) (effect_instances s e x)
    effect-named e k (add p ts) h = (
      adds-named n p (term_values s.world e ts) (λ vs q. terms-named n s.world worlds.world e k ts vs h q),
      tt,
    )
    effect-named e k (del p ts) h = (dels-named n p (term_values s.world e ts), tt)
    effect-named e k (assign f ts t) h = (
      sets-named n f (term_values s.world e ts) (term_value s.world e t)
          (λ vs q. terms-named n s.world worlds.world e k ts vs h.0 q) (λ v q. term-named n s.world worlds.world e k t v h.1 q),
      tt,
    )
    effect-named e k (when f xs) h = elim (state_true s e f) as (λ b. Each (InstanceIsNamed n) (cond b (all_instances s e xs) [])) [
      | true ↦ effects-named e k xs h.1
      | false ↦ tt
    ]
    effect-named e k (each ss b xs) h = each-flat (InstanceIsNamed n) (λ t. all_instances s (bind ss t e) xs) (tuples s e ss b)
        (λ t m. effects-named (bind ss t e) (bound-named n ss t e k (tuple-named n s e ss b t worlds m)) xs h.2)

    pub effects-named : (e : Assignment) → AssignmentIsNamed n e → (xs : EffectTrees) → EffectsAreNamed n xs →
        Each (InstanceIsNamed n) (all_instances s e xs)
    effects-named e k no_effect h = tt
    effects-named e k (more_effects x xs) h = (Each-append (InstanceIsNamed n) (effect_instances s e x) (all_instances s e xs)).1
        (effect-named e k x h.0, effects-named e k xs h.1)

-- ---- the step

changed-named : (n : ℕ) (w : World) (cs : List EffectInstance) → WorldIsNamed n w → Each (InstanceIsNamed n) cs →
    WorldIsNamed n (changed w cs)
unfolding changed
changed-named n w cs h k =
    let all = Each-Among (InstanceIsNamed n) cs in
    world-changed n w (changed w cs) (flat_map deleted cs) (flat_map added cs) (flat_map given cs) refl refl h
    (each-flat (KeyIsNamed n) added cs (λ c m. (all.0 k c m).facts))
    (each-flat (EntryIsNamed n) given cs (λ c m. (all.0 k c m).places))

module _ (n : ℕ) (p : PlainProblem) (goal : WorldIsNamed n p.goal) (avoid : WorldIsNamed n p.avoid) (w : World)
    (world : WorldIsNamed n w) where
  situation-named : SituationIsNamed n (situation_of p w)
  unfolding situation_of
  situation-named = record { world = world; goal = goal; avoid = avoid }

  guarded : (b : Bool) (cs : List EffectInstance) (v : World) → cond b (Some (changed w cs)) None ≡ Some v → Each (InstanceIsNamed n) cs →
      WorldIsNamed n v
  guarded true cs v q h = let same : changed w cs ≡ v = cc in subst (WorldIsNamed n) same (changed-named n w cs world h)
  guarded false cs v q h = absurd (let z : ⊥ = cc in z)

  applied-named : (o : PlainOperator) (vs : List Value) (v : World) → EffectsAreNamed n o.effects → Each (ValueIsNamed n) vs →
      applied p w o vs ≡ Some v → WorldIsNamed n v
  unfolding applied
  applied-named o vs v h k q =
      let e = bind o.params vs no_values in
      guarded _ (all_instances (situation_of p w) e o.effects) v q
      (effects-named n (situation_of p w) situation-named e (bound-named n o.params vs no_values (nothing-named n) k) o.effects h)

  got-each : {A : Type 0} (P : A → Type 0) (xs : List A) (i : ℕ) (x : A) → Each P xs → slice_get xs i ≡ Some x → P x
  got-each P [] i x h q = absurd (let z : ⊥ = cc in z)
  got-each P (y ∷ xs) zero x h q = let same : y ≡ x = cc in subst P same h.0
  got-each P (y ∷ xs) (suc i) x h q = got-each P xs i x h.1 q

  pub step-named : (a : Action) (v : World) → Each (λ (o : PlainOperator). EffectsAreNamed n o.effects) p.operators →
      Each (ValueIsNamed n) a.args → step p w a ≡ Some v → WorldIsNamed n v
  unfolding step
  step-named a v h k q = by (slice_get p.operators a.op) refl q
    where
      by : (o : Option PlainOperator) → slice_get p.operators a.op ≡ o → applied_if p w a.args o ≡ Some v → WorldIsNamed n v
      by (Some o) r z = applied-named o a.args v (got-each (λ (x : PlainOperator). EffectsAreNamed n x.effects) p.operators a.op o h r) k z
      by None r z = absurd (let f : ⊥ = cc in f)

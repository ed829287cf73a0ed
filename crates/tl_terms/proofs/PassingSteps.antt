-- The arguments of plans that execute, and the values of the worlds on their way, pass what the values of a problem pass.
use Rattle.std.proofs.Common.{◌≡◌, ℕ, ℤ, zero, suc, ◌+◌, List, [], ◌∷◌, map, length, flat_map, slice_get, Bool, true, false, cond, ◌||◌}
use Rattle.std.proofs.Common.{◌==◌, true≢false, Option, Some, None, IsTrue, inl, inr, refl, sym, ap, ◌∙◌, subst, eqb-true, eq-eqb}
use Rattle.std.proofs.Common.{arith as linear}
use Rattle.std.specs.List.{list_any}
use Rattle.std.specs.FinSet as set
use Rattle.std.specs.FinMap as dict
use Rattle.tl_syntax.specs.declared.action.Action.{Action}
use Rattle.tl_syntax.specs.declared.bound.Bound.{Bound}
use Rattle.tl_syntax.specs.declared.bound.Bound.TheVariants as bound
use Rattle.tl_syntax.specs.declared.operator.Operator.{Operator}
use Rattle.tl_syntax.specs.declared.problem.Problem.{Problem}
use Rattle.tl_syntax.specs.declared.value.Op.{Op}
use Rattle.tl_syntax.specs.declared.value.Value.{Value}
use Rattle.tl_syntax.specs.declared.value.Value.TheVariants.{Int, Sym}
use Rattle.tl_syntax.specs.declared.variable.Arg.{Arg}
use Rattle.tl_syntax.specs.declared.variable.Arg.TheVariants as arg
use Rattle.tl_syntax.specs.declared.variable.Var.{Var}
use Rattle.tl_syntax.specs.Assignment.{Assignment, no_values, bind}
use Rattle.tl_syntax.specs.BoundVariables.{is_that_variable, stands_in}
use Rattle.tl_syntax.specs.Effects.{EffectTree, EffectTrees, add, del, assign, when, each, no_effect, more_effects}
use Rattle.tl_syntax.specs.FreeVariables.{slots_of}
use Rattle.tl_syntax.specs.Kept.{OperatorKeeps}
use Rattle.tl_syntax.specs.Keys.{Key}
use Rattle.tl_syntax.specs.Lists.{Each, Among}
use Rattle.tl_syntax.specs.Signature.{signature_of}
use Rattle.tl_syntax.specs.TreeOfEffect.{tree_of_effects}
use Rattle.tl_syntax.specs.Trees.{TermTree, TermTrees, variable, value, place, arith, no_term, more_terms}
use Rattle.tl_syntax.specs.ValueTests.{ValuesPass, TermPasses, TermsPass, EffectPasses, EffectsPass, ProblemPasses}
use Rattle.tl_syntax.proofs.ListLaws.{Each-append, One-append, One-flat, One-certain, one_out, Each-Among}
use Rattle.tl_terms.specs.Acceptance.{then_states, states_from}
use Rattle.tl_terms.specs.Bounds.{arg_value, arg_values, fact_in, same_value, bound_true, tuples}
use Rattle.tl_terms.specs.Definitions.{situation_of}
use Rattle.tl_terms.specs.LawsStep.{IsStep}
use Rattle.tl_terms.specs.LawsValues.{ExecutedArgumentsPass}
use Rattle.tl_terms.specs.Problem.{PlainOperator}
use Rattle.tl_terms.specs.ProblemMeaning.{plain_operator, plain_problem}
use Rattle.tl_terms.specs.Situation.{Situation}
use Rattle.tl_terms.specs.Step.{EffectInstance, adds, dels, sets, effect_instances, all_instances, added, deleted, given, changed, applied}
use Rattle.tl_terms.specs.Step.{applied_if, step}
use Rattle.tl_terms.specs.Terms.{apply_op, prepend, place_value, term_value, term_values}
use Rattle.tl_terms.specs.Truth.{state_true}
use Rattle.tl_terms.specs.World.{World, value_at, values_in, values_of}
use Rattle.tl_terms.proofs.KeyLaws.{fact-among, place-among, value-is}
use Rattle.tl_terms.proofs.PassingWorlds.{KeyPasses, EntryPasses, WorldPasses, world-changed, first-passes, goal-passes, avoid-passes}
use Rattle.tl_terms.proofs.StepLaws.{step-exactly}
use Rattle.tl_terms.proofs.Tuples.{worlds_of, Among-tuples, Among-values_of}

-- ---- slots

each-slot : (P : ℕ → Type 0) (ss : List Var) → ((k n : ℕ) → slice_get (slots_of ss) k ≡ Some n → P n) → Each (λ s. P s.slot) ss
each-slot P [] h = tt
each-slot P (s ∷ ss) h = (h 0 s.slot refl, each-slot P ss (λ k n q. h (suc k) n q))

other-slot : (n m : ℕ) → (n ≡ m → ⊥) → (n == m) ≡ false
other-slot n m h = (elim (n == m) as (λ b. (n == m) ≡ b → b ≡ false) [ true ↦ λ z. absurd (h (eqb-true n m z)) | false ↦ λ z. refl ]) refl

prepended : (o : Option Value) (r : Option (List Value)) (t : List Value) → prepend o r ≡ Some t → (v : Value) × (us : List Value) ×
    (o ≡ Some v) × (r ≡ Some us) × (v ∷ us ≡ t)
prepended (Some v) (Some us) t q = let e : v ∷ us ≡ t = cc in (v, us, refl, refl, e)
prepended (Some v) None t q = absurd (let z : ⊥ = cc in z)
prepended None r t q = absurd (let z : ⊥ = cc in z)

each-flat : {A B : Type 0} (P : B → Type 0) (f : A → List B) (xs : List A) → ((x : A) → Among x xs → Each P (f x)) → Each P (flat_map f xs)
each-flat P f [] h = tt
each-flat P f (x ∷ xs) h = (Each-append P (f x) (flat_map f xs)).1 (h x (inl refl), each-flat P f xs (λ y m. h y (inr m)))

module _ (test : Value → Bool) (whole : (z : ℤ) → IsTrue (test (Int z))) where
  abbrev Pass : Value → Type 0
  Pass v = IsTrue (test v)

  -- ---- assignments

  -- all values that it gives pass
  abbrev AssignmentPasses : Assignment → Type 0
  AssignmentPasses e = (q : ℕ) (v : Value) → e q ≡ Some v → Pass v

  nothing-passes : AssignmentPasses no_values
  nothing-passes q v h = absurd (let z : ⊥ = cc in z)

  bound-passes : (ss : List Var) (t : List Value) (e : Assignment) → AssignmentPasses e → ValuesPass test t → AssignmentPasses (bind ss t e)
  bound-passes [] t e h k q v r = h q v r
  bound-passes (s ∷ ss) [] e h k q v r = (elim (q == s.slot) as (λ b. cond b None (bind ss [] e q) ≡ Some v → Pass v) [
    | true ↦ λ z. absurd (let f : ⊥ = cc in f)
    | false ↦ λ z. bound-passes ss [] e h tt q v z
  ]) r
  bound-passes (s ∷ ss) (x ∷ t) e h k q v r = (elim (q == s.slot) as (λ b. cond b (Some x) (bind ss t e q) ≡ Some v → Pass v) [
    | true ↦ λ z. let same : x ≡ v = cc in subst Pass same k.0
    | false ↦ λ z. bound-passes ss t e h k.1 q v z
  ]) r

  -- ---- terms

  computed : (op : Op) (a b : Option Value) (v : Value) → apply_op op a b ≡ Some v → Pass v
  computed op (Some (Int a)) (Some (Int b)) (Int c) q = whole c
  computed op (Some (Int a)) (Some (Int b)) (Sym k) q = absurd (let z : ⊥ = cc in z)
  computed op (Some (Int a)) (Some (Sym b)) v q = absurd (let z : ⊥ = cc in z)
  computed op (Some (Int a)) None v q = absurd (let z : ⊥ = cc in z)
  computed op (Some (Sym a)) b v q = absurd (let z : ⊥ = cc in z)
  computed op None b v q = absurd (let z : ⊥ = cc in z)

  placed : (w : World) (f : ℕ) (o : Option (List Value)) (v : Value) → WorldPasses test w → place_value w f o ≡ Some v → Pass v
  placed w f (Some vs) v h q = (h.places (f, vs) v q).1
  placed w f None v h q = absurd (let z : ⊥ = cc in z)

  module _ (w : World) (world : WorldPasses test w) (e : Assignment) (gives : AssignmentPasses e) where
    mutual
      unfolding term_value TermPasses

      term-passes : (t : TermTree) (v : Value) → TermPasses test t → term_value w e t ≡ Some v → Pass v
      term-passes (variable s) v h q = gives s.slot v q
      term-passes (value u) v h q = let same : u ≡ v = cc in subst Pass same h
      term-passes (place f ts) v h q = placed w f (term_values w e ts) v world q
      term-passes (arith op s t at) v h q = computed op (term_value w e s) (term_value w e t) v q

      terms-pass : (ts : TermTrees) (vs : List Value) → TermsPass test ts → term_values w e ts ≡ Some vs → ValuesPass test vs
      terms-pass no_term vs h q = let same : [] ≡ vs = cc in subst (ValuesPass test) same tt
      terms-pass (more_terms t ts) vs h q =
          let parts = prepended (term_value w e t) (term_values w e ts) vs q in
          subst (ValuesPass test) parts.4 (term-passes t parts.0 h.0 parts.2, terms-pass ts parts.1 h.1 parts.3)

  -- ---- tuples of a bound

  in-world : (w : World) (v : Value) → WorldPasses test w → Among v (values_in w) → Pass v
  in-world w v h m = elim ((One-append (λ y. y ≡ v) (flat_map (λ k. k.1) (set.items w.facts))
      (flat_map (λ x. x.1 ∷ x.0.1) (dict.entries w.places))).0 m) [
        | inl f ↦ (let k = one_out (λ (x : Key). Among v x.1) (set.items w.facts)
            ((One-flat (λ y. y ≡ v) (λ (x : Key). x.1) (set.items w.facts)).0 f) in
            (Each-Among Pass k.0.1).0 (h.facts k.0 ((fact-among w k.0).0 k.1.0)) v k.1.1)
        | inr p ↦ (let x = one_out (λ (x : Key × Value). Among v (x.1 ∷ x.0.1)) (dict.entries w.places)
            ((One-flat (λ y. y ≡ v) (λ (x : Key × Value). x.1 ∷ x.0.1) (dict.entries w.places)).0 p) in
            let at = h.places x.0.0 x.0.1 ((place-among w x.0.0 x.0.1).0 x.1.0) in
            (Each-Among Pass (x.0.1 ∷ x.0.0.1)).0 (at.1, at.0) v x.1.1)
      ]

  -- the worlds of a situation pass
  pub record SituationPasses (s : Situation) : Type 0 where
    pub world : WorldPasses test s.world
    pub goal : WorldPasses test s.goal
    pub avoid : WorldPasses test s.avoid

  in-situation : (s : Situation) (v : Value) → SituationPasses s → Among v (values_of (worlds_of s)) → Pass v
  in-situation s v h m =
      let w = one_out (λ (x : World). Among v (values_in x)) (worlds_of s)
      ((One-flat (λ y. y ≡ v) values_in (worlds_of s)).0 ((Among-values_of (worlds_of s) v).0 m)) in
      in-world w.0 v ((Each-Among (WorldPasses test) (worlds_of s)).0 (h.world, (h.goal, (h.avoid, tt))) w.0 w.1.0) w.1.1

  each-among : (s : Situation) (t : List Value) → SituationPasses s → Each (λ v. Among v (values_of (worlds_of s))) t → ValuesPass test t
  each-among s [] h k = tt
  each-among s (v ∷ t) h k = (in-situation s v h k.0, each-among s t h k.1)

  tuple-passes : (s : Situation) (e : Assignment) (ss : List Var) (b : Bound) (t : List Value) → SituationPasses s →
      Among t (tuples s e ss b) → ValuesPass test t
  tuple-passes s e ss b t h m = each-among s t h ((Among-tuples s e ss b t).0 m).0.1

  -- ---- instances of effects

  -- what the instance adds and sets passes
  record InstancePasses (c : EffectInstance) : Type 0 where
    pub facts : Each (KeyPasses test) (added c)
    pub places : Each (EntryPasses test) (given c)

  adds-pass : (p : ℕ) (o : Option (List Value)) → ((vs : List Value) → o ≡ Some vs → ValuesPass test vs) → InstancePasses (adds p o)
  adds-pass p (Some vs) h = record { facts = (h vs refl, tt); places = tt }
  adds-pass p None h = record { facts = tt; places = tt }

  dels-pass : (p : ℕ) (o : Option (List Value)) → InstancePasses (dels p o)
  dels-pass p (Some vs) = record { facts = tt; places = tt }
  dels-pass p None = record { facts = tt; places = tt }

  sets-pass : (f : ℕ) (o : Option (List Value)) (x : Option Value) → ((vs : List Value) → o ≡ Some vs → ValuesPass test vs) →
      ((v : Value) → x ≡ Some v → Pass v) → InstancePasses (sets f o x)
  sets-pass f (Some vs) (Some v) h k = record { facts = tt; places = ((h vs refl, k v refl), tt) }
  sets-pass f (Some vs) None h k = record { facts = tt; places = tt }
  sets-pass f None x h k = record { facts = tt; places = tt }

  module _ (s : Situation) (worlds : SituationPasses s) where
    mutual
      unfolding effect_instances EffectPasses

      effect-passes : (e : Assignment) → AssignmentPasses e → (x : EffectTree) → EffectPasses test x →
          Each InstancePasses (effect_instances s e x)
      effect-passes e k (add p ts) h = (adds-pass p (term_values s.world e ts) (λ vs q. terms-pass s.world worlds.world e k ts vs h q), tt)
      effect-passes e k (del p ts) h = (dels-pass p (term_values s.world e ts), tt)
      effect-passes e k (assign f ts t) h = (
        sets-pass f (term_values s.world e ts) (term_value s.world e t)
            (λ vs q. terms-pass s.world worlds.world e k ts vs h.0 q) (λ v q. term-passes s.world worlds.world e k t v h.1 q),
        tt,
      )
      effect-passes e k (when f xs) h = elim (state_true s e f) as (λ b. Each InstancePasses (cond b (all_instances s e xs) [])) [
        | true ↦ effects-pass e k xs h
        | false ↦ tt
      ]
      effect-passes e k (each ss b xs) h = each-flat InstancePasses (λ t. all_instances s (bind ss t e) xs) (tuples s e ss b)
          (λ t m. effects-pass (bind ss t e) (bound-passes ss t e k (tuple-passes s e ss b t worlds m)) xs h)

      effects-pass : (e : Assignment) → AssignmentPasses e → (xs : EffectTrees) → EffectsPass test xs →
          Each InstancePasses (all_instances s e xs)
      effects-pass e k no_effect h = tt
      effects-pass e k (more_effects x xs) h = (Each-append InstancePasses (effect_instances s e x) (all_instances s e xs)).1
          (effect-passes e k x h.0, effects-pass e k xs h.1)

  -- ---- the arguments of a step: each parameter stands in a bound, which is true of values of the worlds

  -- the variable has a value, which passes
  abbrev Has : Assignment → Var → Type 0
  Has e s = (v : Value) × (e s.slot ≡ Some v) × Pass v

  args-have : (e : Assignment) (xs : List Arg) (vs : List Value) (s : Var) → arg_values e xs ≡ Some vs → ValuesPass test vs →
      list_any (is_that_variable s) xs ≡ true → Has e s
  args-have e [] vs s q h k = absurd (true≢false (sym k))
  args-have e (arg.Val v ∷ xs) vs s q h k =
      let parts = prepended (Some v) (arg_values e xs) vs q in
      args-have e xs parts.1 s parts.3 (subst (ValuesPass test) (sym parts.4) h).1 k
  args-have e (arg.Var u ∷ xs) vs s q h k =
      let parts = prepended (e u.slot) (arg_values e xs) vs q in
      let passing = subst (ValuesPass test) (sym parts.4) h in
      (elim (u.slot == s.slot) as (λ b. (u.slot == s.slot) ≡ b → (b || list_any (is_that_variable s) xs) ≡ true → Has e s) [
        | true ↦ λ z m. (parts.0, ap e (sym (eqb-true u.slot s.slot z)) ∙ parts.2, passing.0)
        | false ↦ λ z m. args-have e xs parts.1 s parts.3 passing.1 m
      ]) refl k

  fact-has : (w : World) (p : ℕ) (e : Assignment) (xs : List Arg) (s : Var) → WorldPasses test w → fact_in w p (arg_values e xs) ≡ true →
      list_any (is_that_variable s) xs ≡ true → Has e s
  fact-has w p e xs s h t k = (elim (arg_values e xs) as (λ o. arg_values e xs ≡ o → fact_in w p o ≡ true → Has e s) [
    | None ↦ λ q m. absurd (true≢false (sym m))
    | Some vs ↦ λ q m. args-have e xs vs s q (h.facts (p, vs) m) k
  ]) refl t

  same-has : (w : World) (f : ℕ) (e : Assignment) (xs : List Arg) (x : Arg) (vs : List Value) (s : Var) → WorldPasses test w →
      arg_values e xs ≡ Some vs → same_value (value_at w (f, vs)) (arg_value e x) ≡ true → list_any (is_that_variable s) (x ∷ xs) ≡ true →
      Has e s
  same-has w f e xs x vs s h q t k = (elim (value_at w (f, vs)) as (λ o. value_at w (f, vs) ≡ o → same_value o (arg_value e x) ≡ true →
      Has e s) [
        | None ↦ λ a m. absurd (true≢false (sym m))
        | Some u ↦ λ a m. (elim (arg_value e x) as (λ r. arg_value e x ≡ r → same_value (Some u) r ≡ true → Has e s) [
          | None ↦ λ b l. absurd (true≢false (sym l))
          | Some v ↦ λ b l.
              let passing = h.places (f, vs) u a in
              args-have e (x ∷ xs) (v ∷ vs) s (λ i. prepend (b i) (q i)) (subst Pass (value-is u v l) passing.1, passing.0) k
        ]) refl m
      ]) refl t

  place-has : (w : World) (f : ℕ) (e : Assignment) (xs : List Arg) (x : Arg) (s : Var) → WorldPasses test w →
      same_value (place_value w f (arg_values e xs)) (arg_value e x) ≡ true → list_any (is_that_variable s) (x ∷ xs) ≡ true → Has e s
  place-has w f e xs x s h t k = (elim (arg_values e xs) as (λ o. arg_values e xs ≡ o → same_value (place_value w f o) (arg_value e x) ≡
      true → Has e s) [
        | None ↦ λ q m. absurd (true≢false (sym m))
        | Some vs ↦ λ q m. same-has w f e xs x vs s h q m k
      ]) refl t

  bound-has : (c : Situation) (e : Assignment) (b : Bound) (s : Var) → SituationPasses c → bound_true c e b ≡ true → stands_in s b ≡ true →
      Has e s
  unfolding bound_true
  bound-has c e (bound.Fact p xs) s h t k = fact-has c.world p e xs s h.world t k
  bound-has c e (bound.Place f xs x) s h t k = place-has c.world f e xs x s h.world t k
  bound-has c e (bound.GoalFact p xs) s h t k = fact-has c.goal p e xs s h.goal t k
  bound-has c e (bound.GoalPlace f xs x) s h t k = place-has c.goal f e xs x s h.goal t k
  bound-has c e (bound.GoalNot p xs) s h t k = fact-has c.avoid p e xs s h.avoid t k

  bounds-have : (c : Situation) (e : Assignment) (bs : List Bound) (ss : List Var) → SituationPasses c →
      Each (λ b. IsTrue (bound_true c e b)) bs → Each (λ s. IsTrue (list_any (stands_in s) bs)) ss → Each (Has e) ss
  bounds-have c e bs [] h t k = tt
  bounds-have c e bs (s ∷ ss) h t k =
      let b = one_out (λ x. stands_in s x ≡ true) bs (One-certain (λ x. stands_in s x ≡ true) (stands_in s) (λ x q. q) bs k.0) in
      (bound-has c e b.0 s h ((Each-Among (λ x. IsTrue (bound_true c e x)) bs).0 t b.0 b.1.0) b.1.1, bounds-have c e bs ss h t k.1)

  -- the other variables do not see the first one
  behind : (s : Var) (v : Value) (ss us : List Var) (t : List Value) (d : Assignment) → Each (λ u. u.slot ≡ s.slot → ⊥) us →
      Each (Has (bind (s ∷ ss) (v ∷ t) d)) us → Each (Has (bind ss t d)) us
  behind s v ss [] t d h k = tt
  behind s v ss (u ∷ us) t d h k =
      let same = ap (λ (b : Bool). cond b (Some v) (bind ss t d u.slot)) (other-slot u.slot s.slot h.0) in
      ((k.0.0, sym same ∙ k.0.1, k.0.2), behind s v ss us t d h.1 k.1)

  arguments-pass : (m : ℕ) (ss : List Var) (t : List Value) (d : Assignment) →
      ((k n : ℕ) → slice_get (slots_of ss) k ≡ Some n → n ≡ m + k) → length t ≡ length ss → Each (Has (bind ss t d)) ss → ValuesPass test t
  arguments-pass m [] [] d h q k = tt
  arguments-pass m [] (v ∷ t) d h q k = absurd (omega (linear, q))
  arguments-pass m (s ∷ ss) [] d h q k = tt
  arguments-pass m (s ∷ ss) (v ∷ t) d h q k =
      let itself = ap (λ (b : Bool). cond b (Some v) (bind ss t d s.slot)) (eq-eqb s.slot s.slot refl) in
      let found : Some v ≡ Some k.0.0 = sym itself ∙ k.0.1 in
      let same : k.0.0 ≡ v = cc in
      let others = each-slot (λ n. n ≡ s.slot → ⊥) ss (λ i n r e. let a : n ≡ m + suc i = h (suc i) n r in let b : s.slot ≡ m + 0 =
      h 0 s.slot refl in absurd (omega (linear, a, b, e))) in (
        subst Pass same k.0.2,
        arguments-pass (suc m) ss t d (λ i n r. let a : n ≡ m + suc i = h (suc i) n r in omega (linear, a))
            (omega (linear, q)) (behind s v ss ss t d others k.1),
      )

  -- ---- steps of a problem

  module _ (p : Problem) (passes : ProblemPasses test p) where
    abbrev Keeps : Operator → Type 0
    Keeps o = OperatorKeeps (signature_of p.domain) (length p.names) o

    situation-passes : (w : World) → WorldPasses test w → SituationPasses (situation_of (plain_problem p) w)
    unfolding situation_of
    situation-passes w world = record { world = world; goal = goal-passes test p passes; avoid = avoid-passes test p passes }

    operator-of : (os : List Operator) (i : ℕ) (x : PlainOperator) → Each Keeps os →
        Each (λ o. EffectsPass test (tree_of_effects o.effects)) os → slice_get (map plain_operator os) i ≡ Some x → (o : Operator) ×
        Keeps o × EffectsPass test (tree_of_effects o.effects) × (plain_operator o ≡ x)
    operator-of [] i x k l q = absurd (let z : ⊥ = cc in z)
    operator-of (o ∷ os) zero x k l q = (o, k.0, l.0, (let e : plain_operator o ≡ x = cc in e))
    operator-of (o ∷ os) (suc i) x k l q = operator-of os i x k.1 l.1 q

    operator-at : (i : ℕ) (x : PlainOperator) → slice_get (plain_problem p).operators i ≡ Some x → (o : Operator) × Keeps o ×
        EffectsPass test (tree_of_effects o.effects) × (plain_operator o ≡ x)
    unfolding plain_problem
    operator-at i x q = operator-of p.domain.operators i x p.domain_keeps.operators passes.effects q

    pub step-arguments : (w v : World) (a : Action) → WorldPasses test w → step (plain_problem p) w a ≡ Some v → ValuesPass test a.args
    step-arguments w v a world q =
        let s : IsStep (plain_problem p) w a v = (step-exactly (plain_problem p) w a v).0 q in
        let at = operator-at a.op s.operator s.exists in
        let o = at.0 in
        let same : s.operator ≡ plain_operator o = sym at.3 in
        let arity : length a.args ≡ length o.params = s.arity ∙ ap (λ (x : PlainOperator). length x.params) same in
        let bounds : Each (λ b. IsTrue (bound_true (situation_of (plain_problem p) w) (bind o.params a.args no_values) b)) o.bounds =
        subst (λ (x : PlainOperator). Each (λ b. IsTrue (bound_true (situation_of (plain_problem p) w) (bind x.params a.args no_values) b))
        x.bounds) same s.bounds in
        let have = bounds-have (situation_of (plain_problem p) w) (bind o.params a.args no_values) o.bounds o.params
        (situation-passes w world) bounds at.1.bounded in
        arguments-pass 0 o.params a.args no_values (λ k n r. let e : n ≡ k = at.1.params.counted k n r in omega (linear, e)) arity have

    guarded : (w : World) (world : WorldPasses test w) (b : Bool) (cs : List EffectInstance) (v : World) →
        cond b (Some (changed w cs)) None ≡ Some v → Each InstancePasses cs → WorldPasses test v
    unfolding changed
    guarded w world true cs v q h =
        let all = Each-Among InstancePasses cs in
        let same : changed w cs ≡ v = cc in
        subst (WorldPasses test) same (world-changed test w (changed w cs) (flat_map deleted cs) (flat_map added cs)
        (flat_map given cs) refl refl world
        (each-flat (KeyPasses test) added cs (λ c m. (all.0 h c m).facts))
        (each-flat (EntryPasses test) given cs (λ c m. (all.0 h c m).places)))
    guarded w world false cs v q h = absurd (let z : ⊥ = cc in z)

    applied-passes : (w v : World) (o : PlainOperator) (vs : List Value) → WorldPasses test w → EffectsPass test o.effects →
        ValuesPass test vs → applied (plain_problem p) w o vs ≡ Some v → WorldPasses test v
    unfolding applied
    applied-passes w v o vs world h k q =
        let e = bind o.params vs no_values in
        guarded w world _ (all_instances (situation_of (plain_problem p) w) e o.effects) v q
        (effects-pass (situation_of (plain_problem p) w) (situation-passes w world) e
        (bound-passes o.params vs no_values nothing-passes k) o.effects h)

    pub step-passes : (w v : World) (a : Action) → WorldPasses test w → step (plain_problem p) w a ≡ Some v → WorldPasses test v
    unfolding step
    step-passes w v a world q = by (slice_get (plain_problem p).operators a.op) refl q
      where
        by : (o : Option PlainOperator) → slice_get (plain_problem p).operators a.op ≡ o → applied_if (plain_problem p) w a.args o ≡
            Some v → WorldPasses test v
        by (Some o) r z = let at = operator-at a.op o r in applied-passes w v o a.args world
            (subst (λ (x : PlainOperator). EffectsPass test x.effects) at.3 at.2) (step-arguments w v a world q) z
        by None r z = absurd (let f : ⊥ = cc in f)

    no-states : (w : World) (ws : List World) → then_states w None ≡ Some ws → ⊥
    no-states w ws e = let k : ⊥ = cc in k

    plan-passes : (w : World) (plan : List Action) (ws : List World) → WorldPasses test w → states_from (plain_problem p) (Some w) plan ≡
        Some ws → Each (λ a. ValuesPass test a.args) plan
    unfolding states_from
    plan-passes w [] ws world e = tt
    plan-passes w (a ∷ plan) ws world e = by-step (step (plain_problem p) w a) refl (λ v vs passing t. plan-passes v plan vs passing t)
      where
        by-rest : (v : World) (rest : Option (List World)) → step (plain_problem p) w a ≡ Some v →
            states_from (plain_problem p) (Some v) plan ≡ rest → ((u : World) (us : List World) → WorldPasses test u →
            states_from (plain_problem p) (Some u) plan ≡ Some us → Each (λ x. ValuesPass test x.args) plan) →
            Each (λ x. ValuesPass test x.args) plan
        by-rest v None s t others = absurd (no-states w ws (sym (ap (λ (x : Option World).
            then_states w (states_from (plain_problem p) x plan)) s ∙ ap (then_states w) t) ∙ e))
        by-rest v (Some vs) s t others = others v vs (step-passes w v a world s) t

        by-step : (o : Option World) → step (plain_problem p) w a ≡ o →
            ((u : World) (us : List World) → WorldPasses test u → states_from (plain_problem p) (Some u) plan ≡ Some us →
            Each (λ x. ValuesPass test x.args) plan) → Each (λ x. ValuesPass test x.args) (a ∷ plan)
        by-step None s others = absurd (no-states w ws (sym (ap (λ (x : Option World). then_states w (states_from (plain_problem p) x plan))
            s) ∙ e))
        by-step (Some v) s others = (step-arguments w v a world s, by-rest v (states_from (plain_problem p) (Some v) plan) s refl others)

pub arguments-of-executed-pass : ExecutedArgumentsPass
arguments-of-executed-pass p test plan ws whole passes e = plan-passes test whole p passes (plain_problem p).first plan ws
    (first-passes test p passes) e

-- The pattern of a bound is true of the bound's tuples.
use Rattle.std.proofs.Common.{◌≡◌, ◌<◌, ◌≤◌, ◌-◌, ℕ, List, [], ◌∷◌, ◌++◌, map, take, length, length-append, Bool, true, false, true≢false}
use Rattle.std.proofs.Common.{Option, Some, None, refl, sym, ap, ◌∙◌, subst, inl, inr, arith}
use Rattle.std.specs.Prelude.{IsTrue, slice_get}
use Rattle.tl_eval.specs.PatternOf.{part_for, AreParts, HasParts, IsPatternOfArgs, IsPatternOf}
use Rattle.tl_eval.proofs.ArityLaws.{AreFew}
use Rattle.tl_eval.proofs.PartLaws.{part-values, no-value, no-values, each-variable, no-more-variables}
use Rattle.tl_syntax.specs.declared.bound.Bound.{Bound}
use Rattle.tl_syntax.specs.declared.bound.Bound.TheVariants as bound
use Rattle.tl_syntax.specs.declared.value.Value.{Value}
use Rattle.tl_syntax.specs.declared.variable.Arg.{Arg}
use Rattle.tl_syntax.specs.declared.variable.Var.{Var}
use Rattle.tl_syntax.specs.Assignment.{Assignment, bind}
use Rattle.tl_syntax.specs.BoundVariables.{args_of, is_that_variable, stands_in, OccurIn, DifferInSlot}
use Rattle.tl_syntax.specs.Fits.{BoundFits}
use Rattle.tl_syntax.specs.Lists.{AtLeastOne, Among}
use Rattle.tl_syntax.specs.Signature.{Signature}
use Rattle.tl_syntax.proofs.ListLaws.{Each-Among, One-over, One-append, any-iff}
use Rattle.tl_terms.specs.Bounds.{arg_value, arg_values, fact_in, same_value, bound_true}
use Rattle.tl_terms.specs.Terms.{prepend, place_value}
use Rattle.tl_terms.specs.World.{World, value_at}
use Rattle.tl_match.specs.declared.pattern.Part.{Part}
use Rattle.tl_match.specs.declared.pattern.Pattern.{Pattern}
use Rattle.tl_match.specs.Patterns.{filled, parts_of, is_true_of, makes_true, IsLawful}

-- ---- the variables stand among the arguments

-- variables of different slots that all stand among the arguments, and are few
pub record Stand (ss : List Var) (xs : List Arg) : Type 0 where
  pub differ : DifferInSlot ss
  pub stand : (s : Var) → Among s ss → AtLeastOne (λ a. is_that_variable s a ≡ true) xs
  pub few : length ss ≤ 9
  pub short : length xs ≤ 9

stand-in : (ss : List Var) (b : Bound) → OccurIn ss b → (s : Var) → Among s ss → AtLeastOne (λ a. is_that_variable s a ≡ true) (args_of b)
stand-in ss b o s m = (any-iff (λ a. is_that_variable s a ≡ true) (is_that_variable s) (λ x. (λ q. q, λ q. q)) (args_of b)).1
    ((Each-Among (λ u. IsTrue (stands_in u b)) ss).0 o s m)

pub few-variables : (ss : List Var) (b : Bound) → DifferInSlot ss → OccurIn ss b → length (args_of b) ≤ 9 → length ss ≤ 9
few-variables ss b d o h = let k = no-more-variables ss (args_of b) d (stand-in ss b o) in omega arith

pub stands : (ss : List Var) (b : Bound) → DifferInSlot ss → OccurIn ss b → length (args_of b) ≤ 9 → Stand ss (args_of b)
stands ss b d o h = record { differ = d; stand = stand-in ss b o; few = few-variables ss b d o h; short = h }

-- the same where the first argument stands last
stands-last : (ss : List Var) (x : Arg) (xs : List Arg) → Stand ss (x ∷ xs) → Stand ss (xs ++ x ∷ [])
stands-last ss x xs h = record {
  differ = h.differ;
  stand = λ s m. (One-append (λ a. is_that_variable s a ≡ true) xs (x ∷ [])).1 (elim (h.stand s m) [ inl k ↦ inr (inl k) | inr k ↦ inl k ]);
  few = h.few;
  short = let k = h.short in let l = length-append xs (x ∷ []) in omega arith;
}

-- ---- the pattern is lawful

lawful : (ss : List Var) (e : Assignment) (place : Bool) (n : ℕ) (xs : List Arg) (p : Pattern) → Stand ss xs →
    (place ≡ true → 1 ≤ length xs) → HasParts ss e place n xs p → IsLawful p
lawful ss e place n xs p k some h = record {
  parts = subst (λ m. m ≤ 9) (sym h.count) k.short;
  variables = subst (λ m. m ≤ 9) (sym h.free) k.few;
  with_value = λ q. subst (λ m. 1 ≤ m) (sym h.count) (some (sym h.kind ∙ q));
  each = λ m. let each = each-variable ss e xs (parts_of p) h.parts k.differ k.stand m in
      (λ a. subst (λ j. m < j) (sym h.free) (each.0 a), λ a. each.1 (subst (λ j. m < j) h.free a));
}

-- ---- facts

fact-same : (ss : List Var) (e : Assignment) (n : ℕ) (xs : List Arg) (p : Pattern) → HasParts ss e false n xs p →
    (w : World) (t : List Value) → length t ≡ length ss → makes_true w p t ≡ fact_in w n (arg_values (bind ss t e) xs)
fact-same ss e n xs p h w t size =
    (λ i. is_true_of w (h.kind i) (h.named i) (filled (parts_of p) t)) ∙
    ap (fact_in w n) (sym (part-values ss e xs (parts_of p) t size h.parts))

fact-never : (ss : List Var) (e : Assignment) (n : ℕ) (xs : List Arg) → Among None (map (part_for ss e) xs) → (w : World) (t : List Value) →
    length t ≡ length ss → fact_in w n (arg_values (bind ss t e) xs) ≡ false
fact-never ss e n xs h w t size = ap (fact_in w n) (no-values ss e xs t size h)

not-place : {A : Type 0} → false ≡ true → A
not-place h = absurd (true≢false (sym h))

pattern-Fact : (ss : List Var) (e : Assignment) (n : ℕ) (xs : List Arg) (r : Option Pattern) → Stand ss xs →
    IsPatternOfArgs ss e false n xs r → IsPatternOf ss e (bound.Fact n xs) r
unfolding bound_true
pattern-Fact ss e n xs None k h = λ s t size. fact-never ss e n xs h s.world t size
pattern-Fact ss e n xs (Some p) k h = record {
  lawful = lawful ss e false n xs p k (λ q. not-place q) h;
  free = h.free;
  same = λ s t size.
      fact-same ss e n xs p h s.world t size;
}

pattern-GoalFact : (ss : List Var) (e : Assignment) (n : ℕ) (xs : List Arg) (r : Option Pattern) → Stand ss xs →
    IsPatternOfArgs ss e false n xs r → IsPatternOf ss e (bound.GoalFact n xs) r
unfolding bound_true
pattern-GoalFact ss e n xs None k h = λ s t size. fact-never ss e n xs h s.goal t size
pattern-GoalFact ss e n xs (Some p) k h = record {
  lawful = lawful ss e false n xs p k (λ q. not-place q) h;
  free = h.free;
  same =
      λ s t size. fact-same ss e n xs p h s.goal t size;
}

pattern-GoalNot : (ss : List Var) (e : Assignment) (n : ℕ) (xs : List Arg) (r : Option Pattern) → Stand ss xs →
    IsPatternOfArgs ss e false n xs r → IsPatternOf ss e (bound.GoalNot n xs) r
unfolding bound_true
pattern-GoalNot ss e n xs None k h = λ s t size. fact-never ss e n xs h s.avoid t size
pattern-GoalNot ss e n xs (Some p) k h = record {
  lawful = lawful ss e false n xs p k (λ q. not-place q) h;
  free = h.free;
  same =
      λ s t size. fact-same ss e n xs p h s.avoid t size;
}

-- ---- places

-- the values of arguments are those of all but the last, and that of the last
record Parted (e : Assignment) (xs : List Arg) (x : Arg) (vs : List Value) : Type 0 where
  front : List Value
  last : Value
  fronts : arg_values e xs ≡ Some front
  lasts : arg_value e x ≡ Some last
  whole : front ++ last ∷ [] ≡ vs

parted : (e : Assignment) (xs : List Arg) (x : Arg) (vs : List Value) → arg_values e (xs ++ x ∷ []) ≡ Some vs → Parted e xs x vs
parted e [] x vs h = (elim (arg_value e x) as (λ o. arg_value e x ≡ o → prepend o (Some []) ≡ Some vs → Parted e [] x vs) [
  | None ↦ λ q k. absurd (let z : ⊥ = cc in z)
  | Some v ↦ λ q k. record { front = []; last = v; fronts = refl; lasts = q; whole = let f : v ∷ [] ≡ vs = cc in f }
]) refl h
parted e (y ∷ xs) x vs h = (elim (arg_value e y) as (λ o. arg_value e y ≡ o → prepend o (arg_values e (xs ++ x ∷ [])) ≡ Some vs →
    Parted e (y ∷ xs) x vs) [
      | None ↦ λ q k. absurd (let z : ⊥ = cc in z)
      | Some u ↦ λ q. (elim (arg_values e (xs ++ x ∷ [])) as (λ o. arg_values e (xs ++ x ∷ []) ≡ o → prepend (Some u) o ≡ Some vs →
          Parted e (y ∷ xs) x vs) [
            | None ↦ λ r k. absurd (let z : ⊥ = cc in z)
            | Some us ↦ λ r k. let m = parted e xs x us r in let f : u ∷ us ≡ vs = cc in
                record {
                  front = u ∷ m.front;
                  last = m.last;
                  fronts = λ i. prepend (q i) (m.fronts i);
                  lasts = m.lasts;
                  whole =
                      ap (λ ws. u ∷ ws) m.whole ∙ f;
                }
          ]) refl
    ]) refl h

last-true : (w : World) (f : ℕ) (vs : List Value) (v : Value) → is_true_of w true f (vs ++ v ∷ []) ≡
    same_value (value_at w (f, vs)) (Some v)
last-true w f vs v =
    let n : length (vs ++ v ∷ []) - 1 ≡ length vs = let l = length-append vs (v ∷ []) in omega arith in
    ap (λ m. same_value (value_at w (f, take m (vs ++ v ∷ []))) (slice_get (vs ++ v ∷ []) m)) n ∙
    (λ i. same_value (value_at w (f, front-is vs i)) (last-is vs i))
  where
    front-is : (us : List Value) → take (length us) (us ++ v ∷ []) ≡ us
    front-is [] = refl
    front-is (u ∷ us) = ap (λ ws. u ∷ ws) (front-is us)

    last-is : (us : List Value) → slice_get (us ++ v ∷ []) (length us) ≡ Some v
    last-is [] = refl
    last-is (u ∷ us) = last-is us

place-same : (ss : List Var) (e : Assignment) (n : ℕ) (xs : List Arg) (x : Arg) (p : Pattern) → HasParts ss e true n (xs ++ x ∷ []) p →
    (w : World) (t : List Value) → length t ≡ length ss
    → makes_true w p t ≡ same_value (place_value w n (arg_values (bind ss t e) xs)) (arg_value (bind ss t e) x)
place-same ss e n xs x p h w t size =
    let m = parted (bind ss t e) xs x (filled (parts_of p) t) (part-values ss e (xs ++ x ∷ []) (parts_of p) t size h.parts) in
    (λ i. is_true_of w (h.kind i) (h.named i) (filled (parts_of p) t))
    ∙ (ap (is_true_of w true n) (sym m.whole) ∙ (last-true w n m.front m.last ∙
    (λ i. same_value (place_value w n (sym m.fronts i)) (sym m.lasts i))))

none-same : (o : Option Value) → same_value o None ≡ false
none-same None = refl
none-same (Some v) = refl

place-never : (ss : List Var) (e : Assignment) (n : ℕ) (xs : List Arg) (x : Arg) → Among None (map (part_for ss e) (xs ++ x ∷ [])) →
    (w : World) (t : List Value) → length t ≡ length ss
    → same_value (place_value w n (arg_values (bind ss t e) xs)) (arg_value (bind ss t e) x) ≡ false
place-never ss e n xs x h w t size = elim ((One-append (λ a. part_for ss e a ≡ None) xs (x ∷ [])).0
    ((One-over (λ o. o ≡ None) (part_for ss e) (xs ++ x ∷ [])).0 h)) [
      | inl k ↦ ap (λ o. same_value (place_value w n o) (arg_value (bind ss t e) x))
          (no-values ss e xs t size ((One-over (λ o. o ≡ None) (part_for ss e) xs).1 k))
      | inr k ↦ elim k [
        | inl q ↦ ap (same_value (place_value w n (arg_values (bind ss t e) xs))) (no-value ss e x t size q) ∙
            none-same (place_value w n (arg_values (bind ss t e) xs))
        | inr q ↦ absurd q
      ]
    ]

some-part : (xs : List Arg) (x : Arg) → 1 ≤ length (xs ++ x ∷ [])
some-part xs x = let l = length-append xs (x ∷ []) in omega arith

pattern-Place : (ss : List Var) (e : Assignment) (n : ℕ) (xs : List Arg) (x : Arg) (r : Option Pattern) → Stand ss (x ∷ xs) →
    IsPatternOfArgs ss e true n (xs ++ x ∷ []) r → IsPatternOf ss e (bound.Place n xs x) r
unfolding bound_true
pattern-Place ss e n xs x None k h = λ s t size. place-never ss e n xs x h s.world t size
pattern-Place ss e n xs x (Some p) k h = record {
  lawful = lawful ss e true n (xs ++ x ∷ []) p (stands-last ss x xs k)
      (λ q. some-part xs x) h;
  free = h.free;
  same = λ s t size. place-same ss e n xs x p h s.world t size;
}

pattern-GoalPlace : (ss : List Var) (e : Assignment) (n : ℕ) (xs : List Arg) (x : Arg) (r : Option Pattern) → Stand ss (x ∷ xs) →
    IsPatternOfArgs ss e true n (xs ++ x ∷ []) r → IsPatternOf ss e (bound.GoalPlace n xs x) r
unfolding bound_true
pattern-GoalPlace ss e n xs x None k h = λ s t size. place-never ss e n xs x h s.goal t size
pattern-GoalPlace ss e n xs x (Some p) k h = record {
  lawful = lawful ss e true n (xs ++ x ∷ []) p (stands-last ss x xs k)
      (λ q. some-part xs x) h;
  free = h.free;
  same = λ s t size. place-same ss e n xs x p h s.goal t size;
}

-- ---- the pattern of a place, part by part

-- where an argument has no part
pub no-parts : (ss : List Var) (e : Assignment) (xs : List Arg) (x : Arg) (o : Option (List Part)) → AreParts ss e xs o → o ≡ None →
    Among None (map (part_for ss e) (xs ++ x ∷ []))
no-parts ss e xs x o h q =
    (One-over (λ y. y ≡ None) (part_for ss e) (xs ++ x ∷ [])).1
    ((One-append (λ a. part_for ss e a ≡ None) xs (x ∷ [])).1 (inl ((One-over (λ y. y ≡ None) (part_for ss e) xs).0
    (subst (AreParts ss e xs) q h))))

-- where the value has no part
pub no-last : (ss : List Var) (e : Assignment) (xs : List Arg) (x : Arg) (o : Option Part) → o ≡ part_for ss e x → o ≡ None →
    Among None (map (part_for ss e) (xs ++ x ∷ []))
no-last ss e xs x o h q =
    (One-over (λ y. y ≡ None) (part_for ss e) (xs ++ x ∷ [])).1
    ((One-append (λ a. part_for ss e a ≡ None) xs (x ∷ [])).1 (inr (inl (sym h ∙ q))))

-- ---- the pattern of a bound, case by case

pub at-Fact : (ss : List Var) (e : Assignment) (b : Bound) (n : ℕ) (xs us : List Arg) (r : Option Pattern) → Stand ss (args_of b) → b ≡
    bound.Fact n xs → us ≡ xs → IsPatternOfArgs ss e false n us r → IsPatternOf ss e b r
at-Fact ss e b n xs us r k q p h = subst (λ y. IsPatternOf ss e y r) (sym q)
    (pattern-Fact ss e n xs r (subst (λ y. Stand ss (args_of y)) q k) (subst (λ y. IsPatternOfArgs ss e false n y r) p h))

pub at-GoalFact : (ss : List Var) (e : Assignment) (b : Bound) (n : ℕ) (xs us : List Arg) (r : Option Pattern) → Stand ss (args_of b) → b ≡
    bound.GoalFact n xs → us ≡ xs → IsPatternOfArgs ss e false n us r → IsPatternOf ss e b r
at-GoalFact ss e b n xs us r k q p h = subst (λ y. IsPatternOf ss e y r) (sym q)
    (pattern-GoalFact ss e n xs r (subst (λ y. Stand ss (args_of y)) q k) (subst (λ y. IsPatternOfArgs ss e false n y r) p h))

pub at-GoalNot : (ss : List Var) (e : Assignment) (b : Bound) (n : ℕ) (xs us : List Arg) (r : Option Pattern) → Stand ss (args_of b) → b ≡
    bound.GoalNot n xs → us ≡ xs → IsPatternOfArgs ss e false n us r → IsPatternOf ss e b r
at-GoalNot ss e b n xs us r k q p h = subst (λ y. IsPatternOf ss e y r) (sym q)
    (pattern-GoalNot ss e n xs r (subst (λ y. Stand ss (args_of y)) q k) (subst (λ y. IsPatternOfArgs ss e false n y r) p h))

pub at-Place : (ss : List Var) (e : Assignment) (b : Bound) (n : ℕ) (xs us : List Arg) (x : Arg) (r : Option Pattern) →
    Stand ss (args_of b) → b ≡ bound.Place n xs x → us ≡ xs → IsPatternOfArgs ss e true n (us ++ x ∷ []) r → IsPatternOf ss e b r
at-Place ss e b n xs us x r k q p h = subst (λ y. IsPatternOf ss e y r) (sym q)
    (pattern-Place ss e n xs x r (subst (λ y. Stand ss (args_of y)) q k) (subst (λ y. IsPatternOfArgs ss e true n (y ++ x ∷ []) r) p h))

pub at-GoalPlace : (ss : List Var) (e : Assignment) (b : Bound) (n : ℕ) (xs us : List Arg) (x : Arg) (r : Option Pattern) →
    Stand ss (args_of b) → b ≡ bound.GoalPlace n xs x → us ≡ xs → IsPatternOfArgs ss e true n (us ++ x ∷ []) r → IsPatternOf ss e b r
at-GoalPlace ss e b n xs us x r k q p h = subst (λ y. IsPatternOf ss e y r) (sym q)
    (pattern-GoalPlace ss e n xs x r (subst (λ y. Stand ss (args_of y)) q k) (subst (λ y. IsPatternOfArgs ss e true n (y ++ x ∷ []) r) p h))

-- a bound that fits a domain of small arities has few arguments
pub bound-few : (g : Signature) → AreFew g.predicates → AreFew g.functions → (b : Bound) → BoundFits g b → length (args_of b) ≤ 9
bound-few g p f (bound.Fact n xs) h = let k : length xs ≤ 8 = p n (length xs) h.0 in omega arith
bound-few g p f (bound.Place n xs x) h = let k : length xs ≤ 8 = f n (length xs) h.0.0 in omega arith
bound-few g p f (bound.GoalFact n xs) h = let k : length xs ≤ 8 = p n (length xs) h.0 in omega arith
bound-few g p f (bound.GoalPlace n xs x) h = let k : length xs ≤ 8 = f n (length xs) h.0.0 in omega arith
bound-few g p f (bound.GoalNot n xs) h = let k : length xs ≤ 8 = p n (length xs) h.0 in omega arith

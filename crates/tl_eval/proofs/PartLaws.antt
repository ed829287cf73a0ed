-- The parts for the arguments of a bound.
use Rattle.std.proofs.Common.{◌≡◌, ◌↔◌, ◌<◌, ◌≤◌, ◌+◌, ℕ, zero, suc, List, [], ◌∷◌, map, length, cond, not, ◌==◌, nat_lt, Bool, true, false}
use Rattle.std.proofs.Common.{true≢false, Option, Some, None, refl, sym, ap, ◌∙◌, subst, inl, inr, arith, eqb-true, eq-eqb}
use borrow.Author.Tests.{ne_eqb, ltb-true, ltb-false, lt-ltb, le-ltb}
use Rattle.std.specs.Prelude.{slice_get}
use Rattle.std.specs.List.{position, position_or_len}
use Rattle.std.specs.Option.{option_map}
use Rattle.std.proofs.lemmas.Option.{slice_get-get_or}
use Rattle.tl_eval.specs.PatternOf.{free_or_fixed, part_for}
use Rattle.tl_syntax.specs.declared.value.Value.{Value}
use Rattle.tl_syntax.specs.declared.value.Value.TheVariants.{Sym}
use Rattle.tl_syntax.specs.declared.variable.Arg.{Arg}
use Rattle.tl_syntax.specs.declared.variable.Arg.TheVariants as arg
use Rattle.tl_syntax.specs.declared.variable.Var.{Var}
use Rattle.tl_syntax.specs.Assignment.{Assignment, bind}
use Rattle.tl_syntax.specs.BoundVariables.{is_that_variable, DifferInSlot}
use Rattle.tl_syntax.specs.Lists.{AtLeastOne, Among}
use Rattle.tl_syntax.proofs.ListLaws.{Each-Among, One-over, one_out, one_in}
use Rattle.tl_terms.specs.Bounds.{arg_value, arg_values}
use Rattle.tl_terms.specs.Terms.{prepend}
use Rattle.tl_match.specs.declared.pattern.Part.{Part}
use Rattle.tl_match.specs.declared.pattern.Part.TheVariants.{Fixed, Free}
use Rattle.tl_match.specs.Patterns.{fill, filled}

-- ---- the position of a variable

-- the position of the first that passes, a step at a time
abbrev first_at : {A : Type 0} → (A → Bool) → List A → Option ℕ
first_at p [] = None
first_at p (x ∷ xs) = cond (p x) (Some 0) (option_map suc (first_at p xs))

position-step : (a n : ℕ) → cond (nat_lt (1 + a) (suc n)) (Some (1 + a)) None ≡ option_map suc (cond (nat_lt a n) (Some a) None)
position-step a n = (elim (nat_lt a n) as (λ b. nat_lt a n ≡ b → cond (nat_lt (1 + a) (suc n)) (Some (1 + a)) None ≡
    option_map suc (cond b (Some a) None)) [
      | true ↦ λ q. let l = ltb-true a n q in ap (λ b. cond b (Some (1 + a)) None) (lt-ltb (1 + a) (suc n) (omega arith)) ∙
          ap (λ k. Some k) (let e : 1 + a ≡ suc a = omega arith in e)
      | false ↦ λ q. let l = ltb-false a n q in ap (λ b. cond b (Some (1 + a)) None) (le-ltb (1 + a) (suc n) (omega arith))
    ]) refl

position-first : {A : Type 0} (p : A → Bool) (xs : List A) → position p xs ≡ first_at p xs
position-first p [] = refl
position-first p (x ∷ xs) =
    elim (p x) as (λ b. cond (nat_lt (cond (not b) (1 + position_or_len p xs) 0) (suc (length xs)))
    (Some (cond (not b) (1 + position_or_len p xs) 0)) None ≡ cond b (Some 0) (option_map suc (first_at p xs))) [
      | true ↦ ap (λ b. cond b (Some 0) None) (lt-ltb 0 (suc (length xs)) (omega arith))
      | false ↦ position-step (position_or_len p xs) (length xs) ∙ ap (option_map suc) (position-first p xs)
    ]

first-below : {A : Type 0} (p : A → Bool) (xs : List A) (n : ℕ) → first_at p xs ≡ Some n → n < length xs
first-below p [] n h = absurd (let z : ⊥ = cc in z)
first-below p (x ∷ xs) n h = (elim (p x) as (λ b. cond b (Some 0) (option_map suc (first_at p xs)) ≡ Some n → n < suc (length xs)) [
  | true ↦ λ k. let e : 0 ≡ n = cc in omega arith
  | false ↦ (elim (first_at p xs) as (λ o. first_at p xs ≡ o → option_map suc o ≡ Some n → n < suc (length xs)) [
    | None ↦ λ q k. absurd (let z : ⊥ = cc in z)
    | Some m ↦ λ q k. let e : suc m ≡ n = cc in let l = first-below p xs m q in omega arith
  ]) refl
]) h

-- the value that is at the position, where there is one, and else another
abbrev picked : Option ℕ → List Value → Option Value → Option Value
picked (Some n) t o = slice_get t n
picked None t o = o

picked-later : (v : Value) (t : List Value) (o : Option Value) (at : Option ℕ) → picked (option_map suc at) (v ∷ t) o ≡ picked at t o
picked-later v t o None = refl
picked-later v t o (Some n) = refl

-- what a slot has once the variables have the values of the tuple
bind-at : (ss : List Var) (t : List Value) (e : Assignment) (q : ℕ) → length t ≡ length ss → bind ss t e q ≡
    picked (first_at (λ u. q == u.slot) ss) t (e q)
bind-at [] t e q h = refl
bind-at (s ∷ ss) [] e q h = absurd (let z : ⊥ = omega arith in z)
bind-at (s ∷ ss) (v ∷ t) e q h =
    elim (q == s.slot) as (λ b. cond b (Some v) (bind ss t e q) ≡ picked (cond b (Some 0) (option_map suc (first_at (λ u. q == u.slot) ss)))
    (v ∷ t) (e q)) [
      | true ↦ refl
      | false ↦ bind-at ss t e q (omega arith) ∙ sym (picked-later v t (e q) (first_at (λ u. q == u.slot) ss))
    ]

get-there : {A : Type 0} (xs : List A) (n : ℕ) → n < length xs → (x : A) × (slice_get xs n ≡ Some x)
get-there [] n h = absurd (let z : ⊥ = omega arith in z)
get-there (x ∷ xs) zero h = (x, refl)
get-there (x ∷ xs) (suc n) h = get-there xs n (omega arith)

among-got : {A : Type 0} (xs : List A) (n : ℕ) (x : A) → slice_get xs n ≡ Some x → Among x xs
among-got [] n x h = absurd (let z : ⊥ = cc in z)
among-got (y ∷ xs) zero x h = inl (let e : y ≡ x = cc in e)
among-got (y ∷ xs) (suc n) x h = inr (among-got xs n x h)

-- variables of different slots are found at their own positions
own-position : (ss : List Var) (n : ℕ) (s : Var) → slice_get ss n ≡ Some s → DifferInSlot ss → first_at (λ u. s.slot == u.slot) ss ≡ Some n
own-position [] n s h d = absurd (let z : ⊥ = cc in z)
own-position (u ∷ ss) zero s h d =
    let e : u ≡ s = cc in
    ap (λ b. cond b (Some 0) (option_map suc (first_at (λ x. s.slot == x.slot) ss)))
    (eq-eqb s.slot u.slot (ap (λ (x : Var). x.slot) (sym e)))
own-position (u ∷ ss) (suc n) s h d =
    ap (λ b. cond b (Some 0) (option_map suc (first_at (λ x. s.slot == x.slot) ss)))
    (ne_eqb s.slot u.slot ((Each-Among (λ x. x.slot ≡ u.slot → ⊥) ss).0 d.0 s (among-got ss n s h)))
    ∙ ap (option_map suc) (own-position ss n s h d.1)

-- ---- the part of an argument

pub part-value-itself : (ss : List Var) (e : Assignment) (x : Arg) (v : Value) → x ≡ arg.Val v → Some (Fixed v) ≡ part_for ss e x
part-value-itself ss e x v h = ap (part_for ss e) (sym h)

pub part-free : (ss : List Var) (e : Assignment) (x : Arg) (s : Var) (at : Option ℕ) (n : ℕ) → x ≡ arg.Var s → at ≡
    position (λ u. s.slot == u.slot) ss → at ≡ Some n → Some (Free n) ≡ part_for ss e x
part-free ss e x s at n h k l = ap (λ o. free_or_fixed o (e s.slot)) (sym l ∙ k) ∙ ap (part_for ss e) (sym h)

pub part-known : (ss : List Var) (e : Assignment) (x : Arg) (s : Var) (at : Option ℕ) (known : Option Value) (v : Value) → x ≡ arg.Var s →
    at ≡ position (λ u. s.slot == u.slot) ss → at ≡ None → known ≡ e s.slot → known ≡ Some v → Some (Fixed v) ≡ part_for ss e x
part-known ss e x s at known v h k l m n = (λ i. free_or_fixed ((sym l ∙ k) i) ((sym n ∙ m) i)) ∙ ap (part_for ss e) (sym h)

pub part-none : (ss : List Var) (e : Assignment) (x : Arg) (s : Var) (at : Option ℕ) (known : Option Value) → x ≡ arg.Var s → at ≡
    position (λ u. s.slot == u.slot) ss → at ≡ None → known ≡ e s.slot → known ≡ None → None ≡ part_for ss e x
part-none ss e x s at known h k l m n = (λ i. free_or_fixed ((sym l ∙ k) i) ((sym n ∙ m) i)) ∙ ap (part_for ss e) (sym h)

-- ---- parts and their values

picked-there : (t : List Value) (n k : ℕ) → length t ≡ k → n < k → slice_get t n ≡ Some (fill t (Free n))
picked-there t n k size h = slice_get-get_or t n (Sym 0) (omega arith)

-- an argument's value is its part with the tuple put in
pub part-value : (ss : List Var) (e : Assignment) (x : Arg) (p : Part) (t : List Value) → length t ≡ length ss → part_for ss e x ≡ Some p →
    arg_value (bind ss t e) x ≡ Some (fill t p)
part-value ss e (arg.Val v) p t size h = let q : Fixed v ≡ p = cc in ap (λ y. Some (fill t y)) q
part-value ss e (arg.Var s) p t size h =
    bind-at ss t e s.slot size ∙ ((elim (first_at (λ u. s.slot == u.slot) ss) as
    (λ o. first_at (λ u. s.slot == u.slot) ss ≡ o → free_or_fixed o (e s.slot) ≡ Some p → picked o t (e s.slot) ≡ Some (fill t p)) [
      | Some n ↦ λ q k. let f : Free n ≡ p = cc in picked-there t n (length ss) size (first-below (λ u. s.slot == u.slot) ss n q) ∙
          ap (λ y. Some (fill t y)) f
      | None ↦ λ q. elim (e s.slot) as (λ o. free_or_fixed None o ≡ Some p → o ≡ Some (fill t p)) [
        | Some v ↦ λ k. let f : Fixed v ≡ p = cc in ap (λ y. Some (fill t y)) f
        | None ↦ λ k. absurd (let z : ⊥ = cc in z)
      ]
    ]) refl (ap (λ o. free_or_fixed o (e s.slot)) (sym (position-first (λ u. s.slot == u.slot) ss)) ∙ h))

-- an argument that has no part has no value
pub no-value : (ss : List Var) (e : Assignment) (x : Arg) (t : List Value) → length t ≡ length ss → part_for ss e x ≡ None →
    arg_value (bind ss t e) x ≡ None
no-value ss e (arg.Val v) t size h = absurd (let z : ⊥ = cc in z)
no-value ss e (arg.Var s) t size h =
    bind-at ss t e s.slot size ∙ ((elim (first_at (λ u. s.slot == u.slot) ss) as
    (λ o. free_or_fixed o (e s.slot) ≡ None → picked o t (e s.slot) ≡ None) [
      | Some n ↦ λ k. absurd (let z : ⊥ = cc in z)
      | None ↦ elim (e s.slot) as (λ o. free_or_fixed None o ≡ None → o ≡ None) [
        | Some v ↦ λ k. absurd (let z : ⊥ = cc in z)
        | None ↦ λ k. refl
      ]
    ]) (ap (λ o. free_or_fixed o (e s.slot)) (sym (position-first (λ u. s.slot == u.slot) ss)) ∙ h))

-- the values of arguments are their parts with the tuple put in
pub part-values : (ss : List Var) (e : Assignment) (xs : List Arg) (ps : List Part) (t : List Value) → length t ≡ length ss →
    map (λ p. Some p) ps ≡ map (part_for ss e) xs → arg_values (bind ss t e) xs ≡ Some (filled ps t)
part-values ss e [] [] t size h = refl
part-values ss e [] (p ∷ ps) t size h = absurd (let z : ⊥ = cc in z)
part-values ss e (x ∷ xs) [] t size h = absurd (let z : ⊥ = cc in z)
part-values ss e (x ∷ xs) (p ∷ ps) t size h =
    let first : part_for ss e x ≡ Some p = cc in
    let later : map (λ q. Some q) ps ≡ map (part_for ss e) xs = cc in
    λ i. prepend (part-value ss e x p t size first i) (part-values ss e xs ps t size later i)

-- where some argument has no part, there are no values
pub no-values : (ss : List Var) (e : Assignment) (xs : List Arg) (t : List Value) → length t ≡ length ss →
    Among None (map (part_for ss e) xs) → arg_values (bind ss t e) xs ≡ None
no-values ss e [] t size h = absurd h
no-values ss e (x ∷ xs) t size h = elim h [
  | inl k ↦ ap (λ o. prepend o (arg_values (bind ss t e) xs)) (no-value ss e x t size k)
  | inr k ↦ ap (prepend (arg_value (bind ss t e) x)) (no-values ss e xs t size k) ∙ nothing-after (arg_value (bind ss t e) x)
]
  where
    nothing-after : (o : Option Value) → prepend o None ≡ None
    nothing-after None = refl
    nothing-after (Some v) = refl

-- ---- the variables among the parts

pub free-below : (ss : List Var) (e : Assignment) (x : Arg) (n : ℕ) → part_for ss e x ≡ Some (Free n) → n < length ss
free-below ss e (arg.Val v) n h = absurd (let z : ⊥ = cc in z)
free-below ss e (arg.Var s) n h =
    (elim (first_at (λ u. s.slot == u.slot) ss) as (λ o. first_at (λ u. s.slot == u.slot) ss ≡ o → free_or_fixed o (e s.slot) ≡
    Some (Free n) → n < length ss) [
      | Some m ↦ λ q k. let f : m ≡ n = cc in subst (λ j. j < length ss) f (first-below (λ u. s.slot == u.slot) ss m q)
      | None ↦ λ q. elim (e s.slot) as (λ o. free_or_fixed None o ≡ Some (Free n) → n < length ss) [
        | Some v ↦ λ k. absurd (let z : ⊥ = cc in z)
        | None ↦ λ k. absurd (let z : ⊥ = cc in z)
      ]
    ]) refl (ap (λ o. free_or_fixed o (e s.slot)) (sym (position-first (λ u. s.slot == u.slot) ss)) ∙ h)

free-part : (ss : List Var) (e : Assignment) (x : Arg) (n : ℕ) (s : Var) → slice_get ss n ≡ Some s → DifferInSlot ss →
    is_that_variable s x ≡ true → part_for ss e x ≡ Some (Free n)
free-part ss e (arg.Val v) n s h d k = absurd (true≢false (sym k))
free-part ss e (arg.Var u) n s h d k =
    ap (λ q. free_or_fixed (position (λ x. q == x.slot) ss) (e u.slot)) (eqb-true u.slot s.slot k)
    ∙ ap (λ o. free_or_fixed o (e u.slot)) (position-first (λ x. s.slot == x.slot) ss ∙ own-position ss n s h d)

-- the variables among the parts are those of the list, where each stands among the arguments
pub each-variable : (ss : List Var) (e : Assignment) (xs : List Arg) (ps : List Part) → map (λ p. Some p) ps ≡ map (part_for ss e) xs →
    DifferInSlot ss
    → ((s : Var) → Among s ss → AtLeastOne (λ a. is_that_variable s a ≡ true) xs) → (n : ℕ) → Among (Free n) ps ↔ (n < length ss)
each-variable ss e xs ps h d o n = (
  λ m.
      let there : Among (Some (Free n)) (map (λ p. Some p) ps) = (One-over (λ y. y ≡ Some (Free n)) (λ p. Some p) ps).1
      (one_in (λ p. Some p ≡ Some (Free n)) (Free n) ps m refl) in
      let w = one_out (λ x. part_for ss e x ≡ Some (Free n)) xs ((One-over (λ y. y ≡ Some (Free n)) (part_for ss e) xs).0
      (subst (λ ys. Among (Some (Free n)) ys) h there)) in
      free-below ss e w.0 n w.1.1,
  λ k.
      let s = get-there ss n k in
      let a = one_out (λ a. is_that_variable s.0 a ≡ true) xs (o s.0 (among-got ss n s.0 s.1)) in
      let there : Among (Some (Free n)) (map (part_for ss e) xs) = (One-over (λ y. y ≡ Some (Free n)) (part_for ss e) xs).1
      (one_in (λ x. part_for ss e x ≡ Some (Free n)) a.0 xs a.1.0 (free-part ss e a.0 n s.0 s.1 d a.1.1)) in
      let w = one_out (λ p. Some p ≡ Some (Free n)) ps ((One-over (λ y. y ≡ Some (Free n)) (λ p. Some p) ps).0
      (subst (λ ys. Among (Some (Free n)) ys) (sym h) there)) in
      let e : Some w.0 ≡ Some (Free n) = w.1.1 in
      let f : w.0 ≡ Free n = cc in
      subst (λ p. Among p ps) f w.1.0,
)

-- ---- how many variables there are

both-name : (s u : Var) (x : Arg) → is_that_variable s x ≡ true → is_that_variable u x ≡ true → u.slot ≡ s.slot
both-name s u (arg.Val v) h k = absurd (true≢false (sym h))
both-name s u (arg.Var y) h k = sym (eqb-true y.slot u.slot k) ∙ eqb-true y.slot s.slot h

-- the other arguments than one that is the variable
pub record Without (s : Var) (xs ys : List Arg) : Type 0 where
  pub one_less : length xs ≡ suc (length ys)
  pub others : (u : Var) → (u.slot ≡ s.slot → ⊥) → AtLeastOne (λ a. is_that_variable u a ≡ true) xs
      → AtLeastOne (λ a. is_that_variable u a ≡ true) ys

without-one : (s : Var) (xs : List Arg) → AtLeastOne (λ a. is_that_variable s a ≡ true) xs → (ys : List Arg) × Without s xs ys
without-one s [] h = absurd h
without-one s (x ∷ xs) h = elim h [
  | inl e ↦ (xs, record { one_less = refl; others = λ u d m. elim m [ inl k ↦ absurd (d (both-name s u x e k)) | inr k ↦ k ] })
  | inr k ↦ (let r = without-one s xs k in (
    x ∷ r.0,
    record {
      one_less = ap suc r.1.one_less;
      others = λ u d m.
          elim m [ inl q ↦ inl q | inr q ↦ inr (r.1.others u d q) ];
    },
  ))
]

-- variables of different slots that all stand among arguments are no more than those
pub no-more-variables : (ss : List Var) (xs : List Arg) → DifferInSlot ss →
    ((s : Var) → Among s ss → AtLeastOne (λ a. is_that_variable s a ≡ true) xs) → length ss ≤ length xs
no-more-variables [] xs d o = omega arith
no-more-variables (s ∷ ss) xs d o =
    let r = without-one s xs (o s (inl refl)) in
    let few : length ss ≤ length r.0 = no-more-variables ss r.0 d.1 (λ u m.
    r.1.others u ((Each-Among (λ y. y.slot ≡ s.slot → ⊥) ss).0 d.0 u m) (o u (inr m))) in
    let less : length xs ≡ suc (length r.0) = r.1.one_less in
    omega arith

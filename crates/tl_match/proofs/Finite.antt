-- The matches of a pattern are the tuples of a bound, so they have an end.
use Rattle.std.proofs.Common.{◌≡◌, ◌↔◌, ◌<◌, ◌≤◌, ◌-◌, ◌+◌, ℕ, zero, suc, List, [], ◌∷◌, ◌++◌, length, length-append, take, map, Bool, true}
use Rattle.std.proofs.Common.{false, cond, ◌||◌, true≢false, eqb, eqb-true, eq-eqb, Option, Some, None, Less, Equal, refl, sym, ap, ◌∙◌}
use Rattle.std.proofs.Common.{inl, inr, arith}
use Rattle.std.proofs.lemmas.Bool.{eqb-false}
use Rattle.std.proofs.lemmas.Option.{slice_get-get_or}
use Rattle.std.specs.Prelude.{slice_get}
use Rattle.std.specs.List.{list_any}
use Rattle.std.specs.Ordering.{is_gt}
use Rattle.std.specs.Cmp.{tied_itself}
use Rattle.tl_syntax.specs.declared.bound.Bound.{Bound}
use Rattle.tl_syntax.specs.declared.bound.Bound.TheVariants as bound
use Rattle.tl_syntax.specs.declared.value.Value.{Value}
use Rattle.tl_syntax.specs.declared.value.Value.TheVariants.{Sym}
use Rattle.tl_syntax.specs.declared.variable.Arg.{Arg}
use Rattle.tl_syntax.specs.declared.variable.Arg.TheVariants as arg
use Rattle.tl_syntax.specs.declared.variable.Var.{Var}
use Rattle.tl_syntax.specs.Assignment.{no_values, bind}
use Rattle.tl_syntax.specs.BoundVariables.{is_that_variable, stands_in, DifferInSlot}
use Rattle.tl_syntax.specs.Lists.{Each, Among, Rises}
use Rattle.tl_syntax.proofs.ListLaws.{Each-Among}
use Rattle.tl_terms.specs.Bounds.{arg_value, arg_values, same_value, bound_true, tuples}
use Rattle.tl_terms.specs.Situation.{Situation}
use Rattle.tl_terms.specs.Terms.{prepend}
use Rattle.tl_terms.specs.World.{World, has_fact, value_at}
use Rattle.tl_terms.proofs.Tuples.{all-tuples}
use Rattle.tl_terms.proofs.TuplesRise.{tuples-rise}
use Rattle.tl_match.specs.declared.pattern.Part.{Part}
use Rattle.tl_match.specs.declared.pattern.Part.TheVariants.{Fixed, Free}
use Rattle.tl_match.specs.Fits.{is_free, occurs}
use Rattle.tl_match.specs.Next.{IsLater, IsChain, MatchesHaveAnEnd}
use Rattle.tl_match.specs.Patterns.{fill, filled, parts_of, is_true_of}
use Rattle.tl_rows.specs.Plain.{row_cmp}
use Rattle.tl_match.proofs.Chains.{further}
use Rattle.tl_rows.proofs.Lookup.{row_total}
use Rattle.tl_match.proofs.Truths.{occurs-among}

-- ---- rising tuples that are all that pass are a chain

module _ (k : ℕ) (test : List Value → Bool) where
  pub rising-chain : (after : Option (List Value)) (ts : List (List Value)) → Rises row_cmp ts →
      ((t : List Value) → Among t ts ↔ IsLater k test after t) → IsChain k test after ts
  rising-chain after [] r all = λ t l. (all t).1 l
  rising-chain after (m ∷ ts) r all = (
    (
      here,
      λ t l. elim ((all t).1 l) [
        | inl e ↦ ap (λ x. is_gt (row_cmp m x)) (sym e) ∙ ap is_gt (tied_itself row_total m)
        | inr n ↦ ap is_gt (above t n)
      ],
    ),
    rising-chain (Some m) ts r.1 (λ t. (
      λ n. let l = (all t).0 (inr n) in (l.0, l.1, above t n),
      λ l. elim ((all t).1 (l.0, l.1, further k test after m t here.2 l.2)) [
        | inl e ↦ absurd (let tie : row_cmp m t ≡ Equal = ap (row_cmp m) (sym e) ∙ tied_itself row_total m in let d : Less ≡ Equal =
            sym l.2 ∙ tie in let z : ⊥ = cc in z)
        | inr n ↦ n
      ],
    )),
  )
    where
      here : IsLater k test after m
      here = (all m).0 (inl refl)

      above : (t : List Value) → Among t ts → row_cmp m t ≡ Less
      above t n = (Each-Among (λ y. row_cmp m y ≡ Less) ts).0 r.0 t n

-- ---- a pattern as a bound

variable : ℕ → Var
variable n = record { slot = n; name = 0 }

counted : ℕ → ℕ → List Var
counted i zero = []
counted i (suc n) = variable i ∷ counted (suc i) n

arg_of : Part → Arg
arg_of (Fixed v) = arg.Val v
arg_of (Free n) = arg.Var (variable n)

bound-at : (i n : ℕ) (t : List Value) (q : ℕ) → length t ≡ n → i ≤ q → q < i + n → bind (counted i n) t no_values q ≡ slice_get t (q - i)
unfolding counted variable
bound-at i zero t q size low high = absurd (omega arith)
bound-at i (suc n) [] q size low high = absurd (omega arith)
bound-at i (suc n) (v ∷ t) q size low high = (elim (eqb q i) as (λ b. eqb q i ≡ b →
    cond b (Some v) (bind (counted (suc i) n) t no_values q) ≡ slice_get (v ∷ t) (q - i)) [
      | true ↦ λ e. let at : q ≡ i = eqb-true q i e in let z : 0 ≡ q - i = omega arith in ap (slice_get (v ∷ t)) z
      | false ↦ λ e. let apart = eqb-false q i e in
          bound-at (suc i) n t q (omega arith) (omega arith) (omega arith) ∙
          ap (slice_get (v ∷ t)) (let z : suc (q - suc i) ≡ q - i = omega arith in z)
    ]) refl

or_left : (a b : Bool) → a ≡ true → (a || b) ≡ true
or_left true b h = refl
or_left false b h = absurd (true≢false (sym h))

or_right : (a b : Bool) → b ≡ true → (a || b) ≡ true
or_right true b h = refl
or_right false b h = h

part-filled : (p : Part) (t : List Value) (k : ℕ) → length t ≡ k → ((n : ℕ) → is_free n p ≡ true → n < k) →
    arg_value (bind (counted 0 k) t no_values) (arg_of p) ≡ Some (fill t p)
unfolding arg_of variable
part-filled (Fixed v) t k size slots = refl
part-filled (Free n) t k size slots =
    let low : n < k = slots n (eq-eqb n n refl) in
    bound-at 0 k t n size (omega arith) (omega arith) ∙ (ap (slice_get t) (let z : n - 0 ≡ n = omega arith in z) ∙
    slice_get-get_or t n (Sym 0) (omega arith))

args-filled : (ps : List Part) (t : List Value) (k : ℕ) → length t ≡ k → ((n : ℕ) → occurs n ps ≡ true → n < k) →
    arg_values (bind (counted 0 k) t no_values) (map arg_of ps) ≡ Some (filled ps t)
args-filled [] t k size slots = refl
args-filled (p ∷ ps) t k size slots =
    λ i. prepend (part-filled p t k size (λ n h. slots n (or_left (is_free n p) (occurs n ps) h)) i)
    (args-filled ps t k size (λ n h. slots n (or_right (is_free n p) (occurs n ps) h)) i)

named-alike : (n : ℕ) (ps : List Part) → list_any (is_that_variable (variable n)) (map arg_of ps) ≡ occurs n ps
unfolding arg_of variable
named-alike n [] = refl
named-alike n (Fixed v ∷ ps) = named-alike n ps
named-alike n (Free m ∷ ps) = ap (λ b. eqb m n || b) (named-alike n ps)

each-counted : (P : Var → Type 0) (i n : ℕ) → ((q : ℕ) → i ≤ q → q < i + n → P (variable q)) → Each P (counted i n)
unfolding counted
each-counted P i zero h = tt
each-counted P i (suc n) h = (h i (omega arith) (omega arith), each-counted P (suc i) n (λ q low high. h q (omega arith) (omega arith)))

differ : (i n : ℕ) → DifferInSlot (counted i n)
unfolding counted variable
differ i zero = tt
differ i (suc n) = (each-counted (λ u. u.slot ≡ i → ⊥) (suc i) n (λ q low high e. let z : ⊥ = omega arith in z), differ (suc i) n)

count : (i n : ℕ) → length (counted i n) ≡ n
unfolding counted
count i zero = refl
count i (suc n) = ap suc (count (suc i) n)

-- all parts but the last, and the last
split-last : (ps : List Part) → 1 ≤ length ps → (qs : List Part) × ((p : Part) × (ps ≡ qs ++ p ∷ []))
split-last [] h = absurd (omega arith)
split-last (p ∷ []) h = ([], (p, refl))
split-last (p ∷ q ∷ ps) h = let r = split-last (q ∷ ps) (omega arith) in (p ∷ r.0, (r.1.0, ap (λ xs. p ∷ xs) r.1.1))

snoc-true : (w : World) (f : ℕ) (xs : List Value) (v : Value) → is_true_of w true f (xs ++ v ∷ []) ≡
    same_value (value_at w (f, xs)) (Some v)
snoc-true w f xs v =
    let n : length (xs ++ v ∷ []) - 1 ≡ length xs = let l = length-append xs (v ∷ []) in omega arith in
    ap (λ m. same_value (value_at w (f, take m (xs ++ v ∷ []))) (slice_get (xs ++ v ∷ []) m)) n
    ∙ (λ i. same_value (value_at w (f, front-is xs i)) (last-is xs i))
  where
    front-is : (ys : List Value) → take (length ys) (ys ++ v ∷ []) ≡ ys
    front-is [] = refl
    front-is (y ∷ ys) = ap (λ zs. y ∷ zs) (front-is ys)

    last-is : (ys : List Value) → slice_get (ys ++ v ∷ []) (length ys) ≡ Some v
    last-is [] = refl
    last-is (y ∷ ys) = last-is ys

filled-snoc : (qs : List Part) (p : Part) (t : List Value) → filled (qs ++ p ∷ []) t ≡ filled qs t ++ fill t p ∷ []
filled-snoc [] p t = refl
filled-snoc (q ∷ qs) p t = ap (λ xs. fill t q ∷ xs) (filled-snoc qs p t)

-- a bound that is true just where the parts, filled, are
record BoundFor (w : World) (place : Bool) (name k : ℕ) (ps : List Part) : Type 0 where
  of : Bound
  names : (n : ℕ) → occurs n ps ≡ true → stands_in (variable n) of ≡ true
  means : (s : Situation) → s.world ≡ w → (t : List Value) → length t ≡ k → bound_true s (bind (counted 0 k) t no_values) of ≡
      is_true_of w place name (filled ps t)

bound_for : (w : World) (place : Bool) (name k : ℕ) (ps : List Part) → ((n : ℕ) → occurs n ps ≡ true → n < k) →
    (place ≡ true → 1 ≤ length ps) → BoundFor w place name k ps
unfolding bound_true arg_of variable
bound_for w false name k ps slots some = record {
  of = bound.Fact name (map arg_of ps);
  names = λ n h. named-alike n ps ∙ h;
  means = λ s is t size. ap (Rattle.tl_terms.specs.Bounds.fact_in s.world name) (args-filled ps t k size slots) ∙
      ap (λ v. has_fact v (name, filled ps t)) is;
}
bound_for w true name k ps slots some =
    let r = split-last ps (some refl) in
    let qs = r.0 in let p = r.1.0 in
    let is_snoc : ps ≡ qs ++ p ∷ [] = r.1.1 in
    let all : (n : ℕ) → occurs n ps ≡ (occurs n qs || is_free n p) = λ n. ap (occurs n) is_snoc ∙ occurs-snoc n qs p in
    record {
      of = bound.Place name (map arg_of qs) (arg_of p);
      names = λ n h. in_bound n qs p (sym (all n) ∙ h);
      means = λ s is t size.
          let args = args-filled qs t k size (λ n h. slots n (all n ∙ or_left (occurs n qs) (is_free n p) h)) in
          let last = part-filled p t k size (λ n h. slots n (all n ∙ or_right (occurs n qs) (is_free n p) h)) in
          (λ i. same_value (Rattle.tl_terms.specs.Terms.place_value s.world name (args i)) (last i))
          ∙ (ap (λ v. same_value (value_at v (name, filled qs t)) (Some (fill t p))) is
          ∙ (sym (snoc-true w name (filled qs t) (fill t p)) ∙ ap (is_true_of w true name)
          (sym (ap (λ xs. filled xs t) is_snoc ∙ filled-snoc qs p t))));
    }
  where
    or_false : (b : Bool) → (b || false) ≡ b
    or_false true = refl
    or_false false = refl

    or_assoc : (a b c : Bool) → (a || (b || c)) ≡ ((a || b) || c)
    or_assoc true b c = refl
    or_assoc false b c = refl

    or_turned : (a b : Bool) → (a || b) ≡ true → (b || a) ≡ true
    or_turned true b h = or_right b true refl
    or_turned false b h = or_left b false h

    occurs-snoc : (n : ℕ) (qs : List Part) (p : Part) → occurs n (qs ++ p ∷ []) ≡ (occurs n qs || is_free n p)
    occurs-snoc n [] p = or_false (is_free n p)
    occurs-snoc n (q ∷ qs) p = ap (λ b. is_free n q || b) (occurs-snoc n qs p) ∙ or_assoc (is_free n q) (occurs n qs) (is_free n p)

    in_bound : (n : ℕ) (qs : List Part) (p : Part) → (occurs n qs || is_free n p) ≡ true →
        stands_in (variable n) (bound.Place name (map arg_of qs) (arg_of p)) ≡ true
    in_bound n qs p h = (λ i. last-named p i || named-alike n qs i) ∙ or_turned (occurs n qs) (is_free n p) h
      where
        last-named : (p : Part) → is_that_variable (variable n) (arg_of p) ≡ is_free n p
        last-named (Fixed v) = refl
        last-named (Free m) = refl

by_bound : (w : World) (place : Bool) (name k : ℕ) (ps : List Part) → ((n : ℕ) → (occurs n ps ≡ true) ↔ (n < k)) →
    (place ≡ true → 1 ≤ length ps) → (ts : List (List Value)) × IsChain k (λ t. is_true_of w place name (filled ps t)) None ts
by_bound w place name k ps slots some =
    let b = bound_for w place name k ps (λ n. (slots n).0) some in
    let s : Situation = record { world = w; goal = w; avoid = w; table = λ _ _. false } in
    let ts = tuples s no_values (counted 0 k) b.of in
    let has = all-tuples s no_values (counted 0 k) b.of (differ 0 k) (each-counted (λ u. stands_in u b.of ≡ true) 0 k
    (λ q low high. b.names q ((slots q).1 (omega arith)))) in (
      ts,
      rising-chain k (λ t. is_true_of w place name (filled ps t)) None ts (tuples-rise s no_values (counted 0 k) b.of) (λ t. (
        λ m. let h = (has t).0 m in let size : length t ≡ k = h.0 ∙ count 0 k in (size, sym (b.means s refl t size) ∙ h.1, tt),
        λ h. (has t).1 (h.0 ∙ sym (count 0 k), b.means s refl t h.0 ∙ h.1),
      )),
    )

ends : (w : World) (place : Bool) (name k : ℕ) (ps : List Part) → ((n : ℕ) → (occurs n ps ≡ true) ↔ (n < k)) → (ts : List (List Value)) ×
    IsChain k (λ t. is_true_of w place name (filled ps t)) None ts
ends w false name k ps slots = by_bound w false name k ps slots (λ e. absurd (true≢false (sym e)))
ends w true name k [] slots = ([], λ t l. true≢false (sym l.1 ∙ no-value (value_at w (name, []))))
  where
    no-value : (o : Option Value) → same_value o None ≡ false
    no-value None = refl
    no-value (Some v) = refl
ends w true name k (p ∷ ps) slots = by_bound w true name k (p ∷ ps) slots (λ _. omega arith)

-- the chain of the matches of a lawful pattern
pub matches-end : MatchesHaveAnEnd
matches-end w p l = ends w p.place p.name p.free (parts_of p) (λ n. (
  λ h. (l.each n).0 ((occurs-among n (parts_of p)).1 h),
  λ h.
      (occurs-among n (parts_of p)).0 ((l.each n).1 h),
))

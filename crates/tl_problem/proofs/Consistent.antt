-- Literals that do not contradict each other: one more that contradicts none.
use Rattle.std.proofs.Common.{◌≡◌, List, [], ◌∷◌, ◌++◌, Bool, true, false, cond, not, map, Some, None, refl, sym, ap, ◌∙◌, Decides}
use Rattle.std.specs.Prelude.{Option, ◌&&◌, ◌||◌, ◌==◌, is_some}
use Rattle.std.specs.List.{list_any, list_all}
use Rattle.std.specs.Map.{lookup}
use Rattle.std.specs.Ordering.{is_eq}
use Rattle.std.proofs.lemmas.Bool.{true≢false, eqb-true, eq-eqb}
use Rattle.std.proofs.lemmas.Bool.Decides.{same_from_decides}
use Rattle.std.proofs.lemmas.List.Folds.{list_any-append, list_all-append}
use Rattle.std.specs.Cmp.{Equal-is, tied_itself}
use Rattle.tl_syntax.specs.declared.fact.Fact.{Fact}
use Rattle.tl_syntax.specs.declared.place_value.PlaceValue.{PlaceValue}
use Rattle.tl_syntax.specs.declared.value.Value.{Value}
use Rattle.tl_syntax.specs.DerivedTests.{fact_eq, value_eq, values_eq}
use Rattle.tl_syntax.specs.Keys.{Key, key_cmp, value_cmp, fact_key, place_entry, agree, no_clash, share_key}
use Rattle.tl_syntax.proofs.TotalOrders.{key_total, key_ties, value_total}
use Rattle.tl_syntax.proofs.Plain.{both, with_both, list-tells, value-tells, fact-tells}
use Rattle.tl_problem.specs.Literals.{same_place, value_among, with_fact, with_value}

-- the two tests of keys hold exactly where the two are the same
key-tells : (j k : Key) → Decides (is_eq (key_cmp j k)) (j ≡ k)
key-tells j k = (
  λ h. key_ties j k ((Equal-is (key_cmp j k)).0 h),
  λ e. ap (λ (x : Key). is_eq (key_cmp j x)) (sym e) ∙ ap is_eq (tied_itself key_total j),
)

place-tells : (j k : Key) → Decides (same_place j k) (j ≡ k)
place-tells j k = (
  λ h. let both_same = both (j.0 == k.0) (values_eq j.1 k.1) h in
      let p = eqb-true j.0 k.0 both_same.0 in let q = (list-tells value_eq value-tells j.1 k.1).0 both_same.1 in λ i. (p i, q i),
  λ e. with_both (eq-eqb j.0 k.0 (ap (λ (x : Key). x.0) e)) ((list-tells value_eq value-tells j.1 k.1).1 (ap (λ (x : Key). x.1) e)),
)

key-test : (j k : Key) → is_eq (key_cmp j k) ≡ same_place j k
key-test j k = same_from_decides _ _ (key-tells j k) (place-tells j k)

key-test-back : (j k : Key) → is_eq (key_cmp j k) ≡ same_place k j
key-test-back j k = same_from_decides _ _ (key-tells j k) (λ h. sym ((place-tells k j).0 h), λ e. (place-tells k j).1 (sym e))

fact-test : (f g : Fact) → is_eq (key_cmp (fact_key f) (fact_key g)) ≡ fact_eq f g
fact-test f g = same_from_decides _ _ (
  λ h. let e = (key-tells (fact_key f) (fact_key g)).0 h in λ i. record { pred = (e i).0; args = (e i).1 },
  λ e. (key-tells (fact_key f) (fact_key g)).1 (ap fact_key e),
) (fact-tells f g)

fact-test-back : (f g : Fact) → is_eq (key_cmp (fact_key g) (fact_key f)) ≡ fact_eq f g
fact-test-back f g = same_from_decides _ _ (
  λ h. let e = (key-tells (fact_key g) (fact_key f)).0 h in λ i. record { pred = (sym e i).0; args = (sym e i).1 },
  λ e. (key-tells (fact_key g) (fact_key f)).1 (sym (ap fact_key e)),
) (fact-tells f g)

-- two places that differ agree, and so do a place with its value and itself
differ-agree : (a b : Key × Value) → is_eq (key_cmp a.0 b.0) ≡ false → agree a b ≡ true
differ-agree a b h = ap (λ (t : Bool). not t || is_eq (value_cmp a.1 b.1)) h

agree-itself : (a : Key × Value) → agree a a ≡ true
agree-itself a = by_test (is_eq (key_cmp a.0 a.0))
  where
    by_test : (t : Bool) → (not t || is_eq (value_cmp a.1 a.1)) ≡ true
    by_test true = ap is_eq (tied_itself value_total a.1)
    by_test false = refl

-- a place without a value differs from all that have one
pub record DifferFrom (k : Key) (ps : List (Key × Value)) : Type 0 where
  pub before : (b : Value) → list_all (λ a. agree a (k, b)) ps ≡ true
  pub after : (b : Value) → list_all (agree (k, b)) ps ≡ true

absent-head : (k : Key) (p : Key × Value) (ps : List (Key × Value)) → lookup (same_place k) (p ∷ ps) ≡ None → (same_place k p.0 ≡ false) ×
    (lookup (same_place k) ps ≡ None)
absent-head k p ps h = by_test (same_place k p.0) refl h
  where
    by_test : (t : Bool) → same_place k p.0 ≡ t → cond t (Some p.1) (lookup (same_place k) ps) ≡ None → (same_place k p.0 ≡ false) ×
        (lookup (same_place k) ps ≡ None)
    by_test true e g = cc
    by_test false e g = (e, g)

absent-differ : (k : Key) (ps : List (Key × Value)) → lookup (same_place k) ps ≡ None → DifferFrom k ps
absent-differ k [] h = record { before = λ b. refl; after = λ b. refl }
absent-differ k (p ∷ ps) h =
    let here = absent-head k p ps h in
    let later = absent-differ k ps here.1 in
    record {
      before = λ b. with_both (differ-agree p (k, b) (key-test-back p.0 k ∙ here.0)) (later.before b);
      after = λ b. with_both (differ-agree (k, b) p (key-test k p.0 ∙ here.0)) (later.after b);
    }

all-both : {A : Type 0} (f g : A → Bool) (xs : List A) → list_all f xs ≡ true → list_all g xs ≡ true →
    list_all (λ x. f x && (g x && true)) xs ≡ true
all-both f g [] h k = refl
all-both f g (x ∷ xs) h k =
    let a = both (f x) (list_all f xs) h in
    let b = both (g x) (list_all g xs) k in
    with_both (with_both a.0 (with_both b.0 refl)) (all-both f g xs a.1 b.1)

all-same : {A : Type 0} (f g : A → Bool) (xs : List A) → ((x : A) → f x ≡ g x) → list_all f xs ≡ list_all g xs
all-same f g [] h = refl
all-same f g (x ∷ xs) h = ap (λ (t : Bool). t && list_all f xs) (h x) ∙ ap (λ (t : Bool). g x && t) (all-same f g xs h)

-- one more place that has no value yet
no_clash-more : (ps : List (Key × Value)) (p : Key × Value) → no_clash ps ≡ true → DifferFrom p.0 ps → no_clash (ps ++ p ∷ []) ≡ true
no_clash-more ps p h d =
    let F : (Key × Value) → Bool = λ a. list_all (agree a) (ps ++ p ∷ []) in
    let G : (Key × Value) → Bool = λ a. list_all (agree a) ps && (agree a p && true) in
    let opened : (a : Key × Value) → F a ≡ G a = λ a. list_all-append (agree a) ps (p ∷ []) in
    let old : list_all F ps ≡ true = all-same F G ps opened ∙ all-both (λ a. list_all (agree a) ps) (λ a. agree a p) ps h (d.before p.1) in
    let last : F p ≡ true = opened p ∙ with_both (d.after p.1) (with_both (agree-itself p) refl) in
    list_all-append F ps (p ∷ []) ∙ with_both old (with_both last refl)

pub map-last : {A B : Type 0} (f : A → B) (xs : List A) (y : A) → map f (xs ++ y ∷ []) ≡ map f xs ++ f y ∷ []
map-last f [] y = refl
map-last f (x ∷ xs) y = ap (λ rest. f x ∷ rest) (map-last f xs y)

-- places of which each has one value, with a place that has none or that value
pub agrees-with_value : (values : List PlaceValue) (x : PlaceValue) → no_clash (map place_entry values) ≡ true →
    no_clash (map place_entry (with_value values x)) ≡ true
agrees-with_value values x h = by_value (value_among values (x.fun, x.args)) refl
  where
    by_value : (found : Option Value) → value_among values (x.fun, x.args) ≡ found →
        no_clash (map place_entry (cond (is_some found) values (values ++ x ∷ []))) ≡ true
    by_value (Some v) e = h
    by_value None e = ap no_clash (map-last place_entry values x) ∙ no_clash-more (map place_entry values) (place_entry x) h
        (absent-differ (x.fun, x.args) (map place_entry values) e)

none-either : (a b : Bool) → (a || b) ≡ false → (a ≡ false) × (b ≡ false)
none-either false b h = (refl, h)
none-either true b h = absurd (true≢false h)

with_neither : {a b : Bool} → a ≡ false → b ≡ false → (a || b) ≡ false
with_neither {a} {b} h k = ap (λ (t : Bool). t || b) h ∙ k

-- a fact that is not negated is no key of the negated ones
unshared-fact : (f : Fact) (nots : List Fact) → list_any (fact_eq f) nots ≡ false →
    list_any (λ k. is_eq (key_cmp (fact_key f) k)) (map fact_key nots) ≡ false
unshared-fact f [] h = refl
unshared-fact f (g ∷ nots) h =
    let parts = none-either (fact_eq f g) (list_any (fact_eq f) nots) h in
    with_neither (fact-test f g ∙ parts.0) (unshared-fact f nots parts.1)

unshared-last : (js : List Key) (ks : List Key) (k : Key) → share_key js ks ≡ false → list_any (λ j. is_eq (key_cmp j k)) js ≡ false →
    share_key js (ks ++ k ∷ []) ≡ false
unshared-last [] ks k h n = refl
unshared-last (j ∷ js) ks k h n =
    let a = none-either (list_any (λ i. is_eq (key_cmp j i)) ks) (share_key js ks) h in
    let b = none-either (is_eq (key_cmp j k)) (list_any (λ i. is_eq (key_cmp i k)) js) n in
    with_neither (list_any-append (λ i. is_eq (key_cmp j i)) ks (k ∷ []) ∙ with_neither a.0 (with_neither b.0 refl))
    (unshared-last js ks k a.1 b.1)

unshared-keys : (f : Fact) (facts : List Fact) → list_any (fact_eq f) facts ≡ false →
    list_any (λ j. is_eq (key_cmp j (fact_key f))) (map fact_key facts) ≡ false
unshared-keys f [] h = refl
unshared-keys f (g ∷ facts) h =
    let parts = none-either (fact_eq f g) (list_any (fact_eq f) facts) h in
    with_neither (fact-test-back f g ∙ parts.0) (unshared-keys f facts parts.1)

-- a fact more, which is not negated
pub consistent-with_fact : (facts nots : List Fact) (f : Fact) → share_key (map fact_key facts) (map fact_key nots) ≡ false →
    list_any (fact_eq f) nots ≡ false → share_key (map fact_key (with_fact facts f)) (map fact_key nots) ≡ false
consistent-with_fact facts nots f h n = by_test (list_any (fact_eq f) facts)
  where
    by_test : (known : Bool) → share_key (map fact_key (cond known facts (facts ++ f ∷ []))) (map fact_key nots) ≡ false
    by_test true = h
    by_test false =
        let shared : Key → Bool = λ j. list_any (λ k. is_eq (key_cmp j k)) (map fact_key nots) in
        ap (λ js. share_key js (map fact_key nots)) (map-last fact_key facts f) ∙
        list_any-append shared (map fact_key facts) (fact_key f ∷ []) ∙ with_neither h (with_neither (unshared-fact f nots n) refl)

-- a negated fact more, which is no fact
pub consistent-with_not : (facts nots : List Fact) (f : Fact) → share_key (map fact_key facts) (map fact_key nots) ≡ false →
    list_any (fact_eq f) facts ≡ false → share_key (map fact_key facts) (map fact_key (with_fact nots f)) ≡ false
consistent-with_not facts nots f h n = by_test (list_any (fact_eq f) nots)
  where
    by_test : (known : Bool) → share_key (map fact_key facts) (map fact_key (cond known nots (nots ++ f ∷ []))) ≡ false
    by_test true = h
    by_test false = ap (share_key (map fact_key facts)) (map-last fact_key nots f) ∙
        unshared-last (map fact_key facts) (map fact_key nots) (fact_key f) h (unshared-keys f facts n)

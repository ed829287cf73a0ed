-- Places that are set agree exactly where the world of them gives each its value, and where no two of them clash.
use Rattle.std.proofs.Common.{◌≡◌, ◌↔◌, List, [], ◌∷◌, map, Bool, true, false, true≢false, not, ◌&&◌, ◌||◌, ◌<◌, length, arith, cond}
use Rattle.std.proofs.Common.{Option, Some, None, inl, inr, refl, sym, ap, ◌∙◌}
use Rattle.std.specs.List.{list_all}
use Rattle.std.specs.FinMap as dict
use Rattle.std.specs.Ordering.{eq_by_cmp, is_eq}
use Rattle.tl_syntax.specs.declared.place_value.PlaceValue.{PlaceValue}
use Rattle.tl_syntax.specs.declared.value.Value.{Value}
use Rattle.tl_syntax.specs.Keys.{Key, key_cmp, value_cmp, agree, no_clash, place_entry}
use Rattle.tl_syntax.specs.Lists.{Among}
use Rattle.tl_syntax.proofs.TotalOrders.{key_total}
use Rattle.tl_syntax.proofs.ListLaws.{all-iff, Each-Among, same_test}
use Rattle.tl_terms.specs.Acceptance.{is_value}
use Rattle.tl_terms.specs.ProblemMeaning.{world_of}
use Rattle.tl_terms.specs.World.{value_at}
use Rattle.tl_terms.proofs.KeyLaws.{key-is, key-itself, value-is, value-itself}
use Rattle.tl_terms.proofs.StepLaws.{no_clash-iff}

-- the map of the list gives a place of it its value
get-given : (ps : List (Key × Value)) (k : Key) (a : Value) → ((b : Value) → Among (k, b) ps → b ≡ a) → Among (k, a) ps →
    dict.get (dict.from_entries {R = key_cmp} ps) k ≡ Some a
get-given [] k a one m = absurd m
get-given (x ∷ ps) k a one m =
    dict.get-insert key_total (dict.from_entries ps) x.0 x.1 k
    ∙ (elim (eq_by_cmp key_cmp k x.0) as (λ b. eq_by_cmp key_cmp k x.0 ≡ b →
    cond b (Some x.1) (dict.get (dict.from_entries {R = key_cmp} ps) k) ≡ Some a) [
      | true ↦ λ q. let e : x.0 ≡ k = key-is k x.0 q in ap (λ (v : Value). Some v) (one x.1 (inl (λ i. (e i, x.1))))
      | false ↦ λ q. elim m [
        | inl e ↦ absurd (true≢false (sym (key-itself k x.0 (ap (λ (y : Key × Value). y.0) e)) ∙ q))
        | inr n ↦ get-given ps k a (λ b l. one b (inr l)) n
      ]
    ]) refl

is_value-iff : (o : Option Value) (v : Value) → (o ≡ Some v) ↔ (is_value o v ≡ true)
is_value-iff None v = (λ e. let z : ⊥ = cc in absurd z, λ e. absurd (true≢false (sym e)))
is_value-iff (Some u) v = (λ e. value-itself u v (let q : u ≡ v = cc in q), λ e. ap (λ (x : Value). Some x) (value-is u v e))

some-same : (a b : Value) (o : Option Value) → o ≡ Some a → o ≡ Some b → a ≡ b
some-same a b o p q = let e : Some a ≡ Some b = sym p ∙ q in cc

all-given : (ps : List (Key × Value)) → list_all (λ x. is_value (dict.get (dict.from_entries {R = key_cmp} ps) x.0) x.1) ps ≡ no_clash ps
all-given ps =
    let m = dict.from_entries {R = key_cmp} ps in
    let given = all-iff (λ (x : Key × Value). dict.get m x.0 ≡ Some x.1) (λ x. is_value (dict.get m x.0) x.1)
    (λ x. is_value-iff (dict.get m x.0) x.1) ps in
    same_test (list_all (λ x. is_value (dict.get m x.0) x.1) ps) (no_clash ps)
    (λ h. (no_clash-iff ps).0 (λ k a b n l. let each = (Each-Among (λ (x : Key × Value). dict.get m x.0 ≡ Some x.1) ps).0 (given.1 h) in
    some-same a b (dict.get m k) (each (k, a) n) (each (k, b) l)))
    (λ h. given.0 ((Each-Among (λ (x : Key × Value). dict.get m x.0 ≡ Some x.1) ps).1
    (λ x n. get-given ps x.0 x.1 (λ b l. (no_clash-iff ps).1 h x.0 b x.1 l n) n)))

list_all-map : {A B : Type 0} (f : A → B) (p : B → Bool) (xs : List A) → list_all (λ x. p (f x)) xs ≡ list_all p (map f xs)
list_all-map f p [] = refl
list_all-map f p (x ∷ xs) = ap (λ (b : Bool). p (f x) && b) (list_all-map f p xs)

pub places-agree : (sets : List PlaceValue) → list_all (λ s. is_value (value_at (world_of [] sets) (s.fun, s.args)) s.value) sets ≡
    no_clash (map place_entry sets)
unfolding world_of
places-agree sets =
    list_all-map place_entry (λ (x : Key × Value). is_value (dict.get (dict.from_entries {R = key_cmp} (map place_entry sets)) x.0) x.1)
    sets ∙ all-given (map place_entry sets)

-- ---- a few places

or-second : (a b : Bool) → b ≡ true → (a || b) ≡ true
or-second true b h = refl
or-second false b h = h

agree-itself : (x : Key × Value) → agree x x ≡ true
agree-itself x = or-second (not (is_eq (key_cmp x.0 x.0))) (is_eq (value_cmp x.1 x.1)) (value-itself x.1 x.1 refl)

-- fewer than two agree
pub few-agree : (sets : List PlaceValue) → length sets < 2 → true ≡ no_clash (map place_entry sets)
few-agree [] h = refl
few-agree (x ∷ []) h = sym (ap (λ (b : Bool). (b && true) && true) (agree-itself (place_entry x)))
few-agree (x ∷ y ∷ sets) h = absurd (omega arith)

-- each compared with each
pub each-agrees : (sets : List PlaceValue) → list_all (λ a. list_all (λ b. agree (place_entry a) (place_entry b)) sets) sets ≡
    no_clash (map place_entry sets)
each-agrees sets =
    (λ i. list_all (λ a. list_all-map place_entry (agree (place_entry a)) sets i) sets) ∙
    list_all-map place_entry (λ k. list_all (agree k) (map place_entry sets)) sets

-- Tests on keys and values, and the items and entries of a world.
use Rattle.std.proofs.Common.{◌≡◌, ◌↔◌, ◌⊎◌, List, [], ◌∷◌, map, true, false, cond, true≢false, Some, Less, Equal, refl, sym, ap, ◌∙◌, inl}
use Rattle.std.proofs.Common.{inr}
use Rattle.std.specs.List.{list_any}
use Rattle.std.specs.FinSet as set
use Rattle.std.specs.FinMap as dict
use Rattle.std.specs.Ordering.{eq_by_cmp, is_eq}
use Rattle.std.specs.Cmp.{tied_itself, Equal-is}
use Rattle.tl_syntax.specs.Lists.{Among, Rises}
use Rattle.tl_syntax.proofs.TotalOrders.{value_total, key_total, value_ties, key_ties}
use Rattle.tl_syntax.specs.Keys.{Key, value_cmp, key_cmp}
use Rattle.tl_terms.specs.World.{World, has_fact, value_at}
use Rattle.tl_syntax.proofs.ListLaws.{iff-trans, iff-path, or-iff, Each-Among}
use Rattle.tl_terms.proofs.TuplesRise.{keys-rise}
use Rattle.tl_syntax.specs.declared.value.Value.{Value}

pub key-is : (k x : Key) → eq_by_cmp key_cmp k x ≡ true → x ≡ k
key-is k x q = sym (key_ties k x ((Equal-is (key_cmp k x)).0 q))

pub key-itself : (k x : Key) → x ≡ k → eq_by_cmp key_cmp k x ≡ true
key-itself k x e = (Equal-is (key_cmp k x)).1 (ap (key_cmp k) e ∙ tied_itself key_total k)

pub value-is : (a b : Value) → is_eq (value_cmp a b) ≡ true → a ≡ b
value-is a b q = value_ties a b ((Equal-is (value_cmp a b)).0 q)

pub value-itself : (a b : Value) → a ≡ b → is_eq (value_cmp a b) ≡ true
value-itself a b e = (Equal-is (value_cmp a b)).1 (ap (value_cmp a) (sym e) ∙ tied_itself value_total a)

pub key-among : (k : Key) (ks : List Key) → Among k ks ↔ (list_any (eq_by_cmp key_cmp k) ks ≡ true)
key-among k [] = (λ h. absurd h, λ e. true≢false (sym e))
key-among k (x ∷ ks) = or-iff (key-itself k x, key-is k x) (key-among k ks)

-- the items of the facts are the facts
pub fact-among : (w : World) (k : Key) → Among k (set.items w.facts) ↔ (has_fact w k ≡ true)
fact-among w k = iff-trans (key-among k (set.items w.facts)) (iff-path (λ b. b ≡ true) (sym (set.contains-items w.facts k)))

pub entry_of : (es : List (Key × Value)) (k : Key) (u : Value) → dict.find key_cmp k es ≡ Some u → Among (k, u) es
entry_of [] k u h = cc
entry_of (x ∷ es) k u h = (elim (eq_by_cmp key_cmp k x.0) as (λ b. eq_by_cmp key_cmp k x.0 ≡ b →
    cond b (Some x.1) (dict.find key_cmp k es) ≡ Some u → x ≡ (k, u) ⊎ Among (k, u) es) [
      | true ↦ λ q m. let a : x.0 ≡ k = sym (key_ties k x.0 ((Equal-is (key_cmp k x.0)).0 q)) in let b : x.1 ≡ u = cc in
          inl (λ i. (a i, b i))
      | false ↦ λ q m. inr (entry_of es k u m)
    ]) refl h

-- in a list of rising keys, an entry is the one that is found
entry-found : (es : List (Key × Value)) → Rises key_cmp (map (λ x. x.0) es) → (k : Key) (u : Value) → Among (k, u) es →
    dict.find key_cmp k es ≡ Some u
entry-found [] r k u m = absurd m
entry-found (x ∷ es) r k u m = elim m [
  | inl e ↦ ap (λ b. cond b (Some x.1) (dict.find key_cmp k es)) (key-itself k x.0 (ap (λ (y : Key × Value). y.0) e)) ∙
      ap (λ (y : Key × Value). Some y.1) e
  | inr n ↦ ap (λ b. cond b (Some x.1) (dict.find key_cmp k es)) (later n) ∙ entry-found es r.1 k u n
]
  where
    keys-of : (fs : List (Key × Value)) → Among (k, u) fs → Among k (map (λ y. y.0) fs)
    keys-of [] n = n
    keys-of (y ∷ fs) n = elim n [ inl e ↦ inl (ap (λ (z : Key × Value). z.0) e) | inr o ↦ inr (keys-of fs o) ]

    later : Among (k, u) es → eq_by_cmp key_cmp k x.0 ≡ false
    later n = (elim (eq_by_cmp key_cmp k x.0) as (λ b. eq_by_cmp key_cmp k x.0 ≡ b → b ≡ false) [
      | false ↦ λ _. refl
      | true ↦ λ q. let less : key_cmp x.0 k ≡ Less = (Each-Among (λ y. key_cmp x.0 y ≡ Less) (map (λ y. y.0) es)).0 r.0 k (keys-of es n) in
          let tie : key_cmp x.0 k ≡ Equal = ap (key_cmp x.0) (sym (key-is k x.0 q)) ∙ tied_itself key_total x.0 in
          let both : Less ≡ Equal = sym less ∙ tie in cc
    ]) refl

-- the entries of the places are the places with their values
pub place-among : (w : World) (k : Key) (u : Value) → Among (k, u) (dict.entries w.places) ↔ (value_at w k ≡ Some u)
place-among w k u = (
  λ m. dict.get-entries w.places k ∙ entry-found (dict.entries w.places)
      (keys-rise key_cmp (dict.entries w.places) (dict.entries_sorted w.places)) k u m,
  λ h. entry_of (dict.entries w.places) k u (sym (dict.get-entries w.places k) ∙ h),
)

-- Facts that are put in are the same set in any order.
use Rattle.std.proofs.Common.{◌≡◌, Bool, true, false, ◌||◌, ◌&&◌, not, List, [], ◌∷◌, map, refl, sym, ap, ◌∙◌}
use Rattle.std.proofs.lemmas.List.Sorted.{list_any-IsPermutation}
use Rattle.std.specs.Cmp.{Equal-is}
use Rattle.std.specs.FinSet as set
use Rattle.std.specs.List.{list_any}
use Rattle.std.specs.List.Sorted.{IsPermutation}
use Rattle.std.specs.Ordering.{eq_by_cmp}
use Rattle.tl_syntax.specs.declared.fact.Fact.{Fact}
use Rattle.tl_syntax.specs.Keys.{Key, key_cmp, fact_key}
use Rattle.tl_syntax.proofs.TotalOrders.{key_total, key_ties}
use Rattle.tl_terms.specs.Step.{with_all, without_all}
use Rattle.tl_world.specs.Edits.{lists_fact}

pub contains-all : (s : set.FinSet key_cmp) (fs : List Fact) (q : Key) → set.contains (with_all s (map fact_key fs)) q ≡
    (list_any (λ f. eq_by_cmp key_cmp q (fact_key f)) fs || set.contains s q)
contains-all s [] q = refl
contains-all s (f ∷ fs) q =
    set.contains-insert key_total (with_all s (map fact_key fs)) (fact_key f) q
    ∙ (ap (λ b. eq_by_cmp key_cmp q (fact_key f) || b) (contains-all s fs q) ∙
    or-assoc (eq_by_cmp key_cmp q (fact_key f)) (list_any (λ g. eq_by_cmp key_cmp q (fact_key g)) fs) (set.contains s q))
  where
    or-assoc : (a b c : Bool) → (a || (b || c)) ≡ ((a || b) || c)
    or-assoc true b c = refl
    or-assoc false b c = refl

pub with-permuted : (s : set.FinSet key_cmp) (fs gs : List Fact) → IsPermutation fs gs → with_all s (map fact_key gs) ≡
    with_all s (map fact_key fs)
with-permuted s fs gs p = set.same_set key_total key_ties (with_all s (map fact_key gs)) (with_all s (map fact_key fs)) (λ q.
    contains-all s gs q ∙ (ap (λ b. b || set.contains s q) (sym (list_any-IsPermutation (λ f. eq_by_cmp key_cmp q (fact_key f)) fs gs p)) ∙
    sym (contains-all s fs q)))

pub key-is : (q k : Key) → eq_by_cmp key_cmp q k ≡ true → q ≡ k
key-is q k e = key_ties q k ((Equal-is (key_cmp q k)).0 e)

pub contains-without : (s : set.FinSet key_cmp) (fs : List Fact) (q : Key) → set.contains (without_all s (map fact_key fs)) q ≡
    (not (lists_fact fs q) && set.contains s q)
contains-without s [] q = refl
contains-without s (f ∷ fs) q =
    set.contains-remove key_total (without_all s (map fact_key fs)) (fact_key f) q
    ∙ (ap (λ b. not (eq_by_cmp key_cmp q (fact_key f)) && b) (contains-without s fs q) ∙
    neither (eq_by_cmp key_cmp q (fact_key f)) (lists_fact fs q) (set.contains s q))
  where
    neither : (a b c : Bool) → (not a && (not b && c)) ≡ (not (a || b) && c)
    neither true b c = refl
    neither false b c = refl

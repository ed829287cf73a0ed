-- Worlds that are made of named things are named.
use Rattle.std.proofs.Common.{◌≡◌, ◌⊎◌, ℕ, List, [], ◌∷◌, map, length, Bool, true, false, not, cond, ◌||◌, ◌&&◌, true≢false, Some, refl}
use Rattle.std.proofs.Common.{sym, ◌∙◌, subst, inl, inr}
use Rattle.std.specs.FinSet as set
use Rattle.std.specs.FinMap as dict
use Rattle.std.specs.Ordering.{eq_by_cmp}
use Rattle.tl_syntax.specs.declared.fact.Fact.{Fact}
use Rattle.tl_syntax.specs.declared.place_value.PlaceValue.{PlaceValue}
use Rattle.tl_syntax.specs.declared.problem.Problem.{Problem}
use Rattle.tl_syntax.specs.declared.value.Value.{Value}
use Rattle.tl_syntax.specs.Kept.{FactKeeps, PlaceKeeps}
use Rattle.tl_syntax.specs.Keys.{Key, key_cmp, fact_key, place_entry}
use Rattle.tl_syntax.specs.Lists.{Each, Among}
use Rattle.tl_syntax.specs.Named.{ValueIsNamed, FactIsNamed, PlaceIsNamed}
use Rattle.tl_syntax.specs.Signature.{Signature, signature_of}
use Rattle.tl_syntax.proofs.TotalOrders.{key_total}
use Rattle.tl_syntax.proofs.ListLaws.{Each-over, Each-Among}
use Rattle.tl_terms.specs.NamedWorlds.{WorldIsNamed}
use Rattle.tl_terms.specs.ProblemMeaning.{world_of, plain_problem}
use Rattle.tl_terms.specs.Step.{with_all, without_all, overwritten}
use Rattle.tl_terms.specs.World.{World}
use Rattle.tl_terms.proofs.KeyLaws.{key-is, key-among, entry_of}

-- the values of a key are named
abbrev pub KeyIsNamed : ℕ → Key → Type 0
KeyIsNamed n k = Each (ValueIsNamed n) k.1

-- and so with the value of a place
abbrev pub EntryIsNamed : ℕ → Key × Value → Type 0
EntryIsNamed n x = KeyIsNamed n x.0 × ValueIsNamed n x.1

-- ---- facts and places as lists

pub keys-named : (n : ℕ) (fs : List Fact) → Each (FactIsNamed n) fs → Each (KeyIsNamed n) (map fact_key fs)
keys-named n fs h = (Each-over (KeyIsNamed n) fact_key fs).1 h

pub entries-named : (n : ℕ) (xs : List PlaceValue) → Each (PlaceIsNamed n) xs → Each (EntryIsNamed n) (map place_entry xs)
entries-named n xs h = (Each-over (EntryIsNamed n) place_entry xs).1 h

pub facts-kept : (g : Signature) (n : ℕ) (fs : List Fact) → Each (FactKeeps g n) fs → Each (FactIsNamed n) fs
facts-kept g n [] h = tt
facts-kept g n (f ∷ fs) h = (h.0.named, facts-kept g n fs h.1)

pub places-kept : (g : Signature) (n : ℕ) (xs : List PlaceValue) → Each (PlaceKeeps g n) xs → Each (PlaceIsNamed n) xs
places-kept g n [] h = tt
places-kept g n (x ∷ xs) h = ((h.0.named, h.0.value), places-kept g n xs h.1)

-- ---- the world of lists

listed : (ks : List Key) (q : Key) → set.contains (set.from_list {R = key_cmp} ks) q ≡ true → Among q ks
listed ks q h = (key-among q ks).1 (sym (set.contains-from_list key_total ks q) ∙ h)

placed : (es : List (Key × Value)) (q : Key) (v : Value) → dict.get (dict.from_entries {R = key_cmp} es) q ≡ Some v → Among (q, v) es
placed es q v h = entry_of es q v (sym (dict.get-from_entries key_total es q) ∙ h)

pub world_of-named : (n : ℕ) (facts : List Fact) (places : List PlaceValue) → Each (FactIsNamed n) facts → Each (PlaceIsNamed n) places →
    WorldIsNamed n (world_of facts places)
unfolding world_of
world_of-named n facts places f p = record {
  facts = λ k h. (Each-Among (KeyIsNamed n) (map fact_key facts)).0 (keys-named n facts f) k (listed (map fact_key facts) k h);
  places = λ k v h. (Each-Among (EntryIsNamed n) (map place_entry places)).0 (entries-named n places p) (k, v)
      (placed (map place_entry places) k v h);
}

-- ---- a changed world

either : (a b : Bool) → (a || b) ≡ true → (a ≡ true) ⊎ (b ≡ true)
either true b h = inl refl
either false b h = inr h

second : (a b : Bool) → (a && b) ≡ true → b ≡ true
second true b h = h
second false b h = absurd (true≢false (sym h))

facts-with : (n : ℕ) (s : set.FinSet key_cmp) (ks : List Key) → ((q : Key) → set.contains s q ≡ true → KeyIsNamed n q) →
    Each (KeyIsNamed n) ks → (q : Key) → set.contains (with_all s ks) q ≡ true → KeyIsNamed n q
facts-with n s [] h k q m = h q m
facts-with n s (x ∷ ks) h k q m = elim (either (eq_by_cmp key_cmp q x) (set.contains (with_all s ks) q)
    (sym (set.contains-insert key_total (with_all s ks) x q) ∙ m)) [
      | inl e ↦ subst (KeyIsNamed n) (key-is q x e) k.0
      | inr o ↦ facts-with n s ks h k.1 q o
    ]

facts-without : (n : ℕ) (s : set.FinSet key_cmp) (ks : List Key) → ((q : Key) → set.contains s q ≡ true → KeyIsNamed n q) → (q : Key) →
    set.contains (without_all s ks) q ≡ true → KeyIsNamed n q
facts-without n s [] h q m = h q m
facts-without n s (x ∷ ks) h q m = facts-without n s ks h q (second (not (eq_by_cmp key_cmp q x)) (set.contains (without_all s ks) q)
    (sym (set.contains-remove key_total (without_all s ks) x q) ∙ m))

places-with : (n : ℕ) (d : dict.FinMap key_cmp Value) (es : List (Key × Value)) →
    ((q : Key) (v : Value) → dict.get d q ≡ Some v → EntryIsNamed n (q, v)) → Each (EntryIsNamed n) es → (q : Key) (v : Value) →
    dict.get (overwritten d es) q ≡ Some v → EntryIsNamed n (q, v)
places-with n d [] h k q v g = h q v g
places-with n d (x ∷ es) h k q v g =
    (elim (eq_by_cmp key_cmp q x.0) as (λ b. eq_by_cmp key_cmp q x.0 ≡ b → cond b (Some x.1) (dict.get (overwritten d es) q) ≡ Some v →
    EntryIsNamed n (q, v)) [
      | true ↦ λ e r. let same : x.1 ≡ v = cc in (subst (KeyIsNamed n) (key-is q x.0 e) k.0.0, subst (ValueIsNamed n) same k.0.1)
      | false ↦ λ e r. places-with n d es h k.1 q v r
    ]) refl (sym (dict.get-insert key_total (overwritten d es) x.0 x.1 q) ∙ g)

pub world-changed : (n : ℕ) (w v : World) (dels adds : List Key) (sets : List (Key × Value)) → v.facts ≡
    with_all (without_all w.facts dels) adds → v.places ≡ overwritten w.places sets → WorldIsNamed n w → Each (KeyIsNamed n) adds →
    Each (EntryIsNamed n) sets → WorldIsNamed n v
world-changed n w v dels adds sets f p h a s = record {
  facts = λ k m. facts-with n (without_all w.facts dels) adds (facts-without n w.facts dels h.facts) a k
      (subst (λ (x : set.FinSet key_cmp). set.contains x k ≡ true) f m);
  places = λ k x m. places-with n w.places sets h.places s k x (subst (λ (d : dict.FinMap key_cmp Value). dict.get d k ≡ Some x) p m);
}

-- ---- the worlds of a problem

pub first-named : (p : Problem) → WorldIsNamed (length p.names) (plain_problem p).first
unfolding plain_problem
first-named p = world_of-named (length p.names) p.init_facts p.init_values
    (facts-kept (signature_of p.domain) (length p.names) p.init_facts p.init_facts_keep)
    (places-kept (signature_of p.domain) (length p.names) p.init_values p.init_values_keep)

pub goal-named : (p : Problem) → WorldIsNamed (length p.names) (plain_problem p).goal
unfolding plain_problem
goal-named p = world_of-named (length p.names) p.goal_facts p.goal_values
    (facts-kept (signature_of p.domain) (length p.names) p.goal_facts p.goal_facts_keep)
    (places-kept (signature_of p.domain) (length p.names) p.goal_values p.goal_values_keep)

pub avoid-named : (p : Problem) → WorldIsNamed (length p.names) (plain_problem p).avoid
unfolding plain_problem
avoid-named p = world_of-named (length p.names) p.goal_nots [] (facts-kept (signature_of p.domain)
    (length p.names) p.goal_nots p.goal_nots_keep) tt

-- Worlds whose values all pass a test, and what joins them.
use Rattle.std.proofs.Common.{◌≡◌, ◌⊎◌, List, [], ◌∷◌, map, Bool, true, false, not, cond, ◌||◌, ◌&&◌, true≢false, Some, IsTrue, refl, sym}
use Rattle.std.proofs.Common.{◌∙◌, subst, inl, inr}
use Rattle.std.specs.FinSet as set
use Rattle.std.specs.FinMap as dict
use Rattle.std.specs.Ordering.{eq_by_cmp}
use Rattle.tl_syntax.specs.declared.fact.Fact.{Fact}
use Rattle.tl_syntax.specs.declared.place_value.PlaceValue.{PlaceValue}
use Rattle.tl_syntax.specs.declared.problem.Problem.{Problem}
use Rattle.tl_syntax.specs.declared.value.Value.{Value}
use Rattle.tl_syntax.specs.Keys.{Key, key_cmp, fact_key, place_entry}
use Rattle.tl_syntax.specs.Lists.{Each, Among}
use Rattle.tl_syntax.specs.ValueTests.{FactPasses, PlacePasses, ProblemPasses, ValuesPass}
use Rattle.tl_syntax.proofs.TotalOrders.{key_total}
use Rattle.tl_syntax.proofs.ListLaws.{Each-over, Each-Among}
use Rattle.tl_terms.specs.ProblemMeaning.{world_of, plain_problem}
use Rattle.tl_terms.specs.Step.{with_all, without_all, overwritten}
use Rattle.tl_terms.specs.World.{World, has_fact, value_at}
use Rattle.tl_terms.proofs.KeyLaws.{key-is, key-among, entry_of}

-- the values of a key pass
abbrev pub KeyPasses : (Value → Bool) → Key → Type 0
KeyPasses test k = ValuesPass test k.1

-- and so does the value of a place
abbrev pub EntryPasses : (Value → Bool) → Key × Value → Type 0
EntryPasses test x = KeyPasses test x.0 × IsTrue (test x.1)

-- all values of facts and of places pass
pub record WorldPasses (test : Value → Bool) (w : World) : Type 0 where
  pub facts : (k : Key) → IsTrue (has_fact w k) → KeyPasses test k
  pub places : (k : Key) (v : Value) → value_at w k ≡ Some v → EntryPasses test (k, v)

either : (a b : Bool) → (a || b) ≡ true → (a ≡ true) ⊎ (b ≡ true)
either true b h = inl refl
either false b h = inr h

second : (a b : Bool) → (a && b) ≡ true → b ≡ true
second true b h = h
second false b h = absurd (true≢false (sym h))

module _ (test : Value → Bool) where
  -- ---- the world of lists

  listed : (ks : List Key) (q : Key) → set.contains (set.from_list {R = key_cmp} ks) q ≡ true → Among q ks
  listed ks q h = (key-among q ks).1 (sym (set.contains-from_list key_total ks q) ∙ h)

  placed : (es : List (Key × Value)) (q : Key) (v : Value) → dict.get (dict.from_entries {R = key_cmp} es) q ≡ Some v → Among (q, v) es
  placed es q v h = entry_of es q v (sym (dict.get-from_entries key_total es q) ∙ h)

  world-of-passing : (facts : List Fact) (places : List PlaceValue) → Each (FactPasses test) facts → Each (PlacePasses test) places →
      WorldPasses test (world_of facts places)
  unfolding world_of
  world-of-passing facts places f p = record {
    facts = λ k h. (Each-Among (KeyPasses test) (map fact_key facts)).0 ((Each-over (KeyPasses test) fact_key facts).1 f) k
        (listed (map fact_key facts) k h);
    places = λ k v h. (Each-Among (EntryPasses test) (map place_entry places)).0 ((Each-over (EntryPasses test) place_entry places).1 p)
        (k, v) (placed (map place_entry places) k v h);
  }

  -- ---- a changed world

  facts-with : (s : set.FinSet key_cmp) (ks : List Key) → ((q : Key) → set.contains s q ≡ true → KeyPasses test q) →
      Each (KeyPasses test) ks → (q : Key) → set.contains (with_all s ks) q ≡ true → KeyPasses test q
  facts-with s [] h k q m = h q m
  facts-with s (x ∷ ks) h k q m = elim (either (eq_by_cmp key_cmp q x) (set.contains (with_all s ks) q)
      (sym (set.contains-insert key_total (with_all s ks) x q) ∙ m)) [
        | inl e ↦ subst (KeyPasses test) (key-is q x e) k.0
        | inr o ↦ facts-with s ks h k.1 q o
      ]

  facts-without : (s : set.FinSet key_cmp) (ks : List Key) → ((q : Key) → set.contains s q ≡ true → KeyPasses test q) → (q : Key) →
      set.contains (without_all s ks) q ≡ true → KeyPasses test q
  facts-without s [] h q m = h q m
  facts-without s (x ∷ ks) h q m = facts-without s ks h q (second (not (eq_by_cmp key_cmp q x)) (set.contains (without_all s ks) q)
      (sym (set.contains-remove key_total (without_all s ks) x q) ∙ m))

  places-with : (d : dict.FinMap key_cmp Value) (es : List (Key × Value)) →
      ((q : Key) (v : Value) → dict.get d q ≡ Some v → EntryPasses test (q, v)) → Each (EntryPasses test) es → (q : Key) (v : Value) →
      dict.get (overwritten d es) q ≡ Some v → EntryPasses test (q, v)
  places-with d [] h k q v g = h q v g
  places-with d (x ∷ es) h k q v g =
      (elim (eq_by_cmp key_cmp q x.0) as (λ b. eq_by_cmp key_cmp q x.0 ≡ b → cond b (Some x.1) (dict.get (overwritten d es) q) ≡ Some v →
      EntryPasses test (q, v)) [
        | true ↦ λ e r. let same : x.1 ≡ v = cc in (subst (KeyPasses test) (key-is q x.0 e) k.0.0, subst (λ u. IsTrue (test u)) same k.0.1)
        | false ↦ λ e r. places-with d es h k.1 q v r
      ]) refl (sym (dict.get-insert key_total (overwritten d es) x.0 x.1 q) ∙ g)

  pub world-changed : (w v : World) (dels adds : List Key) (sets : List (Key × Value)) → v.facts ≡
      with_all (without_all w.facts dels) adds → v.places ≡ overwritten w.places sets → WorldPasses test w → Each (KeyPasses test) adds →
      Each (EntryPasses test) sets → WorldPasses test v
  world-changed w v dels adds sets f p h a s = record {
    facts = λ k m. facts-with (without_all w.facts dels) adds (facts-without w.facts dels h.facts) a k
        (subst (λ (x : set.FinSet key_cmp). set.contains x k ≡ true) f m);
    places = λ k x m. places-with w.places sets h.places s k x (subst (λ (d : dict.FinMap key_cmp Value). dict.get d k ≡ Some x) p m);
  }

  -- ---- the worlds of a problem

  pub first-passes : (p : Problem) → ProblemPasses test p → WorldPasses test (plain_problem p).first
  unfolding plain_problem
  first-passes p h = world-of-passing p.init_facts p.init_values h.init_facts h.init_values

  pub goal-passes : (p : Problem) → ProblemPasses test p → WorldPasses test (plain_problem p).goal
  unfolding plain_problem
  goal-passes p h = world-of-passing p.goal_facts p.goal_values h.goal_facts h.goal_values

  pub avoid-passes : (p : Problem) → ProblemPasses test p → WorldPasses test (plain_problem p).avoid
  unfolding plain_problem
  avoid-passes p h = world-of-passing p.goal_nots [] h.goal_nots tt
